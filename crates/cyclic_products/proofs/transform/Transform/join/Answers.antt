use Rattle.std.proofs.Common.{◌*◌, refl, ◌∙◌, ap, subst}
use Rattle.cyclic_products.specs.declared.residues.TheConstants.{HALF, LAST}
use Rattle.cyclic_products.specs.Residues.{AreCongruent, IsCongruent}
use Rattle.cyclic_products.specs.Splits.{AreTables, Tables, join_by}
use Rattle.cyclic_products.proofs.Joins.{joins}
use Rattle.cyclic_products.proofs.Lists.{residues_equal}
use Rattle.cyclic_products.proofs.Products.{room}
use Rattle.cyclic_products.proofs.SameLists.{lists_trans}
use Rattle.cyclic_products.proofs.transform.Transform.join.Goals as goal

pub returns : goal.returns
returns c = λ f of_f.
    let t = c.args.self.now in
    let images = c.args.images.now in
    let tables : AreTables LAST t = subst (AreTables LAST) c.self.view_is c.self.invariant in
    let halved : IsCongruent LAST (2 * HALF) 1 = record { same = refl } in
    let joined : AreCongruent LAST c.join.new.values (join_by LAST HALF t.halves t.levels 0 images) =
    subst (λ l. AreCongruent LAST c.join.new.values l)
    (ap (λ h. join_by LAST HALF h c.self.inside.levels 0 images) c.deref.ensures.value ∙ ap (λ (s : Tables). join_by LAST HALF s.halves s.levels 0 images) c.self.view_is)
    c.join.ensures in
    let same : AreCongruent LAST (join_by LAST HALF t.halves t.levels 0 images) f =
    joins LAST HALF t.roots t.halves halved tables.inverses t.levels 0 f images of_f.whole (room LAST t tables) of_f.split in
    c.reduce.ensures ∙ residues_equal LAST _ f (lists_trans LAST _ _ _ joined same)
