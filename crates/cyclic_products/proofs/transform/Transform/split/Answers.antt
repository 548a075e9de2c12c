use Rattle.std.proofs.Common.{◌∙◌, ap, subst}
use Rattle.cyclic_products.specs.declared.residues.TheConstants.{LAST}
use Rattle.cyclic_products.specs.Residues.{AreCongruent}
use Rattle.cyclic_products.specs.Splits.{Tables, split_by}
use Rattle.cyclic_products.proofs.transform.Transform.split.Goals as goal

pub returns : goal.returns
returns c =
    let f = c.args.values.now in
    let t = c.args.self.now in
    record {
      whole = c.requires;
      split =
          subst (λ s. AreCongruent LAST c.split.new.values s)
          (ap (λ r. split_by LAST r c.self.inside.levels 0 f) c.deref.ensures.value ∙ ap (λ (s : Tables). split_by LAST s.roots s.levels 0 f) c.self.view_is)
          c.split.ensures;
    }
