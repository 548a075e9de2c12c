use Rattle.std.proofs.Common.{◌≡◌, ◌*◌, ◌%◌, ◌^◌, ◌≤◌, ℕ, List, length, reverse, ap, sym, subst, ◌∙◌, arith}
use Rattle.std.proofs.lemmas.List.{length-reverse, with_items_is}
use Rattle.std.proofs.lemmas.Nat.{one_shl}
use Rattle.cells.specs.declared.place.Box3.{Box3}
use Rattle.cells.specs.declared.place.Size.{Size}
use Rattle.cells.specs.Cells.{Cells}
use Rattle.cyclic_products.specs.Products.{cyclic}
use Rattle.cyclic_products.specs.declared.transform.TheConstants.{MOST_LEVELS}
use Rattle.map_canvas.specs.Maps.{SourceMap}
use Rattle.cyclic_products.specs.Splits.{AreImages}
use Rattle.cyclic_products.specs.declared.residues.TheConstants.{LAST}
use Rattle.offset_errors.specs.Errors.{listed_product}
use Rattle.offset_errors.specs.Offsets.{box_list, part_list}
use Rattle.offset_errors.proofs.AllOffsets.{box_length, part_length}
use Rattle.offset_errors.proofs.errors.product.Goals as goal

box_size : (levels : ℕ) (pad : Size) (m : SourceMap) (sample : Cells) (rect : Box3) (j : ℕ) (xs : List ℕ) → levels ≤ MOST_LEVELS
    → xs ≡ reverse (box_list ((1 * 2 ^ levels) % 2 ^ 32) pad m sample rect j) → length xs ≡ 2 ^ levels
box_size levels pad m sample rect j xs few e =
    let n = (1 * 2 ^ levels) % 2 ^ 32 in
    ap length e ∙ length-reverse (box_list n pad m sample rect j) ∙ box_length n pad m sample rect j ∙ one_shl levels 32 (omega (arith, few))

pub multiply-requires : goal.multiply-requires
multiply-requires c =
    let n = (1 * 2 ^ c.args.layout.now.levels) % 2 ^ 32 in
    let boxes : length c.deref_mut.result.now ≡ 2 ^ c.args.layout.now.levels =
    box_size c.args.layout.now.levels c.args.layout.now.pad c.args.map.now c.args.sample.now c.args.rect.now c.args.j c.deref_mut.result.now c.requires.enough.few (c.deref_mut.ensures.value ∙ c.in_ok-images.ensures) in
    let parts : length c.deref_mut-2.result.now ≡ 2 ^ c.args.layout.now.levels =
    ap length (c.deref_mut-2.ensures.value ∙ c.in_ok-others.ensures)
    ∙ part_length n c.args.layout.now.pad c.args.layout.now.lead c.args.sample.now c.args.part.now c.args.j ∙ one_shl c.args.layout.now.levels 32 (omega (arith, c.requires.enough.few)) in
    let levels : 2 ^ c.args.layout.now.levels ≡ 2 ^ c.args.transform.now.levels = ap (λ l. 2 ^ l) (sym c.requires.levels) in
    record { f = boxes ∙ levels; g = parts ∙ levels }

pub returns-clause-size : goal.returns-clause-size
returns-clause-size c =
    ap length (with_items_is c.in_ok-images.images c.multiply.new.f (omega arith)) ∙ c.multiply.auto.f
    ∙ box_size c.args.layout.now.levels c.args.layout.now.pad c.args.map.now c.args.sample.now c.args.rect.now c.args.j c.deref_mut.result.now c.requires.enough.few (c.deref_mut.ensures.value ∙ c.in_ok-images.ensures)

pub returns-clause-images : goal.returns-clause-images
returns-clause-images c =
    let t = c.args.transform.now in
    let m = c.args.map.now in
    let rect = c.args.rect.now in
    let part = c.args.part.now in
    let layout = c.args.layout.now in
    let n : (1 * 2 ^ layout.levels) % 2 ^ 32 ≡ 2 ^ layout.levels = one_shl layout.levels 32 (omega (arith, c.requires.enough.few)) in
    let boxes : c.deref_mut.result.now ≡ reverse (box_list (2 ^ layout.levels) layout.pad m c.args.sample.now rect c.args.j) =
    c.deref_mut.ensures.value ∙ c.in_ok-images.ensures ∙ (λ i. reverse (box_list (n i) layout.pad m c.args.sample.now rect c.args.j)) in
    let parts : c.deref_mut-2.result.now ≡ part_list (2 ^ layout.levels) layout.pad layout.lead c.args.sample.now part c.args.j =
    c.deref_mut-2.ensures.value ∙ c.in_ok-others.ensures ∙ (λ i. part_list (n i) layout.pad layout.lead c.args.sample.now part c.args.j) in
    subst (AreImages LAST t (listed_product layout m c.args.sample.now rect part c.args.j)) (sym (with_items_is c.in_ok-images.images c.multiply.new.f (omega arith)))
    (subst (λ l. AreImages LAST t l c.multiply.new.f) (λ i. cyclic (boxes i) (parts i)) c.multiply.ensures)
