use Rattle.std.proofs.lemmas.Grind.{common_steps}
use Rattle.std.proofs.Common.{◌≡◌, ◌+◌, ℕ, suc, add-one, length, ap, sym, subst, ◌∙◌, arith}
use Rattle.std.specs.Vec.{with_items}
use Rattle.std.proofs.lemmas.List.{with_items_is}
use Rattle.cyclic_products.specs.Splits.{AreImages}
use Rattle.cyclic_products.specs.declared.residues.TheConstants.{LAST}
use Rattle.offset_errors.specs.Errors.{listed_product, listed_sums}
use Rattle.offset_errors.specs.Summed.{summed}
use Rattle.offset_errors.proofs.errors.summed_images.Goals as goal

pub numbers-init : goal.numbers-init
unfolding summed
numbers-init c = record { size = c.in_ok-images.ensures.size; images = c.in_ok-images.ensures.images }

pub numbers-preserved : goal.numbers-preserved
unfolding summed
numbers-preserved c =
    let t = c.args.transform.now in
    let j = c.numbers.j in
    let sums = λ (last : ℕ). listed_sums c.args.layout.now c.args.map.now c.args.sample.now c.args.rect.now c.args.part.now last in
    let product = λ (n : ℕ). listed_product c.args.layout.now c.args.map.now c.args.sample.now c.args.rect.now c.args.part.now n in
    let items : (with_items c.numbers.images c.add.new.images).items ≡ c.add.new.images = with_items_is c.numbers.images c.add.new.images (omega arith) in
    let before : AreImages LAST t (sums j) c.deref_mut.result.now = subst (AreImages LAST t (sums j)) (sym c.deref_mut.ensures.value) c.numbers.invariant.images in
    let next : AreImages LAST t (product (suc j)) c.deref.result.now =
    subst (AreImages LAST t (product (suc j))) (sym c.deref.ensures.value) (subst (λ n. AreImages LAST t (product n) c.in_ok-next.next.items) (add-one j) c.in_ok-next.ensures.images) in
    record {
      size = ap length items ∙ omega arith;
      images =
          subst (AreImages LAST t (sums (j + 1))) (sym items)
          (subst (λ n. AreImages LAST t (sums n) c.add.new.images) (sym (add-one j)) (c.add.ensures (sums j) (product (suc j)) before next));
    }

pub returns : goal.returns
returns c =
    let end : c.numbers.j ≡ c.args.sample.now.k + 1 = omega arith in
    record {
      size = c.numbers.invariant.size;
      images = subst (λ n. AreImages LAST c.args.transform.now (listed_sums c.args.layout.now c.args.map.now c.args.sample.now c.args.rect.now c.args.part.now n) c.numbers.images.items) end c.numbers.invariant.images;
    }

pub add-requires-clause-images : goal.add-requires-clause-images
add-requires-clause-images c = grind (arith, common_steps)

pub add-requires-clause-others : goal.add-requires-clause-others
add-requires-clause-others c = grind (arith, common_steps)

pub product-requires-in-numbers-clause-enough : goal.product-requires-in-numbers-clause-enough
product-requires-in-numbers-clause-enough c = c.requires.enough

pub product-requires-in-numbers-clause-below : goal.product-requires-in-numbers-clause-below
product-requires-in-numbers-clause-below c = omega arith

pub product-requires-in-numbers-clause-over : goal.product-requires-in-numbers-clause-over
product-requires-in-numbers-clause-over c = c.requires.over

pub overflow_add-j : goal.overflow_add-j
overflow_add-j c = omega arith

pub product-requires-in-numbers-clause-inside : goal.product-requires-in-numbers-clause-inside
product-requires-in-numbers-clause-inside c = c.requires.inside

pub product-requires-in-numbers-clause-levels : goal.product-requires-in-numbers-clause-levels
product-requires-in-numbers-clause-levels c = c.requires.levels
