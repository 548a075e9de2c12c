use Rattle.std.proofs.lemmas.Grind.{common_steps}
use Rattle.std.proofs.Common.{◌+◌, ◌∙◌, sym, subst, arith}
use Rattle.std.proofs.lemmas.List.{with_items_is}
use Rattle.cyclic_products.specs.Splits.{AreImages}
use Rattle.cyclic_products.specs.declared.residues.TheConstants.{LAST}
use Rattle.offset_errors.specs.Errors.{listed_sums}
use Rattle.offset_errors.proofs.AllOffsets.{all_errors, in_sample}
use Rattle.offset_errors.proofs.errors.OffsetErrors.gather.Goals as goal

pub summed_images-requires-clause-part : goal.summed_images-requires-clause-part
summed_images-requires-clause-part c = in_sample c.args.sample.now c.args.part.now c.samples-samples.ensures.volume c.requires.part c.requires.held

pub returns : goal.returns
returns c =
    let all = listed_sums c.args.layout.now c.args.map.now c.args.sample.now c.args.rect.now c.args.part.now (c.args.sample.now.k + 1) in
    all_errors c.args.map.now c.args.sample.now c.args.rect.now c.args.part.now c.args.layout.now _ c.size-size.ensures.map.small c.samples-samples.ensures.volume c.requires.over c.requires.enough
    (with_items_is c.in_ok-sums.sums c.join.new.images (omega arith)
    ∙ c.join.ensures all (subst (AreImages LAST c.in_ok-transform.transform all) (sym c.deref_mut.ensures.value) c.in_ok-sums.ensures.images))

pub invariant_of-result : goal.invariant_of-result
invariant_of-result c = omega arith

pub join-requires : goal.join-requires
join-requires c = grind (arith, common_steps)

pub summed_images-requires-clause-enough : goal.summed_images-requires-clause-enough
summed_images-requires-clause-enough c = c.requires.enough

pub summed_images-requires-clause-over : goal.summed_images-requires-clause-over
summed_images-requires-clause-over c = c.requires.over

pub summed_images-requires-clause-inside : goal.summed_images-requires-clause-inside
summed_images-requires-clause-inside c = c.requires.inside
