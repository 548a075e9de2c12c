use Rattle.std.proofs.lemmas.Grind.{common_steps}
use Rattle.std.proofs.Common.{◌≡◌, ◌∙◌, ◌*◌, ◌+◌, ap, arith, w64, to_z, of_z, rules, sym, subst}
use Rattle.std.proofs.lemmas.Int.{ints, to_z-of_z}
use Rattle.std.proofs.Math.Nat.{mul-le-mul_left}
use Rattle.cells.specs.Places.{cell_count}
use Rattle.boxes.specs.Pairs.{at_index}
use Rattle.boxes.specs.Sums.{signed_sum_to}
use Rattle.boxes.proofs.Additions.{integers}
use Rattle.boxes.proofs.Boxes.{box_counts}
use Rattle.cut_check.specs.Steps.{IsSummed}
use mir.Val.{SFits}
use Rattle.cut_check.proofs.balance.value_of.Goals as goal

pub loop-row-init : goal.loop-row-init
loop-row-init c = record {
  balanced = λ sample k lt. absurd (omega (arith, lt));
  total = λ sample part parts.
      let size = c.args.cut.now.placement.rect.size in
      ap (λ n. signed_sum_to n (at_index size part)) (let none : 0 ≡ size.w * 0 = omega arith in none);
  low = omega (arith, ints);
  high = omega (arith, ints);
}

pub loop-row-preserved : goal.loop-row-preserved
loop-row-preserved c =
    let m = c.args.canvas.now.map in
    let cut = c.args.cut.now in
    let held = c.args.held.now in
    let sum = c.in_ok-sum.sum in
    let w = cut.placement.rect.size.w in
    let row = c.loop-row.row in
    let next : w * row + w ≡ w * (row + 1) = omega arith in
    let fits : SFits w64 sum = search rules in
    subst (λ n. IsSummed m cut held n (to_z w64 (of_z w64 sum))) next (subst (IsSummed m cut held (w * row + w)) (sym (to_z-of_z w64 sum fits)) c.in_ok-sum.ensures.summed)

pub returns-clause-balanced : goal.returns-clause-balanced
returns-clause-balanced c = λ sample i lt.
    let size = c.args.cut.now.placement.rect.size in
    c.loop-row.invariant.balanced sample i (omega (arith, lt, mul-le-mul_left size.w c.loop-row-test.false))

pub returns-clause-value : goal.returns-clause-value
returns-clause-value c = λ sample part parts.
    let size = c.args.cut.now.placement.rect.size in
    let rows : c.loop-row.row ≡ size.h * size.f = omega (arith, c.loop-row.auto.row-end, c.loop-row-test.false) in
    c.loop-row.invariant.total sample part parts ∙ ap (λ n. signed_sum_to (size.w * n) (at_index size part)) rows ∙ box_counts integers size part

pub returns-clause-near : goal.returns-clause-near
returns-clause-near c =
    let size = c.args.cut.now.placement.rect.size in
    let rows : c.loop-row.row ≡ size.h * size.f = omega (arith, c.loop-row.auto.row-end, c.loop-row-test.false) in
    let all : size.w * c.loop-row.row ≡ cell_count size = ap (λ n. size.w * n) rows in (
      omega (arith, ints, c.loop-row.invariant.low, all, c.requires.lies.small.cells),
      omega (arith, ints, c.loop-row.invariant.high, all, c.requires.lies.small.cells),
    )

pub add_row-requires-clause-summed : goal.add_row-requires-clause-summed
add_row-requires-clause-summed c = grind (arith, common_steps)
