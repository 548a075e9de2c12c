use Rattle.std.proofs.lemmas.Grind.{common_steps}
use Rattle.std.proofs.Common.{◌≡◌, ◌<◌, ◌+◌, ◌*◌, ◌/◌, ◌%◌, ◌≤◌, ◌∙◌, refl, ap, arith, below_more, w64, to_z, of_z, neg_ℤ, rules, sym, subst}
use Rattle.std.proofs.lemmas.Int.{ints, to_z-of_z}
use mathlib.Core.Bool.{false≢true}
use Rattle.std.specs.Prelude.{pos, ◌+ℤ◌, ◌≤ℤ◌}
use Rattle.limits.specs.declared.bounds.TheConstants.{MOST_CELLS}
use Rattle.cells.specs.Places.{cell_count}
use Rattle.boxes.specs.Pairs.{at_index, pairs_before}
use Rattle.boxes.specs.Sums.{signed_sum_to}
use Rattle.boxes.proofs.Additions.{integers}
use Rattle.boxes.proofs.Axes.{sum_more}
use Rattle.boxes.proofs.Indices.{counts_at}
use Rattle.boxes.proofs.PairNumbers.{walk_in}
use Rattle.map_canvas.specs.Choices.{box_cell}
use Rattle.costs.specs.Lawful.{StaysOld}
use Rattle.cut_check.specs.Flows.{leaving}
use Rattle.cut_check.specs.Records.{IsBalanced, setting}
use Rattle.cut_check.proofs.Cells.{counts_in}
use Rattle.cut_check.proofs.Parts.{high_more, low_more, one_part, sum_fits}
use Rattle.cut_check.proofs.RowCells.{row_ends}
use mir.Val.{SFits}
use Rattle.cut_check.specs.Steps.{most_leaving}
use Rattle.cut_check.proofs.balance.add_row.Goals as goal

pub pairs_before-before-requires-clause-counts : goal.pairs_before-before-requires-clause-counts
pairs_before-before-requires-clause-counts c =
    let size = c.args.cut.now.placement.rect.size in
    counts_in c.args.cut.now.placement (size.w * c.args.row) c.cell_of_row.result c.cell_of_row.ensures
    (omega (arith, row_ends size c.args.row c.requires.row, c.requires.row.0.w))

pub loop-i-init : goal.loop-i-init
loop-i-init c =
    let size = c.args.cut.now.placement.rect.size in
    let was = c.requires.summed in
    let few : size.w * c.args.row + size.w ≤ MOST_CELLS = omega (arith, row_ends size c.args.row c.requires.row, c.requires.lies.small.cells) in
    let fits : SFits w64 c.args.sum = search rules in
    let exact = to_z-of_z w64 c.args.sum fits in
    record {
      from = omega arith;
      few = few;
      number = c.pairs_before-before.ensures.before ∙ ap (pairs_before size) c.cell_of_row.ensures.index;
      balanced = was.balanced;
      sum = λ sample part parts. exact ∙ was.total sample part parts;
      low = omega (arith, ints, exact, was.low);
      high = subst (λ sum. sum ≤ℤ pos (most_leaving * (size.w * c.args.row))) (sym exact) was.high;
    }

pub part_of-requires-clause-here : goal.part_of-requires-clause-here
part_of-requires-clause-here c = record { at = c.cell_of_row-in-loop-i.ensures; before = c.loop-i.invariant.number }

pub part_of-requires-clause-below : goal.part_of-requires-clause-below
part_of-requires-clause-below c = omega (arith, row_ends c.args.cut.now.placement.rect.size c.args.row c.requires.row, c.loop-i-test.true)

pub returns-in_default-clause-broken : goal.returns-in_default-clause-broken
returns-in_default-clause-broken c = λ sample. record {
  below = omega (arith, row_ends c.args.cut.now.placement.rect.size c.args.row c.requires.row, c.loop-i-test.true);
  before = c.loop-i.invariant.balanced sample;
  here = λ balanced. false≢true ((c.in_default.ensures.balanced sample).1 balanced);
}

pub next-before-requires-clause-inside : goal.next-before-requires-clause-inside
next-before-requires-clause-inside c =
    let size = c.args.cut.now.placement.rect.size in
    walk_in size c.loop-i.i (record { at = c.cell_of_row-in-loop-i.result; before = c.loop-i.before }) (record { at = c.cell_of_row-in-loop-i.ensures; before = c.loop-i.invariant.number })
    (omega (arith, row_ends size c.args.row c.requires.row, c.loop-i-test.true))

pub loop-i-preserved : goal.loop-i-preserved
loop-i-preserved c =
    let m = c.args.canvas.now.map in
    let cut = c.args.cut.now in
    let held = c.args.held.now in
    let size = cut.placement.rect.size in
    let i = c.loop-i.i in
    let was = c.loop-i.invariant in
    let below : i < cell_count size = omega (arith, row_ends size c.args.row c.requires.row, c.loop-i-test.true) in
    let more = to_z w64 c.loop-i.sum-bits +ℤ c.in-Some.part in
    let added : to_z w64 (of_z w64 (to_z w64 c.loop-i.sum-bits +ℤ to_z w64 (of_z w64 c.from-sum.result))) ≡ more = omega (arith, ints, c.in-Some.ensures.near) in
    record {
      from = omega (arith, was.from);
      few = was.few;
      number = (c.next-before.ensures i (record { at = c.cell_of_row-in-loop-i.ensures; before = was.number })).before;
      balanced = λ sample. below_more (IsBalanced (setting m sample held) cut) i (was.balanced sample) ((c.in-Some.ensures.balanced sample).0 refl);
      sum = λ sample part parts.
          let at = counts_at size i c.requires.row.0 below in
          let old = StaysOld m cut.placement held (box_cell cut.placement i) in
          let same = one_part old (at_index size (leaving size cut.flows) i) c.in-Some.part (at_index size part i) c.in-Some.ensures.part
          (parts (i % size.w) (i / size.w % size.h) (i / size.w / size.h) at.counts) in
          added ∙ (let e : more ≡ signed_sum_to (i + 1) (at_index size part) = omega (arith, ints, sum_more integers i (at_index size part), was.sum sample part parts, same) in e);
      low = subst (λ z. neg_ℤ (pos (most_leaving * (i + 1))) ≤ℤ z) (sym added) (low_more i (to_z w64 c.loop-i.sum-bits) c.in-Some.part was.low c.in-Some.ensures.near.0);
      high = subst (λ z. z ≤ℤ pos (most_leaving * (i + 1))) (sym added) (high_more i (to_z w64 c.loop-i.sum-bits) c.in-Some.part was.high c.in-Some.ensures.near.1);
    }

pub returns-clause-summed : goal.returns-clause-summed
returns-clause-summed c =
    let size = c.args.cut.now.placement.rect.size in
    let was = c.loop-i.invariant in
    let end : c.loop-i.i ≡ size.w * c.args.row + size.w = omega (arith, c.loop-i.auto.i-end, c.loop-i-test.false) in
    record {
      balanced = λ sample k lt. was.balanced sample k (omega (arith, lt, end));
      total = λ sample part parts. was.sum sample part parts ∙ ap (λ n. signed_sum_to n (at_index size part)) end;
      low = omega (arith, ints, was.low, end);
      high = omega (arith, ints, was.high, end);
    }

pub overflow_add-sum : goal.overflow_add-sum
overflow_add-sum c =
    let was = c.loop-i.invariant in
    let near = c.in-Some.ensures.near in
    let few : c.loop-i.i ≤ MOST_CELLS = omega (arith, was.few, c.loop-i-test.true) in
    sum_fits c.loop-i.i (to_z w64 c.loop-i.sum-bits) (to_z w64 (of_z w64 c.from-sum.result)) few (omega (arith, ints, was.low, c.loop-i.sum-is)) (omega (arith, ints, was.high, c.loop-i.sum-is))
    (omega (arith, ints, near.0, c.from-sum.ensures)) (omega (arith, ints, near.1, c.from-sum.ensures))

pub overflow_mul-start : goal.overflow_mul-start
overflow_mul-start c = grind (arith, common_steps)

pub part_of-requires-clause-lies : goal.part_of-requires-clause-lies
part_of-requires-clause-lies c = grind (arith, common_steps)
