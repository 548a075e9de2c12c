use Rattle.std.proofs.Common.{◌*◌, ◌∙◌, ap, sym, subst, arith}
use Rattle.cells.specs.Distances.{distance}
use Rattle.boxes.specs.Pairs.{pairs_before}
use Rattle.boxes.proofs.PairNumbers.{walk_in}
use Rattle.cut_check.specs.Records.{IsFirstUnbounded, Setting, setting}
use Rattle.cut_check.specs.Steps.{HoldsAt}
use Rattle.cut_check.proofs.Cells.{counts_in}
use Rattle.cut_check.proofs.Order.{before_more, first_pair}
use Rattle.cut_check.proofs.RowCells.{row_ends}
use Rattle.cut_check.proofs.bounds.first_of_row.Goals as goal

pub pairs_before-before-requires-clause-counts : goal.pairs_before-before-requires-clause-counts
pairs_before-before-requires-clause-counts c =
    let size = c.args.cut.now.placement.rect.size in
    counts_in c.args.cut.now.placement (size.w * c.args.row) c.cell_of_row.result c.cell_of_row.ensures
    (omega (arith, row_ends size c.args.row c.requires.row, c.requires.row.0.w))

pub loop-i-init : goal.loop-i-init
loop-i-init c = record {
  from = omega arith;
  number = c.pairs_before-before.ensures.before ∙ ap (pairs_before c.args.cut.now.placement.rect.size) c.cell_of_row.ensures.index;
  before = c.requires.before;
}

pub first_axis-requires-clause-inside : goal.first_axis-requires-clause-inside
first_axis-requires-clause-inside c =
    let size = c.args.cut.now.placement.rect.size in
    walk_in size c.loop-i.i (record { at = c.cell_of_row-in-loop-i.result; before = c.loop-i.before }) (record { at = c.cell_of_row-in-loop-i.ensures; before = c.loop-i.invariant.number })
    (omega (arith, row_ends size c.args.row c.requires.row, c.loop-i-test.true))

pub pair_number-requires-clause-inside : goal.pair_number-requires-clause-inside
pair_number-requires-clause-inside c =
    let size = c.args.cut.now.placement.rect.size in
    walk_in size c.loop-i.i (record { at = c.cell_of_row-in-loop-i.result; before = c.loop-i.before }) (record { at = c.cell_of_row-in-loop-i.ensures; before = c.loop-i.invariant.number })
    (omega (arith, row_ends size c.args.row c.requires.row, c.loop-i-test.true))

pub next-before-requires-clause-inside : goal.next-before-requires-clause-inside
next-before-requires-clause-inside c =
    let size = c.args.cut.now.placement.rect.size in
    walk_in size c.loop-i.i (record { at = c.cell_of_row-in-loop-i.result; before = c.loop-i.before }) (record { at = c.cell_of_row-in-loop-i.ensures; before = c.loop-i.invariant.number })
    (omega (arith, row_ends size c.args.row c.requires.row, c.loop-i-test.true))

pub returns-in-Some-clause-broken : goal.returns-in-Some-clause-broken
returns-in-Some-clause-broken c = λ held.
    let cut = c.args.cut.now in
    let s : Setting = setting c.args.map.now c.args.sample.now held in
    subst (IsFirstUnbounded s cut) (sym c.pair_number.ensures)
    (first_pair s cut c.loop-i.i c.cell_of_row-in-loop-i.result c.in-Some.axis c.cell_of_row-in-loop-i.ensures
    (omega (arith, row_ends cut.placement.rect.size c.args.row c.requires.row, c.loop-i-test.true)) c.loop-i.invariant.before c.in-Some.ensures.broken)

pub loop-i-preserved : goal.loop-i-preserved
loop-i-preserved c =
    let cut = c.args.cut.now in
    let size = cut.placement.rect.size in
    let i = c.loop-i.i in
    record {
      from = omega (arith, c.loop-i.invariant.from);
      number = (c.next-before.ensures i (record { at = c.cell_of_row-in-loop-i.ensures; before = c.loop-i.invariant.number })).before;
      before = before_more size i c.cell_of_row-in-loop-i.result (HoldsAt (distance c.args.sample.now) c.args.map.now cut) c.cell_of_row-in-loop-i.ensures c.loop-i.invariant.before c.in_default.ensures.hold;
    }

pub returns-clause-hold : goal.returns-clause-hold
returns-clause-hold c = λ x y f are lt. c.loop-i.invariant.before x y f are (omega (arith, lt, c.loop-i-test.false))
