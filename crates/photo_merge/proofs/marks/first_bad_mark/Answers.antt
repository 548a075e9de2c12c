use Rattle.std.proofs.Common.{◌<◌, [], get_or, ap, sym, ◌∙◌, subst, arith}
use mathlib.Core.Bool.{false≢true}
use Rattle.cells.specs.Places.{cell_count}
use Rattle.photo_merge.specs.Marks.{IsMark}
use Rattle.photo_merge.proofs.BadMarks.{cell_found, found, found_is, marks_length, one_more}
use Rattle.photo_merge.proofs.marks.first_bad_mark.Goals as goal

pub unwrap-requires : goal.unwrap-requires
unwrap-requires c =
    let marks = c.args.marks.now in
    let here = cell_found marks c.size-size.result c.place_at.result c.loop-i.i c.cell.result c.size-size.ensures.volume c.size-size.ensures.size
    (omega (arith, c.loop-i-test.true, c.cells-i-end.ensures)) c.place_at.ensures c.cell.ensures.bytes in
    found c.cell.result (get_or marks.cells c.loop-i.i []) here

pub returns-then-not-is_mark : goal.returns-then-not-is_mark
returns-then-not-is_mark c =
    let marks = c.args.marks.now in
    let below : c.loop-i.i < cell_count c.size-size.result = omega (arith, c.loop-i-test.true, c.cells-i-end.ensures) in
    let here = cell_found marks c.size-size.result c.place_at.result c.loop-i.i c.cell.result c.size-size.ensures.volume c.size-size.ensures.size below c.place_at.ensures c.cell.ensures.bytes in
    let cell = found_is c.cell.result c.unwrap.result (get_or marks.cells c.loop-i.i []) c.unwrap.ensures here in
    record {
      inside = omega (arith, below, ap cell_count c.size-size.ensures.size, marks_length marks c.size-size.ensures.volume c.requires.one);
      bad = λ its. false≢true (sym c.if-not-is_mark.true ∙ c.is_mark.ensures.1 (subst (IsMark c.args.count) (sym cell) its));
      before = c.loop-i.invariant;
    }

pub loop-i-preserved : goal.loop-i-preserved
loop-i-preserved c =
    let marks = c.args.marks.now in
    let here = cell_found marks c.size-size.result c.place_at.result c.loop-i.i c.cell.result c.size-size.ensures.volume c.size-size.ensures.size
    (omega (arith, c.loop-i-test.true, c.cells-i-end.ensures)) c.place_at.ensures c.cell.ensures.bytes in
    let cell = found_is c.cell.result c.unwrap.result (get_or marks.cells c.loop-i.i []) c.unwrap.ensures here in
    one_more c.args.count marks c.loop-i.i c.loop-i.invariant (subst (IsMark c.args.count) cell (c.is_mark.ensures.0 c.if-not-is_mark.false))
