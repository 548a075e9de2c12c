use Rattle.std.proofs.Common.{◌+◌, ap, ◌∙◌, arith}
use Rattle.cells.specs.Places.{cell_count}
use Rattle.patch_picks.specs.Lists.{placed}
use Rattle.grown.proofs.Counting.{IsNextCell, all_counted, along, counted_past, down, end_of, next_of, none_counted, none_room, one_more, over, room_after}
use Rattle.grown.proofs.limit.count.Goals as goal

pub counting-init : goal.counting-init
counting-init c = record {
  room = none_room c.args.boxes.now c.args.output c.requires.axes c.requires.lens;
  within = omega arith;
  counted = λ box told. none_counted c.args.boxes.now c.args.output c.requires.axes c.requires.lens box;
}

pub returns-then-cells-gt-MOST_BOX_CELLS : goal.returns-then-cells-gt-MOST_BOX_CELLS
returns-then-cells-gt-MOST_BOX_CELLS c = λ box told.
    let cells = c.span_cells-cells.ensures.cells ∙ (λ i. cell_count (placed (c.span_on-x.ensures.span i) (c.span_on-y.ensures.span i) (c.span_on-f.ensures.span i)).rect.size) in
    counted_past c.args.boxes.now c.args.output c.requires.axes c.requires.lens c.counting.at.x c.counting.at.y c.counting.at.f c.counting.invariant.room c.counting-test.true
    box told c.counting.cells (c.counting.invariant.counted box told) (c.counting.cells + c.span_cells-cells.result) (ap (λ n. c.counting.cells + n) cells) c.counting.invariant.within c.if-cells-gt-MOST_BOX_CELLS.true

pub counting-preserved : goal.counting-preserved
counting-preserved c =
    let boxes = c.args.boxes.now in
    let output = c.args.output in
    let left = c.counting.at.x in
    let top = c.counting.at.y in
    let front = c.counting.at.f in
    let x = c.cell_after-at.result.x in
    let y = c.cell_after-at.result.y in
    let f = c.cell_after-at.result.f in
    let cells = c.span_cells-cells.ensures.cells ∙ (λ i. cell_count (placed (c.span_on-x.ensures.span i) (c.span_on-y.ensures.span i) (c.span_on-f.ensures.span i)).rect.size) in
    let next : IsNextCell output top front (end_of (along boxes output left)) (end_of (down boxes output top)) (end_of (over boxes output front)) x y f =
    next_of output top front x y f c.span_on-x.result (along boxes output left) c.span_on-y.result (down boxes output top) c.span_on-f.result (over boxes output front)
    c.span_on-x.ensures.span c.span_on-y.ensures.span c.span_on-f.ensures.span (record { row = c.cell_after-at.ensures.row; below = c.cell_after-at.ensures.below; after = c.cell_after-at.ensures.after }) in
    record {
      room = room_after boxes output c.requires.axes c.requires.lens left top front c.counting.invariant.room c.counting-test.true x y f next;
      within = c.if-cells-gt-MOST_BOX_CELLS.false;
      counted = λ box told.
          one_more boxes output c.requires.axes c.requires.lens left top front c.counting.invariant.room c.counting-test.true box told c.counting.cells (c.counting.invariant.counted box told)
          (c.counting.cells + c.span_cells-cells.result) (ap (λ n. c.counting.cells + n) cells) x y f next;
    }

pub returns : goal.returns
returns c = λ box told.
    all_counted c.args.boxes.now c.args.output c.requires.axes c.requires.lens c.counting.at.x c.counting.at.y c.counting.at.f c.counting.invariant.room
    box c.counting.cells (c.counting.invariant.counted box told) c.counting-test.false c.counting.invariant.within
