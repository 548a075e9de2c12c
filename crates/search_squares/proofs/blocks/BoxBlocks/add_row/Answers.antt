use Rattle.std.proofs.Common.{◌≡◌, ◌<◌, ◌+◌, ◌*◌, ◌/◌, ◌%◌, ap, sym, subst, ◌∙◌, arith, refl, ◌≤◌}
use Rattle.std.proofs.Math.Nat.{mul-le-mul_left}
use Rattle.search_squares.specs.Gathered.{HasShortRows}
use Rattle.cells.specs.Cells.{Cells, HasRun, row_at}
use Rattle.cells.specs.Places.{SumFits, plus}
use Rattle.cells.proofs.BoxLaws.{box_small}
use Rattle.cells.proofs.Raster.{below_of_div, in_rows}
use Rattle.match_error.proofs.RowPlaces.{row_in_volume}
use Rattle.match_error.proofs.RunLists.{run_of_picture}
use Rattle.search_squares.specs.Blocks.{block_sum}
use Rattle.search_squares.proofs.OneCells.{held, one_single, passed, recounted, single_place, single_sum}
use Rattle.search_squares.proofs.blocks.BoxBlocks.add_row.Goals as goal

pub step_to-requires : goal.step_to-requires
step_to-requires c =
    let size = c.args.rect.now.size in
    let small = box_small c.args.canvas.now.map.size c.args.rect.now.corner size c.picture-picture.ensures.canvas.map.small c.requires.some c.requires.inside in
    (omega (arith, small.axes.w), omega (arith, small.axes.h), omega (arith, below_of_div size.h size.f c.args.row c.requires.some.h c.requires.below, small.axes.f))

pub plus-requires : goal.plus-requires
plus-requires c =
    let canvas = c.args.canvas.now in
    let rect = c.args.rect.now in
    let size = rect.size in
    let is = c.picture-picture.ensures.canvas in
    subst (SumFits rect.corner) (sym c.step_to.ensures)
    (row_in_volume canvas.picture is.picture rect.corner size (c.args.row % size.h) (c.args.row / size.h) (held canvas rect is c.requires.inside) c.requires.some.w (omega (arith, c.requires.some.h)) (below_of_div size.h size.f c.args.row c.requires.some.h c.requires.below)).sum

pub row-bytes-requires : goal.row-bytes-requires
row-bytes-requires c =
    let canvas = c.args.canvas.now in
    let rect = c.args.rect.now in
    let size = rect.size in
    let row = c.args.row in
    subst (λ (v : Cells). HasRun v c.plus.result size.w) (sym c.picture-picture.ensures.picture)
    (subst (λ p. HasRun canvas.picture p size.w) (sym (c.plus.ensures ∙ ap (plus rect.corner) c.step_to.ensures))
    (run_of_picture canvas rect 0 size.w (row % size.h) (row / size.h) c.picture-picture.ensures.canvas c.requires.inside c.requires.some.w
    (record { columns_in = omega arith; row_in = omega (arith, c.requires.some.h); frame_in = below_of_div size.h size.f row c.requires.some.h c.requires.below })))

pub bounds-filled-first : goal.bounds-filled-first
bounds-filled-first c =
    let size = c.args.rect.now.size in
    omega (arith, c.requires.long, in_rows size.w (size.h * size.f) c.args.row c.cells.x (omega (arith, c.cells-test.true, c.cells.auto)) c.requires.below)

pub step_to-step-requires : goal.step_to-step-requires
step_to-step-requires c =
    let size = c.args.rect.now.size in
    let small = box_small c.args.canvas.now.map.size c.args.rect.now.corner size c.picture-picture.ensures.canvas.map.small c.requires.some c.requires.inside in
    (omega (arith, c.cells-test.true, c.cells.auto, small.axes.w), omega (arith, small.axes.h), omega (arith, below_of_div size.h size.f c.args.row c.requires.some.h c.requires.below, small.axes.f))

pub entries_before-entry-requires-clause-step : goal.entries_before-entry-requires-clause-step
entries_before-entry-requires-clause-step c =
    let size = c.args.rect.now.size in
    let small = box_small c.args.canvas.now.map.size c.args.rect.now.corner size c.picture-picture.ensures.canvas.map.small c.requires.some c.requires.inside in
    record {
      x = c.cells.x;
      y = c.args.row % size.h;
      f = c.args.row / size.h;
      is = c.step_to-step.ensures;
      short = (omega (arith, c.cells-test.true, c.cells.auto, small.axes.w), omega (arith, small.axes.h), omega (arith, below_of_div size.h size.f c.args.row c.requires.some.h c.requires.below, small.axes.f));
    }

pub cell_of-requires : goal.cell_of-requires
cell_of-requires c =
    omega (arith, ap (λ n. n * c.cells.x + n) c.samples-k.ensures.samples, c.row-bytes.ensures.len, mul-le-mul_left c.picture-picture.result.now.k (let le : c.cells.x + 1 ≤ c.args.rect.now.size.w = omega (arith, c.cells-test.true, c.cells.auto) in le))

pub cells-init : goal.cells-init
cells-init c =
    let start = c.args.rect.now.size.w * c.args.row in
    record {
      singles = recounted c.args.canvas.now c.args.rect.now c.args.self.now.size c.args.filled.now start (start + 0) c.args.self.now.blocks.items (omega arith) c.requires.singles;
      side = refl;
      size = refl;
    }

pub cells-preserved-then-not-filled-first : goal.cells-preserved-then-not-filled-first
cells-preserved-then-not-filled-first c =
    let canvas = c.args.canvas.now in
    let rect = c.args.rect.now in
    let at = rect.size.w * c.args.row + c.cells.x in
    let blocks = c.cells.self.blocks.items in
    record {
      singles =
          recounted canvas rect c.cells.self.size c.args.filled.now (at + 1) (rect.size.w * c.args.row + (c.cells.x + 1)) blocks (omega arith)
          (passed canvas rect c.cells.self.size c.args.filled.now at blocks c.cells.invariant.singles);
      side = c.cells.invariant.side;
      size = c.cells.invariant.size;
    }

pub returns-clause-singles : goal.returns-clause-singles
returns-clause-singles c =
    let w = c.args.rect.now.size.w in
    let all : c.cells.x ≡ w = omega (arith, c.cells-test.false, c.cells.auto.x-end) in
    recounted c.args.canvas.now c.args.rect.now c.cells.self.size c.args.filled.now (w * c.args.row + c.cells.x) (w * (c.args.row + 1)) c.cells.self.blocks.items (omega (arith, all)) c.cells.invariant.singles

pub cells-preserved : goal.cells-preserved
cells-preserved c =
    let canvas = c.args.canvas.now in
    let rect = c.args.rect.now in
    let size = rect.size in
    let row = c.args.row in
    let x = c.cells.x in
    let picture = c.picture-picture.ensures.picture in
    let lx : x < size.w = omega (arith, c.cells-test.true, c.cells.auto) in
    let lf : row / size.h < size.f = below_of_div size.h size.f row c.requires.some.h c.requires.below in
    let bytes = c.row-bytes.ensures.bytes ∙ (λ t. row_at (picture t) ((c.plus.ensures ∙ ap (plus rect.corner) c.step_to.ensures) t) size.w) in
    let samples = c.samples-k.ensures.samples ∙ ap (λ (v : Cells). v.k) picture in
    let sum_is = single_sum canvas rect c.picture-picture.ensures.canvas c.requires.inside x (row % size.h) (row / size.h) lx (omega (arith, c.requires.some.h)) lf _ _ _ _ samples bytes c.cell_of.ensures.bytes c.byte_sum-sum.ensures.sum in
    record {
      singles =
          recounted canvas rect c.cells.self.size c.args.filled.now (size.w * row + x + 1) (size.w * row + (x + 1)) c.push.new.self.items (omega arith)
          (one_single canvas rect c.cells.self.size c.args.filled.now (size.w * row + x) c.cells.self.blocks.items _ _ c.requires.some
          (omega (arith, in_rows size.w (size.h * size.f) row x lx c.requires.below)) c.if-not-filled-first.false (c.step_to-step.ensures ∙ single_place size row x lx)
          c.entries_before-entry.ensures (sum_is ∙ ap (λ p. block_sum canvas.picture 1 (plus rect.corner p)) (sym c.step_to-step.ensures)) c.in_ok-push.ensures.items c.cells.invariant.singles);
      side = c.cells.invariant.side;
      size = c.cells.invariant.size;
    }

pub byte_sum-sum-requires : goal.byte_sum-sum-requires
byte_sum-sum-requires c = omega arith

pub overflow_cast-x-in-cells : goal.overflow_cast-x-in-cells
overflow_cast-x-in-cells c = omega arith

pub overflow_mul-first : goal.overflow_mul-first
overflow_mul-first c =
    let size = c.args.rect.now.size in
    let small = box_small c.args.canvas.now.map.size c.args.rect.now.corner size c.picture-picture.ensures.canvas.map.small c.requires.some c.requires.inside in
    omega (arith, mul-le-mul_left size.w (let le : c.args.row ≤ size.h * size.f = omega (arith, c.requires.below) in le), small.cells)

pub overflow_add-first : goal.overflow_add-first
overflow_add-first c =
    let size = c.args.rect.now.size in
    let small = box_small c.args.canvas.now.map.size c.args.rect.now.corner size c.picture-picture.ensures.canvas.map.small c.requires.some c.requires.inside in
    omega (arith, in_rows size.w (size.h * size.f) c.args.row c.cells.x (omega (arith, c.cells-test.true)) c.requires.below, small.cells)

pub entries_before-entry-requires-clause-rows : goal.entries_before-entry-requires-clause-rows
entries_before-entry-requires-clause-rows c = subst HasShortRows (sym c.cells.invariant.size) c.requires.rows

pub returns-in_err-push-clause-size : goal.returns-in_err-push-clause-size
returns-in_err-push-clause-size c = c.cells.invariant.size

pub returns-in_err-push-clause-side : goal.returns-in_err-push-clause-side
returns-in_err-push-clause-side c = c.cells.invariant.side

pub returns-clause-size : goal.returns-clause-size
returns-clause-size c = c.cells.invariant.size

pub returns-clause-side : goal.returns-clause-side
returns-clause-side c = c.cells.invariant.side
