use Rattle.std.proofs.Math.Nat.{mul-le-mul}
use Rattle.std.proofs.Common.{◌≡◌, ◌*◌, sym, subst, arith}
use Rattle.cells.proofs.PartBoxes.{held_small}
use Rattle.cells.proofs.Raster.{below_of_div}
use Rattle.search_squares.proofs.BlockRows.{cell_blocks}
use Rattle.search_squares.specs.Sums.{AreCellSums, AreRows, IsCellSum}
use Rattle.search_squares.proofs.SumRows.{cell_entries, no_rows, row_more}
use Rattle.search_squares.proofs.sums.BlockSums.of_cells.Goals as goal

pub add_cell_sums-requires-clause-row : goal.add_cell_sums-requires-clause-row
add_cell_sums-requires-clause-row c =
    let size = c.args.rect.now.size in
    (omega (arith, (held_small c.args.sample.now c.args.rect.now.corner c.args.rect.now.size c.samples-sample.ensures.volume c.requires.some c.requires.inside).axes.h), below_of_div size.h size.f c.loop-row.row (omega (arith, (held_small c.args.sample.now c.args.rect.now.corner c.args.rect.now.size c.samples-sample.ensures.volume c.requires.some c.requires.inside).axes.h)) (omega (arith, c.loop-row-test.true)))

pub loop-row-init : goal.loop-row-init
loop-row-init c =
    let Is = IsCellSum c.args.sample.now c.args.rect.now in
    subst (AreRows Is c.args.rect.now.size 0) (sym c.in_ok-sums.ensures.items) (no_rows Is c.args.rect.now.size)

pub loop-row-preserved : goal.loop-row-preserved
loop-row-preserved c =
    row_more (IsCellSum c.args.sample.now c.args.rect.now) c.args.rect.now.size c.loop-row.row c.loop-row.sums.items _ c.loop-row.invariant c.in_ok-add_cell_sums.ensures

pub add_cell_sums-requires-clause-small : goal.add_cell_sums-requires-clause-small
add_cell_sums-requires-clause-small c = (held_small c.args.sample.now c.args.rect.now.corner c.args.rect.now.size c.samples-sample.ensures.volume c.requires.some c.requires.inside)

pub nonzero_rem-row : goal.nonzero_rem-row
nonzero_rem-row c = omega arith

pub nonzero_div-row : goal.nonzero_div-row
nonzero_div-row c = omega arith

pub add_cell_sums-requires-clause-inside : goal.add_cell_sums-requires-clause-inside
add_cell_sums-requires-clause-inside c = c.requires.inside

pub add_cell_sums-requires-clause-volume : goal.add_cell_sums-requires-clause-volume
add_cell_sums-requires-clause-volume c = c.samples-sample.ensures.volume

pub overflow_mul-row-end : goal.overflow_mul-row-end
overflow_mul-row-end c = omega (arith, mul-le-mul (held_small c.args.sample.now c.args.rect.now.corner c.args.rect.now.size c.samples-sample.ensures.volume c.requires.some c.requires.inside).axes.h.1 (held_small c.args.sample.now c.args.rect.now.corner c.args.rect.now.size c.samples-sample.ensures.volume c.requires.some c.requires.inside).axes.f.1)

pub returns-clause-cells : goal.returns-clause-cells
returns-clause-cells c =
    let rect = c.args.rect.now in
    let whole : c.loop-row.row ≡ rect.size.h * rect.size.f = omega (arith, c.loop-row-test.false, c.loop-row.auto.row-end) in
    subst (AreCellSums c.args.sample.now rect) (sym c.in_ok-extend_from_slice.ensures.items)
    (cell_entries c.args.sample.now rect _ (held_small c.args.sample.now c.args.rect.now.corner c.args.rect.now.size c.samples-sample.ensures.volume c.requires.some c.requires.inside) (subst (λ n. AreRows (IsCellSum c.args.sample.now rect) rect.size n c.loop-row.sums.items) whole c.loop-row.invariant))

pub returns-clause-sums : goal.returns-clause-sums
returns-clause-sums c =
    let are = cell_blocks c.args.sample.now c.args.rect.now _ (returns-clause-cells c) in
    record {
      some = omega arith;
      few = omega (arith, c.samples-sample.ensures.volume.samples);
      inside = c.requires.inside;
      long = are.long;
      entries = are.each;
    }

pub cells-requires : goal.cells-requires
cells-requires c = held_small c.args.sample.now c.args.rect.now.corner c.args.rect.now.size c.samples-sample.ensures.volume c.requires.some c.requires.inside

pub overflow_add-cells : goal.overflow_add-cells
overflow_add-cells c = let small = held_small c.args.sample.now c.args.rect.now.corner c.args.rect.now.size c.samples-sample.ensures.volume c.requires.some c.requires.inside in omega (arith, c.cells.ensures, small.cells)
