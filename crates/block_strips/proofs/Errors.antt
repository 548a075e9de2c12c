-- The cells of a block that fits: where they lie, and the cells of the sample that come there.
use Rattle.std.proofs.Common.{◌≡◌, ℕ, ◌*◌, ◌<◌, ◌≤◌, List, length, refl, ap, sym, subst, arith}
use Rattle.std.specs.Prelude.{IsSome, All}
use Rattle.cells.specs.Cells.{Cells, HasCell, IsInsideOf, IsVolume}
use Rattle.cells.specs.Places.{IsInside, IsSmall, SumFits, plus, spot}
use Rattle.cells.specs.Boxes.{cell_in}
use Rattle.cells.proofs.BoxLaws.{box_small, plus_minus}
use Rattle.cells.proofs.BoxTests.{each_of_axes}
use Rattle.cells.proofs.CellLaws.{indexed_has_cell, inside_part}
use Rattle.cells.proofs.PartBoxes.{inside_sum_fits}
use Rattle.cells.proofs.Raster.{index_of_spot}
use Rattle.map_canvas.specs.declared.canvas.Placement.{Placement}
use Rattle.map_canvas.specs.Canvases.{CanvasState, IsCanvas}
use Rattle.map_canvas.specs.Choices.{Fits, new_source}
use Rattle.strip_boundary.specs.Strips.{IsStrip, table_of}
use Rattle.strip_boundary.specs.declared.strip.TheConstants.{GREATEST_ERROR}
use Rattle.block_strips.specs.declared.side.Side.{Side}
use Rattle.block_strips.specs.declared.side.Side.TheVariants.{Left, Top}
use Rattle.block_strips.specs.Strips.{most_cols, strip_rows}

module _ (canvas : CanvasState) (sample : Cells) (placement : Placement) (is : IsCanvas canvas) (fits : Fits canvas.map.size sample placement) where
  pub block_small : IsSmall placement.rect.size
  block_small = box_small canvas.map.size placement.rect.corner placement.rect.size is.map.small fits.some fits.inside

  module _ (volume : IsVolume sample) (x y : ℕ) (lx : x < placement.rect.size.w) (ly : y < placement.rect.size.h) where
    step_in : IsInside placement.rect.size (spot x y 0)
    step_in = subst IsSome (sym (index_of_spot placement.rect.size x y 0 lx ly (omega (arith, fits.some.f)))) refl

    pub cell_inside : IsInside canvas.map.size (cell_in placement.rect x y 0)
    cell_inside = each_of_axes canvas.map.size placement.rect fits.inside (cell_in placement.rect x y 0) (subst (IsInside placement.rect.size) (sym (plus_minus placement.rect.corner (spot x y 0))) step_in)

    pub corner_sum : SumFits placement.rect.corner (spot x y 0)
    corner_sum = inside_sum_fits canvas.picture is.picture placement.rect.corner (spot x y 0) (inside_part canvas.picture (cell_in placement.rect x y 0) (subst (λ size. IsInside size (cell_in placement.rect x y 0)) (sym is.size) cell_inside))

    source_inside : IsInsideOf sample (plus placement.from (spot x y 0))
    source_inside = fits.sources (plus placement.from (spot x y 0)) (subst (IsInside placement.rect.size) (sym (plus_minus placement.from (spot x y 0))) step_in)

    pub source_sum : SumFits placement.from (spot x y 0)
    source_sum = inside_sum_fits sample volume placement.from (spot x y 0) source_inside

    pub source_cell : HasCell sample (plus placement.from (spot x y 0))
    source_cell = indexed_has_cell sample volume.count (plus placement.from (spot x y 0)) source_inside

    pub new_source_is : new_source placement (cell_in placement.rect x y 0) ≡ plus placement.from (spot x y 0)
    new_source_is = ap (plus placement.from) (plus_minus placement.rect.corner (spot x y 0))

  -- a table of the errors of a strip is one
  pub strip_is : (side : Side) (rows cols : ℕ) (errors : List ℕ) → rows ≡ strip_rows side placement.rect.size → 1 ≤ cols → cols ≤ most_cols side placement.rect.size → length errors ≡ rows * cols → All (λ error. error ≤ GREATEST_ERROR) errors → IsStrip (table_of rows cols errors)
  strip_is Left rows cols errors e some most count all = record {
    some_rows = omega (arith, e, fits.some);
    most_rows = omega (arith, e, block_small.axes.h);
    some_cols = some;
    most_cols = omega (arith, most, block_small.axes.w);
    error_per_cell = count;
    greatest = all;
  }
  strip_is Top rows cols errors e some most count all = record {
    some_rows = omega (arith, e, fits.some);
    most_rows = omega (arith, e, block_small.axes.w);
    some_cols = some;
    most_cols = omega (arith, most, block_small.axes.h);
    error_per_cell = count;
    greatest = all;
  }
