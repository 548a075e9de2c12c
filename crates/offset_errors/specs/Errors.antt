-- What a reader has to trust: the overlap errors of a part of the sample, laid over a box of the output
-- at each offset. (Kwatra et al. 2003 take these sums by a fast transform; how a list has them is own.)
use Rattle.std.specs.Prelude.{◌≡◌, ◌≤◌, ◌<◌, ◌+◌, ◌-◌, ◌*◌, ◌^◌, ℕ, List, Some, length, reverse, slice_get}
use Rattle.cells.specs.declared.place.Box3.{Box3}
use Rattle.cells.specs.declared.place.Size.{Size}
use Rattle.cells.specs.Cells.{Cells}
use Rattle.cells.specs.Places.{HasAxes, cell_count, raster_index}
use Rattle.limits.specs.declared.bounds.TheConstants.{GREATEST_AXIS}
use Rattle.cyclic_products.specs.declared.transform.TheConstants.{MOST_LEVELS}
use Rattle.cyclic_products.specs.Products.{cyclic, index_after}
use Rattle.map_canvas.specs.declared.canvas.Placement.{Placement}
use Rattle.map_canvas.specs.Choices.{Fits}
use Rattle.map_canvas.specs.Maps.{SourceMap}
use Rattle.match_error.specs.Errors.{error_sum}
use Rattle.offset_errors.specs.declared.layout.Layout.{Layout}
use Rattle.offset_errors.specs.Offsets.{IsAtOffset, box_list, part_list}
use Rattle.offset_errors.specs.Padded.{HoldsBoth, IsShared}
use Rattle.offset_errors.specs.Summed.{summed}

-- a padded size has axes within those of a box and a part together
pub record IsPadded (pad : Size) : Type 0 where
  pub w : (1 ≤ pad.w) × (pad.w ≤ 2 * GREATEST_AXIS)
  pub h : (1 ≤ pad.h) × (pad.h ≤ 2 * GREATEST_AXIS)
  pub f : (1 ≤ pad.f) × (pad.f ≤ 2 * GREATEST_AXIS)

-- a layout has room for a box and a part, and a transform may be of so many levels
pub record IsEnough (box part : Size) (layout : Layout) : Type 0 where
  pub some : 1 ≤ layout.levels
  pub few : layout.levels ≤ MOST_LEVELS
  pub cells : cell_count layout.pad ≤ 2 ^ layout.levels
  pub padded : IsPadded layout.pad
  pub lead : HasAxes layout.lead
  pub both : HoldsBoth layout.pad box layout.lead part

-- the product of the lists with number j
abbrev pub listed_product : Layout → SourceMap → Cells → Box3 → Box3 → ℕ → List ℕ
listed_product layout m sample rect part j =
    cyclic (reverse (box_list (2 ^ layout.levels) layout.pad m sample rect j))
    (part_list (2 ^ layout.levels) layout.pad layout.lead sample part j)

-- the sums of the products with numbers 0 to the last
abbrev pub listed_sums : Layout → SourceMap → Cells → Box3 → Box3 → ℕ → List ℕ
listed_sums layout m sample rect part last =
    summed last (box_list (2 ^ layout.levels) layout.pad m sample rect)
    (part_list (2 ^ layout.levels) layout.pad layout.lead sample part)

-- a box of the output, a part of the sample, how both are laid out, and the sums at all offsets
pub record OffsetSums : Type 0 where
  pub rect : Box3
  pub part : Box3
  pub layout : Layout
  pub sums : List ℕ

-- the sums are in the order of a cyclic product, where that at offset d comes d after the last
abbrev pub sum_index : ℕ → ℕ → ℕ
sum_index n d = index_after n (n - 1) d

-- at each offset stands the error of the placement that lays the part over the box there
pub record AreErrors (m : SourceMap) (sample : Cells) (errors : OffsetSums) : Type 0 where
  pub each : (placement : Placement) (x y f : ℕ) → Fits m.size sample placement
      → IsAtOffset errors.layout.pad errors.layout.lead errors.rect errors.part x y f placement
      → slice_get errors.sums
      (sum_index (length errors.sums) (raster_index errors.layout.pad x y f))
      ≡ Some (error_sum m sample placement)

-- along one axis of w cells, the offset of a part of s cells to a box of b, where a placement of l cells
-- begins at cell t of the part and cell a of the box
pub record IsOffset (w b lead s a t l d : ℕ) : Type 0 where
  pub below : d < w
  pub apart : b + d < w + lead
  pub shared : IsShared b lead s d a l t
