-- A block that stands fills its box: what it leaves old is in a strip, and so filled before.
use Rattle.std.proofs.Common.{◌≡◌, ◌⊎◌, ℕ, ◌/◌, ◌%◌, ◌<◌, Bool, true, false, refl, ap, sym, ◌∙◌, subst, arith, inl, inr, ⊎_elim, leb-false}
use Rattle.std.proofs.lemmas.List.FromFn.{get_or-map-range_with_len}
use Rattle.std.specs.Prelude.{◌&&◌, ◌||◌, nat_le, slice_index, Option, Some, None, IsSome, if◌then◌else◌}
use mathlib.Core.Bool.{true≢false}
use Rattle.cells.specs.declared.place.At.{At}
use Rattle.cells.specs.Cells.{Cells}
use Rattle.cells.specs.Boxes.{IsInBox}
use Rattle.cells.specs.Places.{cell_count, minus}
use Rattle.cells.proofs.Raster.{index_below, place_at}
use Rattle.map_canvas.specs.declared.canvas.Placement.{Placement}
use Rattle.map_canvas.specs.Choices.{IsAfter, box_cell, box_index, chosen, new_source}
use Rattle.map_canvas.specs.Maps.{IsFilled, IsMap, SourceMap, map_at}
use Rattle.map_canvas.proofs.Afters.{map_after_is}
use Rattle.map_canvas.proofs.AfterLaws.{stays_filled}
use Rattle.map_canvas.proofs.ChoiceLaws.{box_cell_of}
use Rattle.strip_boundary.specs.declared.boundary.BoundaryRecord.{BoundaryRecord}
use Rattle.block_strips.specs.declared.side.Side.{Side}
use Rattle.block_strips.specs.declared.side.Side.TheVariants.{Left, Top}
use Rattle.block_check.specs.declared.block.BlockRecord.{BlockRecord}
use Rattle.block_check.specs.Blocks.{FillsBlock, IsInStrip, after_block, block_lets_new, is_new_at, lets_new, new_cells, side_lets_new, strip_cols}
use Rattle.block_check.specs.Records.{JoinStands, OverlapsRight}
use Rattle.block_check.specs.Steps.{HasRowsOn}

-- a boundary of a strip has a column for each strip row
pub rows_of : (side : Side) (m : SourceMap) (sample : Cells) (placement : Placement) (boundary : Option BoundaryRecord) → JoinStands side m sample placement boundary → HasRowsOn side placement boundary
rows_of side m sample placement None stands = tt
rows_of side m sample placement (Some it) stands = stands.path.column_per_row

-- a cell that a boundary doesn't let be new is in its strip
in_strip : (cols : ℕ) (boundary : Option BoundaryRecord) (row col : ℕ) → lets_new cols boundary row col ≡ false → col < cols
in_strip cols None row col old = cc
in_strip cols (Some it) row col old = by (nat_le cols col) refl old
  where
    by : (b : Bool) → nat_le cols col ≡ b → (b || nat_le (slice_index it.path row) col) ≡ false → col < cols
    by true t e = cc
    by false t e = leb-false cols col t

pub old_in_strip : (block : BlockRecord) (x y : ℕ) → block_lets_new block x y ≡ false → IsInStrip block x y
old_in_strip block x y old = by (side_lets_new Left block x y) refl old
  where
    by : (b : Bool) → side_lets_new Left block x y ≡ b → (b && side_lets_new Top block x y) ≡ false → IsInStrip block x y
    by true t e = inr (in_strip (strip_cols Top block) block.top x y e)
    by false t e = inl (in_strip (strip_cols Left block) block.left y x t)

module _ (m : SourceMap) (sample : Cells) (block : BlockRecord) (is : IsMap m) (right : OverlapsRight m sample block) where
  after_is : IsAfter m block.placement (new_cells block) (after_block m block)
  after_is = map_after_is m sample block.placement (new_cells block) is right.fits

  choice_at : (i : ℕ) → i < cell_count block.placement.rect.size → chosen (new_cells block) (Some i) ≡ is_new_at block i
  choice_at i lt = get_or-map-range_with_len (is_new_at block) 0 (cell_count block.placement.rect.size) i i false lt (omega arith)

  -- each cell of the box is filled
  box_filled : (p : At) (i : ℕ) → box_index block.placement p ≡ Some i → IsFilled (after_block m block) p
  box_filled p i at = by (is_new_at block i) refl
    where
      lt : i < cell_count block.placement.rect.size
      lt = index_below block.placement.rect.size (minus p block.placement.rect.corner) i at

      here : p ≡ box_cell block.placement i
      here = box_cell_of block.placement p i (place_at block.placement.rect.size i right.fits.some.w right.fits.some.h lt) at

      by : (b : Bool) → is_new_at block i ≡ b → IsFilled (after_block m block) p
      by true new = subst IsSome (sym (after_is.sources p ∙ ap (λ b. if b then Some (new_source block.placement p) else map_at m p) (ap (chosen (new_cells block)) at ∙ choice_at i lt ∙ new))) refl
      by false old =
          stays_filled m block.placement (new_cells block) (after_block m block) after_is p
          (subst (IsFilled m) (sym here) ((right.overlaps i lt).1 (old_in_strip block (i % block.placement.rect.size.w) (i / block.placement.rect.size.w % block.placement.rect.size.h) old)))

  pub fills_block : FillsBlock m block (after_block m block)
  fills_block p = (
    λ now. by (box_index block.placement p) refl now,
    λ was. ⊎_elim (λ old. stays_filled m block.placement (new_cells block) (after_block m block) after_is p old) (λ has. in_box (box_index block.placement p) refl has) was,
  )
    where
      by : (o : Option ℕ) → box_index block.placement p ≡ o → IsFilled (after_block m block) p → IsFilled m p ⊎ IsInBox block.placement.rect p
      by None e now = inl (subst IsSome (after_is.sources p ∙ ap (λ o. if chosen (new_cells block) o then Some (new_source block.placement p) else map_at m p) e) now)
      by (Some i) e now = inr (subst IsSome (sym e) refl)

      in_box : (o : Option ℕ) → box_index block.placement p ≡ o → IsSome o → IsFilled (after_block m block) p
      in_box None e has = absurd (true≢false (sym has))
      in_box (Some i) e has = box_filled p i e
