-- The record of a laid block stands, and its block fills its box.
use Rattle.std.proofs.Common.{◌≡◌, ◌⊎◌, ℕ, ◌/◌, ◌%◌, ◌<◌, ◌≤◌, ap, sym, ◌∙◌, subst, arith}
use Rattle.std.specs.Prelude.{IfOk, Option, Some, None, Result, Ok, Err, pos}
use Rattle.std.specs.declared.alloc.AllocError.{AllocError}
use Rattle.cells.specs.Boxes.{HasCells, cell_in}
use Rattle.cells.specs.Cells.{Cells}
use Rattle.cells.specs.Places.{cell_count, plus, spot}
use Rattle.cells.proofs.BoxLaws.{step_of}
use Rattle.map_canvas.specs.declared.canvas.Placement.{Placement}
use Rattle.map_canvas.specs.Choices.{Fits, box_cell}
use Rattle.map_canvas.specs.Maps.{IsFilled, SourceMap}
use Rattle.strip_boundary.specs.declared.boundary.BoundaryRecord.{BoundaryRecord}
use Rattle.strip_boundary.specs.Records.{BoundaryStands}
use Rattle.block_strips.specs.declared.plan.QuiltPlan.{QuiltPlan}
use Rattle.block_strips.specs.declared.side.Side.{Side}
use Rattle.block_strips.specs.declared.side.Side.TheVariants.{Left, Top}
use Rattle.block_strips.specs.Blocks.{FitsBlock, shared_cols}
use Rattle.block_strips.specs.Laid.{SharesStrips}
use Rattle.block_strips.specs.Strips.{most_cols, strip_of, strip_rows}
use Rattle.block_check.specs.declared.block.BlockRecord.{BlockRecord}
use Rattle.block_check.specs.Blocks.{HasColumnsOn, IsFormedBlock, cols_on, strip_cols}
use Rattle.block_check.specs.Records.{BlockStands, JoinStands, OverlapsAt}
use Rattle.quilted.specs.Runs.{IsLaidBlock, JoinsBy, plan_strip}
use Rattle.block_check.proofs.Columns.{cols_are, rows_some}

-- the columns of a boundary are those of the strip that it goes through
module _ (side : Side) (m : SourceMap) (sample : Cells) (placement : Placement) (cols : ℕ) (some : HasCells placement.rect.size) where
  pub cols_joined : (boundary : Option BoundaryRecord) → JoinsBy (strip_of side m sample placement cols) boundary → cols_on side placement boundary ≡ cols
  cols_joined None none = sym none
  cols_joined (Some it) joins = ap (λ n. n / strip_rows side placement.rect.size) joins.tight.sum_per_cell ∙ cols_are (strip_rows side placement.rect.size) cols (rows_some side placement.rect.size some)

  pub join_stands : (boundary : Option BoundaryRecord) → JoinsBy (strip_of side m sample placement cols) boundary → JoinStands side m sample placement boundary
  join_stands None none = tt
  join_stands (Some it) joins = subst (λ n. BoundaryStands (strip_of side m sample placement n) it) (sym (cols_joined (Some it) joins)) joins.stands

  pub join_formed : (boundary : Option BoundaryRecord) → cols ≤ most_cols side placement.rect.size → JoinsBy (strip_of side m sample placement cols) boundary → HasColumnsOn side placement boundary
  join_formed None most none = tt
  join_formed (Some it) most joins = record { cols = cols; some = joins.some; most_of = most; count = joins.tight.sum_per_cell }

-- a block of one frame with a boundary through each of its strips
pub record HasJoins (plan : QuiltPlan) (m : SourceMap) (sample : Cells) (block : BlockRecord) : Type 0 where
  pub fits : Fits m.size sample block.placement
  pub first_frame : block.placement.rect.corner.f ≡ pos 0
  pub one_frame : block.placement.rect.size.f ≡ 1
  pub shares : SharesStrips plan sample m block.placement.rect
  pub left : JoinsBy (plan_strip Left plan m sample block.placement) block.left
  pub top : JoinsBy (plan_strip Top plan m sample block.placement) block.top

module _ (plan : QuiltPlan) (m : SourceMap) (sample : Cells) (block : BlockRecord) (has : HasJoins plan m sample block) where
  left_cols : strip_cols Left block ≡ shared_cols Left plan m.size sample.size block.placement.rect
  left_cols = cols_joined Left m sample block.placement _ has.fits.some block.left has.left

  top_cols : strip_cols Top block ≡ shared_cols Top plan m.size sample.size block.placement.rect
  top_cols = cols_joined Top m sample block.placement _ has.fits.some block.top has.top

  overlaps_at : (i : ℕ) → i < cell_count block.placement.rect.size → OverlapsAt m block i
  overlaps_at i lt =
      let w = block.placement.rect.size.w in
      let h = block.placement.rect.size.h in
      let step = step_of block.placement.rect.size i has.fits.some lt in
      let first : i / w / h ≡ 0 = omega (arith, step.f, has.one_frame) in
      let here : cell_in block.placement.rect (i % w) (i / w % h) 0 ≡ box_cell block.placement i =
      ap (λ f. plus block.placement.rect.corner (spot (i % w) (i / w % h) f)) (sym first) in
      let filled = has.shares.filled (i % w) (i / w % h) step.x step.y in (
        λ is. subst (λ n. (i % w < n) ⊎ (i / w % h < strip_cols Top block)) (sym left_cols)
            (subst (λ n. (i % w < shared_cols Left plan m.size sample.size block.placement.rect) ⊎ (i / w % h < n)) (sym top_cols)
            (filled.0 (subst (IsFilled m) (sym here) is))),
        λ in_strip. subst (IsFilled m) here (filled.1
            (subst (λ n. (i % w < n) ⊎ (i / w % h < shared_cols Top plan m.size sample.size block.placement.rect)) left_cols
            (subst (λ n. (i % w < strip_cols Left block) ⊎ (i / w % h < n)) top_cols in_strip))),
      )

  pub laid_stands : BlockStands m sample block
  laid_stands = record {
    right = record { fits = has.fits; overlaps = overlaps_at };
    left = join_stands Left m sample block.placement _ has.fits.some block.left has.left;
    top = join_stands Top m sample block.placement _ has.fits.some block.top has.top;
  }

  pub laid_formed : IsFormedBlock block
  laid_formed = record {
    w = has.fits.some.w;
    h = has.fits.some.h;
    first_frame = has.first_frame;
    one_frame = has.one_frame;
    left = join_formed Left m sample block.placement _ has.fits.some block.left (omega (arith, has.shares.left)) has.left;
    top = join_formed Top m sample block.placement _ has.fits.some block.top (omega (arith, has.shares.top)) has.top;
  }

-- the record of a placement whose box lies as the next block has it
pub laid_joins : (plan : QuiltPlan) (m : SourceMap) (sample : Cells) (placement : Placement) (block : BlockRecord) → Fits m.size sample placement → FitsBlock m.size sample.size placement.rect
    → SharesStrips plan sample m placement.rect → IsLaidBlock plan m sample placement block → HasJoins plan m sample block
laid_joins plan m sample placement block fits box shares laid =
    subst (λ there. (FitsBlock m.size sample.size there.rect → Fits m.size sample there → SharesStrips plan sample m there.rect → JoinsBy (plan_strip Left plan m sample there) block.left
    → JoinsBy (plan_strip Top plan m sample there) block.top → HasJoins plan m sample block)) laid.placed
    (λ box fits shares left top. record { fits = fits; first_frame = box.first_frame; one_frame = box.one_frame; shares = shares; left = left; top = top })
    box fits shares laid.left laid.top

-- so the record that is laid there, if there is one, has its columns and stands
module _ (plan : QuiltPlan) (m : SourceMap) (sample : Cells) (placement : Placement) (fits : Fits m.size sample placement) (box : FitsBlock m.size sample.size placement.rect) (shares : SharesStrips plan sample m placement.rect) where
  pub answer_formed : (answer : Result BlockRecord AllocError) → IfOk answer (IsLaidBlock plan m sample placement) → IfOk answer IsFormedBlock
  answer_formed (Ok block) laid = laid_formed plan m sample block (laid_joins plan m sample placement block fits box shares laid)
  answer_formed (Err error) laid = tt

  pub answer_stands : (answer : Result BlockRecord AllocError) → IfOk answer (IsLaidBlock plan m sample placement) → IfOk answer (BlockStands m sample)
  answer_stands (Ok block) laid = laid_stands plan m sample block (laid_joins plan m sample placement block fits box shares laid)
  answer_stands (Err error) laid = tt
