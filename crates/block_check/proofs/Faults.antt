-- A record that stands breaks no rule.
use Rattle.std.proofs.Common.{◌≡◌, ◌⊎◌, ℕ, ◌<◌, sym, subst, arith, inl, inr, List}
use Rattle.std.specs.Prelude.{length, slice_index, Option, Some, None}
use Rattle.cells.specs.Cells.{Cells}
use Rattle.map_canvas.specs.declared.canvas.Placement.{Placement}
use Rattle.map_canvas.specs.Maps.{SourceMap}
use Rattle.strip_boundary.specs.declared.boundary.BoundaryRecord.{BoundaryRecord}
use Rattle.strip_boundary.specs.declared.check.BlockFault.{BlockFault}
use Rattle.strip_boundary.specs.Boundaries.{AreNear, IsBoundary}
use Rattle.strip_boundary.specs.Records.{BoundaryStands, ColumnHolds, FirstBadColumn, IsFirstBoundaryFault}
use Rattle.strip_boundary.specs.Strips.{ErrorTable}
use Rattle.block_strips.specs.declared.side.Side.{Side}
use Rattle.block_strips.specs.declared.side.Side.TheVariants.{Left, Top}
use Rattle.block_check.specs.Blocks.{strip_on}
use Rattle.block_check.specs.Records.{IsJoinFault, JoinStands, StandingBlockBreaksNone}

column_holds : (strip : ErrorTable) (path : List ℕ) (row : ℕ) → IsBoundary strip path → row < strip.rows → ColumnHolds strip path row
column_holds strip path row is lt = record {
  present = omega (arith, is.column_per_row);
  inside = is.inside row lt;
  connected = λ before e. subst (λ n. AreNear (slice_index path before) (slice_index path n)) (sym e) (is.connected before (omega (arith, e)));
}

pub no_bad_column : (strip : ErrorTable) (path : List ℕ) (place : ℕ) → IsBoundary strip path → FirstBadColumn strip path place → ⊥
no_bad_column strip path place is bad = by bad.here
  where
    by : ((place < strip.rows) × ¬ (ColumnHolds strip path place)) ⊎ ((place ≡ strip.rows) × (strip.rows < length path)) → ⊥
    by (inl both) = both.1 (column_holds strip path place is both.0)
    by (inr both) = omega (arith, both.1, is.column_per_row)

no_boundary_fault : (strip : ErrorTable) (boundary : BoundaryRecord) (fault : BlockFault) → BoundaryStands strip boundary → IsFirstBoundaryFault strip boundary fault → ⊥
no_boundary_fault strip boundary fault stands (inl bad) = no_bad_column strip boundary.path fault.place stands.path bad.1
no_boundary_fault strip boundary fault stands (inr (inl bad)) = bad.2.here (stands.sums bad.2.row bad.2.col bad.2.row_inside bad.2.col_inside)
no_boundary_fault strip boundary fault stands (inr (inr bad)) = bad.4 stands.cost

pub no_join_fault : (side : Side) (m : SourceMap) (sample : Cells) (placement : Placement) (boundary : Option BoundaryRecord) (fault : BlockFault) → JoinStands side m sample placement boundary → IsJoinFault side m sample placement boundary fault → ⊥
no_join_fault side m sample placement None fault stands broken = broken
no_join_fault side m sample placement (Some it) fault stands broken = no_boundary_fault (strip_on side m sample placement (Some it)) it fault stands broken

pub standing_breaks_none : StandingBlockBreaksNone
standing_breaks_none m sample block fault stands (inl fit) = fit.outside stands.right.fits
standing_breaks_none m sample block fault stands (inr (inl overlap)) = overlap.place.here (stands.right.overlaps fault.place overlap.place.below)
standing_breaks_none m sample block fault stands (inr (inr (inl left))) = no_join_fault Left m sample block.placement block.left fault stands.left left.broken
standing_breaks_none m sample block fault stands (inr (inr (inr top))) = no_join_fault Top m sample block.placement block.top fault stands.top top.broken
