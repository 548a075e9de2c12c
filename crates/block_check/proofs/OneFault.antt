-- A block record has one first fault.
use Rattle.std.proofs.Common.{◌≡◌, ◌∙◌, ◌⊎◌, ◌+◌, ◌*◌, ◌<◌, ℕ, List, length, sym, subst, inl, inr, arith}
use Rattle.std.proofs.lemmas.Bool.{cases_order}
use Rattle.std.specs.Prelude.{Option, Some, None}
use Rattle.cells.specs.Cells.{Cells}
use Rattle.cells.specs.Places.{cell_count}
use Rattle.cells.specs.Firsts.{IsFirstWithout}
use Rattle.map_canvas.specs.declared.canvas.Placement.{Placement}
use Rattle.map_canvas.specs.Maps.{SourceMap}
use Rattle.strip_boundary.specs.declared.boundary.BoundaryRecord.{BoundaryRecord}
use Rattle.strip_boundary.specs.declared.check.BlockFault.{BlockFault}
use Rattle.strip_boundary.specs.Records.{ColumnHolds, FirstBadColumn, FirstBadSum, IsFirstBoundaryFault, SumHolds}
use Rattle.strip_boundary.specs.Strips.{ErrorTable}
use Rattle.block_strips.specs.declared.side.Side.{Side}
use Rattle.block_strips.specs.declared.side.Side.TheVariants.{Left, Top}
use Rattle.block_check.specs.declared.block.BlockRecord.{BlockRecord}
use Rattle.block_check.specs.Blocks.{strip_on}
use Rattle.block_check.specs.Records.{BlockBreaksFit, BreaksLeft, BreaksOverlap, BreaksTop, IsFirstBlockFault, IsJoinFault, OverlapsAt}
use Rattle.block_check.proofs.Faults.{no_bad_column, no_join_fault}
use Rattle.block_check.specs.Several.{AreOneBlockFault}

-- of a first property of faults and others, of which at most one holds, and for one fault
either : (P Q : BlockFault → Type 0) → ((f g : BlockFault) → P f → P g → AreOneBlockFault f g) → ((f g : BlockFault) → P f → Q g → ⊥) → ((f g : BlockFault) → Q f → Q g → AreOneBlockFault f g)
    → (f g : BlockFault) → P f ⊎ Q f → P g ⊎ Q g → AreOneBlockFault f g
either P Q first apart others f g (inl p) (inl q) = first f g p q
either P Q first apart others f g (inl p) (inr q) = absurd (apart f g p q)
either P Q first apart others f g (inr p) (inl q) = absurd (apart g f q p)
either P Q first apart others f g (inr p) (inr q) = others f g p q

one_first : (n : ℕ) (Holds : ℕ → Type 0) (p q : ℕ) → IsFirstWithout n Holds p → IsFirstWithout n Holds q → p ≡ q
one_first n Holds p q first other = elim (cases_order p q) [
  | inl same ↦ same
  | inr (inl lt) ↦ absurd (first.here (other.before p lt))
  | inr (inr lt) ↦ absurd (other.here (first.before q lt))
]

-- Of a boundary.

no_earlier_column : (strip : ErrorTable) (path : List ℕ) (p q : ℕ) → FirstBadColumn strip path p → FirstBadColumn strip path q → p < q → ⊥
no_earlier_column strip path p q first other lt = by first.here other.here
  where
    by : ((p < strip.rows) × ¬ (ColumnHolds strip path p)) ⊎ ((p ≡ strip.rows) × (strip.rows < length path))
        → ((q < strip.rows) × ¬ (ColumnHolds strip path q)) ⊎ ((q ≡ strip.rows) × (strip.rows < length path)) → ⊥
    by (inl bad) there = bad.1 (other.before p lt)
    by (inr long) (inl bad) = omega (arith, long.0, bad.0, lt)
    by (inr long) (inr longer) = omega (arith, long.0, longer.0, lt)

one_column : (strip : ErrorTable) (path : List ℕ) (p q : ℕ) → FirstBadColumn strip path p → FirstBadColumn strip path q → p ≡ q
one_column strip path p q first other = elim (cases_order p q) [
  | inl same ↦ same
  | inr (inl lt) ↦ absurd (no_earlier_column strip path p q first other lt)
  | inr (inr lt) ↦ absurd (no_earlier_column strip path q p other first lt)
]

module _ (strip : ErrorTable) (sums : List ℕ) where
  no_earlier_sum : (p q : ℕ) → (first : FirstBadSum strip sums p) (other : FirstBadSum strip sums q) → first.row ≡ other.row → first.col < other.col → ⊥
  no_earlier_sum p q first other same lt = first.here (subst (λ row. SumHolds strip sums row first.col) (sym same) (other.cols_before first.col lt))

  one_sum : (p q : ℕ) → FirstBadSum strip sums p → FirstBadSum strip sums q → p ≡ q
  one_sum p q first other = elim (cases_order first.row other.row) [
    | inl row ↦ elim (cases_order first.col other.col) [
      | inl col ↦ first.place_of ∙ (λ i. row i * strip.cols + col i) ∙ sym other.place_of
      | inr (inl lt) ↦ absurd (no_earlier_sum p q first other row lt)
      | inr (inr lt) ↦ absurd (no_earlier_sum q p other first (sym row) lt)
    ]
    | inr (inl lt) ↦ absurd (first.here (other.rows_before first.row first.col lt first.col_inside))
    | inr (inr lt) ↦ absurd (other.here (first.rows_before other.row other.col lt other.col_inside))
  ]

one_boundary_fault : (strip : ErrorTable) (boundary : BoundaryRecord) (f g : BlockFault) → IsFirstBoundaryFault strip boundary f → IsFirstBoundaryFault strip boundary g → AreOneBlockFault f g
one_boundary_fault strip boundary f g (inl a) (inl b) = record { kind = a.0 ∙ sym b.0; place = one_column strip boundary.path f.place g.place a.1 b.1 }
one_boundary_fault strip boundary f g (inl a) (inr (inl b)) = absurd (no_bad_column strip boundary.path f.place b.1 a.1)
one_boundary_fault strip boundary f g (inl a) (inr (inr b)) = absurd (no_bad_column strip boundary.path f.place b.2 a.1)
one_boundary_fault strip boundary f g (inr (inl a)) (inl b) = absurd (no_bad_column strip boundary.path g.place a.1 b.1)
one_boundary_fault strip boundary f g (inr (inr a)) (inl b) = absurd (no_bad_column strip boundary.path g.place a.2 b.1)
one_boundary_fault strip boundary f g (inr (inl a)) (inr (inl b)) = record { kind = a.0 ∙ sym b.0; place = one_sum strip boundary.sums f.place g.place a.2 b.2 }
one_boundary_fault strip boundary f g (inr (inl a)) (inr (inr b)) = absurd (a.2.here (b.3 a.2.row a.2.col a.2.row_inside a.2.col_inside))
one_boundary_fault strip boundary f g (inr (inr a)) (inr (inl b)) = absurd (b.2.here (a.3 b.2.row b.2.col b.2.row_inside b.2.col_inside))
one_boundary_fault strip boundary f g (inr (inr a)) (inr (inr b)) = record { kind = a.0 ∙ sym b.0; place = a.1 ∙ sym b.1 }

one_join_fault : (side : Side) (m : SourceMap) (sample : Cells) (placement : Placement) (boundary : Option BoundaryRecord) (f g : BlockFault) → IsJoinFault side m sample placement boundary f → IsJoinFault side m sample placement boundary g → AreOneBlockFault f g
one_join_fault side m sample placement None f g a b = absurd a
one_join_fault side m sample placement (Some it) f g a b = one_boundary_fault (strip_on side m sample placement (Some it)) it f g a b

-- Of a block.

module _ (m : SourceMap) (sample : Cells) (block : BlockRecord) where
  abbrev Joins : BlockFault → Type 0
  Joins f = BreaksLeft m sample block f ⊎ BreaksTop m sample block f

  abbrev FromOverlap : BlockFault → Type 0
  FromOverlap f = BreaksOverlap m sample block f ⊎ Joins f

  joins : (f g : BlockFault) → Joins f → Joins g → AreOneBlockFault f g
  joins = either (BreaksLeft m sample block) (BreaksTop m sample block)
      (λ f g p q. one_join_fault Left m sample block.placement block.left f g p.broken q.broken)
      (λ f g p q. no_join_fault Left m sample block.placement block.left f q.left p.broken)
      (λ f g p q. one_join_fault Top m sample block.placement block.top f g p.broken q.broken)

  overlap_first : (f g : BlockFault) → BreaksOverlap m sample block f → Joins g → ⊥
  overlap_first f g p (inl q) = p.place.here (q.right.overlaps f.place p.place.below)
  overlap_first f g p (inr q) = p.place.here (q.right.overlaps f.place p.place.below)

  from_overlap : (f g : BlockFault) → FromOverlap f → FromOverlap g → AreOneBlockFault f g
  from_overlap = either (BreaksOverlap m sample block) Joins
      (λ f g p q. record { kind = p.kind ∙ sym q.kind; place = one_first (cell_count block.placement.rect.size) (OverlapsAt m block) f.place g.place p.place q.place })
      overlap_first joins

  fit_first : (f g : BlockFault) → BlockBreaksFit m sample block f → FromOverlap g → ⊥
  fit_first f g p (inl q) = p.outside q.fits
  fit_first f g p (inr (inl q)) = p.outside q.right.fits
  fit_first f g p (inr (inr q)) = p.outside q.right.fits

  pub one_block_fault : (f g : BlockFault) → IsFirstBlockFault m sample block f → IsFirstBlockFault m sample block g → AreOneBlockFault f g
  one_block_fault = either (BlockBreaksFit m sample block) FromOverlap
      (λ f g p q. record { kind = p.kind ∙ sym q.kind; place = p.place ∙ sym q.place })
      fit_first from_overlap
