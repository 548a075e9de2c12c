-- Of records over one another there is one first that doesn't stand.
use Rattle.std.proofs.Common.{◌≡◌, ◌∙◌, ◌<◌, ℕ, List, take, inl, inr, sym, ap, subst}
use Rattle.std.proofs.lemmas.Bool.{cases_order}
use Rattle.std.proofs.lemmas.Option.{same_Some}
use Rattle.std.specs.Prelude.{Some, slice_get}
use Rattle.cells.specs.Cells.{Cells}
use Rattle.map_canvas.specs.Maps.{SourceMap}
use Rattle.block_check.specs.declared.block.BlockRecord.{BlockRecord}
use Rattle.block_check.specs.Records.{BlockStands, IsFirstBlockFault}
use Rattle.block_check.proofs.Faults.{standing_breaks_none}
use Rattle.block_check.specs.Several.{AreOneBlockFault, BrokenBlock, BrokenBlockStandsNot, IsFirstBrokenBlock, OneFirstBrokenBlock, left_by_blocks}
use Rattle.block_check.proofs.OneFault.{one_block_fault}
use Rattle.block_check.proofs.Several.{each_at, each_before}

pub stands_not : BrokenBlockStandsNot
stands_not sample m blocks broken first each =
    standing_breaks_none (left_by_blocks m (take broken.number blocks)) sample first.block broken.fault
    (each_at (λ m block. BlockStands m sample block) m blocks broken.number first.block each first.at) first.breaks

module _ (sample : Cells) (m : SourceMap) (blocks : List BlockRecord) where
  -- no record before the first broken one is broken
  none_before : (one other : BrokenBlock) → IsFirstBrokenBlock sample m blocks one → IsFirstBrokenBlock sample m blocks other → one.number < other.number → ⊥
  none_before one other first next lt =
      standing_breaks_none (left_by_blocks m (take one.number blocks)) sample first.block one.fault
      (each_before (λ m block. BlockStands m sample block) m blocks one.number other.number first.block next.before lt first.at) first.breaks

  same_fault : (one other : BrokenBlock) → IsFirstBrokenBlock sample m blocks one → IsFirstBrokenBlock sample m blocks other → one.number ≡ other.number → AreOneBlockFault one.fault other.fault
  same_fault one other first next same =
      let there : slice_get blocks one.number ≡ Some next.block = ap (slice_get blocks) same ∙ next.at in
      let block : next.block ≡ first.block = same_Some next.block first.block (sym there ∙ first.at) in
      one_block_fault (left_by_blocks m (take one.number blocks)) sample first.block one.fault other.fault first.breaks
      (subst (λ (block : BlockRecord). IsFirstBlockFault (left_by_blocks m (take one.number blocks)) sample block other.fault) block
      (subst (λ (n : ℕ). IsFirstBlockFault (left_by_blocks m (take n blocks)) sample next.block other.fault) (sym same) next.breaks))

pub one_broken : OneFirstBrokenBlock
one_broken sample m blocks one other first next = elim (cases_order one.number other.number) [
  | inl same ↦ record { number = same; fault = same_fault sample m blocks one other first next same }
  | inr (inl lt) ↦ absurd (none_before sample m blocks one other first next lt)
  | inr (inr lt) ↦ absurd (none_before sample m blocks other one next first lt)
]
