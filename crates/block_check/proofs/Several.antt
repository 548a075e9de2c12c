-- What holds of each of several records, over the map that those before it leave.
use Rattle.std.proofs.Common.{◌≡◌, ◌<◌, ℕ, zero, suc, List, [], ◌∷◌, take, subst, arith}
use Rattle.std.proofs.lemmas.Option.{none-some, same_Some}
use Rattle.std.specs.Prelude.{Some, slice_get}
use Rattle.map_canvas.specs.Maps.{SourceMap}
use Rattle.block_check.specs.declared.block.BlockRecord.{BlockRecord}
use Rattle.block_check.specs.Blocks.{after_block}
use Rattle.block_check.specs.Several.{EachBlockOver, EachStandingIsLeast, left_by_blocks}
use Rattle.block_check.proofs.Standing.{standing_is_least}

-- what holds of each record holds of the one with a number
pub each_at : (Holds : SourceMap → BlockRecord → Type 0) (m : SourceMap) (blocks : List BlockRecord) (n : ℕ) (block : BlockRecord) → EachBlockOver Holds m blocks → slice_get blocks n ≡ Some block → Holds (left_by_blocks m (take n blocks)) block
each_at Holds m [] n block each at = absurd (none-some block at)
each_at Holds m (first ∷ blocks) zero block each at = subst (Holds m) (same_Some first block at) each.0
each_at Holds m (first ∷ blocks) (suc n) block each at = each_at Holds (after_block m first) blocks n block each.1 at

-- and what holds of each of the first n holds of one before number n
pub each_before : (Holds : SourceMap → BlockRecord → Type 0) (m : SourceMap) (blocks : List BlockRecord) (i n : ℕ) (block : BlockRecord) → EachBlockOver Holds m (take n blocks) → i < n → slice_get blocks i ≡ Some block → Holds (left_by_blocks m (take i blocks)) block
each_before Holds m [] i n block each lt at = absurd (none-some block at)
each_before Holds m (first ∷ blocks) i zero block each lt at = absurd (omega arith)
each_before Holds m (first ∷ blocks) zero (suc n) block each lt at = subst (Holds m) (same_Some first block at) each.0
each_before Holds m (first ∷ blocks) (suc i) (suc n) block each lt at = each_before Holds (after_block m first) blocks i n block each.1 (omega arith) at

-- where each record stands, each boundary is least
pub each_least : EachStandingIsLeast
each_least sample m [] stand = tt
each_least sample m (block ∷ blocks) stand = (standing_is_least m sample block stand.0, each_least sample (after_block m block) blocks stand.1)
