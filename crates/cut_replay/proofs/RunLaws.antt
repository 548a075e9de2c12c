-- One record more at the end of a list, and what holds of each record.
use Rattle.std.proofs.Common.{◌≡◌, ◌+◌, ℕ, zero, suc, List, [], ◌∷◌, ◌++◌, take, refl, subst, arith}
use Rattle.std.proofs.lemmas.Option.{none-some, same_Some}
use Rattle.std.specs.Prelude.{Some, slice_get}
use Rattle.map_canvas.specs.Choices.{box_count, map_after}
use Rattle.map_canvas.specs.Maps.{SourceMap}
use Rattle.cut_check.specs.declared.record.CutRecord.{CutRecord}
use Rattle.cut_check.specs.Records.{box_cells}
use Rattle.cut_replay.specs.Replay.{EachOver, left_by}

pub left_more : (m : SourceMap) (cuts : List CutRecord) (cut : CutRecord) → left_by m (cuts ++ cut ∷ []) ≡ map_after (left_by m cuts) cut.placement cut.choice
left_more m [] cut = refl
left_more m (first ∷ cuts) cut = left_more (map_after m first.placement first.choice) cuts cut

pub each_more : (Holds : SourceMap → CutRecord → Type 0) (m : SourceMap) (cuts : List CutRecord) (cut : CutRecord) → EachOver Holds m cuts → Holds (left_by m cuts) cut → EachOver Holds m (cuts ++ cut ∷ [])
each_more Holds m [] cut each holds = (holds, tt)
each_more Holds m (first ∷ cuts) cut each holds = (each.0, each_more Holds (map_after m first.placement first.choice) cuts cut each.1 holds)

-- what holds of each record holds of the one with a number
pub each_at : (Holds : SourceMap → CutRecord → Type 0) (m : SourceMap) (cuts : List CutRecord) (n : ℕ) (cut : CutRecord) → EachOver Holds m cuts → slice_get cuts n ≡ Some cut → Holds (left_by m (take n cuts)) cut
each_at Holds m [] n cut each at = absurd (none-some cut at)
each_at Holds m (first ∷ cuts) zero cut each at = subst (Holds m) (same_Some first cut at) each.0
each_at Holds m (first ∷ cuts) (suc n) cut each at = each_at Holds (map_after m first.placement first.choice) cuts n cut each.1 at

-- what holds of each record and its map follows where it follows for one
pub each_weaker : (Holds Also : SourceMap → CutRecord → Type 0) → ((m : SourceMap) (cut : CutRecord) → Holds m cut → Also m cut) → (m : SourceMap) (cuts : List CutRecord) → EachOver Holds m cuts → EachOver Also m cuts
each_weaker Holds Also one m [] each = tt
each_weaker Holds Also one m (cut ∷ cuts) each = (one m cut each.0, each_weaker Holds Also one (map_after m cut.placement cut.choice) cuts each.1)

pub cells_more : (cuts : List CutRecord) (cut : CutRecord) → box_cells (cuts ++ cut ∷ []) ≡ box_cells cuts + box_count cut.placement
cells_more [] cut = omega arith
cells_more (first ∷ cuts) cut = omega (arith, cells_more cuts cut)
