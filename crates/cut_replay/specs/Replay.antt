-- A reader has to trust this file. What cut records leave, put in one after another. (Own.)
use Rattle.std.specs.Prelude.{◌≡◌, ◌⊎◌, ◌≤◌, List, [], ◌∷◌, length, take, All, Some, slice_get, Result, Ok, Err}
use Rattle.cells.specs.declared.place.At.{At}
use Rattle.cells.specs.declared.place.Size.{Size}
use Rattle.cells.specs.Boxes.{HasCells, IsInBox}
use Rattle.cells.specs.Cells.{Cells, IsVolume}
use Rattle.cells.specs.Distances.{distance}
use Rattle.cells.specs.Places.{cell_count}
use Rattle.map_canvas.specs.Canvases.{IsKept}
use Rattle.map_canvas.specs.Choices.{Fits, map_after}
use Rattle.map_canvas.specs.Maps.{IsMap, SourceMap, map_at}
use Rattle.boxes.specs.Pairs.{pair_count}
use Rattle.costs.specs.Lawful.{IsLeastChoice}
use Rattle.cut_check.specs.declared.record.CutRecord.{CutRecord}
use Rattle.cut_check.specs.Records.{CutStands, IsFirstCutFault, box_cells, setting}
use Rattle.cut_replay.specs.declared.records.Broken.{Broken}
use Rattle.limits.specs.declared.bounds.TheConstants.{MOST_BOX_CELLS}

-- the map that records leave
abbrev pub left_by : SourceMap → List CutRecord → SourceMap
left_by m [] = m
left_by m (cut ∷ cuts) = left_by (map_after m cut.placement cut.choice) cuts

-- something holds of each record and the map that the records before it leave
abbrev pub EachOver : (SourceMap → CutRecord → Type 0) → SourceMap → List CutRecord → Type 0
EachOver Holds m [] = Unit {0}
EachOver Holds m (cut ∷ cuts) =
    Holds m cut × EachOver Holds (map_after m cut.placement cut.choice) cuts

-- each record stands over that map
abbrev pub EachStands : Cells → SourceMap → List CutRecord → Type 0
EachStands sample = EachOver (λ m cut. CutStands (setting m sample []) cut)

-- each choice is admissible there, and no admissible choice leaves a smaller total
abbrev pub EachLeast : Cells → SourceMap → List CutRecord → Type 0
EachLeast sample = EachOver (λ m cut. IsLeastChoice (distance sample) m cut.placement cut.choice)

-- a fixed cell, which is kept or outside the box, has the source that it had
abbrev pub KeepsFixed : SourceMap → CutRecord → Type 0
KeepsFixed m cut =
    (p : At) → IsKept m cut.placement.rect p ⊎ (IsInBox cut.placement.rect p → ⊥)
    → map_at (map_after m cut.placement cut.choice) p ≡ map_at m p

-- the box has a cell, and the record an entry for each of its cells and a flow for each of its pairs
pub record IsFormed (cut : CutRecord) : Type 0 where
  pub cells : HasCells cut.placement.rect.size
  pub choice : length cut.choice ≡ cell_count cut.placement.rect.size
  pub flows : length cut.flows ≡ pair_count cut.placement.rect.size

-- records as a file of them holds: each box lies in an output of this size and its new sources in
-- one part of the sample, and the boxes don't have too many cells
pub record AreFileRecords (output : Size) (sample : Cells) (cuts : List CutRecord) : Type 0 where
  pub fit : All (λ cut. Fits output sample cut.placement) cuts
  pub formed : All IsFormed cuts
  pub cells : box_cells cuts ≤ MOST_BOX_CELLS

-- the first record that doesn't stand over the map that the records before it leave, and its first
-- fault
pub record IsFirstBroken (sample : Cells) (m : SourceMap) (cuts : List CutRecord)
    (broken : Broken) : Type 0 where
  pub before : EachStands sample m (take broken.number cuts)
  pub cut : CutRecord
  pub at : slice_get cuts broken.number ≡ Some cut
  pub breaks : IsFirstCutFault (setting (left_by m (take broken.number cuts)) sample []) cut
      broken.fault

-- what the answer of a replay means, and the map that it leaves
abbrev pub Replays :
    Cells → SourceMap → List CutRecord → SourceMap → Result (Unit {0}) Broken → Type 0
Replays sample m cuts left (Ok _) = EachStands sample m cuts × (left ≡ left_by m cuts)
Replays sample m cuts left (Err broken) =
    IsFirstBroken sample m cuts broken × (left ≡ left_by m (take broken.number cuts))

-- where each record stands, each choice is least
abbrev pub StandingIsLeast : Type 0
StandingIsLeast =
    (sample : Cells) (m : SourceMap) (cuts : List CutRecord) → EachStands sample m cuts
    → EachLeast sample m cuts

-- and each placement fits
abbrev pub StandingFits : Type 0
StandingFits =
    (sample : Cells) (m : SourceMap) (cuts : List CutRecord) → EachStands sample m cuts
    → All (λ cut. Fits m.size sample cut.placement) cuts

-- and each fixed cell keeps its source
abbrev pub StandingKeeps : Type 0
StandingKeeps =
    (sample : Cells) (m : SourceMap) (cuts : List CutRecord) → IsVolume sample → IsMap m
    → EachStands sample m cuts → EachOver KeepsFixed m cuts

-- and what is left is a map
abbrev pub StandingLeavesMap : Type 0
StandingLeavesMap =
    (sample : Cells) (m : SourceMap) (cuts : List CutRecord) → IsVolume sample → IsMap m
    → EachStands sample m cuts → IsMap (left_by m cuts)

-- a broken record doesn't stand
abbrev pub BrokenStandsNot : Type 0
BrokenStandsNot =
    (sample : Cells) (m : SourceMap) (cuts : List CutRecord) (broken : Broken)
    → IsFirstBroken sample m cuts broken → EachStands sample m cuts → ⊥
