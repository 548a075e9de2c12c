-- What a placement that fits gives.
use Rattle.std.proofs.Common.{refl, Bool, true, false}
use Rattle.std.specs.Prelude.{◌↔◌, IsTrue, MatchBool}
use mathlib.Core.Bool.{false≢true}
use Rattle.cells.specs.Boxes.{HasCells, HoldsBox}
use Rattle.cells.specs.Cells.{Cells, Holds, IsVolume}
use Rattle.cells.proofs.BoxLaws.{box_small}
use Rattle.map_canvas.specs.declared.canvas.Placement.{Placement}
use Rattle.map_canvas.specs.Choices.{Fits}
use Rattle.map_canvas.specs.Maps.{IsMap, SourceMap}
use Rattle.cut_check.specs.Steps.{LiesOver, LiesIn}

pub fits_of : (m : SourceMap) (sample : Cells) (placement : Placement) → LiesOver m sample placement → Fits m.size sample placement
fits_of m sample placement over = record { some = over.lies.some; inside = over.lies.inside; sources = over.sources }

lies_in : (m : SourceMap) (placement : Placement) → IsMap m → HasCells placement.rect.size → HoldsBox m.size placement.rect.corner placement.rect.size → LiesIn m placement
lies_in m placement is some inside = record { map = is; some = some; small = box_small m.size placement.rect.corner placement.rect.size is.small some inside; inside = inside }

-- a box in the output fits if its sources are in the sample
pub fits_if : (m : SourceMap) (sample : Cells) (placement : Placement) (r : Bool) → IsMap m → IsVolume sample → HasCells placement.rect.size → HoldsBox m.size placement.rect.corner placement.rect.size
    → (IsTrue r ↔ Holds sample placement.from placement.rect.size) → MatchBool r (LiesOver m sample placement) (Fits m.size sample placement → ⊥)
fits_if m sample placement true is volume some inside sources = record { lies = lies_in m placement is some inside; volume = volume; sources = sources.0 refl }
fits_if m sample placement false is volume some inside sources = λ fits. absurd (false≢true (sources.1 fits.sources))
