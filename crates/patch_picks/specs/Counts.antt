-- To be trusted: counts of the places and entries of parts, for walks over them. (Own.)
use Rattle.std.specs.Prelude.{◌≤◌, ◌<◌, ◌+◌, ◌*◌, ℕ, List, [], ◌∷◌, drop, length, map, take}
use Rattle.std.specs.List.{AllByRecursion}
use Rattle.limits.specs.declared.bounds.TheConstants.{GREATEST_AXIS, MOST_CELLS, MOST_PARTS}
use Rattle.cells.specs.declared.place.At.{At}
use Rattle.cells.specs.declared.place.Size.{Size}
use Rattle.cells.specs.Places.{HasAxes, cell_count, places}
use Rattle.boxes.specs.Spans.{at_least_0}
use Rattle.map_canvas.specs.declared.canvas.Placement.{Placement}
use Rattle.map_canvas.specs.Choices.{laid_from}
use Rattle.patch_picks.specs.declared.candidates.Candidates.{Candidates}
use Rattle.patch_picks.specs.declared.candidates.Candidates.TheVariants.{One, Laid, Fits}
use Rattle.patch_picks.specs.Lists.{first_half, laid, lists_from, room}

-- sizes whose places are counted by 32 bits: an axis may be 0 or one more than that of a part, and
-- there are at most eight times the cells of a volume
pub record FitsCount (size : Size) : Type 0 where
  pub w : size.w ≤ GREATEST_AXIS + 1
  pub h : size.h ≤ GREATEST_AXIS + 1
  pub f : size.f ≤ GREATEST_AXIS + 1
  pub cells : cell_count size ≤ 8 * MOST_CELLS

-- how many cells some parts have together
abbrev pub part_cells : List Size → ℕ
part_cells [] = 0
part_cells (size ∷ sizes) = cell_count size + part_cells sizes

-- the sizes of the parts of a volume
pub record AreVolumeParts (sizes : List Size) : Type 0 where
  pub few : length sizes ≤ MOST_PARTS
  pub axes : AllByRecursion HasAxes sizes
  pub cells : part_cells sizes ≤ MOST_CELLS

-- the place is below the size on each axis
pub record IsBelowSize (size : Size) (p : At) : Type 0 where
  pub x : at_least_0 p.x < size.w
  pub y : at_least_0 p.y < size.h
  pub f : at_least_0 p.f < size.f

-- the places of a part from which entries are made, as a size
abbrev pub steps_in : Candidates → Size → Size
steps_in (One placement) part = record { w = 1; h = 1; f = 1 }
steps_in (Laid q) part = first_half part
steps_in (Fits rect) part = room part rect.size

-- the entry that is made from one of them
abbrev pub made_from : Candidates → Size → Size → At → Placement
made_from (One placement) output part c = placement
made_from (Laid q) output part c = laid output part q c
made_from (Fits rect) output part c = laid_from rect c

-- the entries of a part
abbrev pub entries_in : Candidates → Size → Size → List Placement
entries_in list output part = map (made_from list output part) (places (steps_in list part))

-- the entries of all parts
abbrev pub all_entries : Candidates → Size → List Size → List Placement
all_entries list output sizes = lists_from (entries_in list output) sizes 1 sizes

-- the candidates have a list for each part
abbrev pub IsOverParts : Candidates → Type 0
IsOverParts (One placement) = ⊥
IsOverParts (Laid q) = Unit {0}
IsOverParts (Fits rect) = Unit {0}

-- the entries of the first n parts, and of those after them
abbrev pub entries_before : (Size → List Placement) → List Size → ℕ → List Placement
entries_before list sizes n = lists_from list sizes 1 (take n sizes)

abbrev pub entries_after : (Size → List Placement) → List Size → ℕ → List Placement
entries_after list sizes n = lists_from list sizes (n + 1) (drop n sizes)
