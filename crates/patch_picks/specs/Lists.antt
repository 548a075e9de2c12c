-- To be trusted: lists of placements, in their order. (Kwatra et al. 2003 try all offsets of the
-- sample; which offsets, and in which order, is own.)
use Rattle.std.specs.Prelude.{◌+◌, ◌-◌, ◌/◌, ℕ, pos, List, [], ◌∷◌, map}
use Rattle.std.specs.List.{enumerate_from, flat_map}
use Rattle.cells.specs.declared.place.At.{At}
use Rattle.cells.specs.declared.place.Size.{Size}
use Rattle.cells.specs.declared.place.Box3.{Box3}
use Rattle.cells.specs.Cells.{Cells, sizes_of}
use Rattle.cells.specs.Places.{IsInside, places}
use Rattle.cells.specs.SizeLists.{stock_place}
use Rattle.boxes.specs.declared.spans.Span.{Span}
use Rattle.boxes.specs.Spans.{at_least_0, laid_on}
use Rattle.map_canvas.specs.declared.canvas.Placement.{Placement}
use Rattle.map_canvas.specs.Choices.{laid_from}
use Rattle.patch_picks.specs.declared.candidates.Candidates.{Candidates}
use Rattle.patch_picks.specs.declared.candidates.Candidates.TheVariants.{One, Laid, Fits}

-- the placement with these spans along X, Y and F
abbrev pub placed : Span → Span → Span → Placement
placed x y f = record {
  rect = record {
    corner = record { x = pos x.corner; y = pos y.corner; f = pos f.corner };
    size = record { w = x.len; h = y.len; f = f.len };
  };
  from = record { x = pos x.from; y = pos y.from; f = pos f.from };
}

-- a whole part of this size, laid so that its place c comes to q, as far as it is inside the output
abbrev pub laid : Size → Size → At → At → Placement
laid output part q c = placed
    (laid_on output.w part.w (at_least_0 q.x) (at_least_0 c.x))
    (laid_on output.h part.h (at_least_0 q.y) (at_least_0 c.y))
    (laid_on output.f part.f (at_least_0 q.f) (at_least_0 c.f))

-- the first half of a part on each axis; of an odd number, with the middle
abbrev pub first_half : Size → Size
first_half part = record { w = (part.w + 1) / 2; h = (part.h + 1) / 2; f = (part.f + 1) / 2 }

-- a whole part, laid so that a place c of its first half comes to q, for each c in raster order
abbrev pub laid_list : Size → At → Size → List Placement
laid_list output q part = map (laid output part q) (places (first_half part))

-- how many places a box of this size may have in a part, on each axis
abbrev pub room : Size → Size → Size
room part inner = record {
  w = part.w + 1 - inner.w;
  h = part.h + 1 - inner.h;
  f = part.f + 1 - inner.f;
}

-- a box, laid from each place of a part where it fits, in raster order
abbrev pub fit_list : Box3 → Size → List Placement
fit_list rect part = map (laid_from rect) (places (room part rect.size))

-- a placement from a place of the part with this number, as one from the place of the joined volume
abbrev pub from_part : List Size → ℕ → Placement → Placement
from_part sizes part placement = record placement { from = stock_place sizes part placement.from }

-- the lists of these parts one after another, of which the first has this number among all sizes
abbrev pub lists_from : (Size → List Placement) → List Size → ℕ → List Size → List Placement
lists_from list sizes number parts =
    flat_map (λ part. map (from_part sizes part.0) (list part.1)) (enumerate_from number parts)

-- the lists of part 1, part 2 and so on, one after another
abbrev pub part_lists : (Size → List Placement) → Cells → List Placement
part_lists list sample = lists_from list (sizes_of sample) 1 (sizes_of sample)

-- the placements that candidates stand for, in an output of this size and of a sample
abbrev pub listed : Candidates → Size → Cells → List Placement
listed (One placement) output sample = placement ∷ []
listed (Laid q) output sample = part_lists (laid_list output q) sample
listed (Fits rect) output sample = part_lists (fit_list rect) sample

-- the cell that a laid part has to cover is a cell of the output
abbrev pub IsWithin : Candidates → Size → Type 0
IsWithin (One placement) output = Unit {0}
IsWithin (Laid q) output = IsInside output q
IsWithin (Fits rect) output = Unit {0}
