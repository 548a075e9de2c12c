-- To be trusted: the merge of pictures, aligned ones that are joined along least seams which keep
-- the marked cells. (Kwatra et al. 2003 merge two pictures by a graph cut; the marks are the
-- strokes of Agarwala et al. 2004; that pictures come one after another is own.)
--
-- The pictures are the parts of one volume, numbered from 1, all of one size. A map over them has
-- for each cell of the output nothing, or a place of one of them.
use Rattle.std.specs.Prelude.{◌≡◌, ◌+◌, ℕ, nat_eq, Bool, List, [], ◌∷◌, length, map, Option, Some, None, if◌then◌else◌}
use Rattle.std.specs.List.{AllByRecursion}
use Rattle.cells.specs.declared.place.At.{At}
use Rattle.cells.specs.declared.place.Size.{Size}
use Rattle.cells.specs.Cells.{Cells, sizes_of}
use Rattle.cells.specs.Distances.{distance}
use Rattle.cells.specs.Places.{cell_count, places, spot}
use Rattle.cells.specs.SizeLists.{stock_place}
use Rattle.map_canvas.specs.declared.canvas.Placement.{Placement}
use Rattle.map_canvas.specs.Choices.{map_after}
use Rattle.map_canvas.specs.Maps.{SourceMap, map_at}
use Rattle.least_choice.specs.Fewest.{IsFewestHeld}
use Rattle.photo_merge.specs.Marks.{earlier_marks, mark_at}

-- all pictures have the size of the first
abbrev pub AreOneSize : Cells → Type 0
AreOneSize pictures = AllByRecursion (λ size. size ≡ pictures.size) pictures.more

-- a place of a picture, by the picture's number
abbrev pub same_place : Cells → ℕ → At → At
same_place pictures number p = stock_place (sizes_of pictures) number p

-- each cell comes from the same place of the first picture
abbrev pub first_map : Cells → SourceMap
first_map pictures = record {
  size = pictures.size;
  sources = map (λ p. Some (same_place pictures 1 p)) (places pictures.size);
}

-- the source of a cell, but nothing where it is marked with a number
abbrev pub source_without : SourceMap → Cells → ℕ → At → Option At
source_without m marks number p = if nat_eq (mark_at marks p) number then None else map_at m p

-- the map without the cells that are marked with a number
abbrev pub without : SourceMap → Cells → ℕ → SourceMap
without m marks number = record {
  size = m.size;
  sources = map (source_without m marks number) (places m.size);
}

-- the whole output, laid from the same place of a picture
abbrev pub whole_from : Cells → ℕ → Size → Placement
whole_from pictures number size = record {
  rect = record { corner = spot 0 0 0; size = size };
  from = same_place pictures number (spot 0 0 0);
}

-- one more picture, of this number: over the map before without the cells that are marked with it,
-- of all choices between the map and the picture that keep the cells which are marked with an
-- earlier picture, the one of least total cost, and of these the one with the fewest cells of the
-- map
pub record MergesNext (pictures marks : Cells) (number : ℕ) (before after : SourceMap)
    : Type 0 where
  pub choice : List Bool
  pub count : length choice ≡ cell_count before.size
  pub fewest : IsFewestHeld (distance pictures) (without before marks number)
      (whole_from pictures number before.size) (earlier_marks marks before.size number) choice
  pub after_is : after
      ≡ map_after (without before marks number) (whole_from pictures number before.size) choice

-- the maps before the last one, from the one before it back to the first: one picture more from
-- each to the next
abbrev pub MapsLead : Cells → Cells → List SourceMap → SourceMap → Type 0
MapsLead pictures marks [] last = last ≡ first_map pictures
MapsLead pictures marks (before ∷ maps) last =
    MergesNext pictures marks (length maps + 2) before last × MapsLead pictures marks maps before

-- the map of the merge of all pictures: the last of as many as there are pictures
pub record IsMerge (pictures marks : Cells) (last : SourceMap) : Type 0 where
  pub maps : List SourceMap
  pub count : length maps ≡ length pictures.more
  pub lead : MapsLead pictures marks maps last
