-- To be trusted: the modes of growing, by the placements that may be taken, where q is the first
-- unfilled cell of the output. (Random placement and the matching of a whole patch and of a part
-- are those of Kwatra et al. 2003; the grid is own.)
use Rattle.std.specs.Prelude.{ℕ, pos, List, [], ◌∷◌, min}
use Rattle.cells.specs.declared.place.At.{At}
use Rattle.cells.specs.declared.place.Size.{Size}
use Rattle.cells.specs.declared.place.Box3.{Box3}
use Rattle.cells.specs.Cells.{Cells}
use Rattle.boxes.specs.Spans.{at_least_0, grid_on, patch_len, patch_corner}
use Rattle.map_canvas.specs.declared.canvas.Placement.{Placement}
use Rattle.patch_picks.specs.declared.mode.Mode.{Mode}
use Rattle.patch_picks.specs.declared.mode.Mode.TheVariants.{Grid, Random, Whole, Sub}
use Rattle.patch_picks.specs.Lists.{placed, part_lists, laid_list, fit_list}

-- the copy, in the grid that has q, of a part of this size
abbrev pub grid_placement : Size → Size → ℕ → At → Placement
grid_placement output part overlap q = placed
    (grid_on output.w part.w overlap (at_least_0 q.x))
    (grid_on output.h part.h overlap (at_least_0 q.y))
    (grid_on output.f part.f overlap (at_least_0 q.f))

-- on each axis the lesser of two sizes
abbrev pub lesser : Size → Size → Size
lesser a b = record { w = min a.w b.w; h = min a.h b.h; f = min a.f b.f }

-- on each axis the least of some sizes, of which one comes first
abbrev pub least_of : Size → List Size → Size
least_of size [] = size
least_of size (next ∷ more) = least_of (lesser size next) more

-- on each axis the least of the parts of a sample
abbrev pub least_part : Cells → Size
least_part sample = least_of sample.size sample.more

-- the size of a patch, and of a window of the output: on each axis the least of the side, the
-- output and all parts
abbrev pub window : ℕ → Size → Cells → Size
window side output sample = let least = least_part sample in record {
  w = patch_len output.w least.w side;
  h = patch_len output.h least.h side;
  f = patch_len output.f least.f side;
}

-- the box that a patch goes to
abbrev pub patch_box : Size → Cells → ℕ → ℕ → At → Box3
patch_box output sample side overlap q = let inner = window side output sample in record {
  corner = record {
    x = pos (patch_corner output.w inner.w overlap (at_least_0 q.x));
    y = pos (patch_corner output.h inner.h overlap (at_least_0 q.y));
    f = pos (patch_corner output.f inner.f overlap (at_least_0 q.f));
  };
  size = inner;
}

-- the candidates of a mode, in their order; the grid has part 1 alone
abbrev pub candidates : Mode → Size → Cells → At → List Placement
candidates (Grid overlap) output sample q = grid_placement output sample.size overlap q ∷ []
candidates Random output sample q = part_lists (laid_list output q) sample
candidates (Whole tol) output sample q = part_lists (laid_list output q) sample
candidates (Sub side overlap tol) output sample q =
    part_lists (fit_list (patch_box output sample side overlap q)) sample
