-- A canvas with no cell filled stands over each sample of as many samples a cell, and the map of a canvas with no cell unfilled is full.
use Rattle.std.proofs.Common.{◌≡◌, ℕ, zero, suc, ◌<◌, ◌≤◌, Bool, true, false, cond, length, get_or, refl, ap, sym, ◌∙◌, subst, arith}
use Rattle.std.proofs.lemmas.Bool.{ltb-false}
use Rattle.std.specs.Prelude.{Option, Some, None, IsSome, is_none, nat_lt, option_map, replicate, unwrap_or}
use Rattle.std.specs.List.{position_or_len}
use Rattle.cells.specs.declared.place.At.{At}
use Rattle.cells.specs.declared.place.Size.{Size}
use Rattle.cells.specs.Places.{cell_count, index_in, place_of}
use Rattle.cells.specs.Cells.{Cells, blank}
use Rattle.cells.proofs.Raster.{has_index, index_below}
use Rattle.map_canvas.specs.Maps.{SourceMap, IsFull, IsMap, empty_map, first_unfilled, map_at, source_at}
use Rattle.map_canvas.specs.Canvases.{StandsOver}
use Rattle.map_canvas.proofs.AfterLaws.{filled_of}
use Rattle.map_canvas.proofs.Fronts.{front_passes}

none_or_some : {A : Type 0} (a : A) → None ≡ Some a → ⊥
none_or_some a e = cc

one_item : {A : Type 0} (x : A) (n i : ℕ) → get_or (replicate n x) i x ≡ x
one_item x zero i = refl
one_item x (suc n) zero = refl
one_item x (suc n) (suc i) = one_item x n i

-- a map with no source has none at any place
pub map_at-empty : (size : Size) (p : At) → map_at (empty_map size) p ≡ None
map_at-empty size p = by (index_in size p)
  where
    by : (o : Option ℕ) → source_at (replicate (cell_count size) None) o ≡ None
    by None = refl
    by (Some i) = one_item None (cell_count size) i

pub empty_stands : (size : Size) (k : ℕ) (sample : Cells) → k ≡ sample.k → StandsOver (record { map = empty_map size; picture = blank size k }) sample
empty_stands size k sample same = record {
  samples = same;
  over = λ p from e. absurd (none_or_some from (sym (map_at-empty size p) ∙ e));
  bytes = λ p from e. absurd (none_or_some from (sym (map_at-empty size p) ∙ e));
}

-- where no cell is the first unfilled one, each cell is filled
pub whole_is_full : (m : SourceMap) → IsMap m → first_unfilled m ≡ None → IsFull m
whole_is_full m is whole p inside = subst IsSome (sym source) (filled_of (get_or m.sources i None) (front_passes is_none m.sources i None below))
  where
    i : ℕ
    i = unwrap_or (index_in m.size p) 0

    at : index_in m.size p ≡ Some i
    at = has_index (index_in m.size p) 0 inside

    source : map_at m p ≡ get_or m.sources i None
    source = ap (source_at m.sources) at

    reached_by : (b : Bool) → nat_lt (position_or_len is_none m.sources) (length m.sources) ≡ b → option_map (place_of m.size) (cond b (Some (position_or_len is_none m.sources)) None) ≡ None
        → length m.sources ≤ position_or_len is_none m.sources
    reached_by true e absent = absurd (none_or_some (place_of m.size (position_or_len is_none m.sources)) (sym absent))
    reached_by false e absent = ltb-false (position_or_len is_none m.sources) (length m.sources) e

    reached : length m.sources ≤ position_or_len is_none m.sources
    reached = reached_by (nat_lt (position_or_len is_none m.sources) (length m.sources)) refl whole

    below : i < position_or_len is_none m.sources
    below = omega (arith, reached, is.count, index_below m.size p i at)
