-- The marks of a map follow its cells, and what an empty canvas is.
use Rattle.std.proofs.Common.{◌≡◌, ◌<◌, ◌≤◌, ℕ, zero, suc, List, [], ◌∷◌, refl, ap, sym, arith}
use Rattle.std.proofs.lemmas.List.{length-replicate, map-set}
use Rattle.std.proofs.lemmas.List.Elements.{All-replicate}
use Rattle.std.specs.Prelude.{Option, Some, None, IfSome, is_none, map, replicate}
use Rattle.std.specs.List.{position_or_len}
use Rattle.cells.specs.declared.place.At.{At}
use Rattle.cells.specs.declared.place.Size.{Size}
use Rattle.cells.specs.Places.{IsSmall, cell_count, index_in}
use Rattle.cells.specs.Cells.{IsCell, blank, put_cell, set_nth}
use Rattle.cells.proofs.PartLaws.{one_part}
use Rattle.map_canvas.specs.Maps.{SourceMap, IsSource, empty_map, with_source}
use Rattle.map_canvas.specs.Canvases.{IsCanvas, IsFilledPrefix, mark_of, filled_marks}

map-set_nth : {X Y : Type 0} (f : X → Y) (xs : List X) (i : Option ℕ) (x : X) → set_nth (map f xs) i (f x) ≡ map f (set_nth xs i x)
map-set_nth f xs None x = refl
map-set_nth f xs (Some i) x = sym (map-set f xs i x)

marks_none : (k n : ℕ) → map (mark_of k) (replicate n None) ≡ replicate n (replicate k 0)
marks_none k zero = refl
marks_none k (suc n) = ap (λ marks. replicate k 0 ∷ marks) (marks_none k n)

pub marks_empty : (size : Size) (k : ℕ) → filled_marks (empty_map size) k ≡ blank size k
marks_empty size k = λ i. record { size = size; more = []; k = k; cells = marks_none k (cell_count size) i }

pub marks_with : (m : SourceMap) (k : ℕ) (p from : At) → put_cell (filled_marks m k) p (replicate k 1) ≡ filled_marks (with_source m p from) k
marks_with m k p from = λ i. record { size = m.size; more = []; k = k; cells = map-set_nth (mark_of k) m.sources (index_in m.size p) (Some from) i }

-- a canvas with no cell filled
pub empty_is_canvas : (size : Size) (k : ℕ) → IsSmall size → (1 ≤ k) × (k ≤ 6) → IsCanvas (record { map = empty_map size; picture = blank size k })
empty_is_canvas size k small samples = record {
  map = record {
    small = small;
    count = length-replicate (cell_count size) None;
    sources = All-replicate (λ source. IfSome source IsSource) (cell_count size) None tt;
  };
  picture = record {
    small = small;
    parts = one_part size small;
    samples = samples;
    count = length-replicate (cell_count size) (replicate k 0);
    cells = All-replicate (IsCell k) (cell_count size) (replicate k 0) (record { samples = length-replicate k 0; bytes = All-replicate (λ b. b < 256) k 0 (omega arith) });
  };
  size = refl;
  part = refl;
}

pub empty_front : (size : Size) → IsFilledPrefix (empty_map size) 0
empty_front size = by (cell_count size)
  where
    by : (n : ℕ) → 0 ≡ position_or_len (is_none {T = At}) (replicate n None)
    by zero = refl
    by (suc n) = refl
