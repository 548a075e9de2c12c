-- What is outside a box, and the box of the whole output, whose window sum is the total.
use Rattle.std.proofs.Common.{◌≡◌, ℕ, refl, sym, ap, ◌∙◌, arith}
use Rattle.std.proofs.lemmas.Int.{ints}
use Rattle.std.specs.Prelude.{ℤ, pos, ◌+ℤ◌, ◌-ℤ◌, Bool, true, false, Option, Some, None, is_some, if◌then◌else◌}
use mathlib.Core.Bool.{false≢true}
use Rattle.cells.specs.declared.place.At.{At}
use Rattle.cells.specs.declared.place.Size.{Size}
use Rattle.cells.specs.declared.place.Box3.{Box3}
use Rattle.cells.specs.Places.{index_in, minus, plus, spot}
use Rattle.cells.specs.Boxes.{IsInBox}
use Rattle.map_canvas.specs.Maps.{SourceMap, map_at, source_at}
use Rattle.boxes.specs.Sums.{sum_box}
use Rattle.boxes.specs.Pairs.{in_box}
use Rattle.costs.specs.Costs.{map_within, pairs_at, pairs_of_box, total_of, window_of}

-- outside a box its part of a map has nothing
pub outside_none : (rect : Box3) (m : At → Option At) (p : At) → (IsInBox rect p → ⊥) → map_within rect m p ≡ None
outside_none rect m p out = by (in_box rect p) refl
  where
    by : (b : Bool) → in_box rect p ≡ b → map_within rect m p ≡ None
    by true is = absurd (out is)
    by false is = ap (λ b. if b then m p else None) is

-- the box of all cells of a size
abbrev pub whole : Size → Box3
whole size = record { corner = spot 0 0 0; size = size }

from_first : (p : At) → minus p (spot 0 0 0) ≡ p
from_first p = λ k. record { x = same p.x k; y = same p.y k; f = same p.f k }
  where
    same : (z : ℤ) → z -ℤ pos 0 ≡ z
    same z = omega (arith, ints)

to_first : (p : At) → plus (spot 0 0 0) p ≡ p
to_first p = λ k. record { x = same p.x k; y = same p.y k; f = same p.f k }
  where
    same : (z : ℤ) → pos 0 +ℤ z ≡ z
    same z = omega (arith, ints)

pub no_index : (o : Option ℕ) → is_some o ≡ false → o ≡ None
no_index None none = refl
no_index (Some i) none = absurd (false≢true (sym none))

-- all of a map is in it
within_whole : (m : SourceMap) (p : At) → map_within (whole m.size) (map_at m) p ≡ map_at m p
within_whole m p = by (in_box (whole m.size) p) refl
  where
    by : (b : Bool) → in_box (whole m.size) p ≡ b → map_within (whole m.size) (map_at m) p ≡ map_at m p
    by true is = ap (λ b. if b then map_at m p else None) is
    by false is =
        let none : index_in m.size p ≡ None = ap (index_in m.size) (sym (from_first p)) ∙ no_index _ is in
        ap (λ b. if b then map_at m p else None) is ∙ sym (ap (source_at m.sources) none)

pub window_whole : (d : At → At → ℕ) (m : SourceMap) → window_of d (whole m.size) (map_at m) ≡ total_of d m.size (map_at m)
window_whole d m = λ k. sum_box m.size (λ x y f. pairs_at d (λ p. within_whole m p k) (to_first (spot x y f) k))

-- over the box of all cells, the pairs are those of the total
pub pairs_whole : (d : At → At → ℕ) (size : Size) (m : At → Option At) → pairs_of_box d m (whole size) ≡ total_of d size m
pairs_whole d size m = λ k. sum_box size (λ x y f. pairs_at d m (to_first (spot x y f) k))
