-- The pairs of cells, by the indices of the two in a map.
use Rattle.std.proofs.Common.{◌≡◌, ◌<◌, ◌≤◌, ℕ, ◌+◌, List, length, get_or, refl, ap, sym, ◌∙◌, arith, true, false}
use Rattle.std.proofs.lemmas.Int.{ints}
use Rattle.std.specs.Prelude.{pos, ◌+ℤ◌, nat_lt, Option, Some, None, option_map}
use borrow.Author.Tests.{lt-ltb}
use mathlib.Core.Bool.{false≢true}
use Rattle.cells.specs.declared.place.At.{At}
use Rattle.cells.specs.declared.place.Axis.{Axis}
use Rattle.cells.specs.declared.place.Axis.TheVariants.{X, Y, F}
use Rattle.cells.specs.declared.place.Size.{Size}
use Rattle.cells.specs.Neighbours.{unit_step}
use Rattle.cells.specs.Cells.{Cells}
use Rattle.cells.specs.Distances.{distance}
use Rattle.cells.specs.Places.{index_in, plus, raster_index, spot}
use Rattle.cells.proofs.Raster.{index_of_spot, index_parts}
use Rattle.boxes.specs.Pairs.{AreCounts, IsPair, has_next}
use Rattle.boxes.specs.Raster.{stride}
use Rattle.boxes.proofs.Cells.{counts_f, counts_x, counts_y}
use Rattle.boxes.proofs.Indices.{stride_below}
use Rattle.map_canvas.specs.Maps.{IsMap, SourceMap, map_at, source_at}
use Rattle.costs.specs.Costs.{pair_at, seam_of}
use Rattle.costs.proofs.Copies.{seam_of_copies}

one_on : (n : ℕ) → pos n +ℤ pos 1 ≡ pos (n + 1)
one_on n = omega (arith, ints)

none_on : (n : ℕ) → pos n +ℤ pos 0 ≡ pos n
none_on n = omega (arith, ints)

-- the next cell along an axis comes so many on
next_index : (size : Size) (axis : Axis) (x y f : ℕ) → IsPair size axis x y f → index_in size (plus (spot x y f) (unit_step axis)) ≡ Some (raster_index size x y f + stride size axis)
next_index size X x y f pair =
    let at = counts_x size x y f pair in
    ap (index_in size) (λ k. record { x = one_on x k; y = none_on y k; f = none_on f k }) ∙ index_of_spot size (x + 1) y f at.column at.row at.frame ∙ ap Some (omega arith)
next_index size Y x y f pair =
    let at = counts_y size x y f pair in
    ap (index_in size) (λ k. record { x = none_on x k; y = one_on y k; f = none_on f k }) ∙ index_of_spot size x (y + 1) f at.column at.row at.frame ∙ ap Some (omega arith)
next_index size F x y f pair =
    let at = counts_f size x y f pair in
    ap (index_in size) (λ k. record { x = none_on x k; y = none_on y k; f = one_on f k }) ∙ index_of_spot size x y (f + 1) at.column at.row at.frame ∙ ap Some (omega arith)

-- a cell and the next one along an axis, by the index and the step that the code has
pub record HasPair (m : SourceMap) (axis : Axis) (x y f i step : ℕ) : Type 0 where
  pub pair : IsPair m.size axis x y f
  pub index : i ≡ raster_index m.size x y f
  pub apart : step ≡ stride m.size axis
  pub below : i + step < length m.sources

pub pair_of_row : (m : SourceMap) (size : Size) (axis : Axis) (x y f n k pairs start step : ℕ) → IsMap m → size ≡ m.size → AreCounts m.size x y f → x + n ≤ m.size.w → k < n → has_next size axis (x + k) y f ≡ nat_lt k pairs → k < pairs
    → start ≡ raster_index size x y f → step ≡ stride size axis → HasPair m axis (x + k) y f (start + k) step
pair_of_row m size axis x y f n k pairs start step map same at room lt each has from is =
    let pair : IsPair m.size axis (x + k) y f = record {
      counts = record { column = omega arith; row = at.row; frame = at.frame };
      next = ap (λ (s : Size). has_next s axis (x + k) y f) (sym same) ∙ each ∙ lt-ltb k pairs has;
    } in
    let first : start ≡ raster_index m.size x y f = from ∙ ap (λ (s : Size). raster_index s x y f) same in
    let apart : step ≡ stride m.size axis = is ∙ ap (λ (s : Size). stride s axis) same in
    record { pair = pair; index = omega (arith, first); apart = apart; below = omega (arith, first, apart, map.count, stride_below m.size axis (x + k) y f pair) }

-- the cost of a pair by the sources of the two
pub pair_by_index : (d : At → At → ℕ) (m : SourceMap) (sources : List (Option At)) (axis : Axis) (x y f i step : ℕ) → HasPair m axis x y f i step → sources ≡ m.sources
    → seam_of d axis (get_or sources i None) (get_or sources (i + step) None) ≡ pair_at d (map_at m) axis (spot x y f)
pair_by_index d m sources axis x y f i step has same =
    let are = has.pair.counts in
    let one = (λ k. get_or (same k) (has.index k) None) ∙ sym (ap (source_at m.sources) (index_of_spot m.size x y f are.column are.row are.frame)) in
    let other = (λ k. get_or (same k) (has.index k + has.apart k) None) ∙ sym (ap (source_at m.sources) (next_index m.size axis x y f has.pair)) in
    λ k. seam_of d axis (one k) (other k)

-- a cell without a next one is outside with the place one step on
no_index : (size : Size) (axis : Axis) (x y f : ℕ) → has_next size axis x y f ≡ false → index_in size (plus (spot x y f) (unit_step axis)) ≡ None
no_index size axis x y f none = by (index_in size (plus (spot x y f) (unit_step axis))) refl
  where
    inside : (axis : Axis) (i : ℕ) → index_in size (plus (spot x y f) (unit_step axis)) ≡ Some i → has_next size axis x y f ≡ true
    inside X i e = let at = index_parts size (plus (spot x y f) (unit_step X)) i e in lt-ltb (x + 1) size.w (omega (arith, ints, at.x_on.is, at.x_on.below))
    inside Y i e = let at = index_parts size (plus (spot x y f) (unit_step Y)) i e in lt-ltb (y + 1) size.h (omega (arith, ints, at.y_on.is, at.y_on.below))
    inside F i e = let at = index_parts size (plus (spot x y f) (unit_step F)) i e in lt-ltb (f + 1) size.f (omega (arith, ints, at.f_on.is, at.f_on.below))

    by : (o : Option ℕ) → index_in size (plus (spot x y f) (unit_step axis)) ≡ o → index_in size (plus (spot x y f) (unit_step axis)) ≡ None
    by None e = e
    by (Some i) e = absurd (false≢true (sym none ∙ inside axis i e))

-- such a cell costs nothing
pub no_pair : (d : At → At → ℕ) (m : SourceMap) (axis : Axis) (x y f : ℕ) → has_next m.size axis x y f ≡ false → pair_at d (map_at m) axis (spot x y f) ≡ 0
no_pair d m axis x y f none = ap (seam_of d axis (map_at m (spot x y f))) (ap (source_at m.sources) (no_index m.size axis x y f none)) ∙ last (map_at m (spot x y f))
  where
    last : (a : Option At) → seam_of d axis a None ≡ 0
    last (Some a) = refl
    last None = refl

-- nor does one whose source is the next one after that of the other
pub no_seam : (v : Cells) (axis : Axis) (a b : Option At) → b ≡ option_map (λ p. plus p (unit_step axis)) a → seam_of (distance v) axis a b ≡ 0
no_seam v axis None b follows = refl
no_seam v axis (Some p) b follows = ap (seam_of (distance v) axis (Some p)) follows ∙ seam_of_copies v axis p (plus p (unit_step axis)) refl
