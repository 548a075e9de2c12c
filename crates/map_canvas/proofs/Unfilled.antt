-- The first unfilled cell is inside, and there is none exactly where the map is full.
use Rattle.std.proofs.Common.{◌≡◌, ℕ, ◌<◌, length, get_or, refl, ap, sym, ◌∙◌, subst, Bool, true, false, cond}
use borrow.Author.Tests.{ltb-true}
use Rattle.std.specs.Prelude.{Some, None, IsSome, IfSome, is_none, nat_lt, not, option_map}
use Rattle.std.specs.List.{position_or_len}
use mathlib.Core.Bool.{false≢true}
use Rattle.cells.specs.Places.{IsInside, place_of}
use Rattle.cells.proofs.Raster.{place_at}
use Rattle.map_canvas.specs.Maps.{IsFilled, IsFull, IsMap, SourceMap, first_unfilled}
use Rattle.map_canvas.proofs.AfterLaws.{source_of_place}
use Rattle.map_canvas.proofs.Fronts.{front_stops}

module _ (m : SourceMap) (is : IsMap m) where
  inside_at : (i : ℕ) → i < length m.sources → IsInside m.size (place_of m.size i)
  inside_at i lt = subst IsSome (sym (place_at m.size i is.small.axes.w.0 is.small.axes.h.0 (subst (λ k. i < k) is.count lt))) refl

  pub first_inside : IfSome (first_unfilled m) (IsInside m.size)
  first_inside = by (nat_lt (position_or_len is_none m.sources) (length m.sources)) refl
    where
      by : (b : Bool) → nat_lt (position_or_len is_none m.sources) (length m.sources) ≡ b → IfSome (option_map (place_of m.size) (cond b (Some (position_or_len is_none m.sources)) None)) (IsInside m.size)
      by true e = inside_at (position_or_len is_none m.sources) (ltb-true (position_or_len is_none m.sources) (length m.sources) e)
      by false e = tt

  pub full_is_whole : IsFull m → first_unfilled m ≡ None
  full_is_whole full = by (nat_lt (position_or_len is_none m.sources) (length m.sources)) refl
    where
      by : (b : Bool) → nat_lt (position_or_len is_none m.sources) (length m.sources) ≡ b → option_map (place_of m.size) (cond b (Some (position_or_len is_none m.sources)) None) ≡ None
      by false e = refl
      by true e =
          let lt : position_or_len is_none m.sources < length m.sources = ltb-true (position_or_len is_none m.sources) (length m.sources) e in
          let filled : IsFilled m (place_of m.size (position_or_len is_none m.sources)) = full (place_of m.size (position_or_len is_none m.sources)) (inside_at (position_or_len is_none m.sources) lt) in
          let some : IsSome (get_or m.sources (position_or_len is_none m.sources) None) = subst IsSome (source_of_place m is (position_or_len is_none m.sources) lt) filled in
          absurd (false≢true (sym (ap not some) ∙ front_stops is_none m.sources None lt))
