-- The map without the cells marked with a number, and the marks of earlier pictures.
use Rattle.std.proofs.Common.{◌≡◌, ◌≢◌, ℕ, ◌<◌, Bool, true, false, get_or, length, refl, ap, sym, ◌∙◌, subst, arith}
use Rattle.std.proofs.Common.{eq-eqb, eqb-true}
use Rattle.std.proofs.lemmas.Bool.{lt-ltb, ltb-true}
use Rattle.std.proofs.lemmas.List.FromFn.{get_or-map-range_with_len, length-map-range_with_len}
use Rattle.std.specs.Prelude.{nat_eq, nat_lt, ◌&&◌, Some, None, IfSome, if◌then◌else◌}
use mathlib.Core.Bool.{false≢true}
use Rattle.cells.specs.declared.place.At.{At}
use Rattle.cells.specs.declared.place.Size.{Size}
use Rattle.cells.specs.Cells.{Cells}
use Rattle.cells.specs.Places.{IsInside, cell_count, place_of}
use Rattle.map_canvas.specs.Maps.{IsMap, IsOver, IsSource, SourceMap, map_at}
use Rattle.photo_merge.specs.Marks.{earlier_marks, is_earlier, mark_at}
use Rattle.photo_merge.specs.Merges.{source_without, without}
use Rattle.photo_merge.proofs.MapsOver.{IsPlaceAt, over_inside, over_is_map, over_source, source_is}

-- a test of two numbers that differ
pub differ : (a b : ℕ) → a ≢ b → nat_eq a b ≡ false
differ a b apart = by (nat_eq a b) refl
  where
    by : (t : Bool) → nat_eq a b ≡ t → nat_eq a b ≡ false
    by true e = absurd (apart (eqb-true a b e))
    by false e = e

module _ (m : SourceMap) (marks : Cells) (number : ℕ) where
  -- what a test of the mark gives
  says : (p : At) (t : Bool) → nat_eq (mark_at marks p) number ≡ t → source_without m marks number p ≡ (if t then None else map_at m p)
  says p t e = ap (λ b. if b then None else map_at m p) e

  pub cut_cell : (p : At) → IsInside m.size p → mark_at marks p ≡ number → map_at (without m marks number) p ≡ None
  cut_cell p inside is = over_inside (source_without m marks number) m.size p inside ∙ says p true (eq-eqb (mark_at marks p) number is)

  pub other_cell : (p : At) → IsInside m.size p → mark_at marks p ≢ number → map_at (without m marks number) p ≡ map_at m p
  other_cell p inside other = over_inside (source_without m marks number) m.size p inside ∙ says p false (differ (mark_at marks p) number other)

  source_of : (p from : At) → source_without m marks number p ≡ Some from → map_at m p ≡ Some from
  source_of p from e = by (nat_eq (mark_at marks p) number) refl
    where
      none_or_some : None ≡ Some from → ⊥
      none_or_some same = cc

      by : (t : Bool) → nat_eq (mark_at marks p) number ≡ t → map_at m p ≡ Some from
      by true is = absurd (none_or_some (sym (says p true is) ∙ e))
      by false is = sym (says p false is) ∙ e

  pub without_is_map : IsMap m → IsMap (without m marks number)
  without_is_map is = over_is_map (source_without m marks number) m.size is.small (λ p inside. by p (nat_eq (mark_at marks p) number) refl)
    where
      by : (p : At) (t : Bool) → nat_eq (mark_at marks p) number ≡ t → IfSome (source_without m marks number p) IsSource
      by p true e = subst (λ source. IfSome source IsSource) (sym (says p true e)) tt
      by p false e = subst (λ source. IfSome source IsSource) (sym (says p false e)) (source_is m is p)

  pub without_over : (sample : Cells) → IsOver m sample → IsOver (without m marks number) sample
  without_over sample over p from e = over p from (source_of p from (over_source (source_without m marks number) m.size p from e))

-- the marks of earlier pictures, cell by cell
module _ (marks : Cells) (size : Size) (number : ℕ) where
  pub marks_count : length (earlier_marks marks size number) ≡ cell_count size
  marks_count = length-map-range_with_len (λ i. is_earlier number (mark_at marks (place_of size i))) 0 (cell_count size)

  pub mark_of_cell : (p : At) (i : ℕ) → IsPlaceAt size p i → get_or (earlier_marks marks size number) i false ≡ is_earlier number (mark_at marks p)
  mark_of_cell p i at =
      get_or-map-range_with_len (λ j. is_earlier number (mark_at marks (place_of size j))) 0 (cell_count size) i i false at.below (omega arith)
      ∙ ap (λ q. is_earlier number (mark_at marks q)) at.place

-- a mark is an earlier one exactly between 0 and the number
pub earlier_from : (number mark : ℕ) → is_earlier number mark ≡ true → (0 < mark) × (mark < number)
earlier_from number mark is = by (nat_lt 0 mark) refl (nat_lt mark number) refl
  where
    both : (s t : Bool) → nat_lt 0 mark ≡ s → nat_lt mark number ≡ t → (s && t) ≡ true
    both s t a b = sym (λ i. a i && b i) ∙ is

    by : (s : Bool) → nat_lt 0 mark ≡ s → (t : Bool) → nat_lt mark number ≡ t → (0 < mark) × (mark < number)
    by true a true b = (ltb-true 0 mark a, ltb-true mark number b)
    by true a false b = absurd (false≢true (both true false a b))
    by false a t b = absurd (false≢true (both false t a b))

pub earlier_of : (number mark : ℕ) → 0 < mark → mark < number → is_earlier number mark ≡ true
earlier_of number mark from to = λ i. lt-ltb 0 mark from i && lt-ltb mark number to i
