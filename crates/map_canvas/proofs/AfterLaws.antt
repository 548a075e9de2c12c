-- What a choice leaves: filled cells stay filled.
use Rattle.std.proofs.Common.{◌≡◌, ℕ, ◌<◌, ◌≤◌, List, length, get_or, refl, ap, sym, ◌∙◌, subst, arith, Bool, true, false}
use Rattle.std.specs.Prelude.{Option, Some, None, IsSome, is_none, not, if◌then◌else◌}
use Rattle.std.specs.List.{position_or_len}
use Rattle.cells.specs.declared.place.At.{At}
use Rattle.cells.specs.Places.{place_of, cell_count}
use Rattle.cells.proofs.Raster.{place_at}
use Rattle.map_canvas.specs.declared.canvas.Placement.{Placement}
use Rattle.map_canvas.specs.Maps.{SourceMap, IsMap, IsFilled, map_at, source_at}
use Rattle.map_canvas.specs.Choices.{IsAfter, chosen, box_index, new_source}
use Rattle.map_canvas.proofs.Fronts.{front_in, front_passes, front_reaches}

-- the source at an index is that of its place
pub source_of_place : (m : SourceMap) → IsMap m → (i : ℕ) → i < length m.sources → map_at m (place_of m.size i) ≡ get_or m.sources i None
source_of_place m is i lt = ap (source_at m.sources) (place_at m.size i is.small.axes.w.0 is.small.axes.h.0 (subst (λ n. i < n) is.count lt))

-- a filled cell stays filled
pub stays_filled : (m : SourceMap) (placement : Placement) (choice : List Bool) (after : SourceMap) → IsAfter m placement choice after → (p : At) → IsFilled m p → IsFilled after p
stays_filled m placement choice after is p filled = subst IsSome (sym (is.sources p)) (by (chosen choice (box_index placement p)))
  where
    by : (b : Bool) → IsSome (if b then Some (new_source placement p) else map_at m p)
    by true = refl
    by false = filled

pub filled_of : {A : Type 0} (o : Option A) → is_none o ≡ false → IsSome o
filled_of None e = cc
filled_of (Some a) e = refl

none_of : {A : Type 0} (o : Option A) → IsSome o → is_none o ≡ false
none_of o some = ap not some

pub front_stays : (m : SourceMap) (placement : Placement) (choice : List Bool) (after : SourceMap) → IsMap m → IsMap after → IsAfter m placement choice after
    → position_or_len is_none m.sources ≤ position_or_len is_none after.sources
front_stays m placement choice after is is' step =
    let same : length after.sources ≡ length m.sources = is'.count ∙ ap cell_count step.size ∙ sym is.count in
    front_reaches is_none after.sources (position_or_len is_none m.sources) None (omega (arith, same, front_in is_none m.sources)) (λ k lt.
    let before : k < length m.sources = omega (arith, front_in is_none m.sources) in
    let was : IsFilled m (place_of m.size k) = subst IsSome (sym (source_of_place m is k before)) (filled_of (get_or m.sources k None) (front_passes is_none m.sources k None lt)) in
    let now : IsFilled after (place_of after.size k) = subst (λ size. IsFilled after (place_of size k)) (sym step.size) (stays_filled m placement choice after step (place_of m.size k) was) in
    none_of (get_or after.sources k None) (subst IsSome (source_of_place after is' k (omega (arith, same))) now))
