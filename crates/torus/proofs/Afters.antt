-- What a step leaves: a map, with one more of its first cells filled.
use Rattle.std.proofs.Common.{◌≡◌, ℕ, ◌+◌, ◌<◌, ◌≤◌, ◌⊎◌, inl, inr, List, length, map, get_or, refl, ap, sym, ◌∙◌, subst, arith, Bool, true, false, cond}
use borrow.Author.Tests.{ltb-true}
use mathlib.Core.Bool.{false≢true}
use Rattle.std.proofs.lemmas.Bool.{cases_lt}
use Rattle.std.proofs.lemmas.Int.{ints}
use Rattle.std.proofs.lemmas.Option.{get_or_from_slice_get, none-some, same_Some}
use Rattle.std.specs.Prelude.{pos, Option, Some, None, IsSome, IfSome, is_none, is_some, nat_lt, not, option_map, if◌then◌else◌}
use Rattle.std.specs.List.{position_or_len}
use Rattle.cells.specs.declared.place.At.{At}
use Rattle.cells.specs.Boxes.{AxisHolds, HasCells}
use Rattle.cells.specs.Cells.{Cells, Holds, IsVolume}
use Rattle.cells.specs.Places.{IsInside, cell_count, index_in, place_of, places, plus, spot}
use Rattle.cells.proofs.PlaceLists.{count_over, entry_over}
use Rattle.cells.proofs.Raster.{index_below, one_place, place_at}
use Rattle.map_canvas.specs.declared.canvas.Placement.{Placement}
use Rattle.map_canvas.specs.Choices.{Fits, chosen}
use Rattle.map_canvas.specs.Maps.{IsFilled, IsFull, IsMap, IsSource, SourceMap, first_unfilled, map_at, source_at}
use Rattle.map_canvas.proofs.AfterLaws.{filled_of, source_of_place}
use Rattle.map_canvas.proofs.Filling.{new_sources}
use Rattle.map_canvas.proofs.Fronts.{front_passes, front_reaches, front_stops}
use Rattle.job_words.specs.declared.tile.TilePlan.{TilePlan}
use Rattle.job_words.specs.declared.tile.Wrap.{Wrap}
use Rattle.torus.specs.Steps.{TileStep, TilesBy, Tiling, map_after_around}
use Rattle.torus.specs.Tiles.{IsInTile, IsKeptAround, IsLawfulAround, after_around, is_new_around, step_around}

-- a source of a map is one
source_is : (m : SourceMap) → IsMap m → (p : At) → IfSome (map_at m p) IsSource
source_is m is p = by (index_in m.size p) refl
  where
    by : (o : Option ℕ) → index_in m.size p ≡ o → IfSome (source_at m.sources o) IsSource
    by None e = tt
    by (Some i) e = is.sources i None (subst (λ n. i < n) (sym is.count) (index_below m.size p i e))

module _ (m : SourceMap) (wrap : Wrap) (placement : Placement) (choice : List Bool) (is : IsMap m) where
  abbrev f : At → Option At
  f = after_around m wrap placement choice

  abbrev after : SourceMap
  after = map_after_around m wrap placement choice

  -- the source of a cell after the choice
  pub after_at_is : (p : At) → IsInside m.size p → map_at after p ≡ f p
  after_at_is p inside = by (index_in m.size p) refl inside
    where
      by : (o : Option ℕ) → index_in m.size p ≡ o → IsSome o → source_at after.sources o ≡ f p
      by None e some = absurd (false≢true some)
      by (Some i) e some =
          let below = index_below m.size p i e in
          let here : place_of m.size i ≡ p = one_place m.size (place_of m.size i) p i (place_at m.size i is.small.axes.w.0 is.small.axes.h.0 below) e in
          get_or_from_slice_get (map f (places m.size)) i (f (place_of m.size i)) None (entry_over f m.size i below) ∙ ap f here

  -- filled cells stay filled
  pub stays_filled_around : (p : At) → IsFilled m p → IsSome (f p)
  stays_filled_around p filled = by (is_new_around wrap m.size placement choice p)
    where
      by : (b : Bool) → IsSome (if b then Some (plus placement.from (step_around wrap m.size placement.rect p)) else map_at m p)
      by true = refl
      by false = filled

  module _ (sample : Cells) (volume : IsVolume sample) (some : HasCells placement.rect.size) (sources : Holds sample placement.from placement.rect.size) where
    -- the box alone, as one that fits
    abbrev alone : Placement
    alone = record { rect = record { corner = spot 0 0 0; size = placement.rect.size }; from = placement.from }

    holds : (n : ℕ) → AxisHolds n (pos 0) n
    holds n = record { from = omega (arith, ints); to = omega (arith, ints) }

    alone_fits : Fits placement.rect.size sample alone
    alone_fits = record { some = some; inside = record { x = holds placement.rect.size.w; y = holds placement.rect.size.h; f = holds placement.rect.size.f }; sources = sources }

    source_after : (p : At) → IfSome (f p) IsSource
    source_after p = by (index_in placement.rect.size (step_around wrap m.size placement.rect p)) refl
      where
        step : At
        step = step_around wrap m.size placement.rect p

        one : (i : ℕ) → index_in placement.rect.size step ≡ Some i → (b : Bool) → IfSome (if b then Some (plus placement.from step) else map_at m p) IsSource
        one i at true = ((new_sources placement.rect.size sample alone alone_fits volume).steps step (subst IsSome (sym at) refl)).source
        one i at false = source_is m is p

        by : (o : Option ℕ) → index_in placement.rect.size step ≡ o → IfSome (f p) IsSource
        by None e = subst (λ o. IfSome (if chosen choice o then Some (plus placement.from step) else map_at m p) IsSource) (sym e) (source_is m is p)
        by (Some i) e = one i e (is_new_around wrap m.size placement choice p)

    -- the map after is a map
    pub after_is_map : IsMap after
    after_is_map = record {
      small = is.small;
      count = count_over f m.size;
      sources = λ i d lt. subst (λ source. IfSome source IsSource)
          (sym (get_or_from_slice_get (map f (places m.size)) i (f (place_of m.size i)) d (entry_over f m.size i (subst (λ n. i < n) (count_over f m.size) lt))))
          (source_after (place_of m.size i));
    }

  -- the first unfilled cell is filled too
  module _ (q : At) (first : first_unfilled m ≡ Some q) (covers : IsInTile wrap m.size placement.rect q) (lawful : IsLawfulAround m wrap placement choice) where
    abbrev n : ℕ
    n = position_or_len is_none m.sources

    front : (b : Bool) → nat_lt n (length m.sources) ≡ b → option_map (place_of m.size) (cond b (Some n) None) ≡ Some q → (n < length m.sources) × (place_of m.size n ≡ q)
    front true e at = (ltb-true n (length m.sources) e, same_Some (place_of m.size n) q at)
    front false e at = absurd (none-some q at)

    there : (n < length m.sources) × (place_of m.size n ≡ q)
    there = front (nat_lt n (length m.sources)) refl first

    none_is : {A : Type 0} (o : Option A) → is_none o ≡ true → o ≡ None
    none_is None e = refl
    none_is (Some a) e = absurd (false≢true e)

    some_is : {A : Type 0} (o : Option A) → IsSome o → is_none o ≡ false
    some_is o some = ap not some

    pub first_is_none : map_at m q ≡ None
    first_is_none = ap (map_at m) (sym there.1) ∙ source_of_place m is n there.0 ∙ none_is (get_or m.sources n None) (front_stops is_none m.sources None there.0)

    q_filled : IsSome (f q)
    q_filled = subst (λ b. IsSome (if b then Some (plus placement.from (step_around wrap m.size placement.rect q)) else map_at m q)) (sym (lawful.unfilled q covers first_is_none)) refl

    each : (k : ℕ) → k < n + 1 → is_none (get_or after.sources k None) ≡ false
    each k lt =
        let before : k < length m.sources = omega (arith, there.0) in
        let below : k < cell_count m.size = subst (λ c. k < c) is.count before in
        some_is (get_or after.sources k None) (subst IsSome (sym (get_or_from_slice_get (map f (places m.size)) k (f (place_of m.size k)) None (entry_over f m.size k below))) (filled k lt before (cases_lt k n)))
      where
        filled : (k : ℕ) → k < n + 1 → k < length m.sources → (k < n) ⊎ (n ≤ k) → IsSome (f (place_of m.size k))
        filled k lt before (inl less) = stays_filled_around (place_of m.size k) (subst IsSome (sym (source_of_place m is k before)) (filled_of (get_or m.sources k None) (front_passes is_none m.sources k None less)))
        filled k lt before (inr le) = let same : n ≡ k = omega (arith, le, lt) in subst (λ k. IsSome (f (place_of m.size k))) same (subst (λ p. IsSome (f p)) (sym there.1) q_filled)

    pub reaches_on : n < position_or_len is_none after.sources
    reaches_on =
        let long : length after.sources ≡ length m.sources = count_over f m.size ∙ sym is.count in
        let more : n + 1 ≤ position_or_len is_none after.sources = front_reaches is_none after.sources (n + 1) None (omega (arith, long, there.0)) each in
        omega (arith, more)

-- a full map has no next step
pub full_has_none : (plan : TilePlan) (sample : Cells) (before after : Tiling) (step : TileStep) → IsMap before.map → IsFull before.map → TilesBy plan sample before step after → ⊥
full_has_none plan sample before next step is full by =
    let none = first_is_none before.map plan.wrap step.placement step.choice is by.next.q by.next.first by.next.covers by.fewest.least.one in
    absurd (false≢true (sym (ap is_some none) ∙ full by.next.q by.next.covers.inside))

-- a step leaves a map
pub leaves_map : (plan : TilePlan) (sample : Cells) (before after : Tiling) (step : TileStep) → IsVolume sample → IsMap before.map → TilesBy plan sample before step after → IsMap after.map
leaves_map plan sample before next step volume is by =
    subst IsMap (sym by.map) (after_is_map before.map plan.wrap step.placement step.choice is sample volume by.next.some by.next.sources)

-- and reaches one cell on at least
pub reaches_more : (plan : TilePlan) (sample : Cells) (before after : Tiling) (step : TileStep) → IsMap before.map → TilesBy plan sample before step after
    → position_or_len is_none before.map.sources < position_or_len is_none after.map.sources
reaches_more plan sample before next step is by =
    subst (λ m. position_or_len is_none before.map.sources < position_or_len is_none m.sources) (sym by.map)
    (reaches_on before.map plan.wrap step.placement step.choice is by.next.q by.next.first by.next.covers by.fewest.least.one)

-- what an admissible choice keeps
pub keeps_around : (m : SourceMap) (wrap : Wrap) (placement : Placement) (choice : List Bool) → IsLawfulAround m wrap placement choice → (p : At)
    → IsKeptAround m wrap placement.rect p ⊎ (IsInside m.size p × (IsInTile wrap m.size placement.rect p → ⊥)) → after_around m wrap placement choice p ≡ map_at m p
keeps_around m wrap placement choice lawful p (inl kept) = ap (λ b. if b then Some (plus placement.from (step_around wrap m.size placement.rect p)) else map_at m p) (lawful.kept p kept)
keeps_around m wrap placement choice lawful p (inr out) = by (index_in placement.rect.size (step_around wrap m.size placement.rect p)) refl
  where
    by : (o : Option ℕ) → index_in placement.rect.size (step_around wrap m.size placement.rect p) ≡ o → after_around m wrap placement choice p ≡ map_at m p
    by None e = ap (λ o. if chosen choice o then Some (plus placement.from (step_around wrap m.size placement.rect p)) else map_at m p) e
    by (Some i) e = absurd (out.1 (record { inside = out.0; step = subst IsSome (sym e) refl }))
