-- The first boxes that sizes say are those of a run: each placement fills its box, and after them comes the next box.
use Rattle.std.proofs.Common.{◌≡◌, ◌⊎◌, ℕ, ◌<◌, ◌≤◌, Bool, true, List, [], ◌∷◌, ◌++◌, cond, get_or, length, refl, ap, sym, ◌∙◌, subst, arith, inl, inr, ⊎_elim}
use mathlib.Core.Bool.{false≢true}
use Rattle.std.proofs.lemmas.Bool.{lt-ltb}
use Rattle.std.specs.List.{position_or_len}
use Rattle.std.specs.Prelude.{◌↔◌, Option, Some, None, IsSome, is_none, is_some, not, option_map, if◌then◌else◌}
use Rattle.cells.specs.declared.place.At.{At}
use Rattle.cells.specs.declared.place.Box3.{Box3}
use Rattle.cells.specs.declared.place.Size.{Size}
use Rattle.cells.specs.Boxes.{IsInBox, IsInOne}
use Rattle.cells.specs.Cells.{Cells, IsVolume}
use Rattle.cells.specs.Distances.{distance}
use Rattle.cells.specs.Places.{IsInside, IsSmall, cell_count, place_of}
use Rattle.cells.proofs.DistanceLaws.{distance_laws}
use Rattle.cells.proofs.Raster.{place_at}
use Rattle.map_canvas.specs.declared.canvas.Placement.{Placement}
use Rattle.map_canvas.specs.Choices.{Fits, IsAfter, after_at, box_index, chosen, map_after, new_source}
use Rattle.map_canvas.specs.Maps.{IsFilled, IsMap, SourceMap, first_unfilled, map_at}
use Rattle.map_canvas.proofs.AfterLaws.{source_of_place, stays_filled}
use Rattle.map_canvas.proofs.Afters.{map_after_is}
use Rattle.map_canvas.proofs.EmptyAndFull.{map_at-empty}
use Rattle.map_canvas.proofs.Fronts.{front_here, front_reaches}
use Rattle.map_canvas.proofs.MapsAfter.{after_is_map}
use Rattle.boxes.specs.FirstBoxes.{AreFirstBoxes, IsBoxAfter, cells_of_boxes}
use Rattle.costs.specs.Lawful.{IsLawful}
use Rattle.patch_picks.specs.Fitting.{HasPatch}
use Rattle.cut_check.specs.declared.record.CutRecord.{CutRecord}
use Rattle.cut_check.specs.Records.{box_cells}
use Rattle.cut_replay.proofs.RunLaws.{cells_more}
use Rattle.limits.specs.declared.bounds.TheConstants.{MOST_BOX_CELLS}
use Rattle.grown.specs.declared.plan.GrowPlan.{GrowPlan}
use Rattle.grown.specs.BoxLimit.{RunPassesThere, box_for, plan_box}
use Rattle.grown.specs.Grown.{Growth, GrowsBy, IsRun, draws_left, first_growth, rounds_made}
use Rattle.least_choice.proofs.LeastCuts.{least_cut, least_cut_count, least_cut_is}
use Rattle.grown.proofs.SomePick.{NextInBox, next_in_box}
use Rattle.grown.proofs.Splitting.{starts}
use Rattle.grown.proofs.Spots.{IsSpot, spot_at}
use Rattle.grown.proofs.Stepping.{leads_more, next_laid}

-- the first place that isn't filled is the first unfilled cell
module _ (m : SourceMap) (is : IsMap m) where
  none_there : (o : Option At) → (IsSome o → ⊥) → is_none o ≡ true
  none_there None never = refl
  none_there (Some p) never = absurd (never refl)

  first_there : (i : ℕ) → i < cell_count m.size → ((k : ℕ) → k < i → IsFilled m (place_of m.size k)) → (IsFilled m (place_of m.size i) → ⊥) → first_unfilled m ≡ Some (place_of m.size i)
  first_there i below before here =
      let n = position_or_len is_none m.sources in
      let within : i < length m.sources = omega (arith, below, is.count) in
      let reached : i ≤ n =
      front_reaches is_none m.sources i None (let le : i ≤ length m.sources = omega (arith, within) in le) (λ k lt. ap not (subst IsSome (source_of_place m is k (omega (arith, lt, within))) (before k lt))) in
      let stops : is_none (get_or m.sources i None) ≡ true = none_there (get_or m.sources i None) (λ some. here (subst IsSome (sym (source_of_place m is i within)) some)) in
      let same : i ≡ n = front_here is_none m.sources i None reached stops in
      ap (λ b. option_map (place_of m.size) (cond b (Some n) None)) (lt-ltb n (length m.sources) (omega (arith, within, same))) ∙ ap (λ k. Some (place_of m.size k)) (sym same)

  -- after an admissible choice its box is filled too
  fills : (sample : Cells) (placement : Placement) (choice : List Bool) → Fits m.size sample placement → IsLawful m placement choice
      → (p : At) → IsFilled (map_after m placement choice) p ↔ (IsFilled m p ⊎ IsInBox placement.rect p)
  fills sample placement choice fits lawful p = (to, from)
    where
      after_is : IsAfter m placement choice (map_after m placement choice)
      after_is = map_after_is m sample placement choice is fits

      by_index : (o : Option ℕ) → box_index placement p ≡ o → IsSome (if chosen choice o then Some (new_source placement p) else map_at m p) → IsFilled m p ⊎ IsInBox placement.rect p
      by_index None e some = inl some
      by_index (Some i) e some = inr (ap is_some e)

      to : IsFilled (map_after m placement choice) p → IsFilled m p ⊎ IsInBox placement.rect p
      to filled = by_index (box_index placement p) refl (subst IsSome (after_is.sources p) filled)

      inside_filled : IsInBox placement.rect p → (o : Option At) → map_at m p ≡ o → IsFilled (map_after m placement choice) p
      inside_filled inside None e =
          let new : after_at m placement choice p ≡ Some (new_source placement p) = ap (λ b. if b then Some (new_source placement p) else map_at m p) (lawful.unfilled p inside e) in
          subst IsSome (sym (after_is.sources p ∙ new)) refl
      inside_filled inside (Some q) e = stays_filled m placement choice (map_after m placement choice) after_is p (subst IsSome (sym e) refl)

      from : IsFilled m p ⊎ IsInBox placement.rect p → IsFilled (map_after m placement choice) p
      from (inl filled) = stays_filled m placement choice (map_after m placement choice) after_is p filled
      from (inr inside) = inside_filled inside (map_at m p) refl

-- a run has laid these boxes, and no others
record Reached (plan : GrowPlan) (sample : Cells) (rects : List Box3) : Type 0 where
  cuts : List CutRecord
  growth : Growth
  run : IsRun plan sample cuts growth
  is : IsMap growth.map
  size : growth.map.size ≡ plan.size
  cells : box_cells cuts ≡ cells_of_boxes rects
  filled : (p : At) → IsInside growth.map.size p → IsFilled growth.map p ↔ IsInOne rects p

module _ (plan : GrowPlan) (sample : Cells) (volume : IsVolume sample) (small : IsSmall plan.size) (patch : HasPatch plan.mode) where
  nothing_laid : Reached plan sample []
  nothing_laid = record {
    cuts = [];
    growth = first_growth plan;
    run = refl;
    is = starts plan sample volume small;
    size = refl;
    cells = refl;
    filled = λ p inside. (λ filled. absurd (false≢true (subst IsSome (map_at-empty plan.size p) filled)), λ none. absurd none);
  }

  module _ (rects : List Box3) (rect : Box3) (so_far : Reached plan sample rects) (after : IsBoxAfter (plan_box plan sample) plan.size rects rect) where
    abbrev m : SourceMap
    m = so_far.growth.map

    here : IsBoxAfter (box_for plan.mode m.size sample) m.size rects rect
    here = subst (λ (size : Size). IsBoxAfter (box_for plan.mode size sample) size rects rect) (sym so_far.size) after

    inside_at : (i : ℕ) → i < cell_count m.size → IsInside m.size (place_of m.size i)
    inside_at i lt = subst IsSome (sym (place_at m.size i so_far.is.small.axes.w.0 so_far.is.small.axes.h.0 lt)) refl

    first : first_unfilled m ≡ Some (place_of m.size here.index)
    first =
        first_there m so_far.is here.index here.first.below
        (λ k lt. (so_far.filled (place_of m.size k) (inside_at k (omega (arith, lt, here.first.below)))).1 (here.first.before k lt))
        (λ filled. here.first.here ((so_far.filled (place_of m.size here.index) (inside_at here.index here.first.below)).0 filled))

    -- the next placement has that box
    next : NextInBox plan.mode m sample so_far.growth.draws rect
    next =
        let at : IsSpot m.size (place_of m.size here.index) here.index = spot_at m.size so_far.is.small.axes here.index here.first.below in
        next_in_box plan.mode m sample so_far.growth.draws volume patch at.x at.y at.f at.column at.row at.frame (first ∙ ap Some at.place) rect
        (ap (box_for plan.mode m.size sample) (sym at.place) ∙ here.is)

    abbrev placement : Placement
    placement = next.placement

    abbrev choice : List Bool
    choice = least_cut (distance sample) (distance_laws sample volume) m placement

    abbrev cut : CutRecord
    cut = record { placement = placement; choice = choice; flows = [] }

    abbrev grown : Growth
    grown = record {
      map = map_after m placement choice;
      draws = draws_left plan so_far.growth.draws (first_unfilled m);
      rounds = rounds_made so_far.growth.rounds (first_unfilled m);
    }

    step : GrowsBy plan sample so_far.growth cut grown
    step = record {
      next = next_laid plan sample so_far.growth placement next.next;
      choice_count = least_cut_count (distance sample) (distance_laws sample volume) m placement;
      fewest = least_cut_is (distance sample) (distance_laws sample volume) m placement;
      map = refl;
      draws = refl;
      rounds = refl;
    }

    one_laid : Reached plan sample (rect ∷ rects)
    one_laid = record {
      cuts = so_far.cuts ++ cut ∷ [];
      growth = grown;
      run = leads_more (GrowsBy plan sample) (first_growth plan) so_far.cuts so_far.growth cut grown so_far.run step;
      is = after_is_map m sample placement choice volume so_far.is next.next.fits.fits;
      size = so_far.size;
      cells = omega (arith, cells_more so_far.cuts cut, so_far.cells, ap (λ (r : Box3). cell_count r.size) next.box);
      filled = λ p inside.
          let now = fills m so_far.is sample placement choice next.next.fits.fits step.fewest.least.one.0 p in
          let was = so_far.filled p inside in (
            λ filled. ⊎_elim (λ old. inr (was.0 old)) (λ has. inl (subst (λ (r : Box3). IsInBox r p) next.box has)) (now.0 filled),
            λ in_one. now.1 (⊎_elim (λ has. inr (subst (λ (r : Box3). IsInBox r p) (sym next.box) has)) (λ old. inl (was.1 old)) in_one),
          );
    }

  reach : (rects : List Box3) → AreFirstBoxes (plan_box plan sample) plan.size rects → Reached plan sample rects
  reach [] are = nothing_laid
  reach (rect ∷ rects) are = one_laid rects rect (reach rects are.1) are.0

  pub boxes_pass : RunPassesThere plan sample
  boxes_pass number passes =
      let so_far = reach passes.rects passes.before in
      let last = next passes.rects passes.rect so_far passes.next in
      record {
        cuts = so_far.cuts;
        growth = so_far.growth;
        placement = last.placement;
        run = so_far.run;
        within = subst (λ n. n ≤ MOST_BOX_CELLS) (sym so_far.cells) passes.within;
        next = next_laid plan sample so_far.growth last.placement last.next;
        cells = omega (arith, passes.cells, so_far.cells, ap (λ (r : Box3). cell_count r.size) last.box);
        past = passes.past;
      }
