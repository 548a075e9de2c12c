-- What is picked and chosen on the small canvas is what is picked and chosen on the torus.
use Rattle.std.proofs.Common.{◌≡◌, ℕ, ◌≤◌, refl, ap, sym, ◌∙◌, subst, Bool, false, List, []}
use mathlib.Core.Bool.{false≢true}
use Rattle.std.specs.Prelude.{Contains, Option, Some, None, length, not}
use Rattle.cells.specs.declared.place.At.{At}
use Rattle.cells.specs.declared.place.Box3.{Box3}
use Rattle.cells.specs.Cells.{Cells}
use Rattle.cells.specs.Distances.{distance}
use Rattle.cells.specs.Places.{IsInside, cell_count, index_in, minus, plus, spot}
use Rattle.cells.proofs.BoxLaws.{plus_minus}
use Rattle.cells.specs.Boxes.{cell_in}
use Rattle.boxes.specs.Pairs.{AreCounts, one_if}
use Rattle.boxes.proofs.Additions.{counts}
use Rattle.boxes.proofs.Boxes.{box_equal}
use Rattle.boxes.proofs.Cells.{cell_inside}
use Rattle.map_canvas.specs.declared.canvas.Placement.{Placement}
use Rattle.map_canvas.specs.CellErrors.{cell_error}
use Rattle.map_canvas.specs.Choices.{Fits, box_index, chosen, laid_from}
use Rattle.map_canvas.specs.Maps.{SourceMap, map_at}
use Rattle.match_error.specs.Errors.{error_of, one_filled}
use Rattle.patch_picks.specs.Draws.{DrawState}
use Rattle.patch_picks.specs.Lists.{fit_list, part_lists}
use Rattle.patch_picks.specs.Picks.{IsPick}
use Rattle.costs.specs.Lawful.{IsLeastChoice, IsLeastHeld, is_held}
use Rattle.least_choice.specs.Fewest.{AreSame, IsFewestHeld, old_count}
use Rattle.cut_check.specs.declared.record.CutRecord.{CutRecord}
use Rattle.job_words.specs.declared.tile.TilePlan.{TilePlan}
use Rattle.job_words.specs.declared.tile.Wrap.{Wrap}
use Rattle.torus.specs.Choosing.{IsChosenAround, placed_around}
use Rattle.torus.specs.Steps.{AreSameAround, IsFewestAround, source_around, tile_error}
use Rattle.torus.specs.Tiles.{IsLeastAround, IsSmallMap, Takes, small_box, step_around}
use Rattle.torus.specs.Wraps.{around}
use Rattle.torus.proofs.Picks.{listed_rect, pick_carried}
use Rattle.torus.proofs.Smalls.{box_inside, source_is}
use Rattle.torus.proofs.Totals.{least_alike}

-- where no marks are given, no cell is held
none_held : (placement : Placement) (p : At) → is_held placement [] p ≡ false
none_held placement p = by (box_index placement p)
  where
    by : (i : Option ℕ) → chosen [] i ≡ false
    by None = refl
    by (Some i) = refl

module _ (d : At → At → ℕ) (m : SourceMap) (placement : Placement) (choice : List Bool) where
  without_marks : IsLeastHeld d m placement [] choice → IsLeastChoice d m placement choice
  without_marks least = record { one = least.one.0; least = λ other lawful. least.least other (lawful, λ p held. absurd (false≢true (sym (none_held placement p) ∙ held))) }

  with_no_marks : IsLeastChoice d m placement choice → IsLeastHeld d m placement [] choice
  with_no_marks least = record { one = (least.one, λ p held. absurd (false≢true (sym (none_held placement p) ∙ held))); least = λ other both. least.least other both.0 }

-- how many cells a choice leaves old doesn't ask where the box is
pub same_old : (rect inner : Box3) (from : At) (choice : List Bool) → rect.size ≡ inner.size → old_count (laid_from inner from) choice ≡ old_count (laid_from rect from) choice
same_old rect inner from choice same =
    ap (λ size. old_count (laid_from (record { corner = inner.corner; size = size }) from) choice) (sym same)
    ∙ box_equal counts rect.size _ _ (λ x y f lx ly lf. ap (λ s. one_if (not (chosen choice (index_in rect.size s)))) (plus_minus inner.corner (spot x y f) ∙ sym (plus_minus rect.corner (spot x y f))))

module _ (m : SourceMap) (wrap : Wrap) (rect : Box3) (small : SourceMap) (takes : Takes wrap m.size rect) (is : IsSmallMap m wrap rect small) where
  abbrev inner : Box3
  inner = small_box wrap rect

  -- a cell of the small canvas's box has the source of the torus box's
  source_same : (from : At) (x y f : ℕ) → AreCounts rect.size x y f → map_at small (cell_in inner x y f) ≡ source_around m wrap rect x y f
  source_same from x y f at =
      source_is m wrap (laid_from rect from) small takes is (cell_in inner x y f) (box_inside m wrap (laid_from rect from) small takes is (cell_in inner x y f) (cell_inside inner x y f at))
      ∙ ap (λ s. map_at m (around wrap m.size (plus rect.corner s))) (plus_minus inner.corner (spot x y f))

  error_same : (sample : Cells) (from : At) → error_of small sample (laid_from inner from) ≡ tile_error m wrap sample (laid_from rect from)
  error_same sample from = λ k. record { sum = sums k; count = filled k }
    where
      sums : (error_of small sample (laid_from inner from)).sum ≡ (tile_error m wrap sample (laid_from rect from)).sum
      sums = box_equal counts rect.size _ _ (λ x y f lx ly lf. λ k.
          cell_error sample (source_same from x y f (record { column = lx; row = ly; frame = lf }) k) (plus from (plus_minus inner.corner (spot x y f) k)))

      filled : (error_of small sample (laid_from inner from)).count ≡ (tile_error m wrap sample (laid_from rect from)).count
      filled = box_equal counts rect.size _ _ (λ x y f lx ly lf. ap one_filled (source_same from x y f (record { column = lx; row = ly; frame = lf })))

  -- a pick on the small canvas is one on the torus
  pub pick_around : (sample : Cells) (tol : Option ℕ) (draws : DrawState) (picked : Placement) → IsPick (error_of small sample) tol (part_lists (fit_list inner) sample) draws picked
      → IsPick (tile_error m wrap sample) tol (part_lists (fit_list rect) sample) draws (placed_around rect picked)
  pick_around sample tol draws picked pick = pick_carried inner rect (error_of small sample) (tile_error m wrap sample) (error_same sample) refl sample tol draws picked pick

  module _ (d : At → At → ℕ) (from : At) (choice : List Bool) (fewest : IsFewestHeld d small (laid_from inner from) [] choice) where
    abbrev placement : Placement
    placement = laid_from rect from

    on_small : (other : List Bool) → IsLeastAround d m wrap placement other → IsLeastHeld d small (laid_from inner from) [] other
    on_small other least = with_no_marks d small (laid_from inner from) other ((least_alike m wrap placement small takes is d other).1 least)

    same_around : (other : List Bool) → AreSame (laid_from inner from) choice other → AreSameAround m wrap placement choice other
    same_around other same p tile =
        let step = step_around wrap m.size rect p in
        let back : minus (plus inner.corner step) inner.corner ≡ step = plus_minus inner.corner step in
        ap (λ s. chosen choice (index_in rect.size s)) (sym back)
        ∙ same (plus inner.corner step) (subst (IsInside rect.size) (sym back) tile.step)
        ∙ ap (λ s. chosen other (index_in rect.size s)) back

    -- the least choice there with the fewest old cells is the one here
    pub fewest_around : IsFewestAround d m wrap placement choice
    fewest_around = record {
      least = (least_alike m wrap placement small takes is d choice).0 (without_marks d small (laid_from inner from) choice fewest.least);
      fewest = λ other least. subst (λ n. n ≤ old_count placement other) (same_old rect inner from choice refl)
          (subst (λ n. old_count (laid_from inner from) choice ≤ n) (same_old rect inner from other refl) (fewest.fewest other (on_small other least)));
      only = λ other least few. same_around other (fewest.only other (on_small other least)
          (subst (λ n. n ≤ old_count (laid_from inner from) choice) (sym (same_old rect inner from other refl))
          (subst (λ n. old_count placement other ≤ n) (sym (same_old rect inner from choice refl)) few)));
    }

-- the record of the small canvas is that of a choice on the torus
pub chosen_around : (plan : TilePlan) (m : SourceMap) (sample : Cells) (draws : DrawState) (rect inner : Box3) (small : SourceMap) (picked : Placement) (cut : CutRecord) → Takes plan.wrap m.size rect → IsSmallMap m plan.wrap rect small
    → inner ≡ small_box plan.wrap rect → IsPick (error_of small sample) (Some plan.tol) (part_lists (fit_list inner) sample) draws picked → Contains (part_lists (fit_list inner) sample) picked → Fits small.size sample picked
    → cut.placement ≡ picked → length cut.choice ≡ cell_count picked.rect.size → IsFewestHeld (distance sample) small picked [] cut.choice → IsChosenAround plan m sample draws rect cut
chosen_around plan m sample draws rect inner small picked cut takes is same_box pick listed fits same long fewest = record {
  picked = subst (λ p. IsPick (tile_error m plan.wrap sample) (Some plan.tol) (part_lists (fit_list rect) sample) draws (placed_around rect p)) (sym same)
      (pick_around m plan.wrap rect small takes is sample (Some plan.tol) draws picked (subst (λ r. IsPick (error_of small sample) (Some plan.tol) (part_lists (fit_list r) sample) draws picked) same_box pick));
  fits = (small.size, subst (Fits small.size sample) here fits);
  choice_count = long ∙ ap (λ (r : Box3). cell_count r.size) its_box;
  fewest = fewest_around m plan.wrap rect small takes is (distance sample) cut.placement.from cut.choice (subst (λ p. IsFewestHeld (distance sample) small p [] cut.choice) here fewest);
}
  where
    its_box : picked.rect ≡ small_box plan.wrap rect
    its_box = listed_rect inner sample picked listed ∙ same_box

    here : picked ≡ laid_from (small_box plan.wrap rect) cut.placement.from
    here = λ k. record { rect = its_box k; from = (sym (ap (λ (p : Placement). p.from) same)) k }
