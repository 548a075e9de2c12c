-- There is one run.
use Rattle.std.proofs.Common.{◌≡◌, ℕ, ◌+◌, ◌-◌, ◌<◌, ◌≤◌, List, [], ◌∷◌, ap, sym, ◌∙◌, subst, arith}
use Rattle.cells.specs.Cells.{Cells, IsVolume}
use Rattle.cells.specs.Distances.{distance}
use Rattle.cells.specs.Places.{IsSmall}
use Rattle.map_canvas.specs.declared.canvas.Placement.{Placement}
use Rattle.map_canvas.specs.Choices.{box_count, map_after}
use Rattle.map_canvas.specs.Maps.{IsMap}
use Rattle.cut_check.specs.declared.record.CutRecord.{CutRecord}
use Rattle.cut_check.specs.Records.{box_cells}
use Rattle.least_choice.specs.Fewest.{IsFewestHeld}
use Rattle.least_choice.proofs.OneChoice.{one_fewest}
use Rattle.limits.specs.declared.bounds.TheConstants.{MOST_BOX_CELLS}
use Rattle.grown.specs.declared.plan.GrowPlan.{GrowPlan}
use Rattle.grown.specs.Grown.{ComesNext, Growth, GrowsBy, IsDone, first_growth}
use Rattle.grown.specs.OneRun.{EndsWithin, IsSameRun, OneLimit, OneRun, SameButFlows}
use Rattle.patch_picks.specs.Runs.{Leads}
use Rattle.grown.proofs.Nexts.{next_fits, next_is_one, none_at_end, stays_map}
use Rattle.grown.proofs.Splitting.{starts}

module _ (plan : GrowPlan) (sample : Cells) where
  one_step : (was now later : Growth) (cut other : CutRecord) → GrowsBy plan sample was cut now → GrowsBy plan sample was other later → SameButFlows cut other × (now ≡ later)
  one_step was now later cut other is also = (same, λ i. record { map = same_map i; draws = same_draws i; rounds = same_rounds i })
    where
      same_placement : cut.placement ≡ other.placement
      same_placement = next_is_one plan sample was cut.placement other.placement is.next also.next

      same_choice : cut.choice ≡ other.choice
      same_choice = one_fewest (distance sample) was.map cut.placement [] cut.choice other.choice (next_fits plan sample was cut.placement is.next).some is.choice_count
          (also.choice_count ∙ ap box_count (sym same_placement))
          is.fewest (subst (λ p. IsFewestHeld (distance sample) was.map p [] other.choice) (sym same_placement) also.fewest)

      same : SameButFlows cut other
      same = record { placement = same_placement; choice = same_choice }

      same_map : now.map ≡ later.map
      same_map = is.map ∙ ap (λ p. map_after was.map p cut.choice) same_placement ∙ ap (map_after was.map other.placement) same_choice ∙ sym also.map

      same_draws : now.draws ≡ later.draws
      same_draws = is.draws ∙ sym also.draws

      same_rounds : now.rounds ≡ later.rounds
      same_rounds = is.rounds ∙ sym also.rounds

  no_step : (was now : Growth) (cut : CutRecord) → IsMap was.map → GrowsBy plan sample was cut now → IsDone plan sample was → ⊥
  no_step was now cut is step done = none_at_end plan sample was cut.placement is step.next done

  done_at : (one other : Growth) → one ≡ other → IsDone plan sample one → IsDone plan sample other
  done_at one other e done = subst (IsDone plan sample) e done

  next_at : (one other : Growth) (placement : Placement) → one ≡ other → ComesNext plan sample one placement → ComesNext plan sample other placement
  next_at one other placement e next = subst (λ growth. ComesNext plan sample growth placement) e next

  -- two runs pass a bound at the same number
  one_number : (most : ℕ) (from : Growth) (cuts others : List CutRecord) (growth other : Growth) (placement another : Placement)
      → Leads (GrowsBy plan sample) from cuts growth → box_cells cuts ≤ most → ComesNext plan sample growth placement → most < box_cells cuts + box_count placement
      → Leads (GrowsBy plan sample) from others other → box_cells others ≤ most → ComesNext plan sample other another → most < box_cells others + box_count another
      → box_cells cuts + box_count placement ≡ box_cells others + box_count another
  one_number most from [] [] growth other placement another run within next past also within_also next_also past_also =
      ap (λ p. 0 + box_count p) (next_is_one plan sample from placement another (next_at growth from placement run next) (next_at other from another also next_also))
  one_number most from [] (b ∷ others) growth other placement another run within next past also within_also next_also past_also =
      absurd (omega (arith, past, within_also, ap box_count (next_is_one plan sample from placement b.placement (next_at growth from placement run next) also.1.0.next)))
  one_number most from (a ∷ cuts) [] growth other placement another run within next past also within_also next_also past_also =
      absurd (omega (arith, past_also, within, ap box_count (next_is_one plan sample from another a.placement (next_at other from another also next_also) run.1.0.next)))
  one_number most from (a ∷ cuts) (b ∷ others) growth other placement another run within next past also within_also next_also past_also =
      let step = one_step from run.0 also.0 a b run.1.0 also.1.0 in
      let same = ap box_count step.0.placement in
      let rest = one_number (most - box_count a.placement) run.0 cuts others growth other placement another run.1.1 (omega (arith, within)) next (omega (arith, past, within))
      (subst (λ after. Leads (GrowsBy plan sample) after others other) (sym step.1) also.1.1) (omega (arith, within_also, same)) next_also (omega (arith, past_also, within_also, same)) in
      omega (arith, rest, same)

module _ (plan : GrowPlan) (sample : Cells) (volume : IsVolume sample) where
  later_map : (was now : Growth) (cut : CutRecord) → GrowsBy plan sample was cut now → IsMap was.map → IsMap now.map
  later_map was now cut step is = stays_map plan sample was now cut volume step is

  one_run : (from : Growth) (cuts others : List CutRecord) (growth other : Growth) → IsMap from.map → Leads (GrowsBy plan sample) from cuts growth → IsDone plan sample growth
      → Leads (GrowsBy plan sample) from others other → IsDone plan sample other → IsSameRun cuts others growth other
  one_run from [] [] growth other is run done also done_also = record { steps = tt; left = run ∙ sym also }
  one_run from [] (b ∷ others) growth other is run done also done_also = absurd (no_step plan sample from also.0 b is also.1.0 (done_at plan sample growth from run done))
  one_run from (a ∷ cuts) [] growth other is run done also done_also = absurd (no_step plan sample from run.0 a is run.1.0 (done_at plan sample other from also done_also))
  one_run from (a ∷ cuts) (b ∷ others) growth other is run done also done_also =
      let step = one_step plan sample from run.0 also.0 a b run.1.0 also.1.0 in
      let rest = one_run run.0 cuts others growth other (later_map from run.0 a run.1.0 is) run.1.1 done (subst (λ next. Leads (GrowsBy plan sample) next others other) (sym step.1) also.1.1) done_also in
      record { steps = (step.0, rest.steps); left = rest.left }

  -- a run to its end makes each next placement of a run
  makes_next : (from : Growth) (cuts others : List CutRecord) (growth other : Growth) (placement : Placement) → IsMap from.map → Leads (GrowsBy plan sample) from cuts growth → ComesNext plan sample growth placement
      → Leads (GrowsBy plan sample) from others other → IsDone plan sample other → box_cells cuts + box_count placement ≤ box_cells others
  makes_next from [] [] growth other placement is run next also done =
      absurd (none_at_end plan sample from placement is (next_at plan sample growth from placement run next) (done_at plan sample other from also done))
  makes_next from [] (b ∷ others) growth other placement is run next also done =
      omega (arith, ap box_count (next_is_one plan sample from placement b.placement (next_at plan sample growth from placement run next) also.1.0.next))
  makes_next from (a ∷ cuts) [] growth other placement is run next also done = absurd (no_step plan sample from run.0 a is run.1.0 (done_at plan sample other from also done))
  makes_next from (a ∷ cuts) (b ∷ others) growth other placement is run next also done =
      let step = one_step plan sample from run.0 also.0 a b run.1.0 also.1.0 in
      omega (arith, ap box_count step.0.placement, makes_next run.0 cuts others growth other placement (later_map from run.0 a run.1.0 is) run.1.1 next (subst (λ after. Leads (GrowsBy plan sample) after others other) (sym step.1) also.1.1) done)

pub runs_are_one : (plan : GrowPlan) (sample : Cells) → IsVolume sample → IsSmall plan.size → OneRun plan sample
runs_are_one plan sample volume small cuts others growth other run done also done_also =
    one_run plan sample volume (first_growth plan) cuts others growth other (starts plan sample volume small) run done also done_also

pub ends_within : (plan : GrowPlan) (sample : Cells) → IsVolume sample → IsSmall plan.size → EndsWithin plan sample
ends_within plan sample volume small cuts growth number run done within passes =
    omega (arith, within, passes.past, passes.cells, makes_next plan sample volume (first_growth plan) passes.cuts cuts passes.growth growth passes.placement (starts plan sample volume small) passes.run passes.next run done)

pub limits_are_one : (plan : GrowPlan) (sample : Cells) → OneLimit plan sample
limits_are_one plan sample number other one also =
    one.cells ∙ one_number plan sample MOST_BOX_CELLS (first_growth plan) one.cuts also.cuts one.growth also.growth one.placement also.placement
    one.run one.within one.next (omega (arith, one.past, one.cells)) also.run also.within also.next (omega (arith, also.past, also.cells)) ∙ sym also.cells
