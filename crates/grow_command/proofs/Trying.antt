-- The stages of `trial`: each has one answer, what is planned goes by them, and what is grown is one.
use Rattle.std.proofs.Common.{◌≡◌, ℕ, ◌-◌, ◌≤◌, inl, inr, [], refl, ap, sym, ◌∙◌, subst, arith}
use Rattle.std.proofs.lemmas.List.Elements.{length_all_zip}
use Rattle.cells.specs.Places.{IsSmall, cell_count}
use Rattle.shelf_traits.specs.Files.{Files, ShelfState}
use Rattle.shelf_traits.specs.declared.fault.What.TheVariants.{Output}
use Rattle.least_choice.specs.Totals.{map_total}
use Rattle.outputs.specs.TrialSamples.{trial_sample}
use Rattle.outputs.proofs.TrialVolumes.{trial_is_volume}
use Rattle.limits.specs.declared.bounds.TheConstants.{MOST_OUTPUT_CELLS}
use Rattle.grown.specs.declared.plan.GrowError.{GrowError}
use Rattle.grown.specs.declared.plan.GrowError.TheVariants as error
use Rattle.grown.specs.Grown.{Growth, IsGrowFault, PassesAt}
use Rattle.grown.specs.OneRun.{IsSameRun, SameButFlows}
use Rattle.grown.proofs.OneRuns.{ends_within, limits_are_one, runs_are_one}
use Rattle.job_words.specs.declared.trial.TrialJob.{TrialJob}
use Rattle.job_words.specs.TrialWords.{IsTrialJob}
use Rattle.synth_report.specs.declared.fault.Fault.{Fault}
use Rattle.synth_report.specs.declared.summary.Summary.{Summary}
use Rattle.synth_report.specs.declared.summary.Summary.TheVariants.{Trial}
use Rattle.command.specs.Commands.{HasOneAnswer}
use Rattle.command.specs.Outcomes.{IsPlanned, NotMade, WritesAll}
use Rattle.command.specs.Stages.{PassesBound}
use Rattle.command.proofs.Staging.{AreOne, bound_is_one, one_answer, passing_is_one}
use Rattle.command.proofs.Planning.{StandsBefore, begin, limit_passed, pass_on, plan_made}
use Rattle.outputs.specs.Growths.{fault_of_growing}
use Rattle.grow_command.specs.Trials.{IsTrialOf, IsTrialRefused, NotTried, trial_command, trial_plan, trial_stages, trial_summary}

-- the output has no more cells than one may have
abbrev TheWithin : TrialJob → Type 0
TheWithin job = cell_count job.size ≤ MOST_OUTPUT_CELLS

pub small_trial : (job : TrialJob) → IsTrialJob job → TheWithin job → IsSmall job.size
small_trial job lawful within = record { axes = lawful.axes; cells = omega (arith, within) }

-- what is grown, as its run leaves it
abbrev grown_growth : (job : TrialJob) (summary : Summary) → IsTrialOf job summary → Growth
grown_growth job summary t = record { map = t.grown.canvas.map; draws = t.is_grown.draws; rounds = t.grown.rounds }

are_one : (job : TrialJob) (files : Files) → AreOne (trial_stages job) files
are_one job files = (bound_is_one _ _ _, λ within. (passing_is_one _ _ _ (limits_are_one (trial_plan job) (trial_sample job.n)), λ none first second a b. refl))

pub trial_has_one_answer : (job : TrialJob) → HasOneAnswer (trial_command job)
trial_has_one_answer job = one_answer (trial_stages job) [] (IsTrialRefused job) (IsTrialOf job) (are_one job)

begun : (job : TrialJob) (shelf : ShelfState) → StandsBefore (trial_command job) shelf shelf 0 (trial_stages job)
begun job shelf = begin (trial_stages job) [] (IsTrialRefused job) (IsTrialOf job) (are_one job) shelf

module _ (job : TrialJob) (lawful : IsTrialJob job) where
  -- a trial that is made never passes the bound on boxes
  none_passes : (summary : Summary) (t : IsTrialOf job summary) (number : ℕ) → PassesAt (trial_plan job) (trial_sample job.n) number → ⊥
  none_passes summary t number =
      ends_within (trial_plan job) (trial_sample job.n) (trial_is_volume job.n) (small_trial job lawful t.within) t.grown.cuts (grown_growth job summary t) number t.is_grown.run t.is_grown.done t.is_grown.writable.cells

  -- there is one summary
  pub one_trial : (first second : Summary) → IsTrialOf job first → IsTrialOf job second → first ≡ second
  one_trial first second a b = a.summary_is ∙ same ∙ sym b.summary_is
    where
      runs : IsSameRun a.grown.cuts b.grown.cuts (grown_growth job first a) (grown_growth job second b)
      runs = runs_are_one (trial_plan job) (trial_sample job.n) (trial_is_volume job.n) (small_trial job lawful a.within) a.grown.cuts b.grown.cuts (grown_growth job first a) (grown_growth job second b)
          a.is_grown.run a.is_grown.done b.is_grown.run b.is_grown.done

      same : trial_summary job a.grown ≡ trial_summary job b.grown
      same =
          let count = length_all_zip SameButFlows a.grown.cuts b.grown.cuts runs.steps in
          let rounds : a.grown.rounds ≡ b.grown.rounds = ap (λ (g : Growth). g.rounds) runs.left in
          let map : a.grown.canvas.map ≡ b.grown.canvas.map = ap (λ (g : Growth). g.map) runs.left in
          λ i. Trial job.n job.size (count i - rounds i) (rounds i) (map_total (trial_sample job.n) (map i))

  -- what is made is planned
  pub trial_made : (shelf : ShelfState) (summary : Summary) → IsTrialOf job summary → IsPlanned (trial_command job) [] summary shelf shelf
  trial_made shelf summary t =
      let made = plan_made (pass_on (pass_on (begun job shelf) t.within) (none_passes summary t)) t.grown t.is_grown refl (subst (IsTrialOf job) t.summary_is t) in
      subst (λ s. IsPlanned (trial_command job) [] s shelf shelf) (sym t.summary_is) made

pub trial_not_made : (job : TrialJob) (shelf : ShelfState) (fault : Fault) → NotTried job fault → NotMade (trial_command job) shelf shelf fault
trial_not_made job shelf fault (inl is) = subst (NotMade (trial_command job) shelf shelf) (sym is) tt
trial_not_made job shelf fault (inr (inl p)) = limit_passed (begun job shelf) fault _ _ _ p.1 p (inl (subst (PassesBound Output (cell_count job.size) MOST_OUTPUT_CELLS) p.1 p))
trial_not_made job shelf fault (inr (inr p)) = limit_passed (pass_on (begun job shelf) p.0) fault _ _ _ p.3 (p.1, p.2, p.3) (inr (p.0, p.1, p.2, refl))

-- why nothing is grown
pub not_grown : (job : TrialJob) → TheWithin job → (why : GrowError) → IsGrowFault (trial_plan job) (trial_sample job.n) why → NotTried job (fault_of_growing why)
not_grown job within (error.Records number) passes = inr (inr (within, number, passes, refl))
not_grown job within error.NoMemory left = inl refl

-- no file is changed
pub trial_unchanged : (job : TrialJob) (summary : Summary) (before after : Files) → WritesAll (trial_command job) summary before after → after ≡ before
trial_unchanged job summary before after (texts, makes, wrote) = wrote
