-- `trial` as a command: it reads and writes no file, grows an output from the sample of a number, and
-- says what came of it. To be trusted: contracts cite these words. (Own.)
use Rattle.std.specs.Prelude.{◌≡◌, ◌≤◌, ◌⊎◌, ◌-◌, ℕ, [], length}
use Rattle.cells.specs.Places.{cell_count}
use Rattle.shelf_traits.specs.declared.fault.What.TheVariants.{Output, Records as RecordsLimit}
use Rattle.least_choice.specs.Totals.{map_total}
use Rattle.outputs.specs.TrialSamples.{trial_sample}
use Rattle.limits.specs.declared.bounds.TheConstants.{MOST_BOX_CELLS, MOST_OUTPUT_CELLS}
use Rattle.grown.specs.declared.plan.GrowPlan.{GrowPlan}
use Rattle.grown.specs.declared.plan.Grown.{Grown}
use Rattle.grown.specs.Grown.{IsGrown, PassesAt}
use Rattle.job_words.specs.declared.trial.TrialJob.{TrialJob}
use Rattle.synth_report.specs.declared.fault.Fault.{Fault}
use Rattle.synth_report.specs.declared.fault.Fault.TheVariants.{Limit, NoMemory}
use Rattle.synth_report.specs.declared.summary.Summary.{Summary}
use Rattle.synth_report.specs.declared.summary.Summary.TheVariants.{Trial}
use Rattle.command.specs.Commands.{Command}
use Rattle.command.specs.Stages.{PassesBound, Stages, bounded, never_passed, of_stages}
use Rattle.command.specs.Stages.Stages.{make}
use Rattle.outputs.specs.Growths.{mode_for}

-- how the output is grown and refined
abbrev pub trial_plan : TrialJob → GrowPlan
trial_plan job = record {
  size = job.size;
  mode = mode_for job.place job.side job.overlap job.tol;
  side = job.side;
  tol = job.tol;
  rounds = job.rounds;
  seed = job.seed;
}

-- the records but those of rounds are those of placements
abbrev pub trial_summary : TrialJob → Grown → Summary
trial_summary job grown =
    Trial job.n job.size (length grown.cuts - grown.rounds) grown.rounds
    (map_total (trial_sample job.n) grown.canvas.map)

-- what is grown from the sample of the number, within the bound on cells, and the summary of it: of
-- its records each stands
pub record IsTrialOf (job : TrialJob) (summary : Summary) : Type 0 where
  pub within : cell_count job.size ≤ MOST_OUTPUT_CELLS
  pub grown : Grown
  pub is_grown : IsGrown (trial_plan job) (trial_sample job.n) grown
  pub summary_is : summary ≡ trial_summary job grown

-- the cells of the output pass their bound; or they don't and those of the boxes of the run do, at
-- this number
abbrev pub IsTrialRefused : TrialJob → Fault → Type 0
IsTrialRefused job fault =
    PassesBound Output (cell_count job.size) MOST_OUTPUT_CELLS fault
    ⊎ ((cell_count job.size ≤ MOST_OUTPUT_CELLS)
    × (number : ℕ) × PassesAt (trial_plan job) (trial_sample job.n) number
    × (fault ≡ Limit RecordsLimit number MOST_BOX_CELLS))

-- why nothing is made: it is refused, or memory ran out
abbrev pub NotTried : TrialJob → Fault → Type 0
NotTried job fault = (fault ≡ NoMemory) ⊎ IsTrialRefused job fault

-- the cells of the output are within their bound, and so are those of the boxes of the run; the
-- output is grown. What is refused and made is the same whatever files there are
abbrev pub trial_stages : TrialJob → Stages []
trial_stages job =
    bounded Output (cell_count job.size) MOST_OUTPUT_CELLS
    (never_passed RecordsLimit (PassesAt (trial_plan job) (trial_sample job.n)) MOST_BOX_CELLS
    (make (IsGrown (trial_plan job) (trial_sample job.n)) (λ grown. []) (trial_summary job)))

abbrev pub trial_command : TrialJob → Command
trial_command job = of_stages (trial_stages job) [] (IsTrialRefused job) (IsTrialOf job)
