-- The headline of `trial`: what is reported when it ends with status 0. To be trusted: contracts cite
-- these words. (Own.)
use Rattle.std.specs.Prelude.{◌≡◌, ℕ, List}
use Rattle.shelf_traits.specs.Files.{ShelfState, SinkState, Changes}
use Rattle.job_words.specs.declared.trial.TrialJob.{TrialJob}
use Rattle.job_words.specs.declared.job.Job.TheVariants.{Trial}
use Rattle.synth_report.specs.declared.summary.Summary.{Summary}
use Rattle.command.specs.Promises.{Asks}
use Rattle.command.specs.Writing.{Reported}
use Rattle.grow_command.specs.Trials.{IsTrialOf}

-- whenever `trial` ends with status 0, no file is changed, and the report is that of what is grown,
-- each record of which stands; there is one such report, whichever run it is of
pub record TrialHeadline (words : List (List ℕ)) (was now : ShelfState) (out out' : SinkState)
    (status : ℕ) : Type 0 where
  pub told : (job : TrialJob) → Asks words (Trial job) → status ≡ 0
      → (summary : Summary) × IsTrialOf job summary × Reported summary out out'
      × Changes was now (λ before after. after ≡ before)
  pub one : (job : TrialJob) (summary : Summary) → Asks words (Trial job) → status ≡ 0
      → IsTrialOf job summary → Reported summary out out'
