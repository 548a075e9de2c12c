-- The headline of `quilt`: what holds when it ends with status 0. To be trusted: contracts cite
-- these words. (Own.)
use Rattle.std.specs.Prelude.{◌≡◌, ℕ, List, length, Ok}
use Rattle.cells.specs.Cells.{Cells}
use Rattle.shelf_traits.specs.Files.{Files, ShelfState, SinkState, Changes, content_of}
use Rattle.map_canvas.specs.Maps.{empty_map}
use Rattle.block_check.specs.declared.block.BlockRecord.{BlockRecord}
use Rattle.quilted.specs.Runs.{by_overlap}
use Rattle.quilted.specs.Costs.{all_boundaries, quilt_cost}
use Rattle.job_words.specs.declared.quilt.QuiltJob.{QuiltJob}
use Rattle.job_words.specs.declared.job.Job.TheVariants.{Quilt as QuiltOf}
use Rattle.job_words.specs.Jobs.{job_of}
use Rattle.synth_report.specs.declared.summary.Summary.{Summary}
use Rattle.synth_report.specs.declared.summary.Summary.TheVariants.{Quilt}
use Rattle.command.specs.Writing.{Reported}
use Rattle.outputs.specs.BlockHeadlines.{HaveSameQuilt, IsQuiltedBy}
use Rattle.quilt_command.specs.Quilts.{quilt_run_of, quilt_size}

-- the sample file stands for a picture. Out file, map file and record file are those of the quilted run
-- that the words ask for over it, each place of which is picked by the overlap errors; they stand, which is
-- what `check` tries; and all other files are as before
abbrev pub IsQuiltedRun : QuiltJob → Files → Files → Type 0
IsQuiltedRun job before after = IsQuiltedBy by_overlap (quilt_run_of job) job.names before after

-- whenever `quilt` ends with status 0
abbrev pub QuiltHeadline : List (List ℕ) → ShelfState → ShelfState → ℕ → Type 0
QuiltHeadline words was now status =
    (job : QuiltJob) → job_of words ≡ Ok (QuiltOf job) → status ≡ 0
    → Changes was now (IsQuiltedRun job)

-- what is reported of a run: the asked size, how many blocks and boundaries its records have, and
-- what the boundaries cost
abbrev pub told_of_blocks : QuiltJob → Cells → List BlockRecord → Summary
told_of_blocks job sample blocks = Quilt (quilt_size job) (length blocks) (all_boundaries blocks)
    (quilt_cost sample (empty_map (quilt_size job)) blocks)

-- the summary is that of the record of a run
pub record IsToldOfRun (job : QuiltJob) (summary : Summary) (before after : Files) : Type 0 where
  pub run : IsQuiltedRun job before after
  pub summary_is : summary ≡ told_of_blocks job run.output.sample.volume run.records.blocks

-- out file, map file and record file are a function of the words and the sample file: another run of
-- the words that ends so, from files with the same sample, leaves the same
abbrev pub OneQuiltOutput : List (List ℕ) → ShelfState → ShelfState → ℕ → Type 0
OneQuiltOutput words was now status =
    (job : QuiltJob) → job_of words ≡ Ok (QuiltOf job) → status ≡ 0
    → Changes was now (λ before after. (earlier later : Files)
    → content_of earlier job.names.sample ≡ content_of before job.names.sample
    → IsQuiltedRun job earlier later → HaveSameQuilt job.names later after)

-- the summary is that of a run, and each other run of the words, from files with the same sample, has
-- the same
pub record IsOneQuiltReport (job : QuiltJob) (summary : Summary) (before after : Files)
    : Type 0 where
  pub told : IsToldOfRun job summary before after
  pub one : (other : Summary) (earlier later : Files)
      → content_of earlier job.names.sample ≡ content_of before job.names.sample
      → IsToldOfRun job other earlier later → other ≡ summary

-- whenever `quilt` ends with status 0 out has the report of the record that is written, and the
-- report is a function of the words and the sample file
abbrev pub QuiltReport : List (List ℕ) → ShelfState → ShelfState → SinkState → SinkState → ℕ
    → Type 0
QuiltReport words was now out out' status =
    (job : QuiltJob) → job_of words ≡ Ok (QuiltOf job) → status ≡ 0
    → (summary : Summary) × Reported summary out out'
    × Changes was now (IsOneQuiltReport job summary)
