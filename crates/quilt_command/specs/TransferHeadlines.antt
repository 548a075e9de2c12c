-- The headline of `transfer`: what holds when it ends with status 0. To be trusted: contracts cite
-- these words. (Own.)
use Rattle.std.specs.Prelude.{◌≡◌, ℕ, List, length, Ok}
use Rattle.cells.specs.Cells.{Cells}
use Rattle.shelf_traits.specs.Files.{Files, ShelfState, SinkState, Changes, content_of}
use Rattle.netpbm_p6.specs.declared.picture.Picture.{Picture}
use Rattle.map_canvas.specs.Maps.{empty_map}
use Rattle.block_check.specs.declared.block.BlockRecord.{BlockRecord}
use Rattle.quilted.specs.Costs.{all_boundaries, quilt_cost}
use Rattle.targets.specs.Targets.{matched}
use Rattle.job_words.specs.declared.transfer.TransferJob.{TransferJob}
use Rattle.job_words.specs.declared.job.Job.TheVariants.{Transfer as TransferOf}
use Rattle.job_words.specs.Jobs.{job_of}
use Rattle.synth_report.specs.declared.summary.Summary.{Summary}
use Rattle.synth_report.specs.declared.summary.Summary.TheVariants.{Transfer}
use Rattle.command.specs.Writing.{Reported}
use Rattle.sample_files.specs.Outputs.{FitsOutput}
use Rattle.outputs.specs.BlockHeadlines.{HaveSameQuilt, IsQuiltedBy}
use Rattle.quilt_command.specs.Transfers.{IsTargetIn, transfer_rating, transfer_run_of}

-- the target file stands for a picture of the sample's maxval, whose cells are within the bound of
-- an output, and for no other. Out file, map file and record file are those of the run that the words ask for, of the
-- target's size over the sample, each place of which is picked by the overlap errors and by how far
-- its cells are from the target's; they stand, which is what `check` tries; and all other files are
-- as before
pub record IsTransferredRun (job : TransferJob) (before after : Files) : Type 0 where
  pub target : Picture
  pub read : IsTargetIn job before target
  pub only : (other : Picture) → IsTargetIn job before other → other ≡ target
  pub within : FitsOutput target.volume.size
  pub run : IsQuiltedBy (transfer_rating job target) (transfer_run_of job target) job.names
      before after
  pub alike : target.maxval ≡ run.output.sample.maxval

-- whenever `transfer` ends with status 0
abbrev pub TransferHeadline : List (List ℕ) → ShelfState → ShelfState → ℕ → Type 0
TransferHeadline words was now status =
    (job : TransferJob) → job_of words ≡ Ok (TransferOf job) → status ≡ 0
    → Changes was now (IsTransferredRun job)

-- what is reported of a run: the target's size, how many blocks and boundaries its records have,
-- what the boundaries cost, and the sum of the squared differences of all bytes of the output from
-- those of the target
abbrev pub told_of_transfer : Picture → Cells → List BlockRecord → Cells → Summary
told_of_transfer target sample blocks picture =
    Transfer target.volume.size (length blocks) (all_boundaries blocks)
    (quilt_cost sample (empty_map target.volume.size) blocks) (matched picture target.volume)

-- the summary is that of the record and the output of a run
pub record IsToldOfTransfer (job : TransferJob) (summary : Summary) (before after : Files)
    : Type 0 where
  pub run : IsTransferredRun job before after
  pub summary_is : summary ≡ told_of_transfer run.target run.run.output.sample.volume
      run.run.records.blocks run.run.output.picture

-- the sample and the target of a job are the same bytes
pub record HaveSamePictures (job : TransferJob) (one other : Files) : Type 0 where
  pub sample : content_of one job.names.sample ≡ content_of other job.names.sample
  pub target : content_of one job.target ≡ content_of other job.target

-- out file, map file and record file are a function of the words, the sample file and the target
-- file: another run of the words that ends so, from files with the same two, leaves the same
abbrev pub OneTransfer : List (List ℕ) → ShelfState → ShelfState → ℕ → Type 0
OneTransfer words was now status =
    (job : TransferJob) → job_of words ≡ Ok (TransferOf job) → status ≡ 0
    → Changes was now (λ before after. (earlier later : Files)
    → HaveSamePictures job earlier before
    → IsTransferredRun job earlier later → HaveSameQuilt job.names later after)

-- the summary is that of a run, and each other run of the words, from files with the same two, has
-- the same
pub record IsOneTransferReport (job : TransferJob) (summary : Summary) (before after : Files)
    : Type 0 where
  pub told : IsToldOfTransfer job summary before after
  pub one : (other : Summary) (earlier later : Files) → HaveSamePictures job earlier before
      → IsToldOfTransfer job other earlier later → other ≡ summary

-- whenever `transfer` ends with status 0 out has the report of what is written, and the report is a
-- function of the words, the sample file and the target file
abbrev pub TransferReport : List (List ℕ) → ShelfState → ShelfState → SinkState → SinkState → ℕ
    → Type 0
TransferReport words was now out out' status =
    (job : TransferJob) → job_of words ≡ Ok (TransferOf job) → status ≡ 0
    → (summary : Summary) × Reported summary out out'
    × Changes was now (IsOneTransferReport job summary)
