-- The three files and the report are a function of the words, the sample file and the target file.
use Rattle.std.proofs.Common.{◌≡◌, sym, ◌∙◌, subst}
use Rattle.shelf_traits.specs.Files.{Files, content_of}
use Rattle.netpbm_p6.specs.declared.picture.Picture.{Picture}
use Rattle.netpbm_p6.specs.Pictures.{IsRead}
use Rattle.netpbm_p6.proofs.OneReading.{one_picture}
use Rattle.job_words.specs.declared.transfer.TransferJob.{TransferJob}
use Rattle.job_words.specs.TransferWords.{IsTransferJob}
use Rattle.synth_report.specs.declared.summary.Summary.{Summary}
use Rattle.command.specs.Outcomes.{WritesAll}
use Rattle.outputs.specs.BlockHeadlines.{HaveSameQuilt, IsQuiltedBy}
use Rattle.outputs.proofs.OneQuilts as quilts
use Rattle.quilt_command.specs.Transfers.{transfer_command, transfer_rating, transfer_run_of}
use Rattle.quilt_command.specs.TransferHeadlines.{HaveSamePictures, IsOneTransferReport, IsTransferredRun, told_of_transfer}
use Rattle.quilt_command.proofs.TransferLaws.{small_target, transfer_told, transferred_run}

-- the files are those of a run by this target, and what is reported of them
abbrev IsQuiltedTo : TransferJob → Files → Files → Picture → Type 0
IsQuiltedTo job before after target = IsQuiltedBy (transfer_rating job target) (transfer_run_of job target) job.names before after

abbrev told_by : (job : TransferJob) (before after : Files) (target : Picture) → IsQuiltedTo job before after target → Summary
told_by job before after target run = told_of_transfer target run.output.sample.volume run.records.blocks run.output.picture

module _ (job : TransferJob) (before after earlier later : Files) (same : HaveSamePictures job earlier before) (run : IsTransferredRun job before after) where
  -- another run by the same target
  module _ (its : IsQuiltedTo job earlier later run.target) where
    same_files : HaveSameQuilt job.names later after
    same_files =
        quilts.same_output (transfer_rating job run.target) (transfer_run_of job run.target) job.names (small_target before job run.target run.read) before after earlier later same.sample run.run its

    same_told : told_by job earlier later run.target its ≡ told_by job before after run.target run.run
    same_told =
        let sample = quilts.one_sample (transfer_rating job run.target) (transfer_run_of job run.target) job.names (small_target before job run.target run.read) before after earlier later same.sample run.run its in
        let blocks = quilts.one_record (transfer_rating job run.target) (transfer_run_of job run.target) job.names (small_target before job run.target run.read) before after earlier later same.sample run.run its in
        let picture = quilts.one_output (transfer_rating job run.target) (transfer_run_of job run.target) job.names (small_target before job run.target run.read) before after earlier later same.sample run.run its in
        λ i. told_of_transfer run.target (sample i).volume (blocks i) (picture i)

  -- each other run of the words is one
  module _ (other : IsTransferredRun job earlier later) where
    one_target : run.target ≡ other.target
    one_target = one_picture (content_of before job.target) run.target other.target run.read.stands (subst (λ bytes. IsRead bytes other.target) same.target other.read).stands

    pub same_output : HaveSameQuilt job.names later after
    same_output = subst (λ target. IsQuiltedTo job earlier later target → HaveSameQuilt job.names later after) one_target same_files other.run

    pub same_report : told_by job earlier later other.target other.run ≡ told_by job before after run.target run.run
    same_report = subst (λ target. (its : IsQuiltedTo job earlier later target) → told_by job earlier later target its ≡ told_by job before after run.target run.run) one_target same_told other.run

-- another run of the words from files with the same sample and target leaves what is written
pub one_transfer : (job : TransferJob) → IsTransferJob job → (summary : Summary) (before after : Files) → WritesAll (transfer_command job) summary before after
    → (earlier later : Files) → HaveSamePictures job earlier before → IsTransferredRun job earlier later → HaveSameQuilt job.names later after
one_transfer job lawful summary before after wrote earlier later same other =
    same_output job before after earlier later same (transferred_run job lawful summary before after wrote) other

-- and reports the same
pub one_transfer_report : (job : TransferJob) → IsTransferJob job → (summary : Summary) (before after : Files) → WritesAll (transfer_command job) summary before after → IsOneTransferReport job summary before after
one_transfer_report job lawful summary before after wrote =
    let told = transfer_told job lawful summary before after wrote in
    record {
      told = told;
      one = λ other earlier later same its. its.summary_is ∙ same_report job before after earlier later same told.run its.run ∙ sym told.summary_is;
    }
