-- `transfer` has one answer to files, and its headline.
use Rattle.std.proofs.Common.{◌≡◌, length, ap, ◌∙◌}
use Rattle.cells.specs.Places.{IsSmall}
use Rattle.shelf_traits.specs.Files.{Files, content_of}
use Rattle.shelf_traits.specs.Written.{written}
use Rattle.netpbm_p6.specs.declared.picture.Picture.{Picture}
use Rattle.netpbm_p6.specs.Pictures.{IsRead}
use Rattle.netpbm_p6.proofs.OneReading.{one_picture}
use Rattle.quilted.specs.declared.asked.Quilted.{Quilted}
use Rattle.quilted.specs.Quilted.{IsQuilt}
use Rattle.targets.specs.Targets.{matched}
use Rattle.job_words.specs.declared.transfer.TransferJob.{TransferJob}
use Rattle.job_words.specs.TransferWords.{IsTransferJob}
use Rattle.synth_report.specs.declared.summary.Summary.{Summary}
use Rattle.synth_report.specs.declared.summary.Summary.TheVariants.{Transfer}
use Rattle.command.specs.Commands.{HasOneAnswer}
use Rattle.command.specs.Outcomes.{WritesAll}
use Rattle.command.specs.Writing.{pieces, texts_in}
use Rattle.command.proofs.Staging.{one_answer}
use Rattle.sample_files.specs.Outputs.{FitsOutput}
use Rattle.sample_files.proofs.Sound.{read_is_sound, read_is_volume}
use Rattle.outputs.specs.BlockOutputs.{quilt_files, quilt_of}
use Rattle.outputs.proofs.BlocksWritten.{quilted_by}
use Rattle.quilt_command.specs.Transfers.{IsTargetIn, IsTransferSummary, MayRefuseTransfer, transfer_command, transfer_rating, transfer_run_of, transfer_stages, transfer_summary}
use Rattle.quilt_command.specs.TransferHeadlines.{IsToldOfTransfer, IsTransferredRun}
use Rattle.quilt_command.proofs.Naming.{file_names}
use Rattle.quilt_command.proofs.TransferPlanning.{are_one}

pub transfer_has_one_answer : (job : TransferJob) → HasOneAnswer (transfer_command job)
transfer_has_one_answer job = one_answer (transfer_stages job) (transfer_command job).writes MayRefuseTransfer IsTransferSummary (are_one job)

-- the output has the axes of a picture
pub small_target : (files : Files) (job : TransferJob) (target : Picture) → IsTargetIn job files target → IsSmall target.volume.size
small_target files job target read = (read_is_volume (content_of files job.target) target read).small

-- what is written is the run of the headline
told : (job : TransferJob) → IsTransferJob job → (before after : Files) (sample target : Picture) → IsRead (content_of before job.names.sample) sample → IsTargetIn job before target → target.maxval ≡ sample.maxval → FitsOutput target.volume.size
    → (quilted : Quilted) → IsQuilt (transfer_rating job target sample.volume) (transfer_run_of job target) sample.volume quilted
    → after ≡ written (pieces (transfer_command job).writes (texts_in (quilt_files job.names target.volume.size (quilt_of sample quilted)))) before
    → (summary : Summary) → summary ≡ transfer_summary target quilted → IsToldOfTransfer job summary before after
told job lawful before after sample target read aimed alike within quilted quilt wrote summary is = record {
  run = record {
    target = target;
    read = aimed;
    only = λ other stands. one_picture (content_of before job.target) other target stands.stands aimed.stands;
    within = within;
    run = quilted_by (transfer_rating job target) (transfer_run_of job target) job.names (file_names job lawful) lawful.one before after sample read (small_target before job target aimed) (read_is_sound (content_of before job.target) target.maxval target.volume aimed).form.frames within quilted quilt wrote;
    alike = alike;
  };
  summary_is = is ∙ (λ i. Transfer target.volume.size (length quilted.blocks) (quilt.boundaries i) (quilt.cost i) (matched quilted.canvas.picture target.volume));
}

-- what is reported is that of such a run
pub transfer_told : (job : TransferJob) → IsTransferJob job → (summary : Summary) (before after : Files) → WritesAll (transfer_command job) summary before after → IsToldOfTransfer job summary before after
transfer_told job lawful summary before after (texts, (sample, read, (target, aimed, (alike, (within, (none, (quilted, quilt, texts_are, summary_is)))))), wrote) =
    told job lawful before after sample target read aimed alike within quilted quilt (wrote ∙ ap (λ ts. written (pieces (transfer_command job).writes ts) before) texts_are) summary summary_is

pub transferred_run : (job : TransferJob) → IsTransferJob job → (summary : Summary) (before after : Files) → WritesAll (transfer_command job) summary before after → IsTransferredRun job before after
transferred_run job lawful summary before after wrote = (transfer_told job lawful summary before after wrote).run
