-- The stages of `transfer`: each has one answer, and what is planned goes by them.
use Rattle.std.proofs.Common.{◌≡◌, ℕ, [], ◌∷◌, refl, sym, ◌∙◌}
use Rattle.std.specs.Prelude.{Err}
use Rattle.cells.specs.declared.place.Size.{Size}
use Rattle.cells.specs.Cells.{IsVolume}
use Rattle.shelf_traits.specs.Files.{Files, InFile, OnlyReads, OnlyReadsFile, ShelfState}
use Rattle.netpbm_p6.specs.declared.picture.Picture.{Picture}
use Rattle.netpbm_p6.specs.Pictures.{IsRead, IsSound, Refuses}
use Rattle.quilted.specs.declared.asked.Quilted.{Quilted}
use Rattle.quilted.specs.declared.asked.QuiltError.{QuiltError}
use Rattle.quilted.specs.Quilted.{CanBeQuilted, IsQuilt, IsQuiltFault}
use Rattle.targets.specs.Targets.{IsTargetOf}
use Rattle.job_words.specs.declared.transfer.TransferJob.{TransferJob}
use Rattle.job_words.specs.TransferWords.{IsTransferJob}
use Rattle.synth_report.specs.declared.fault.Fault.{Fault}
use Rattle.synth_report.specs.declared.fault.FileOf.TheVariants as part
use Rattle.command.specs.Commands.{named, names_in}
use Rattle.command.specs.Faults.{IsNotRead}
use Rattle.command.specs.Outcomes.{IsPlanned, NotMade}
use Rattle.command.proofs.Staging.{AreOne, file_is_one}
use Rattle.command.proofs.Planning.{StandsBefore, begin, file_read, part_not_read, reads_on}
use Rattle.sample_files.specs.Outputs.{FitsOutput, PassesOutput}
use Rattle.sample_files.specs.Targets.{IsTargetRead, TargetReadsAs, read_target}
use Rattle.sample_files.proofs.OnePicture.{picture_is_one, target_is_one, target_not_taken, target_only, target_passed}
use Rattle.outputs.specs.BlockOutputs.{fault_of_quilting, quilt_files, quilt_of}
use Rattle.outputs.proofs.BlocksPlanned as rest
use Rattle.quilt_command.specs.Transfers.{IsTransferSummary, MayRefuseTransfer, transfer_command, transfer_rating, transfer_rest, transfer_run_of, transfer_stages, transfer_summary}

-- one frame of this width and height
abbrev pub one_frame : ℕ → ℕ → Size
one_frame w h = record { w = w; h = h; f = 1 }

pub are_one : (job : TransferJob) (files : Files) → AreOne (transfer_stages job) files
are_one job files = (
  file_is_one picture_is_one part.Sample job.names.sample files,
  λ sample read. target_is_one sample.maxval job.target (transfer_rest job sample) files
      (λ target. rest.over_is_one (transfer_rating job target sample.volume) (transfer_run_of job target) job.names (transfer_summary target) (λ first second. refl) sample files),
)

-- a size of one frame with as many rows and columns as the target's is the target's
pub target_size : (target : Picture) → IsSound target → (size : Size) → size ≡ target.volume.size → one_frame size.w size.h ≡ target.volume.size
target_size target sound size is =
    let frame : 1 ≡ target.volume.size.f = sym sound.form.frames in
    λ i. record { w = (is i).w; h = (is i).h; f = frame i }

-- a transfer can be asked for
pub can_transfer : (job : TransferJob) (sample target : Picture) → IsTransferJob job → IsSound sample → IsSound target → CanBeQuilted (transfer_run_of job target) sample.volume
can_transfer job sample target lawful sound aimed = record {
  small = aimed.form.volume_is.small;
  frame = aimed.form.frames;
  block = lawful.block.0;
  samples = sound.form.colours;
  part = sound.form.one;
  sample_frame = sound.form.frames;
}

pub is_target : (job : TransferJob) (sample target : Picture) → IsSound sample → IsSound target → IsTargetOf (transfer_run_of job target).size sample.volume target.volume
is_target job sample target sound aimed = record { part = aimed.form.one; size = refl; samples = aimed.form.colours ∙ sym sound.form.colours }

-- What is planned.

module _ (job : TransferJob) (a b : ShelfState) (reads : OnlyReadsFile job.names.sample a b) where
  begun : StandsBefore (transfer_command job) a a 0 (transfer_stages job)
  begun = begin (transfer_stages job) (transfer_command job).writes MayRefuseTransfer IsTransferSummary (are_one job) a

  pub sample_only : OnlyReads (names_in (transfer_command job).reads) a b
  sample_only = reads_on (named part.Sample job.names.sample ∷ []) begun reads

  pub sample_not_read : (fault : Fault) → IsNotRead Refuses part.Sample job.names.sample a b fault → NotMade (transfer_command job) a b fault
  sample_not_read = part_not_read Refuses begun reads (λ why. tt) (λ what number bound. tt)

  module _ (sample : Picture) (read : InFile job.names.sample a b (λ bytes. IsRead bytes sample)) (d : ShelfState) (aims : OnlyReadsFile job.target b d) where
    before_target : StandsBefore (transfer_command job) a b 1 (read_target sample.maxval job.target (transfer_rest job sample))
    before_target = file_read begun reads sample read

    pub both_only : OnlyReads (names_in (transfer_command job).reads) a d
    both_only = target_only sample.maxval job.target before_target aims

    pub target_not_read : (fault : Fault) → TargetReadsAs sample.maxval job.target b d (Err fault) → NotMade (transfer_command job) a d fault
    target_not_read = target_not_taken sample.maxval job.target before_target aims (λ why. tt) (λ what number bound. tt) tt

    module _ (target : Picture) (its : IsTargetRead sample.maxval job.target b d target) where
      over : StandsBefore (transfer_command job) a d 2 (transfer_rest job sample target)
      over = target_passed sample.maxval job.target before_target aims target its

      pub output_refused : (fault : Fault) → PassesOutput target.volume.size fault → NotMade (transfer_command job) a d fault
      output_refused = rest.output_refused (transfer_rating job target sample.volume) (transfer_run_of job target) job.names (transfer_summary target) sample over (λ number. (tt, tt))

      pub not_quilted : FitsOutput target.volume.size → IsVolume sample.volume → CanBeQuilted (transfer_run_of job target) sample.volume → (why : QuiltError) → IsQuiltFault (transfer_run_of job target) sample.volume why → NotMade (transfer_command job) a d (fault_of_quilting why)
      not_quilted = rest.not_quilted (transfer_rating job target sample.volume) (transfer_run_of job target) job.names (transfer_summary target) sample over (λ number. (tt, tt))

      pub quilt_made : FitsOutput target.volume.size → IsVolume sample.volume → CanBeQuilted (transfer_run_of job target) sample.volume → (quilted : Quilted) → IsQuilt (transfer_rating job target sample.volume) (transfer_run_of job target) sample.volume quilted
          → IsPlanned (transfer_command job) (quilt_files job.names target.volume.size (quilt_of sample quilted)) (transfer_summary target quilted) a d
      quilt_made within volume can quilted is =
          rest.quilt_made (transfer_rating job target sample.volume) (transfer_run_of job target) job.names (transfer_summary target) sample over (λ number. (tt, tt)) within volume can quilted is refl (_, _, _, _, _, refl)
