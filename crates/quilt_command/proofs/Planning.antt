-- The stages of `quilt`: each has one answer, and what is planned goes by them.
use Rattle.std.proofs.Common.{refl, arith}
use Rattle.cells.specs.Cells.{IsVolume}
use Rattle.cells.specs.Places.{HasAxes, IsSmall}
use Rattle.shelf_traits.specs.Files.{Files, InFile, OnlyReadsFile, ShelfState, content_of}
use Rattle.netpbm_p6.specs.declared.picture.Picture.{Picture}
use Rattle.netpbm_p6.specs.Pictures.{IsRead, IsSound, Refuses}
use Rattle.quilted.specs.Runs.{by_overlap}
use Rattle.quilted.specs.declared.asked.Quilted.{Quilted}
use Rattle.quilted.specs.declared.asked.QuiltError.{QuiltError}
use Rattle.quilted.specs.Quilted.{CanBeQuilted, IsQuilt, IsQuiltFault}
use Rattle.job_words.specs.declared.quilt.QuiltJob.{QuiltJob}
use Rattle.job_words.specs.QuiltWords.{IsQuiltJob}
use Rattle.synth_report.specs.declared.fault.Fault.{Fault}
use Rattle.synth_report.specs.declared.fault.FileOf.TheVariants as part
use Rattle.command.specs.Faults.{IsNotRead}
use Rattle.command.specs.Outcomes.{IsPlanned, NotMade}
use Rattle.command.proofs.Staging.{AreOne, file_is_one}
use Rattle.command.proofs.Planning.{StandsBefore, begin, file_read, part_not_read}
use Rattle.sample_files.specs.Outputs.{FitsOutput, PassesOutput}
use Rattle.sample_files.proofs.OnePicture.{picture_is_one}
use Rattle.outputs.specs.BlockOutputs.{fault_of_quilting, quilt_files, quilt_of}
use Rattle.outputs.proofs.BlocksPlanned as rest
use Rattle.quilt_command.specs.Quilts.{IsQuiltSummary, MayRefuseQuilt, quilt_command, quilt_rest, quilt_run_of, quilt_size, quilt_stages, quilt_summary}

pub small_quilt : (job : QuiltJob) → IsQuiltJob job → FitsOutput (quilt_size job) → IsSmall (quilt_size job)
small_quilt job lawful within = record { axes = record { w = lawful.w; h = lawful.h; f = (omega arith, omega arith) }; cells = omega (arith, within) }

pub are_one : (job : QuiltJob) (files : Files) → AreOne (quilt_stages job) files
are_one job files = (
  file_is_one picture_is_one part.Sample job.names.sample files,
  λ picture read. rest.over_is_one (by_overlap picture.volume) (quilt_run_of job) job.names (quilt_summary job) (λ first second. refl) picture files,
)

-- quilting can be asked for
pub can_quilt : (job : QuiltJob) (picture : Picture) → IsQuiltJob job → FitsOutput (quilt_size job) → IsSound picture → CanBeQuilted (quilt_run_of job) picture.volume
can_quilt job picture lawful within sound = record {
  small = small_quilt job lawful within;
  frame = refl;
  block = lawful.block.0;
  samples = sound.form.colours;
  part = sound.form.one;
  sample_frame = sound.form.frames;
}

-- What is planned.

module _ (job : QuiltJob) (a b : ShelfState) (reads : OnlyReadsFile job.names.sample a b) where
  begun : StandsBefore (quilt_command job) a a 0 (quilt_stages job)
  begun = begin (quilt_stages job) (quilt_command job).writes MayRefuseQuilt IsQuiltSummary (are_one job) a

  pub picture_not_read : (fault : Fault) → IsNotRead Refuses part.Sample job.names.sample a b fault → NotMade (quilt_command job) a b fault
  picture_not_read = part_not_read Refuses begun reads (λ why. tt) (λ what number bound. tt)

  module _ (picture : Picture) (read : InFile job.names.sample a b (λ bytes. IsRead bytes picture)) where
    over : StandsBefore (quilt_command job) a b 1 (quilt_rest job picture)
    over = file_read begun reads picture read

    pub output_refused : (fault : Fault) → PassesOutput (quilt_size job) fault → NotMade (quilt_command job) a b fault
    output_refused = rest.output_refused (by_overlap picture.volume) (quilt_run_of job) job.names (quilt_summary job) picture over (λ number. (tt, tt))

    pub not_quilted : FitsOutput (quilt_size job) → IsVolume picture.volume → CanBeQuilted (quilt_run_of job) picture.volume → (why : QuiltError) → IsQuiltFault (quilt_run_of job) picture.volume why → NotMade (quilt_command job) a b (fault_of_quilting why)
    not_quilted = rest.not_quilted (by_overlap picture.volume) (quilt_run_of job) job.names (quilt_summary job) picture over (λ number. (tt, tt))

    pub quilt_made : FitsOutput (quilt_size job) → IsVolume picture.volume → CanBeQuilted (quilt_run_of job) picture.volume → (quilted : Quilted) → IsQuilt (by_overlap picture.volume) (quilt_run_of job) picture.volume quilted
        → IsPlanned (quilt_command job) (quilt_files job.names (quilt_size job) (quilt_of picture quilted)) (quilt_summary job quilted) a b
    quilt_made within volume can quilted is =
        rest.quilt_made (by_overlap picture.volume) (quilt_run_of job) job.names (quilt_summary job) picture over (λ number. (tt, tt)) within volume can quilted is refl (_, _, _, _, refl)
