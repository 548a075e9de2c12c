-- `quilt` has one answer to files, and its headline.
use Rattle.std.proofs.Common.{◌≡◌, length, refl, ap, ◌∙◌}
use Rattle.shelf_traits.specs.Files.{Files}
use Rattle.shelf_traits.specs.Written.{written}
use Rattle.netpbm_p6.specs.declared.picture.Picture.{Picture}
use Rattle.quilted.specs.Runs.{by_overlap}
use Rattle.quilted.specs.declared.asked.Quilted.{Quilted}
use Rattle.quilted.specs.Quilted.{IsQuilt}
use Rattle.job_words.specs.declared.quilt.QuiltJob.{QuiltJob}
use Rattle.job_words.specs.QuiltWords.{IsQuiltJob}
use Rattle.synth_report.specs.declared.summary.Summary.{Summary}
use Rattle.synth_report.specs.declared.summary.Summary.TheVariants.{Quilt}
use Rattle.command.specs.Commands.{HasOneAnswer}
use Rattle.command.specs.Outcomes.{WritesAll}
use Rattle.command.specs.Writing.{pieces, texts_in}
use Rattle.command.proofs.Staging.{one_answer}
use Rattle.sample_files.specs.Outputs.{FitsOutput}
use Rattle.outputs.specs.BlockOutputs.{quilt_files, quilt_of}
use Rattle.outputs.proofs.BlocksWritten.{quilted_by}
use Rattle.quilt_command.specs.Quilts.{IsPictureIn, IsQuiltSummary, MayRefuseQuilt, quilt_command, quilt_run_of, quilt_size, quilt_stages, quilt_summary}
use Rattle.quilt_command.specs.QuiltHeadlines.{IsQuiltedRun, IsToldOfRun}
use Rattle.quilt_command.proofs.Planning.{are_one, small_quilt}

pub quilt_has_one_answer : (job : QuiltJob) → HasOneAnswer (quilt_command job)
quilt_has_one_answer job = one_answer (quilt_stages job) (quilt_command job).writes MayRefuseQuilt IsQuiltSummary (are_one job)

-- what is written is the run of the headline
told : (job : QuiltJob) → IsQuiltJob job → (before after : Files) (sample : Picture) → IsPictureIn job before sample → FitsOutput (quilt_size job) → (quilted : Quilted) → IsQuilt (by_overlap sample.volume) (quilt_run_of job) sample.volume quilted
    → after ≡ written (pieces (quilt_command job).writes (texts_in (quilt_files job.names (quilt_size job) (quilt_of sample quilted)))) before → (summary : Summary) → summary ≡ quilt_summary job quilted → IsToldOfRun job summary before after
told job lawful before after sample read within quilted quilt wrote summary is = record {
  run = quilted_by by_overlap (quilt_run_of job) job.names lawful.names lawful.one before after sample read (small_quilt job lawful within) refl within quilted quilt wrote;
  summary_is = is ∙ (λ i. Quilt (quilt_size job) (length quilted.blocks) (quilt.boundaries i) (quilt.cost i));
}

-- what is reported is that of such a run
pub quilt_told : (job : QuiltJob) → IsQuiltJob job → (summary : Summary) (before after : Files) → WritesAll (quilt_command job) summary before after → IsToldOfRun job summary before after
quilt_told job lawful summary before after (texts, (sample, read, (within, (none, (quilted, quilt, texts_are, summary_is)))), wrote) =
    told job lawful before after sample read within quilted quilt (wrote ∙ ap (λ ts. written (pieces (quilt_command job).writes ts) before) texts_are) summary summary_is

pub quilted_run : (job : QuiltJob) → IsQuiltJob job → (summary : Summary) (before after : Files) → WritesAll (quilt_command job) summary before after → IsQuiltedRun job before after
quilted_run job lawful summary before after wrote = (quilt_told job lawful summary before after wrote).run
