-- The three files and the report are a function of the words and the sample file.
use Rattle.std.proofs.Common.{◌≡◌, sym, ◌∙◌}
use Rattle.shelf_traits.specs.Files.{Files, content_of}
use Rattle.quilted.specs.Runs.{by_overlap}
use Rattle.job_words.specs.declared.quilt.QuiltJob.{QuiltJob}
use Rattle.job_words.specs.QuiltWords.{IsQuiltJob}
use Rattle.synth_report.specs.declared.summary.Summary.{Summary}
use Rattle.command.specs.Outcomes.{WritesAll}
use Rattle.outputs.specs.BlockHeadlines.{HaveSameQuilt}
use Rattle.outputs.proofs.OneQuilts.{one_record, one_sample, same_output}
use Rattle.quilt_command.specs.Quilts.{quilt_command, quilt_run_of}
use Rattle.quilt_command.specs.QuiltHeadlines.{IsOneQuiltReport, IsQuiltedRun, told_of_blocks}
use Rattle.quilt_command.proofs.Planning.{small_quilt}
use Rattle.quilt_command.proofs.QuiltLaws.{quilt_told, quilted_run}

-- another run of the words from files with the same sample leaves what is written
pub one_quilt_output : (job : QuiltJob) → IsQuiltJob job → (summary : Summary) (before after : Files) → WritesAll (quilt_command job) summary before after
    → (earlier later : Files) → content_of earlier job.names.sample ≡ content_of before job.names.sample → IsQuiltedRun job earlier later → HaveSameQuilt job.names later after
one_quilt_output job lawful summary before after wrote earlier later same other =
    same_output by_overlap (quilt_run_of job) job.names (small_quilt job lawful wrote.1.2.0) before after earlier later same (quilted_run job lawful summary before after wrote) other

-- and reports the same
pub one_quilt_report : (job : QuiltJob) → IsQuiltJob job → (summary : Summary) (before after : Files) → WritesAll (quilt_command job) summary before after → IsOneQuiltReport job summary before after
one_quilt_report job lawful summary before after wrote =
    let told = quilt_told job lawful summary before after wrote in
    let small = small_quilt job lawful wrote.1.2.0 in
    record {
      told = told;
      one = λ other earlier later same its.
          let sample = one_sample by_overlap (quilt_run_of job) job.names small before after earlier later same told.run its.run in
          let blocks = one_record by_overlap (quilt_run_of job) job.names small before after earlier later same told.run its.run in
          its.summary_is ∙ (λ i. told_of_blocks job (sample i).volume (blocks i)) ∙ sym told.summary_is;
    }
