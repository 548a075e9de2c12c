-- The stages of `tile`: each has one answer, and what is planned goes by them.
use Rattle.std.proofs.Common.{◌≡◌, ℕ, inl, inr, List, refl, sym, subst, arith}
use Rattle.std.specs.Prelude.{Err}
use Rattle.shelf_traits.specs.Files.{Files, InFile, OnlyReadsFile, ShelfState}
use Rattle.shelf_traits.specs.declared.fault.ReadError.{ReadError}
use Rattle.synth_report.specs.declared.fault.Fault.{Fault}
use Rattle.synth_report.specs.declared.fault.FileOf.TheVariants as part
use Rattle.command.specs.Faults.{fault_of_read}
use Rattle.command.specs.Outcomes.{IsPlanned, NotMade}
use Rattle.command.proofs.Staging.{AreOne, bound_is_one, file_is_one}
use Rattle.command.proofs.Planning.{StandsBefore, begin, file_not_read, file_read, limit_passed, pass_on, plan_made}
use Rattle.sample_files.specs.declared.form.Form.{Form}
use Rattle.sample_files.specs.declared.sample.Sample.{Sample}
use Rattle.sample_files.specs.Outputs.{IsWithinBounds, PassesBounds}
use Rattle.sample_files.specs.Samples.{IsSampleOf, RefusesSample, SampleReadsAs}
use Rattle.sample_files.proofs.Commands.{sample_is_one}
use Rattle.job_words.specs.declared.tile.TileJob.{TileJob}
use Rattle.job_words.specs.TileWords.{IsTileJob}
use Rattle.torus.specs.declared.plan.Tiled.{Tiled}
use Rattle.torus.specs.Tilings.{IsRunPlan}
use Rattle.outputs.specs.declared.tiled.TiledSample.{TiledSample}
use Rattle.outputs.specs.Tilings.{IsTileSummary, IsTilingMade, MayRefuseTile, plan_of, tile_command, tile_files, tile_over, tile_stages, tile_summary, tiling_of}

-- the plan of a job within its bounds
pub run_plan : (job : TileJob) → IsTileJob job → (form : Form) → IsWithinBounds job.size form → IsRunPlan (plan_of job)
run_plan job lawful form bounds = record { axes = lawful.axes; cells = omega (arith, bounds.cells); wide = lawful.wide; side = lawful.side.0 }

pub are_one : (job : TileJob) (files : Files) → AreOne (tile_stages job) files
are_one job files = (
  file_is_one sample_is_one part.Sample job.sample files,
  λ sample read. (bound_is_one _ _ _, λ frames. (bound_is_one _ _ _, λ cells first second a b. refl)),
)

-- What is planned: the code has the sample file under the name that it sees.

module _ (job : TileJob) (a b : ShelfState) {name : List ℕ} (same : name ≡ job.sample) (reads : OnlyReadsFile name a b) where
  begun : StandsBefore (tile_command job) a a 0 (tile_stages job)
  begun = begin (tile_stages job) (tile_command job).writes MayRefuseTile (IsTileSummary job) (are_one job) a

  to_sample : OnlyReadsFile job.sample a b
  to_sample = subst (λ n. OnlyReadsFile n a b) same reads

  pub sample_not_read : (answer : ReadError) → SampleReadsAs name a b (Err answer) → NotMade (tile_command job) a b (fault_of_read part.Sample answer)
  sample_not_read answer left =
      file_not_read RefusesSample begun to_sample (λ why. tt) (λ what number bound. tt) answer (subst (λ n. SampleReadsAs n a b (Err answer)) same left)

  module _ (sample : Sample) (read : InFile name a b (λ bytes. IsSampleOf bytes sample)) where
    over : StandsBefore (tile_command job) a b 1 (tile_over job sample)
    over = file_read begun to_sample sample (subst (λ n. InFile n a b (λ bytes. IsSampleOf bytes sample)) same read)

    pub bounds_passed : (fault : Fault) → PassesBounds job.size sample.form fault → NotMade (tile_command job) a b fault
    bounds_passed fault (inl frames) = limit_passed over fault _ _ _ frames.1 frames tt
    bounds_passed fault (inr cells) = limit_passed (pass_on over cells.0) fault _ _ _ cells.1.1 cells.1 tt

    pub tiling_made : (tiled : Tiled) → IsTilingMade job (tiling_of job sample tiled) → (made : TiledSample) → made ≡ tiling_of job sample tiled → IsPlanned (tile_command job) (tile_files job made) (tile_summary job made) a b
    tiling_made tiled is made made_is =
        let planned = plan_made (pass_on (pass_on over is.bounds.frames) is.bounds.cells) tiled is refl (_, _, refl) in
        subst (λ m. IsPlanned (tile_command job) (tile_files job m) (tile_summary job m) a b) (sym made_is) planned
