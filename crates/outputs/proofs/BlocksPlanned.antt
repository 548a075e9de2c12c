-- The last stages: each has one answer, and what is planned goes by them.
use Rattle.std.proofs.Common.{◌≡◌, ℕ, refl}
use Rattle.cells.specs.Cells.{IsVolume}
use Rattle.cells.specs.Places.{IsSmall}
use Rattle.shelf_traits.specs.Files.{Files, ShelfState}
use Rattle.shelf_traits.specs.declared.fault.What.TheVariants.{Output, Records as RecordsLimit}
use Rattle.limits.specs.declared.bounds.TheConstants.{MOST_BOX_CELLS, MOST_OUTPUT_CELLS}
use Rattle.netpbm_p6.specs.declared.picture.Picture.{Picture}
use Rattle.netpbm_p6.specs.Pictures.{IsSound}
use Rattle.quilted.specs.Runs.{Rating, quilting}
use Rattle.quilted.specs.declared.asked.QuiltRun.{QuiltRun}
use Rattle.quilted.specs.declared.asked.Quilted.{Quilted}
use Rattle.quilted.specs.declared.asked.QuiltError.{QuiltError}
use Rattle.quilted.specs.declared.asked.QuiltError.TheVariants as error
use Rattle.quilted.specs.Quilted.{CanBeQuilted, IsQuilt, IsQuiltFault}
use Rattle.quilted.proofs.OneLimits.{ends_within, passes_there, runs_pass_once}
use Rattle.quilted.proofs.Reaching.{blocks_pass}
use Rattle.job_words.specs.declared.job.Names.{Names}
use Rattle.synth_report.specs.declared.fault.Fault.{Fault}
use Rattle.synth_report.specs.declared.fault.Fault.TheVariants.{Limit}
use Rattle.synth_report.specs.Texts.{summary_status}
use Rattle.synth_report.specs.declared.summary.Summary.{Summary}
use Rattle.command.specs.Commands.{Command}
use Rattle.command.specs.Outcomes.{IsPlanned, NotMade}
use Rattle.command.specs.Writing.{files_in}
use Rattle.command.proofs.Staging.{AreOne, bound_is_one, passing_is_one}
use Rattle.command.proofs.Planning.{StandsBefore, limit_passed, not_passed, pass_on, plan_made}
use Rattle.sample_files.specs.Outputs.{FitsOutput, PassesOutput}
use Rattle.outputs.specs.BlockOutputs.{fault_of_quilting, quilt_files, quilt_of, quilt_over}

-- whatever is reported, with one status
pub over_is_one : (rating : Rating) (asked : QuiltRun) (names : Names) (summary : Quilted → Summary) → ((first second : Quilted) → summary_status (summary first) ≡ summary_status (summary second)) → (picture : Picture) (files : Files) → AreOne (quilt_over rating asked names summary picture) files
over_is_one rating asked names summary same picture files = (bound_is_one _ _ _, λ within. (passing_is_one _ _ _ (runs_pass_once rating asked picture.volume), λ none first second a b. same first second))

-- What is planned.

module _ (rating : Rating) (asked : QuiltRun) (names : Names) (summary : Quilted → Summary) (picture : Picture) {c : Command} {a b : ShelfState} {turn : ℕ} (over : StandsBefore c a b turn (quilt_over rating asked names summary picture))
    (may : (number : ℕ) → c.MayRefuse (Limit Output number MOST_OUTPUT_CELLS) × c.MayRefuse (Limit RecordsLimit number MOST_BOX_CELLS)) where
  pub output_refused : (fault : Fault) → PassesOutput asked.size fault → NotMade c a b fault
  output_refused fault passes = limit_passed over fault _ _ _ passes.1 passes (may _).0

  pub not_quilted : FitsOutput asked.size → IsVolume picture.volume → CanBeQuilted asked picture.volume → (why : QuiltError) → IsQuiltFault asked picture.volume why → NotMade c a b (fault_of_quilting why)
  not_quilted within volume can (error.Records number) passes = not_passed (pass_on over within) _ (number, blocks_pass rating asked picture.volume volume can number passes, refl) (may number).1
  not_quilted within volume can error.NoMemory left = tt

  pub quilt_made : FitsOutput asked.size → IsVolume picture.volume → CanBeQuilted asked picture.volume → (quilted : Quilted) → IsQuilt rating asked picture.volume quilted
      → files_in (quilt_files names asked.size (quilt_of picture quilted)) ≡ c.writes → c.MayMake (summary quilted) → IsPlanned c (quilt_files names asked.size (quilt_of picture quilted)) (summary quilted) a b
  quilt_made within volume can quilted is writes makes =
      plan_made (pass_on (pass_on over within) (λ number passes. ends_within asked picture.volume volume can rating quilted.blocks (quilting quilted.canvas.map is.draws) number is.run is.writable.cells (passes_there asked picture.volume volume can rating number passes)))
      quilted is writes makes
