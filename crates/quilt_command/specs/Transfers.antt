-- `transfer` as a command: what it reads and refuses, what it makes, and the files that it writes.
-- To be trusted: contracts cite these words. (Own.)
use Rattle.std.specs.Prelude.{◌≡◌, ℕ, List, [], ◌∷◌, length}
use Rattle.cells.specs.declared.place.Size.{Size}
use Rattle.cells.specs.Cells.{Cells}
use Rattle.shelf_traits.specs.Files.{Files, content_of}
use Rattle.netpbm_p6.specs.declared.picture.Picture.{Picture}
use Rattle.netpbm_p6.specs.Pictures.{IsRead, IsSound, Refuses}
use Rattle.quilted.specs.Runs.{Rating}
use Rattle.quilted.specs.declared.asked.QuiltRun.{QuiltRun}
use Rattle.quilted.specs.declared.asked.Quilted.{Quilted}
use Rattle.targets.specs.Targets.{by_target, matched}
use Rattle.job_words.specs.declared.transfer.TransferJob.{TransferJob}
use Rattle.synth_report.specs.declared.fault.Fault.{Fault}
use Rattle.synth_report.specs.declared.fault.Fault.TheVariants.{Form, Limit, Unlike}
use Rattle.synth_report.specs.declared.fault.FileOf.TheVariants as part
use Rattle.synth_report.specs.declared.summary.Summary.{Summary}
use Rattle.synth_report.specs.declared.summary.Summary.TheVariants.{Transfer}
use Rattle.command.specs.Commands.{Command, named}
use Rattle.command.specs.Stages.{Stages, of_stages, read_file}
use Rattle.command.specs.Writing.{FileText}
use Rattle.sample_files.specs.Targets.{read_target}
use Rattle.outputs.specs.BlockOutputs.{IsMadeQuilt, quilt_files, quilt_over}
use Rattle.quilt_command.specs.declared.transfer_plan.Transferred.{Transferred}

-- What is asked of a transfer.

-- an output of the target's size
abbrev pub transfer_run_of : TransferJob → Picture → QuiltRun
transfer_run_of job target = record {
  size = target.volume.size;
  plan = record { block = job.block; overlap = job.overlap; tol = job.tol };
  seed = job.seed;
}

-- the places of a block are rated by the overlap and by the target
abbrev pub transfer_rating : TransferJob → Picture → Cells → Rating
transfer_rating job target sample = by_target job.alpha target.volume sample

-- What is made of the files.

-- the target file stands for this picture
abbrev pub IsTargetIn : TransferJob → Files → Picture → Type 0
IsTargetIn job files picture = IsRead (content_of files job.target) picture

-- what the writers of the files of a transfer ask for
pub record IsMadeTransfer (job : TransferJob) (made : Transferred) : Type 0 where
  pub target : IsSound made.target
  pub quilt : IsMadeQuilt (transfer_rating job made.target made.quilt.sample.volume)
      (transfer_run_of job made.target) made.quilt

-- the files with their texts, in their order: picture, map and record
abbrev pub transfer_files : TransferJob → Transferred → List FileText
transfer_files job made = quilt_files job.names made.target.volume.size made.quilt

-- what is reported: as of a quilt, and how far the output is from the target
abbrev pub transfer_summary : Picture → Quilted → Summary
transfer_summary target quilted =
    Transfer target.volume.size (length quilted.blocks) quilted.boundaries quilted.cost
    (matched quilted.canvas.picture target.volume)

abbrev pub made_summary : Transferred → Summary
made_summary made = transfer_summary made.target made.quilt.quilted

-- The command.

-- the stages after both files are read
abbrev pub transfer_rest : TransferJob → Picture → Picture → Stages []
transfer_rest job sample target = quilt_over (transfer_rating job target sample.volume)
    (transfer_run_of job target) job.names (transfer_summary target) sample

-- the sample file is read, then the target file, whose picture has the sample's maxval, and then so
abbrev pub transfer_stages : (job : TransferJob)
    → Stages (named part.Sample job.names.sample ∷ named part.Target job.target ∷ [])
transfer_stages job = read_file part.Sample job.names.sample IsRead Refuses
    (λ sample. read_target sample.maxval job.target (transfer_rest job sample))

-- the faults that the files are ever refused for
abbrev pub MayRefuseTransfer : Fault → Type 0
MayRefuseTransfer (Form part.Sample why) = Unit {0}
MayRefuseTransfer (Form part.Target why) = Unit {0}
MayRefuseTransfer (Unlike part.Target) = Unit {0}
MayRefuseTransfer (Limit what number bound) = Unit {0}
MayRefuseTransfer fault = ⊥

-- the summaries of `transfer`
abbrev pub IsTransferSummary : Summary → Type 0
IsTransferSummary summary =
    (size : Size) × (blocks : ℕ) × (boundaries : ℕ) × (cost : ℕ) × (distance : ℕ)
    × (summary ≡ Transfer size blocks boundaries cost distance)

abbrev pub transfer_command : TransferJob → Command
transfer_command job = of_stages (transfer_stages job)
    (named part.Out job.names.out ∷ named part.Map job.names.map
    ∷ named part.Record job.names.record_file ∷ [])
    MayRefuseTransfer IsTransferSummary
