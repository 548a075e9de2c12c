-- `quilt` as a command: what it reads and refuses, what it makes, and the files that it writes. To
-- be trusted: contracts cite these words. (Own.)
use Rattle.std.specs.Prelude.{◌≡◌, ℕ, List, [], ◌∷◌, length}
use Rattle.cells.specs.declared.place.Size.{Size}
use Rattle.shelf_traits.specs.Files.{Files, content_of}
use Rattle.netpbm_p6.specs.declared.picture.Picture.{Picture}
use Rattle.netpbm_p6.specs.Pictures.{IsRead, Refuses}
use Rattle.quilted.specs.Runs.{by_overlap}
use Rattle.quilted.specs.declared.asked.QuiltRun.{QuiltRun}
use Rattle.quilted.specs.declared.asked.Quilted.{Quilted}
use Rattle.job_words.specs.declared.quilt.QuiltJob.{QuiltJob}
use Rattle.synth_report.specs.declared.fault.Fault.{Fault}
use Rattle.synth_report.specs.declared.fault.Fault.TheVariants.{Form, Limit}
use Rattle.synth_report.specs.declared.fault.FileOf.TheVariants as part
use Rattle.synth_report.specs.declared.summary.Summary.{Summary}
use Rattle.synth_report.specs.declared.summary.Summary.TheVariants.{Quilt}
use Rattle.command.specs.Commands.{Command, named}
use Rattle.command.specs.Stages.{Stages, of_stages, read_file}
use Rattle.outputs.specs.declared.quilt.PictureQuilt.{PictureQuilt}
use Rattle.outputs.specs.BlockOutputs.{IsMadeQuilt, quilt_over}

-- What is asked of quilting.

-- an output of one frame
abbrev pub quilt_size : QuiltJob → Size
quilt_size job = record { w = job.w; h = job.h; f = 1 }

abbrev pub quilt_run_of : QuiltJob → QuiltRun
quilt_run_of job = record {
  size = quilt_size job;
  plan = record { block = job.block; overlap = job.overlap; tol = job.tol };
  seed = job.seed;
}

-- What is quilted of the files.

-- the sample file stands for this picture
abbrev pub IsPictureIn : QuiltJob → Files → Picture → Type 0
IsPictureIn job files picture = IsRead (content_of files job.names.sample) picture

-- the ratings are overlap errors
abbrev pub IsMadeQuiltOf : QuiltJob → PictureQuilt → Type 0
IsMadeQuiltOf job made = IsMadeQuilt (by_overlap made.sample.volume) (quilt_run_of job) made

-- what is reported
abbrev pub quilt_summary : QuiltJob → Quilted → Summary
quilt_summary job quilted =
    Quilt (quilt_size job) (length quilted.blocks) quilted.boundaries quilted.cost

-- The command.

-- the stages after the sample is read
abbrev pub quilt_rest : QuiltJob → Picture → Stages []
quilt_rest job picture = quilt_over (by_overlap picture.volume) (quilt_run_of job) job.names
    (quilt_summary job) picture

-- the sample file is read, and then so
abbrev pub quilt_stages : (job : QuiltJob) → Stages (named part.Sample job.names.sample ∷ [])
quilt_stages job = read_file part.Sample job.names.sample IsRead Refuses (quilt_rest job)

-- the faults that the files are ever refused for
abbrev pub MayRefuseQuilt : Fault → Type 0
MayRefuseQuilt (Form part.Sample why) = Unit {0}
MayRefuseQuilt (Limit what number bound) = Unit {0}
MayRefuseQuilt fault = ⊥

-- the summaries of `quilt`
abbrev pub IsQuiltSummary : Summary → Type 0
IsQuiltSummary summary =
    (size : Size) × (blocks : ℕ) × (boundaries : ℕ) × (cost : ℕ)
    × (summary ≡ Quilt size blocks boundaries cost)

abbrev pub quilt_command : QuiltJob → Command
quilt_command job = of_stages (quilt_stages job)
    (named part.Out job.names.out ∷ named part.Map job.names.map
    ∷ named part.Record job.names.record_file ∷ [])
    MayRefuseQuilt IsQuiltSummary
