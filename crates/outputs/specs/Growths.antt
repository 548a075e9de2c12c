-- `grow` as a command: what it reads and refuses, what it makes, and the files that it writes. To
-- be trusted: contracts cite these words. (Own.)
use Rattle.std.specs.Prelude.{◌≡◌, ◌≤◌, ◌*◌, ◌+◌, ◌++◌, ◌-◌, ℕ, true, List, [], ◌∷◌, length, All}
use Rattle.cells.specs.declared.place.Size.{Size}
use Rattle.cells.specs.Cells.{Cells, IsVolume, sizes_of}
use Rattle.cells.specs.SizeLists.{AreSizes}
use Rattle.limits.specs.declared.bounds.TheConstants.{MOST_BOX_CELLS, MOST_PARTS}
use Rattle.shelf_traits.specs.Files.{Files, content_of}
use Rattle.shelf_traits.specs.declared.fault.What.TheVariants.{Records as RecordsLimit}
use Rattle.source_map.specs.declared.head.Head.{Head}
use Rattle.source_map.specs.declared.head.Version.{Version}
use Rattle.turned.specs.declared.turn.TheConstants.{TURNS}
use Rattle.least_choice.specs.Totals.{map_total}
use Rattle.patch_picks.specs.declared.mode.Mode.{Mode}
use Rattle.patch_picks.specs.declared.mode.Mode.TheVariants as mode
use Rattle.grown.specs.declared.plan.GrowPlan.{GrowPlan}
use Rattle.grown.specs.declared.plan.Grown.{Grown}
use Rattle.grown.specs.declared.plan.GrowError.{GrowError}
use Rattle.grown.specs.declared.plan.GrowError.TheVariants as error
use Rattle.grown.specs.Grown.{IsGrown, PassesAt}
use Rattle.cert_file.specs.CutForms.{HasShortFlows}
use Rattle.cert_file.specs.RecordFiles.{cuts_form}
use Rattle.job_words.specs.declared.grow.GrowJob.{GrowJob}
use Rattle.job_words.specs.declared.grow.Place.{Place}
use Rattle.job_words.specs.declared.grow.Place.TheVariants as place
use Rattle.synth_report.specs.declared.fault.Fault.{Fault}
use Rattle.synth_report.specs.declared.fault.Fault.TheVariants.{Limit, NoMemory}
use Rattle.synth_report.specs.declared.fault.FileOf.TheVariants as part
use Rattle.synth_report.specs.declared.summary.Summary.{Summary}
use Rattle.synth_report.specs.declared.summary.Summary.TheVariants.{Grow}
use Rattle.command.specs.Commands.{Command, named}
use Rattle.command.specs.Stages.{Stages, never_passed, of_stages}
use Rattle.command.specs.Stages.Stages.{make}
use Rattle.command.specs.Writing.{FileText, file_text}
use Rattle.sample_files.specs.declared.several.Samples.{Samples}
use Rattle.sample_files.specs.Outputs.{IsWithinBounds, bounded_in}
use Rattle.sample_files.specs.Samples.{form_text}
use Rattle.sample_files.specs.Several.{StandForSamples, AreSoundSamples, MayRefuseSamples, contents, parts_within, read_samples, sample_files}
use Rattle.sample_files.specs.Worked.{worked, worked_samples, worked_sizes}
use Rattle.outputs.specs.declared.growth.Growth.{Growth}
use Rattle.outputs.specs.GrownMaps.{map_text, version_for}

-- The plan of a job.

abbrev pub mode_for : Place → ℕ → ℕ → ℕ → Mode
mode_for place.Grid side overlap tol = mode.Grid overlap
mode_for place.Random side overlap tol = mode.Random
mode_for place.Whole side overlap tol = mode.Whole tol
mode_for place.Sub side overlap tol = mode.Sub side overlap tol

-- how the output is grown and refined
abbrev pub plan_of : GrowJob → GrowPlan
plan_of job = record {
  size = job.size;
  mode = mode_for job.place job.side job.overlap job.tol;
  side = job.side;
  tol = job.tol;
  rounds = job.rounds;
  seed = job.seed;
}

-- what a run without an output is refused for
abbrev pub fault_of_growing : GrowError → Fault
fault_of_growing (error.Records number) = Limit RecordsLimit number MOST_BOX_CELLS
fault_of_growing error.NoMemory = NoMemory

-- What is grown of the files.

-- the sample files stand for these samples, within their limits for what the job asks of turns
abbrev pub AreSamplesIn : Files → GrowJob → Samples → Type 0
AreSamplesIn files job samples =
    StandForSamples job.turns (content_of files job.names.sample) (contents files job.names.more)
    samples

-- over samples that are read, the parts of one volume: the output is grown and refined over the
-- worked ones, with flows of 16 bits as their type has them
pub record IsGrownOver (job : GrowJob) (samples : Samples) (grown : Grown) : Type 0 where
  pub volume : IsVolume samples.volume
  pub all : IsVolume (worked job.turns samples.volume)
  pub run : IsGrown (plan_of job) (worked job.turns samples.volume) grown
  pub flows : All HasShortFlows grown.cuts

-- of samples that are read: what is grown over the worked ones, with the sizes of those that are
-- read and the total cost of the seams
abbrev pub growth_of : GrowJob → Samples → Grown → Growth
growth_of job samples grown = record {
  samples = worked_samples job.turns samples;
  sizes = sizes_of samples.volume;
  grown = grown;
  seams = map_total (worked job.turns samples.volume) grown.canvas.map;
}

-- what the writers of the files of a growth ask for
pub record IsMade (job : GrowJob) (growth : Growth) : Type 0 where
  pub volume : IsVolume growth.samples.volume
  pub sound : AreSoundSamples growth.samples
  pub are : AreSizes growth.sizes
  pub few : job.turns ≡ true → TURNS * length growth.sizes ≤ MOST_PARTS
  pub sizes : sizes_of growth.samples.volume ≡ worked_sizes job.turns growth.sizes
  pub bounds : IsWithinBounds job.size growth.samples.form
  pub grown : IsGrown (plan_of job) growth.samples.volume growth.grown

-- The files that are written.

-- one part is written in version 1, and several are in version 2
abbrev pub version_over : Cells → Version
version_over volume = version_for volume.more

-- the head of the record of an output of this size over a volume
abbrev pub head_over : Size → Cells → Head
head_over output volume = record {
  output = output;
  samples = sizes_of volume;
  version = version_over volume;
}

-- in order, with their texts: the picture in the form of the samples, the map, and the record. The
-- map names cells of the samples that are read, and the record places of the worked ones
abbrev pub growth_files : GrowJob → Growth → List FileText
growth_files job growth =
    file_text part.Out job.names.out (form_text growth.samples.form growth.grown.canvas.picture)
    ∷ file_text part.Map job.names.map
    (map_text job.turns growth.grown.canvas.map growth.sizes)
    ∷ file_text part.Record job.names.record_file
    (cuts_form (head_over job.size growth.samples.volume) growth.grown.cuts)
    ∷ []

-- the records but those of rounds are those of placements
abbrev pub growth_summary : GrowJob → Growth → Summary
growth_summary job growth =
    Grow job.size (length growth.grown.cuts - growth.grown.rounds) growth.grown.rounds growth.seams

-- The command.

-- over samples that are read the frames are within their bound, and so are the cells of the output
-- and the boxes of the run over the worked samples; the output is grown over these
abbrev pub grow_over : GrowJob → Samples → Stages []
grow_over job samples =
    bounded_in job.size samples.form
    (never_passed RecordsLimit (PassesAt (plan_of job) (worked job.turns samples.volume))
    MOST_BOX_CELLS
    (make (IsGrownOver job samples)
    (λ grown. growth_files job (growth_of job samples grown))
    (λ grown. growth_summary job (growth_of job samples grown))))

-- with turns the number of parts is asked for first; the sample files are read, and then so
abbrev pub grow_stages : (job : GrowJob)
    → Stages (sample_files job.names.sample job.names.more ++ [])
grow_stages job =
    parts_within job.turns (length job.names.more + 1)
    (read_samples job.turns job.names.sample job.names.more (grow_over job))

-- the summaries of `grow`
abbrev pub IsGrowSummary : Summary → Type 0
IsGrowSummary summary =
    (size : Size) × (placements : ℕ) × (rounds : ℕ) × (seams : ℕ)
    × (summary ≡ Grow size placements rounds seams)

abbrev pub grow_command : GrowJob → Command
grow_command job = of_stages (grow_stages job)
    (named part.Out job.names.out ∷ named part.Map job.names.map
    ∷ named part.Record job.names.record_file ∷ [])
    (MayRefuseSamples (length job.names.more + 1)) IsGrowSummary
