-- `check` as a command: what it reads and refuses, and what it says of the files. To be trusted:
-- contracts cite these words. (Own.)
use Rattle.std.specs.Prelude.{◌≡◌, ◌+◌, ◌++◌, ℕ, Bool, true, false, List, [], ◌∷◌, length, Result, Ok, Err}
use Rattle.shelf_traits.specs.Files.{Files, InFile, ShelfState, content_of}
use Rattle.shelf_traits.specs.declared.fault.ReadError.{ReadError}
use Rattle.source_map.specs.declared.head.Version.TheVariants.{Two}
use Rattle.source_map.specs.declared.map_file.MapFile.{MapFile}
use Rattle.source_map.specs.declared.map_file.MapFile.TheVariants.{Cells as CellsFile}
use Rattle.source_map.specs.MapFiles.{map_read}
use Rattle.turned.specs.TurnedParts.{turned_sizes_of}
use Rattle.turned_map.specs.declared.turned_file.TurnedFile.{TurnedFile}
use Rattle.turned_map.specs.TurnedFiles.{turned_map_read}
use Rattle.sample_files.specs.Worked.{worked_samples}
use Rattle.cert_file.specs.declared.file.RecordFile.{RecordFile}
use Rattle.cert_file.specs.RecordFiles.{IsRecordFileOf, RefusesRecordFile}
use Rattle.job_words.specs.declared.check.CheckJob.{CheckJob}
use Rattle.job_words.specs.declared.job.Names.{Names}
use Rattle.synth_report.specs.declared.fault.Fault.{Fault}
use Rattle.synth_report.specs.declared.fault.Fault.TheVariants.{Form}
use Rattle.synth_report.specs.declared.fault.FileOf.TheVariants as part
use Rattle.synth_report.specs.declared.summary.Summary.{Summary}
use Rattle.synth_report.specs.declared.summary.Summary.TheVariants as summary
use Rattle.command.specs.Commands.{Command, named}
use Rattle.command.specs.Faults.{IsNotRead}
use Rattle.command.specs.Stages.{Stages, of_stages, read_file}
use Rattle.command.specs.Stages.Stages.{make}
use Rattle.sample_files.specs.declared.sample.Sample.{Sample}
use Rattle.sample_files.specs.declared.several.Samples.{Samples}
use Rattle.sample_files.specs.Samples.{IsSampleWithin, RefusesWithin}
use Rattle.sample_files.specs.Several.{StandForSamples, MayRefuseSamples, contents, parts_within, read_samples, sample_files}
use Rattle.standing_files.specs.declared.verdict.Verdict.{Verdict}
use Rattle.standing_files.specs.declared.verdict.Verdict.TheVariants.{Stands, Fails}
use Rattle.standing_files.specs.Standing.{FilesStand, IsFirstBrokenRule, IsVerdict}
use Rattle.limits.specs.declared.bounds.TheConstants.{MOST_OUT_CLIP_CELLS}

-- What the files are.

-- an out file is in the form of a sample, where a clip may have more cells
abbrev pub IsOut : List ℕ → Sample → Type 0
IsOut bytes out = IsSampleWithin MOST_OUT_CLIP_CELLS bytes out

abbrev pub RefusesOutBytes : List ℕ → ReadError → Type 0
RefusesOutBytes bytes refusal = RefusesWithin MOST_OUT_CLIP_CELLS bytes refusal

-- a map over turned samples names a sample's cell and its turn, and stands for a map over the volume
-- of all turns, by the places to which the turns move the cells
abbrev pub map_of_turned : TurnedFile → MapFile
map_of_turned file = CellsFile file.map (turned_sizes_of file.samples) Two

abbrev pub of_turned : Result TurnedFile ReadError → Result MapFile ReadError
of_turned (Ok file) = Ok (map_of_turned file)
of_turned (Err refusal) = Err refusal

-- what the bytes of a map file are read as, without turns and with them
abbrev pub run_map_read : Bool → List ℕ → Result MapFile ReadError
run_map_read false bytes = map_read bytes
run_map_read true bytes = of_turned (turned_map_read bytes)

abbrev pub IsReadMap : Bool → List ℕ → MapFile → Type 0
IsReadMap turns bytes map_file = run_map_read turns bytes ≡ Ok map_file

abbrev pub RefusesMap : Bool → List ℕ → ReadError → Type 0
RefusesMap turns bytes refusal = run_map_read turns bytes ≡ Err refusal

-- the files stand for samples, of which these are the worked ones
pub record StandForWorked (turns : Bool) (names : Names) (files : Files) (all : Samples)
    : Type 0 where
  pub samples : Samples
  pub stand : StandForSamples turns (content_of files names.sample) (contents files names.more)
      samples
  pub is : all ≡ worked_samples turns samples

-- the values that the files of a run stand for: with turns the samples are those of all turns, and
-- the map has places of all turns
pub record ReadFiles : Type 0 where
  pub samples : Samples
  pub out : Sample
  pub map : MapFile
  pub record_file : RecordFile

-- the files of these names are in their forms and within their limits, and stand for these values;
-- with turns, samples and map are those of the volume of all turns
pub record AreRunFiles (turns : Bool) (names : Names) (files : Files) (values : ReadFiles)
    : Type 0 where
  pub samples : StandForWorked turns names files values.samples
  pub out : IsOut (content_of files names.out) values.out
  pub map : IsReadMap turns (content_of files names.map) values.map
  pub record_file : IsRecordFileOf (content_of files names.record_file) values.record_file

-- the files of these names stand, with turns or without
pub record Stand (turns : Bool) (names : Names) (files : Files) : Type 0 where
  pub values : ReadFiles
  pub read : AreRunFiles turns names files values
  pub stand : FilesStand values.samples values.out values.map values.record_file

-- they are in their forms and within their limits, and this is the first rule that they break
pub record Break (turns : Bool) (names : Names) (files : Files) (number rule place : ℕ)
    : Type 0 where
  pub values : ReadFiles
  pub read : AreRunFiles turns names files values
  pub broken :
      IsFirstBrokenRule values.samples values.out values.map values.record_file number rule place

-- the faults that the files of a run with so many samples are ever refused for
abbrev pub MayRefuseFiles : ℕ → Fault → Type 0
MayRefuseFiles n (Form part.Out why) = Unit {0}
MayRefuseFiles n (Form part.Map why) = Unit {0}
MayRefuseFiles n (Form part.Record why) = Unit {0}
MayRefuseFiles n fault = MayRefuseSamples n fault

-- what is answered of the record file of this name, beside other files: the verdict on what it
-- stands for, or why it isn't read
abbrev pub JudgesRecord : Samples → Sample → MapFile → List ℕ → ShelfState → ShelfState
    → Result Verdict Fault → Type 0
JudgesRecord samples out map_file name was now (Ok verdict) =
    (record_file : RecordFile)
    × InFile name was now (λ bytes. IsRecordFileOf bytes record_file)
    × IsVerdict samples out map_file record_file verdict
JudgesRecord samples out map_file name was now (Err fault) =
    IsNotRead RefusesRecordFile part.Record name was now fault

-- What is said of them.

abbrev pub summary_of : Verdict → Summary
summary_of Stands = summary.Stands
summary_of (Fails number rule place) = summary.Fails number rule place

-- the summaries of `check`
abbrev pub IsCheckSummary : Summary → Type 0
IsCheckSummary summary = (verdict : Verdict) × (summary ≡ summary_of verdict)

-- over samples that are read, the out file is read, then the map file and the record file, and they
-- are judged, over the worked samples
abbrev pub stages_over : (turns : Bool) (names : Names) → Samples
    → Stages (named part.Out names.out ∷ named part.Map names.map
    ∷ named part.Record names.record_file ∷ [])
stages_over turns names samples =
    read_file part.Out names.out IsOut RefusesOutBytes (λ out.
    read_file part.Map names.map (IsReadMap turns) (RefusesMap turns) (λ map_file.
    read_file part.Record names.record_file IsRecordFileOf RefusesRecordFile (λ record_file.
    make (IsVerdict (worked_samples turns samples) out map_file record_file) (λ verdict. [])
    summary_of)))

-- and with turns the number of parts is asked for first, and then the samples are read
abbrev pub check_stages : (turns : Bool) (names : Names)
    → Stages (sample_files names.sample names.more
    ++ named part.Out names.out ∷ named part.Map names.map
    ∷ named part.Record names.record_file ∷ [])
check_stages turns names =
    parts_within turns (length names.more + 1)
    (read_samples turns names.sample names.more (λ samples. stages_over turns names samples))

abbrev pub check_command : CheckJob → Command
check_command job = of_stages (check_stages job.turns job.names) []
    (MayRefuseFiles (length job.names.more + 1)) IsCheckSummary
