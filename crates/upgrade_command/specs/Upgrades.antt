-- `upgrade` as a command: what it reads and refuses, and what it writes. To be trusted: contracts
-- cite these words. (Own.)
use Rattle.std.specs.Prelude.{◌≡◌, ℕ, List, [], ◌∷◌, length, All, Ok, Err}
use Rattle.cells.specs.Places.{cell_count}
use Rattle.shelf_traits.specs.declared.fault.ReadError.{ReadError}
use Rattle.source_map.specs.declared.head.Head.{Head}
use Rattle.source_map.specs.declared.head.Version.TheVariants.{One, Two}
use Rattle.source_map.specs.declared.map_file.MapFile.{MapFile}
use Rattle.source_map.specs.declared.map_file.MapFile.TheVariants.{Cells as CellMap}
use Rattle.source_map.specs.MapFiles.{IsMapFile, cell_map_form, version_one_map_read}
use Rattle.cert_file.specs.declared.file.RecordFile.{RecordFile}
use Rattle.cert_file.specs.declared.file.RecordFile.TheVariants.{Cuts}
use Rattle.cert_file.specs.CutForms.{HasShortFlows}
use Rattle.cert_file.specs.RecordFiles.{AreCutsInLimits, cuts_form, version_one_cuts_read}
use Rattle.job_words.specs.declared.upgrade.UpgradeJob.{UpgradeJob}
use Rattle.synth_report.specs.declared.fault.Fault.{Fault}
use Rattle.synth_report.specs.declared.fault.Fault.TheVariants.{Form, Limit}
use Rattle.synth_report.specs.declared.fault.FileOf.TheVariants as part
use Rattle.synth_report.specs.declared.summary.Summary.{Summary}
use Rattle.synth_report.specs.declared.summary.Summary.TheVariants.{Upgrade}
use Rattle.command.specs.Commands.{Command, named}
use Rattle.command.specs.Stages.{Stages, of_stages, read_file}
use Rattle.command.specs.Stages.Stages.{make}
use Rattle.command.specs.Writing.{FileText, file_text}
use Rattle.upgrade_command.specs.declared.pair.Pair.{Pair}

-- What the files are.

-- the bytes are a map, or cut records, of version 1 and kind 0
abbrev pub IsFirstMap : List ℕ → MapFile → Type 0
IsFirstMap bytes map_file = version_one_map_read bytes ≡ Ok map_file

abbrev pub RefusesFirstMap : List ℕ → ReadError → Type 0
RefusesFirstMap bytes refusal = version_one_map_read bytes ≡ Err refusal

abbrev pub AreFirstCuts : List ℕ → RecordFile → Type 0
AreFirstCuts bytes file = version_one_cuts_read bytes ≡ Ok file

abbrev pub RefusesFirstCuts : List ℕ → ReadError → Type 0
RefusesFirstCuts bytes refusal = version_one_cuts_read bytes ≡ Err refusal

-- what the writers of both files ask for; flows have 16 bits as their type has them
pub record IsSoundPair (pair : Pair) : Type 0 where
  pub map_is : IsMapFile (CellMap pair.map pair.samples One)
  pub cuts_are : AreCutsInLimits pair.head pair.cuts
  pub flows : All HasShortFlows pair.cuts

-- the pair of a map and a record that are read, sound. Whether they belong together isn't asked
pub record IsPairOf (map_file : MapFile) (record_file : RecordFile) (pair : Pair) : Type 0 where
  pub map_is : map_file ≡ CellMap pair.map pair.samples One
  pub cuts_are : record_file ≡ Cuts pair.head pair.cuts
  pub sound : IsSoundPair pair

-- the faults that a pair is ever refused for
abbrev pub MayRefusePair : Fault → Type 0
MayRefusePair (Form part.Map why) = Unit {0}
MayRefusePair (Form part.Record why) = Unit {0}
MayRefusePair (Limit what number bound) = Unit {0}
MayRefusePair fault = ⊥

-- What is written.

abbrev pub in_version_two : Head → Head
in_version_two head = record head { version = Two }

-- in order, with their texts: the map and the record, in version 2
abbrev pub pair_files : UpgradeJob → Pair → List FileText
pair_files job pair =
    file_text part.NewMap job.new_map (cell_map_form pair.map pair.samples Two)
    ∷ file_text part.NewRecord job.new_record_file (cuts_form (in_version_two pair.head) pair.cuts)
    ∷ []

-- how many cells the map has, and how many records there are
abbrev pub pair_summary : Pair → Summary
pair_summary pair = Upgrade (cell_count pair.map.size) (length pair.cuts)

-- the map file is read, and then the record file, and their pair is made
abbrev pub upgrade_stages : (job : UpgradeJob)
    → Stages (named part.Map job.map ∷ named part.Record job.record_file ∷ [])
upgrade_stages job =
    read_file part.Map job.map IsFirstMap RefusesFirstMap (λ map_file.
    read_file part.Record job.record_file AreFirstCuts RefusesFirstCuts (λ record_file.
    make (IsPairOf map_file record_file) (pair_files job) pair_summary))

-- the summaries of `upgrade`
abbrev pub IsUpgradeSummary : Summary → Type 0
IsUpgradeSummary summary = (cells : ℕ) × (cuts : ℕ) × (summary ≡ Upgrade cells cuts)

abbrev pub upgrade_command : UpgradeJob → Command
upgrade_command job = of_stages (upgrade_stages job)
    (named part.NewMap job.new_map ∷ named part.NewRecord job.new_record_file ∷ []) MayRefusePair
    IsUpgradeSummary
