-- The writing of the files of a run, and of its report. To be trusted: contracts cite these words.
-- (Own.)
use Rattle.std.specs.Prelude.{◌≡◌, ◌⊎◌, ◌++◌, ℕ, List, [], ◌∷◌, map, Result, Ok, Err}
use Rattle.shelf_traits.specs.Files.{ShelfState, SinkState, Changes, Told, Rose, IsPrefixAdded}
use Rattle.shelf_traits.specs.Written.{written, StoppedAt}
use Rattle.synth_report.specs.declared.fault.FileOf.{FileOf}
use Rattle.synth_report.specs.declared.fault.FileOf.TheVariants.{Report}
use Rattle.synth_report.specs.declared.fault.Fault.{Fault}
use Rattle.synth_report.specs.declared.fault.Fault.TheVariants.{Write}
use Rattle.synth_report.specs.declared.summary.Summary.{Summary}
use Rattle.synth_report.specs.Texts.{report_of}
use Rattle.command.specs.Commands.{NamedFile, HasTurn, names_in}

-- a file that is to be written, and its text
pub record FileText : Type 0 where
  pub file : NamedFile
  pub text : List ℕ

abbrev pub file_text : FileOf → List ℕ → List ℕ → FileText
file_text part name text = record { file = record { part = part; name = name }; text = text }

abbrev pub files_in : List FileText → List NamedFile
files_in files = map (λ (each : FileText). each.file) files

abbrev pub text_names : List FileText → List (List ℕ)
text_names files = names_in (files_in files)

abbrev pub texts_in : List FileText → List (List ℕ)
texts_in files = map (λ (each : FileText). each.text) files

-- the name of each file with its text
abbrev pub pieces : List NamedFile → List (List ℕ) → List (List ℕ × List ℕ)
pieces [] texts = []
pieces (file ∷ files) [] = []
pieces (file ∷ files) (text ∷ texts) = (file.name, text) ∷ pieces files texts

abbrev pub pieces_of : List FileText → List (List ℕ × List ℕ)
pieces_of files = pieces (files_in files) (texts_in files)

-- each file holds its text, and all others are as before
abbrev pub HoldAll : List FileText → ShelfState → ShelfState → Type 0
HoldAll files was now = Changes was now (λ before after. after ≡ written (pieces_of files) before)

-- the file of this turn, of this part, can't be written whole: those before it hold their texts, it
-- is as before or holds a prefix of its text, all others are as before, and its count of write
-- faults rose
pub record StopsWriting (files : List FileText) (part : FileOf)
    (was now : ShelfState) : Type 0 where
  pub turn : ℕ
  pub name : List ℕ
  pub its : HasTurn (files_in files) turn part name
  pub stopped : Changes was now (StoppedAt (pieces_of files) turn)
  pub rose : Rose (was.writes name) (now.writes name)

-- how the writing of files ends
abbrev pub WritesFiles : List FileText → ShelfState → ShelfState → Result (Unit {0}) FileOf → Type 0
WritesFiles files was now (Ok done) = HoldAll files was now
WritesFiles files was now (Err part) = StopsWriting files part was now

-- out has the report, or a prefix of it, or nothing more
abbrev pub Reported : Summary → SinkState → SinkState → Type 0
Reported summary out out' = Told out.bytes out'.bytes
    (λ before after. after ≡ before ++ report_of summary)

abbrev pub ReportedInPart : Summary → SinkState → SinkState → Type 0
ReportedInPart summary out out' =
    Told out.bytes out'.bytes (λ before after. IsPrefixAdded before (report_of summary) after)

abbrev pub IsSilent : SinkState → SinkState → Type 0
IsSilent out out' = Told out.bytes out'.bytes (λ before after. after ≡ before)

-- the report can't be written whole: each file holds its text, and the count of write faults of out
-- rose
pub record StopsReporting (files : List FileText) (summary : Summary) (part : FileOf)
    (was now : ShelfState)
    (out out' : SinkState) : Type 0 where
  pub is : part ≡ Report
  pub whole : HoldAll files was now
  pub told : ReportedInPart summary out out'
  pub rose : Rose out.faults out'.faults

-- how the writing of files and of the report after them ends
abbrev pub WritesRun : List FileText → Summary → ShelfState → ShelfState → SinkState → SinkState
    → Result Summary Fault → Type 0
WritesRun files summary was now out out' (Ok done) =
    (done ≡ summary) × HoldAll files was now × Reported summary out out'
WritesRun files summary was now out out' (Err (Write part)) =
    StopsReporting files summary part was now out out'
    ⊎ (StopsWriting files part was now × IsSilent out out')
WritesRun files summary was now out out' (Err fault) = ⊥
