-- What a run of any command promises, in words. Each follows from what it leaves. To be trusted:
-- contracts cite these words. (Own.)
use Rattle.std.specs.Prelude.{◌≡◌, ◌⊎◌, ℕ, List, [], Option, Some, IsSome, Ok, Err}
use Rattle.std.specs.FinMap as fin
use Rattle.shelf_traits.specs.Files.{Files, ShelfState, SinkState, AsksOnly, Changes, Rose}
use Rattle.shelf_traits.specs.Written.{Untouched, Says}
use Rattle.job_words.specs.declared.job.Job.{Job}
use Rattle.job_words.specs.declared.job.WordFault.{WordFault}
use Rattle.job_words.specs.Jobs.{IsJob, job_of}
use Rattle.synth_report.specs.declared.fault.FileOf.{FileOf}
use Rattle.synth_report.specs.declared.fault.Fault.{Fault}
use Rattle.synth_report.specs.declared.fault.Fault.TheVariants.{Words, Read, Write}
use Rattle.synth_report.specs.declared.summary.Summary.{Summary}
use Rattle.synth_report.specs.Texts.{fault_line, memory_line, status_of, summary_status}
use Rattle.command.specs.Commands.{Command, HasTurn, names_of}
use Rattle.command.specs.Outcomes.{AreRefused, Commands, IsFinished, IsStopped, IsUnread, IsUnreported, ReadsThenWrites}

-- the words ask for this job
abbrev pub Asks : List (List ℕ) → Job → Type 0
Asks words job = job_of words ≡ Ok job

-- the shelf tells its files at both ends, and has these at the entry
pub record TellsFiles (was now : ShelfState) (files : Files) : Type 0 where
  pub before : was.files ≡ Some files
  pub after : IsSome now.files

-- STATUSES 0 AND 1

-- the command has written all that it made of the files, and its report, and nothing is said; the
-- status is 1 where the summary is that files fail, and else 0
pub record HasDone (commands : Commands) (words : List (List ℕ)) (was now : ShelfState)
    (out out' err err' : SinkState) (status : ℕ) : Type 0 where
  pub job : Job
  pub asked : Asks words job
  pub lawful : IsJob job
  pub summary : Summary
  pub done : IsFinished (commands job) summary was now out out'
  pub silent : err' ≡ err
  pub verdict : status ≡ summary_status summary

-- with status 0 or 1 the command is done; where it makes something of the files the status is that
-- of the summary, or 5, 6 or 7
pub record DoneStatus (commands : Commands) (words : List (List ℕ)) (was now : ShelfState)
    (out out' err err' : SinkState) (status : ℕ) : Type 0 where
  pub only : (status ≡ 0) ⊎ (status ≡ 1) → HasDone commands words was now out out' err err' status
  pub where_made : (job : Job) (files : Files) (texts : List (List ℕ)) (summary : Summary)
      → Asks words job → TellsFiles was now files → (commands job).Makes files texts summary
      → (status ≡ summary_status summary) ⊎ (status ≡ 5) ⊎ (status ≡ 6) ⊎ (status ≡ 7)

-- with status 0 or 1 nothing was given to err, and none of its writes failed
abbrev pub SaysNothing : SinkState → SinkState → ℕ → Type 0
SaysNothing err err' status = (status ≡ 0) ⊎ (status ≡ 1) → err' ≡ err

-- STATUS 2

-- with status 2 the words are refused, and err has the refusal's line; where they are refused the
-- status is 2, or 7 where memory ran out
pub record WordsStatus (words : List (List ℕ)) (err err' : SinkState) (status : ℕ) : Type 0 where
  pub only : status ≡ 2
      → (fault : WordFault) × (job_of words ≡ Err fault) × Says err err' (fault_line (Words fault))
  pub where_refused : (fault : WordFault) → job_of words ≡ Err fault → (status ≡ 2) ⊎ (status ≡ 7)

-- STATUSES 3, 4 AND 8

-- the files are refused for a fault of this status, and err has its line
pub record HasRefused (commands : Commands) (words : List (List ℕ)) (was now : ShelfState)
    (err err' : SinkState) (status : ℕ) : Type 0 where
  pub job : Job
  pub asked : Asks words job
  pub fault : Fault
  pub its : status_of fault ≡ status
  pub refused : AreRefused (commands job) fault was now
  pub said : Says err err' (fault_line fault)

-- with a status that is one of refusals the files are refused so; where they are refused for a
-- fault of it the status is this one, or 5 or 7
pub record RefusedStatus (commands : Commands) (one : ℕ) (words : List (List ℕ))
    (was now : ShelfState)
    (err err' : SinkState) (status : ℕ) : Type 0 where
  pub only : status ≡ one → HasRefused commands words was now err err' status
  pub where_refused : (job : Job) (files : Files) (n : ℕ) (fault : Fault)
      → Asks words job → TellsFiles was now files → (commands job).Refuses n files fault
      → status_of fault ≡ one → (status ≡ one) ⊎ (status ≡ 5) ⊎ (status ≡ 7)

-- STATUS 5

-- a file that the command reads can't be read: its count of read faults rose, nothing is refused of
-- the files whose turn is before it, and err has the line that names it
pub record HasFailedToRead (commands : Commands) (words : List (List ℕ)) (was now : ShelfState)
    (err err' : SinkState) : Type 0 where
  pub job : Job
  pub asked : Asks words job
  pub part : FileOf
  pub unread : IsUnread (commands job) part was now
  pub said : Says err err' (fault_line (Read part))

abbrev pub ReadStatus : Commands → List (List ℕ) → ShelfState → ShelfState → SinkState
    → SinkState → ℕ
    → Type 0
ReadStatus commands words was now err err' status =
    status ≡ 5 → HasFailedToRead commands words was now err err'

-- STATUS 6

-- a file that the command writes, or the report, can't be written whole: its count of write faults
-- rose, all that comes before it is written, and err has the line that names it
pub record HasFailedToWrite (commands : Commands) (words : List (List ℕ)) (was now : ShelfState)
    (out out' err err' : SinkState) : Type 0 where
  pub job : Job
  pub asked : Asks words job
  pub part : FileOf
  pub unwritten : IsUnreported (commands job) part was now out out'
      ⊎ IsStopped (commands job) part was now out out'
  pub said : Says err err' (fault_line (Write part))

abbrev pub WriteStatus : Commands → List (List ℕ) → ShelfState → ShelfState
    → SinkState → SinkState → SinkState → SinkState → ℕ → Type 0
WriteStatus commands words was now out out' err err' status =
    status ≡ 6 → HasFailedToWrite commands words was now out out' err err'

-- STATUS 7

-- err has the line that memory ran out
abbrev pub MemoryStatus : SinkState → SinkState → ℕ → Type 0
MemoryStatus err err' status = status ≡ 7 → Says err err' memory_line

-- ALL STATUSES

abbrev pub IsRunStatus : ℕ → Type 0
IsRunStatus status =
    (status ≡ 0) ⊎ (status ≡ 1) ⊎ (status ≡ 2) ⊎ (status ≡ 3) ⊎ (status ≡ 4) ⊎ (status ≡ 5)
    ⊎ (status ≡ 6) ⊎ (status ≡ 7) ⊎ (status ≡ 8)

-- no count of a file that the command reads or writes has risen, and none of out
pub record NoneRose (c : Command) (was now : ShelfState) (out out' : SinkState) : Type 0 where
  pub reads : (turn : ℕ) (part : FileOf) (name : List ℕ)
      → HasTurn c.reads turn part name → Rose (was.reads name) (now.reads name) → ⊥
  pub writes : (turn : ℕ) (part : FileOf) (name : List ℕ)
      → HasTurn c.writes turn part name → Rose (was.writes name) (now.writes name) → ⊥
  pub report : Rose out.faults out'.faults → ⊥

-- where the words ask for a job whose command can work on the files, and no count of them rose, it
-- is done, or memory ran out
abbrev pub IsComplete : Commands → List (List ℕ) → ShelfState → ShelfState → SinkState
    → SinkState → ℕ
    → Type 0
IsComplete commands words was now out out' status =
    (job : Job) (files : Files) → Asks words job → TellsFiles was now files
    → (commands job).Takes files
    → NoneRose (commands job) was now out out' → (status ≡ 0) ⊎ (status ≡ 1) ⊎ (status ≡ 7)

-- but with statuses 0, 1 and 6 every file is as before, and nothing is added to out
abbrev pub KeepsFiles : ShelfState → ShelfState → SinkState → SinkState → ℕ → Type 0
KeepsFiles was now out out' status =
    (status ≡ 0 → ⊥) → (status ≡ 1 → ⊥) → (status ≡ 6 → ⊥) → Untouched was now out out'

-- the command writes no file of this name
abbrev pub IsNotWritten : Command → List ℕ → Type 0
IsNotWritten c name = (turn : ℕ) (part : FileOf) → HasTurn c.writes turn part name → ⊥

-- with every status a file that the command doesn't write is as before
abbrev pub KeepsOthers : Commands → List (List ℕ) → ShelfState → ShelfState → Type 0
KeepsOthers commands words was now =
    (job : Job) (name : List ℕ) → Asks words job → IsNotWritten (commands job) name
    → Changes was now (λ before after. fin.get after name ≡ fin.get before name)

-- with every status only files that the words name are asked for, be it to read or to write them;
-- where the words ask for no job none is
pub record NamedFiles (commands : Commands) (words : List (List ℕ)) (was now : ShelfState)
    : Type 0 where
  pub of_job : (job : Job) → Asks words job → AsksOnly (names_of (commands job)) was now
  pub of_none : (fault : WordFault) → job_of words ≡ Err fault → AsksOnly [] was now

-- with every status, where the words ask for a job: no file is asked for, as where there is no memory
-- for the words, or first those that its command reads, and then those that it writes
abbrev pub ReadsFirst : Commands → List (List ℕ) → ShelfState → ShelfState → Type 0
ReadsFirst commands words was now =
    (job : Job) → Asks words job → AsksOnly [] was now ⊎ ReadsThenWrites (commands job) was now
