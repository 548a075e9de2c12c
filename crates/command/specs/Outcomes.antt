-- What a run leaves, by its answer: for any command, one line for each answer. To be trusted:
-- contracts cite these words. (Own.)
use Rattle.std.specs.Prelude.{◌≡◌, ◌≤◌, ◌⊎◌, ℕ, List, [], map, Result, Ok, Err}
use Rattle.shelf_traits.specs.Files.{Files, ShelfState, SinkState, AsksOnly, Changes, OnlyReads, OnlyWrites, Rose}
use Rattle.shelf_traits.specs.Written.{written, StoppedAt, Untouched, Says}
use Rattle.job_words.specs.declared.job.Job.{Job}
use Rattle.job_words.specs.declared.job.WordFault.{WordFault}
use Rattle.job_words.specs.declared.job.WordFault.TheVariants as word
use Rattle.job_words.specs.Jobs.{IsJob, job_of}
use Rattle.synth_report.specs.declared.fault.FileOf.{FileOf}
use Rattle.synth_report.specs.declared.fault.FileOf.TheVariants.{Report}
use Rattle.synth_report.specs.declared.fault.Fault.{Fault}
use Rattle.synth_report.specs.declared.fault.Fault.TheVariants.{Words, Read, Write, NoMemory}
use Rattle.synth_report.specs.declared.summary.Summary.{Summary}
use Rattle.synth_report.specs.Texts.{fault_line, status_of, summary_status}
use Rattle.command.specs.Commands.{Command, HasTurn, names_in, names_of}
use Rattle.command.specs.Writing.{FileText, Reported, ReportedInPart, IsSilent, files_in, texts_in, pieces}

-- Before anything is written.

-- nothing is refused of so many files that are read
abbrev pub NoneRefused : Command → ℕ → Files → Type 0
NoneRefused c n files = (m : ℕ) (fault : Fault) → m ≤ n → c.Refuses m files fault → ⊥

-- a file that the command reads can't be read: its count of read faults rose, and of the files
-- whose turn is before it nothing is refused
pub record IsUnread (c : Command) (part : FileOf) (was now : ShelfState) : Type 0 where
  pub turn : ℕ
  pub name : List ℕ
  pub its : HasTurn c.reads turn part name
  pub rose : Rose (was.reads name) (now.reads name)
  pub earlier : Changes was now (λ before after. NoneRefused c turn before)

-- the files are refused for this fault
pub record AreRefused (c : Command) (fault : Fault) (was now : ShelfState) : Type 0 where
  pub known : c.MayRefuse fault
  pub refused : Changes was now (λ before after. (n : ℕ) × c.Refuses n before fault)

-- why nothing was made of the files
abbrev pub NotMade : Command → ShelfState → ShelfState → Fault → Type 0
NotMade c was now (Read part) = IsUnread c part was now
NotMade c was now NoMemory = Unit {0}
NotMade c was now (Write part) = ⊥
NotMade c was now (Words fault) = ⊥
NotMade c was now fault = AreRefused c fault was now

-- what was made of the files, before anything is written
pub record IsPlanned (c : Command) (files : List FileText) (summary : Summary)
    (was now : ShelfState)
    : Type 0 where
  pub known : c.MayMake summary
  pub named : files_in files ≡ c.writes
  pub made : Changes was now (λ before after.
      (after ≡ before) × c.Makes before (texts_in files) summary)

-- how the first half of a command ends, which reads and computes
abbrev pub Plans : {T : Type 0} → Command → (T → List FileText) → (T → Summary)
    → ShelfState → ShelfState → Result T Fault → Type 0
Plans c files summary was now (Ok made) = IsPlanned c (files made) (summary made) was now
Plans c files summary was now (Err fault) = NotMade c was now fault

-- The whole command.

-- each file that it writes holds the text that it made of the files, and all others are as before
abbrev pub WritesAll : Command → Summary → Files → Files → Type 0
WritesAll c summary before after =
    (texts : List (List ℕ)) × c.Makes before texts summary
    × (after ≡ written (pieces c.writes texts) before)

-- those before this turn do, the file of this turn is as before or holds a prefix of its text, and
-- all others are as before
abbrev pub WritesUpTo : Command → ℕ → Files → Files → Type 0
WritesUpTo c turn before after =
    (texts : List (List ℕ)) × (summary : Summary) × c.Makes before texts summary
    × StoppedAt (pieces c.writes texts) turn before after

-- all is written, and then the report
pub record IsFinished (c : Command) (summary : Summary) (was now : ShelfState)
    (out out' : SinkState)
    : Type 0 where
  pub known : c.MayMake summary
  pub files : Changes was now (WritesAll c summary)
  pub told : Reported summary out out'

-- all files are written, and the report isn't written whole: the count of write faults of out rose
pub record IsUnreported (c : Command) (part : FileOf) (was now : ShelfState) (out out' : SinkState)
    : Type 0 where
  pub is : part ≡ Report
  pub summary : Summary
  pub known : c.MayMake summary
  pub files : Changes was now (WritesAll c summary)
  pub told : ReportedInPart summary out out'
  pub rose : Rose out.faults out'.faults

-- a file that the command writes can't be written whole: its count of write faults rose
pub record IsStopped (c : Command) (part : FileOf) (was now : ShelfState) (out out' : SinkState)
    : Type 0 where
  pub turn : ℕ
  pub name : List ℕ
  pub its : HasTurn c.writes turn part name
  pub files : Changes was now (WritesUpTo c turn)
  pub rose : Rose (was.writes name) (now.writes name)
  pub silent : IsSilent out out'

-- how a command ends, by its answer
abbrev pub Ends : Command → ShelfState → ShelfState → SinkState → SinkState → Result Summary Fault
    → Type 0
Ends c was now out out' (Ok summary) = IsFinished c summary was now out out'
Ends c was now out out' (Err (Write part)) =
    IsUnreported c part was now out out' ⊎ IsStopped c part was now out out'
Ends c was now out out' (Err fault) = Untouched was now out out' × NotMade c was now fault

-- up to a state between only files that it reads are asked for, and no file is changed; from there
-- on only files that it writes are asked for, and no count of read faults rises
pub record ReadsThenWrites (c : Command) (was now : ShelfState) : Type 0 where
  pub between : ShelfState
  pub reads : OnlyReads (names_in c.reads) was between
  pub writes : OnlyWrites (names_in c.writes) between now

-- what a command leaves, whatever its answer: it has asked for no file but its own, first for those
-- that it reads
pub record Leaves (c : Command) (was now : ShelfState) (out out' : SinkState)
    (answer : Result Summary Fault) : Type 0 where
  pub ends : Ends c was now out out' answer
  pub asked : AsksOnly (names_of c) was now
  pub halves : ReadsThenWrites c was now

-- The run of words.

-- the command of each job
abbrev pub Commands : Type 1
Commands = Job → Command

-- the words are refused, or there is no memory for them: no file is asked for
pub record RefusesWords (words : List (List ℕ)) (was now : ShelfState) (out out' : SinkState)
    (answer : Result Summary Fault) : Type 0 where
  pub fault : WordFault
  pub is : answer ≡ Err (Words fault)
  pub cause : (job_of words ≡ Err fault) ⊎ (fault ≡ word.NoMemory)
  pub untouched : Untouched was now out out'
  pub unasked : AsksOnly [] was now

-- the command of the job that the words ask for ran
pub record RunsJob (commands : Commands) (words : List (List ℕ)) (was now : ShelfState)
    (out out' : SinkState) (answer : Result Summary Fault) : Type 0 where
  pub job : Job
  pub asked : job_of words ≡ Ok job
  pub lawful : IsJob job
  pub left : Leaves (commands job) was now out out' answer

abbrev pub Answers : Commands → List (List ℕ) → ShelfState → ShelfState → SinkState → SinkState
    → Result Summary Fault → Type 0
Answers commands words was now out out' answer =
    RefusesWords words was now out out' answer ⊎ RunsJob commands words was now out out' answer

abbrev pub answer_status : Result Summary Fault → ℕ
answer_status (Ok summary) = summary_status summary
answer_status (Err fault) = status_of fault

-- what is said of an answer: the line of its fault, or nothing
abbrev pub SaysAnswer : Result Summary Fault → SinkState → SinkState → Type 0
SaysAnswer (Ok summary) err err' = err' ≡ err
SaysAnswer (Err fault) err err' = Says err err' (fault_line fault)

-- a run, from its words to its status
pub record Runs (commands : Commands) (words : List (List ℕ)) (was now : ShelfState)
    (out out' err err' : SinkState) (status : ℕ) : Type 0 where
  pub answer : Result Summary Fault
  pub left : Answers commands words was now out out' answer
  pub said : SaysAnswer answer err err'
  pub number : status ≡ answer_status answer
