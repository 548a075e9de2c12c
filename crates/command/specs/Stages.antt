-- A command as stages: files that are read and questions that are asked of what was read, in their
-- order, and what is made at the end. To be trusted: contracts cite these words. (Own.)
use Rattle.std.specs.Prelude.{◌≡◌, ◌≤◌, ◌<◌, ◌⊎◌, ◌+◌, ◌++◌, ℕ, List, [], ◌∷◌, length, Result, Ok, Err}
use Rattle.shelf_traits.specs.Files.{Files, content_of}
use Rattle.shelf_traits.specs.declared.fault.What.{What}
use Rattle.shelf_traits.specs.declared.fault.ReadError.{ReadError}
use Rattle.synth_report.specs.declared.fault.FileOf.{FileOf}
use Rattle.synth_report.specs.declared.fault.Fault.{Fault}
use Rattle.synth_report.specs.declared.fault.Fault.TheVariants.{Limit}
use Rattle.synth_report.specs.declared.summary.Summary.{Summary}
use Rattle.command.specs.Commands.{Command, NamedFile, named}
use Rattle.command.specs.Faults.{ReaderRefuses}
use Rattle.command.specs.Writing.{FileText, texts_in}

-- the stages of what reads these files
pub data Stages : List NamedFile → Type 1 where
  -- files are read: they stand for a value, with which the stages go on, or are refused for a fault
  -- once so many of them are read
  read : {V : Type 0} {more : List NamedFile} → (own : List NamedFile) → (Files → V → Type 0)
      → (ℕ → Files → Fault → Type 0) → (V → Stages more) → Stages (own ++ more)
  -- a question is asked of what was read: it passes, or is refused for a fault
  ask : {more : List NamedFile} → Type 0 → (Fault → Type 0) → Stages more → Stages more
  -- something is made of what was read: files with their texts, and a summary
  make : {T : Type 0} → (T → Type 0) → (T → List FileText) → (T → Summary) → Stages []

-- all files stand for values, and all questions are passed
abbrev pub AllPass : {reads : List NamedFile} → Stages reads → Files → Type 0
AllPass (read {V = V} own Stand Refused next) files =
    (value : V) × Stand files value × AllPass (next value) files
AllPass (ask Passes Refused next) files = Passes × AllPass next files
AllPass (make Is files_of summary_of) files = Unit {0}

-- once so many files are read a stage refuses them for this fault, and all before it pass
abbrev pub OneRefuses : {reads : List NamedFile} → Stages reads → ℕ → Files → Fault → Type 0
OneRefuses (read {V = V} own Stand Refused next) n files fault =
    Refused n files fault
    ⊎ ((value : V) × Stand files value
    × (m : ℕ) × (n ≡ length own + m) × OneRefuses (next value) m files fault)
OneRefuses (ask Passes Refused next) n files fault =
    ((n ≡ 0) × Refused fault) ⊎ (Passes × OneRefuses next n files fault)
OneRefuses (make Is files_of summary_of) n files fault = ⊥

-- all pass, and these texts and this summary are those of what is made
abbrev pub AllMake : {reads : List NamedFile} → Stages reads → Files → List (List ℕ) → Summary
    → Type 0
AllMake (read {V = V} own Stand Refused next) files texts summary =
    (value : V) × Stand files value × AllMake (next value) files texts summary
AllMake (ask Passes Refused next) files texts summary =
    Passes × AllMake next files texts summary
AllMake (make {T = T} Is files_of summary_of) files texts summary =
    (made : T) × Is made × (texts ≡ texts_in (files_of made)) × (summary ≡ summary_of made)

-- the command of stages, with the files that it writes, and what it ever refuses for and makes
abbrev pub of_stages : {reads : List NamedFile} → Stages reads → List NamedFile
    → (Fault → Type 0) → (Summary → Type 0) → Command
of_stages {reads} stages writes MayRefuse MayMake = record {
  reads = reads;
  writes = writes;
  Takes = AllPass stages;
  Refuses = OneRefuses stages;
  Makes = AllMake stages;
  MayRefuse = MayRefuse;
  MayMake = MayMake;
}

-- Stages of their own.

-- one file is read: its bytes stand for a value, or its reader refuses them
abbrev pub read_file : {V : Type 0} {more : List NamedFile} → (part : FileOf) (name : List ℕ)
    → (List ℕ → V → Type 0) → (List ℕ → ReadError → Type 0) → (V → Stages more)
    → Stages (named part name ∷ more)
read_file part name Stand Refuses next =
    read (named part name ∷ []) (λ files value. Stand (content_of files name) value)
    (λ n files fault. (n ≡ 1) × ReaderRefuses Refuses part (content_of files name) fault) next

-- a number passes its bound, and the fault says so
abbrev pub PassesBound : What → ℕ → ℕ → Fault → Type 0
PassesBound what number bound fault = (bound < number) × (fault ≡ Limit what number bound)

-- a number is within its bound, or is refused
abbrev pub bounded : {more : List NamedFile} → What → ℕ → ℕ → Stages more → Stages more
bounded what number bound next = ask (number ≤ bound) (PassesBound what number bound) next

-- nothing passes this bound, or it is refused at the number at which it does
abbrev pub never_passed : {more : List NamedFile} → What → (ℕ → Type 0) → ℕ → Stages more
    → Stages more
never_passed what PassesAt bound next =
    ask ((number : ℕ) → PassesAt number → ⊥)
    (λ fault. (number : ℕ) × PassesAt number × (fault ≡ Limit what number bound)) next

-- how a function answers that asks whether a number is within its bound
abbrev pub AsksBound : What → ℕ → ℕ → Result (Unit {0}) Fault → Type 0
AsksBound what number bound (Ok done) = number ≤ bound
AsksBound what number bound (Err fault) = PassesBound what number bound fault
