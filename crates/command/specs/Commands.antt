-- What a command is for the promises of a run: the files that it reads and writes, what it refuses
-- and what it makes of them. To be trusted: contracts cite these words. (Own.)
use Rattle.std.specs.Prelude.{◌≡◌, ◌++◌, ℕ, List, map, slice_get, Some}
use Rattle.shelf_traits.specs.Files.{Files}
use Rattle.synth_report.specs.declared.fault.FileOf.{FileOf}
use Rattle.synth_report.specs.declared.fault.Fault.{Fault}
use Rattle.synth_report.specs.declared.summary.Summary.{Summary}
use Rattle.synth_report.specs.Texts.{summary_status}

-- a file of a run: its part in it, and its name
pub record NamedFile : Type 0 where
  pub part : FileOf
  pub name : List ℕ

abbrev pub named : FileOf → List ℕ → NamedFile
named part name = record { part = part; name = name }

abbrev pub names_in : List NamedFile → List (List ℕ)
names_in files = map (λ (file : NamedFile). file.name) files

-- the file whose turn it is, counted from 0
abbrev pub HasTurn : List NamedFile → ℕ → FileOf → List ℕ → Type 0
HasTurn files turn part name = slice_get files turn ≡ Some (named part name)

pub record Command : Type 1 where
  -- the files that it reads, and those that it writes, in their order
  pub reads : List NamedFile
  pub writes : List NamedFile
  -- it can work on the files: each that it reads is in its form, and every number is within its
  -- bound
  pub Takes : Files → Type 0
  -- it refuses the files for this fault once so many are read, and for nothing that is tried before
  pub Refuses : ℕ → Files → Fault → Type 0
  -- of the files it makes these texts of those that it writes, in their order, and this summary
  pub Makes : Files → List (List ℕ) → Summary → Type 0
  -- the faults that it ever refuses for, and the summaries that it ever makes
  pub MayRefuse : Fault → Type 0
  pub MayMake : Summary → Type 0

-- the names of all its files
abbrev pub names_of : Command → List (List ℕ)
names_of c = names_in c.reads ++ names_in c.writes

-- a command has one answer to files: it refuses them, for one fault, or it makes something of them,
-- and whether they fail is decided; those that it can work on it doesn't refuse
pub record HasOneAnswer (c : Command) : Type 0 where
  pub taken : (files : Files) (n : ℕ) (fault : Fault) → c.Takes files → c.Refuses n files fault → ⊥
  pub not_both : (files : Files) (texts : List (List ℕ)) (summary : Summary) (n : ℕ) (fault : Fault)
      → c.Makes files texts summary → c.Refuses n files fault → ⊥
  pub one_refusal : (files : Files) (m n : ℕ) (first second : Fault)
      → c.Refuses m files first → c.Refuses n files second → first ≡ second
  pub one_verdict : (files : Files) (one other : List (List ℕ)) (first second : Summary)
      → c.Makes files one first → c.Makes files other second
      → summary_status first ≡ summary_status second
