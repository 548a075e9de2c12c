-- How a sample is read by its first byte, and how one more is joined to those before it: the words
-- of private functions.
use Rattle.std.specs.Prelude.{◌≡◌, ◌⊎◌, ◌+◌, ◌++◌, ℕ, Bool, true, false, List, [], ◌∷◌, Result, Ok, Err}
use Rattle.cells.specs.Cells.{IsOnePart, count_of, sizes_of}
use Rattle.cells.specs.PartLists.{parts_of}
use Rattle.shelf_traits.specs.Files.{ShelfState, Changes, Rose, content_of}
use Rattle.shelf_traits.specs.declared.fault.ReadError.{ReadError}
use Rattle.shelf_traits.specs.declared.fault.FormFault.TheVariants.{Space}
use Rattle.shelf_traits.specs.declared.fault.What.TheVariants.{Cells as CellsLimit}
use Rattle.synth_report.specs.declared.fault.FileOf.TheVariants as part
use Rattle.synth_report.specs.declared.fault.Fault.{Fault}
use Rattle.synth_report.specs.declared.fault.Fault.TheVariants.{Form as FormFault, Unlike, Read, NoMemory}
use Rattle.sample_files.specs.declared.sample.Sample.{Sample}
use Rattle.sample_files.specs.declared.several.Asked.{Asked}
use Rattle.sample_files.specs.declared.several.Samples.{Samples}
use Rattle.limits.specs.declared.bounds.TheConstants.{MOST_SAMPLE_CELLS}
use Rattle.command.specs.Faults.{FailsToRead}
use Rattle.command.specs.Stages.{PassesBound}
use Rattle.sample_files.specs.Samples.{IsPictureForm, IsSampleIn, IsSampleWithin, IsSoundSample, RefusesAs, RefusesIn, can_turn}
use Rattle.sample_files.specs.Several.{AreSoundSeveral, GoesAfter, MayRefuseSamples, RefusesFirst, RefusesNext, with_turns}

-- what a reader of a clip answers, or one of a picture
abbrev pub ReadsInForm : Bool → ℕ → List ℕ → ShelfState → ShelfState → Result Sample ReadError
    → Type 0
ReadsInForm clip most name was now (Ok sample) =
    Changes was now (λ before after. IsSampleWithin most (content_of before name) sample)
ReadsInForm clip most name was now (Err error) =
    FailsToRead (RefusesAs clip most) name was now error

-- what a reader of a sample answers, or of a picture where pictures alone are asked for
abbrev pub SampleReadsIn : Bool → List ℕ → ShelfState → ShelfState → Result Sample ReadError
    → Type 0
SampleReadsIn pictures name was now (Ok sample) =
    Changes was now (λ before after. IsSampleIn pictures (content_of before name) sample)
SampleReadsIn pictures name was now (Err error) =
    FailsToRead (RefusesIn pictures) name was now error

-- a sample by what is asked of it
pub record IsSoundRead (asked : Asked) (sample : Sample) : Type 0 where
  pub sound : IsSoundSample sample
  pub picture : asked.pictures ≡ true → IsPictureForm sample.form

-- the first sample is all samples so far, and with turns its cells can be turned
pub record IsStarted (asked : Asked) (sample : Sample) (samples : Samples) : Type 0 where
  pub form : samples.form ≡ sample.form
  pub volume : samples.volume ≡ sample.volume
  pub one : IsOnePart samples.volume
  pub pixels : asked.turns ≡ true → can_turn sample.form ≡ true
  pub so_far : AreSoundSeveral asked samples

-- how the first sample is taken as the samples so far
abbrev pub Starts : Asked → Sample → Result Samples Fault → Type 0
Starts asked sample (Ok samples) = IsStarted asked sample samples
Starts asked sample (Err fault) =
    ((asked.turns ≡ true) × (can_turn sample.form ≡ false)
    × (fault ≡ FormFault part.Sample Space))
    ⊎ ((asked.turns ≡ true → can_turn sample.form ≡ true)
    × PassesBound CellsLimit (with_turns asked.turns (count_of sample.volume)) MOST_SAMPLE_CELLS
    fault)

-- the named file has a sample, which is the first
pub record IsFirstRead (asked : Asked) (name : List ℕ) (was now : ShelfState) (samples : Samples)
    : Type 0 where
  pub sample : Sample
  pub read : Changes was now (λ files left.
      IsSampleIn asked.pictures (content_of files name) sample)
  pub started : IsStarted asked sample samples

pub record IsFirstRefused (asked : Asked) (name : List ℕ) (was now : ShelfState) (fault : Fault)
    : Type 0 where
  pub known : MayRefuseSamples 1 fault
  pub refused : Changes was now (λ files left. RefusesFirst asked (content_of files name) fault)

-- why the first sample isn't taken
abbrev pub NotFirst : Asked → List ℕ → ShelfState → ShelfState → Fault → Type 0
NotFirst asked name was now (Read its) =
    (its ≡ part.Sample) × Rose (was.reads name) (now.reads name)
NotFirst asked name was now NoMemory = Unit {0}
NotFirst asked name was now fault = IsFirstRefused asked name was now fault

abbrev pub FirstReadsAs : Asked → List ℕ → ShelfState → ShelfState → Result Samples Fault → Type 0
FirstReadsAs asked name was now (Ok samples) = IsFirstRead asked name was now samples
FirstReadsAs asked name was now (Err fault) = NotFirst asked name was now fault

-- the sample goes with those before it, and is the last part after theirs
pub record IsJoined (asked : Asked) (before : Samples) (sample : Sample) (after : Samples)
    : Type 0 where
  pub goes : GoesAfter asked before sample
  pub form : after.form ≡ before.form
  pub sizes : sizes_of after.volume ≡ sizes_of before.volume ++ sample.volume.size ∷ []
  pub parts : parts_of after.volume ≡ parts_of before.volume ++ sample.volume ∷ []
  pub so_far : AreSoundSeveral asked after

-- it goes with them, and all have too many cells together
abbrev pub PassesCells : Asked → Samples → Sample → Fault → Type 0
PassesCells asked before sample fault =
    GoesAfter asked before sample
    × PassesBound CellsLimit
    (with_turns asked.turns (count_of before.volume + count_of sample.volume)) MOST_SAMPLE_CELLS
    fault

-- how the joining of the sample of a number ends
abbrev pub Joins : Asked → ℕ → Samples → Sample → Samples → Result (Unit {0}) Fault → Type 0
Joins asked number before sample after (Ok done) = IsJoined asked before sample after
Joins asked number before sample after (Err fault) =
    (fault ≡ NoMemory)
    ⊎ ((GoesAfter asked before sample → ⊥) × (fault ≡ Unlike (part.More number)))
    ⊎ PassesCells asked before sample fault

-- the named file has a sample, and it is joined
pub record IsNextRead (asked : Asked) (before : Samples) (name : List ℕ) (was now : ShelfState)
    (after : Samples) : Type 0 where
  pub sample : Sample
  pub read : Changes was now (λ files left.
      IsSampleIn asked.pictures (content_of files name) sample)
  pub joined : IsJoined asked before sample after

pub record IsNextRefused (asked : Asked) (before : Samples) (number : ℕ) (name : List ℕ)
    (was now : ShelfState) (fault : Fault) : Type 0 where
  pub known : MayRefuseSamples number fault
  pub refused : Changes was now (λ files left.
      RefusesNext asked before number (content_of files name) fault)

-- why the sample of a number isn't joined
abbrev pub NotNext : Asked → Samples → ℕ → List ℕ → ShelfState → ShelfState → Fault → Type 0
NotNext asked before number name was now (Read its) =
    (its ≡ part.More number) × Rose (was.reads name) (now.reads name)
NotNext asked before number name was now NoMemory = Unit {0}
NotNext asked before number name was now fault =
    IsNextRefused asked before number name was now fault

abbrev pub NextReadsAs : Asked → Samples → ℕ → List ℕ → ShelfState → ShelfState → Samples
    → Result (Unit {0}) Fault → Type 0
NextReadsAs asked before number name was now after (Ok done) =
    IsNextRead asked before name was now after
NextReadsAs asked before number name was now after (Err fault) =
    NotNext asked before number name was now fault
