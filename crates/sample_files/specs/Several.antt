-- Several files that are read in the order of their numbers: which stand for samples, and which are
-- refused, by what is asked of them. Pictures alone may be asked for, files of one size, and their
-- turns, which count as further parts and cells. The samples of a run are any files that go
-- together. To be trusted: contracts cite these words. (Own.)
use Rattle.std.specs.Prelude.{◌≡◌, ◌≤◌, ◌⊎◌, ◌+◌, ◌*◌, ◌++◌, ℕ, suc, Bool, true, false, List, [], ◌∷◌, length, map, take, slice_get, Some, Result, Ok, Err}
use Rattle.std.specs.List.{AllByRecursion}
use Rattle.cells.specs.declared.place.Size.{Size}
use Rattle.cells.specs.Cells.{Cells, count_of}
use Rattle.cells.specs.PartLists.{parts_of}
use Rattle.shelf_traits.specs.Files.{Files, ShelfState, Changes, Rose, content_of}
use Rattle.shelf_traits.specs.declared.fault.FormFault.TheVariants.{Space}
use Rattle.shelf_traits.specs.declared.fault.What.TheVariants.{Cells as CellsLimit, Parts as PartsLimit}
use Rattle.synth_report.specs.declared.fault.FileOf.{FileOf}
use Rattle.synth_report.specs.declared.fault.FileOf.TheVariants as part
use Rattle.synth_report.specs.declared.fault.Fault.{Fault}
use Rattle.synth_report.specs.declared.fault.Fault.TheVariants.{Form as FormFault, Unlike, Limit, Read, NoMemory}
use Rattle.command.specs.Commands.{NamedFile, HasTurn, named}
use Rattle.command.specs.Faults.{ReaderRefuses}
use Rattle.command.specs.Stages.{PassesBound, Stages, bounded}
use Rattle.command.specs.Stages.Stages.{read}
use Rattle.sample_files.specs.declared.form.Form.{Form}
use Rattle.sample_files.specs.declared.sample.Sample.{Sample}
use Rattle.sample_files.specs.declared.several.Asked.{Asked}
use Rattle.sample_files.specs.declared.several.Samples.{Samples}
use Rattle.limits.specs.declared.bounds.TheConstants.{MOST_PARTS, MOST_SAMPLE_CELLS}
use Rattle.turned.specs.declared.turn.TheConstants.{TURNS}
use Rattle.sample_files.specs.Samples.{AreSoundIn, IsPictureForm, IsSampleIn, RefusesIn, StandsIn, can_turn, goes_with}

-- The files of the samples: the first, and the further ones from number 2 on.

abbrev pub numbered_files : ℕ → List (List ℕ) → List NamedFile
numbered_files number [] = []
numbered_files number (name ∷ names) =
    named (part.More number) name ∷ numbered_files (suc number) names

abbrev pub sample_files : List ℕ → List (List ℕ) → List NamedFile
sample_files first more = named part.Sample first ∷ numbered_files 2 more

-- the bytes of files
abbrev pub contents : Files → List (List ℕ) → List (List ℕ)
contents files names = map (content_of files) names

-- the number of parts or of cells that so many give: with turns each gives one for each turn
abbrev pub with_turns : Bool → ℕ → ℕ
with_turns false n = n
with_turns true n = TURNS * n

-- what is asked of the samples of a run: files of any form and size, with or without turns
abbrev pub of_samples : Bool → Asked
of_samples turns = record { pictures = false; one_size = false; turns = turns }

-- Bytes that stand for samples: those of the first, and those of the further ones in order.

-- a further sample of a form and a size goes with a first one: their forms go together, and where
-- one size is asked for it has that of the first
pub record GoesWith (asked : Asked) (form : Form) (size : Size) (own : Form) (its : Size)
    : Type 0 where
  pub alike : goes_with form own ≡ true
  pub sized : asked.one_size ≡ true → its ≡ size

-- the bytes stand for these cells, which go with a first sample of this form and size
pub record StandsAlike (asked : Asked) (form : Form) (size : Size) (bytes : List ℕ)
    (cells : Cells) : Type 0 where
  pub own : Form
  pub goes : GoesWith asked form size own cells.size
  pub stands : StandsIn asked.pictures bytes own cells

-- each file so for the part of its turn
abbrev pub StandAlike : Asked → Form → Size → List (List ℕ) → List Cells → Type 0
StandAlike asked form size [] [] = Unit {0}
StandAlike asked form size (bytes ∷ more) (part ∷ parts) =
    StandsAlike asked form size bytes part × StandAlike asked form size more parts
StandAlike asked form size files parts = ⊥

abbrev pub StandForParts : Asked → Form → List ℕ → List (List ℕ) → List Cells → Type 0
StandForParts asked form first more [] = ⊥
StandForParts asked form first more (part ∷ parts) =
    StandsIn asked.pictures first form part × StandAlike asked form part.size more parts

-- the bytes stand for the parts of the volume, one file for each in their order: the first in the
-- form of the samples, and each other goes with it. All have no more cells together than one sample
-- may have. With turns they give no more parts than a volume may have, their cells can be turned,
-- and all turns of all of them have no more cells together
pub record StandForSeveral (asked : Asked) (first : List ℕ) (more : List (List ℕ))
    (samples : Samples) : Type 0 where
  pub parts : StandForParts asked samples.form first more (parts_of samples.volume)
  pub few : asked.turns ≡ true → TURNS * (length more + 1) ≤ MOST_PARTS
  pub pixels : asked.turns ≡ true → can_turn samples.form ≡ true
  pub fits : with_turns asked.turns (count_of samples.volume) ≤ MOST_SAMPLE_CELLS

-- the samples of a run
abbrev pub StandForSamples : Bool → List ℕ → List (List ℕ) → Samples → Type 0
StandForSamples turns first more samples = StandForSeveral (of_samples turns) first more samples

-- Their refusals.

-- the first sample is read, and its cells can't be turned
pub record CannotTurn (pictures : Bool) (bytes : List ℕ) (fault : Fault) : Type 0 where
  pub sample : Sample
  pub read : IsSampleIn pictures bytes sample
  pub space : can_turn sample.form ≡ false
  pub is : fault ≡ FormFault part.Sample Space

-- the first sample is read and can be turned, but its turns have too many cells together
pub record HasTooManyTurned (pictures : Bool) (bytes : List ℕ) (fault : Fault) : Type 0 where
  pub sample : Sample
  pub read : IsSampleIn pictures bytes sample
  pub pixels : can_turn sample.form ≡ true
  pub passes : PassesBound CellsLimit (TURNS * count_of sample.volume) MOST_SAMPLE_CELLS fault

-- what is refused of the first sample where its turns are asked for
abbrev pub RefusesTurns : Bool → Bool → List ℕ → Fault → Type 0
RefusesTurns false pictures bytes fault = ⊥
RefusesTurns true pictures bytes fault =
    CannotTurn pictures bytes fault ⊎ HasTooManyTurned pictures bytes fault

-- the refusals of the first sample
abbrev pub RefusesFirst : Asked → List ℕ → Fault → Type 0
RefusesFirst asked bytes fault =
    ReaderRefuses (RefusesIn asked.pictures) part.Sample bytes fault
    ⊎ RefusesTurns asked.turns asked.pictures bytes fault

-- a sample goes with those before it
abbrev pub GoesAfter : Asked → Samples → Sample → Type 0
GoesAfter asked before sample =
    GoesWith asked before.form before.volume.size sample.form sample.volume.size

-- the sample of this number is read, and doesn't go with the first
pub record IsUnlike (asked : Asked) (before : Samples) (number : ℕ) (bytes : List ℕ)
    (fault : Fault) : Type 0 where
  pub sample : Sample
  pub read : IsSampleIn asked.pictures bytes sample
  pub unlike : GoesAfter asked before sample → ⊥
  pub is : fault ≡ Unlike (part.More number)

-- a further sample is read and goes with the first, but all so far have too many cells together,
-- with their turns
pub record HasTooManyCells (asked : Asked) (before : Samples) (bytes : List ℕ) (fault : Fault)
    : Type 0 where
  pub sample : Sample
  pub read : IsSampleIn asked.pictures bytes sample
  pub goes : GoesAfter asked before sample
  pub passes : PassesBound CellsLimit
      (with_turns asked.turns (count_of before.volume + count_of sample.volume))
      MOST_SAMPLE_CELLS fault

-- the refusals of a further sample, of this number, after those before it
abbrev pub RefusesNext : Asked → Samples → ℕ → List ℕ → Fault → Type 0
RefusesNext asked before number bytes fault =
    ReaderRefuses (RefusesIn asked.pictures) (part.More number) bytes fault
    ⊎ IsUnlike asked before number bytes fault
    ⊎ HasTooManyCells asked before bytes fault

-- those before the sample of this number stand for samples, and it is refused after them
pub record IsRefusedFurther (asked : Asked) (number : ℕ) (first : List ℕ)
    (more : List (List ℕ)) (fault : Fault) : Type 0 where
  pub turn : ℕ
  pub number_is : number ≡ turn + 2
  pub bytes : List ℕ
  pub its : slice_get more turn ≡ Some bytes
  pub before : Samples
  pub stand : StandForSeveral asked first (take turn more) before
  pub refused : RefusesNext asked before number bytes fault

-- the files are refused for this fault once so many of them are read, and for nothing that is tried
-- before
abbrev pub RefusesSeveral : Asked → ℕ → List ℕ → List (List ℕ) → Fault → Type 0
RefusesSeveral asked n first more fault =
    ((n ≡ 1) × RefusesFirst asked first fault) ⊎ IsRefusedFurther asked n first more fault

-- the samples of a run
abbrev pub RefusesSamples : Bool → ℕ → List ℕ → List (List ℕ) → Fault → Type 0
RefusesSamples turns n first more fault = RefusesSeveral (of_samples turns) n first more fault

-- nothing is refused of so many files that are read
abbrev pub NoneRefusedOf : Asked → ℕ → List ℕ → List (List ℕ) → Type 0
NoneRefusedOf asked n first more =
    (m : ℕ) (fault : Fault) → m ≤ n → RefusesSeveral asked m first more fault → ⊥

-- one of the first n samples
abbrev pub IsSamplePart : ℕ → FileOf → Type 0
IsSamplePart n part.Sample = Unit {0}
IsSamplePart n (part.More number) = (2 ≤ number) × (number ≤ n)
IsSamplePart n other = ⊥

-- the faults that n samples are ever refused for
abbrev pub MayRefuseSamples : ℕ → Fault → Type 0
MayRefuseSamples n (FormFault its why) = IsSamplePart n its
MayRefuseSamples n (Unlike its) = IsSamplePart n its
MayRefuseSamples n (Limit what number bound) = Unit {0}
MayRefuseSamples n fault = ⊥

-- with turns, the parts that so many samples give are within their bound, or they are refused: this
-- is asked before any of them is read
abbrev pub parts_within : {others : List NamedFile} → Bool → ℕ → Stages others → Stages others
parts_within false count next = next
parts_within true count next = bounded PartsLimit (TURNS * count) MOST_PARTS next

-- how a function answers that asks so
abbrev pub AsksParts : Bool → ℕ → Result (Unit {0}) Fault → Type 0
AsksParts turns count (Ok done) = turns ≡ true → TURNS * count ≤ MOST_PARTS
AsksParts turns count (Err fault) =
    (turns ≡ true) × PassesBound PartsLimit (TURNS * count) MOST_PARTS fault

-- the samples of a run are read, and the stages go on with them
abbrev pub read_samples : {others : List NamedFile} → (turns : Bool) (first : List ℕ)
    (more : List (List ℕ)) → (Samples → Stages others)
    → Stages (sample_files first more ++ others)
read_samples turns first more next =
    read (sample_files first more)
    (λ files samples. StandForSamples turns (content_of files first) (contents files more) samples)
    (λ n files fault. RefusesSamples turns n (content_of files first) (contents files more) fault)
    next

-- What a reader of several files answers.

-- a file can't be read: its count of read faults rose, and nothing is refused of those before it
pub record IsOneUnread (asked : Asked) (first : List ℕ) (more : List (List ℕ)) (its : FileOf)
    (was now : ShelfState) : Type 0 where
  pub turn : ℕ
  pub name : List ℕ
  pub has_turn : HasTurn (sample_files first more) turn its name
  pub rose : Rose (was.reads name) (now.reads name)
  pub earlier : Changes was now (λ before after.
      NoneRefusedOf asked turn (content_of before first) (contents before more))

-- the files are refused for this fault
pub record SeveralAreRefused (asked : Asked) (first : List ℕ) (more : List (List ℕ))
    (fault : Fault) (was now : ShelfState) : Type 0 where
  pub known : MayRefuseSamples (length more + 1) fault
  pub refused : Changes was now (λ before after.
      (n : ℕ) × RefusesSeveral asked n (content_of before first) (contents before more) fault)

abbrev pub SeveralReadAs : Asked → List ℕ → List (List ℕ) → ShelfState → ShelfState
    → Result Samples Fault → Type 0
SeveralReadAs asked first more was now (Ok samples) =
    Changes was now (λ before after.
    StandForSeveral asked (content_of before first) (contents before more) samples)
SeveralReadAs asked first more was now (Err (Read its)) =
    IsOneUnread asked first more its was now
SeveralReadAs asked first more was now (Err NoMemory) = Unit {0}
SeveralReadAs asked first more was now (Err fault) =
    SeveralAreRefused asked first more fault was now

-- the samples of a run
abbrev pub SamplesReadAs : Bool → List ℕ → List (List ℕ) → ShelfState → ShelfState
    → Result Samples Fault → Type 0
SamplesReadAs turns first more was now result =
    SeveralReadAs (of_samples turns) first more was now result

-- what all samples that are read are, whether or not the shelf tells its files
pub record AreSoundSamples (samples : Samples) : Type 0 where
  pub form : AreSoundIn samples.form samples.volume
  pub fits : count_of samples.volume ≤ MOST_SAMPLE_CELLS

-- and by what was asked of their files
pub record AreSoundSeveral (asked : Asked) (samples : Samples) : Type 0 where
  pub sound : AreSoundSamples samples
  pub fits : with_turns asked.turns (count_of samples.volume) ≤ MOST_SAMPLE_CELLS
  pub pictures : asked.pictures ≡ true → IsPictureForm samples.form
  pub one_size : asked.one_size ≡ true
      → AllByRecursion (λ size. size ≡ samples.volume.size) samples.volume.more
