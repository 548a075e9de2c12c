-- The faults of files that weren't read. To be trusted: contracts cite these words. (Own.)
use Rattle.std.specs.Prelude.{◌≡◌, ℕ, List, Result, Ok, Err}
use Rattle.shelf_traits.specs.Files.{ShelfState, Changes, InFile, Rose, content_of}
use Rattle.shelf_traits.specs.declared.fault.ReadError.{ReadError}
use Rattle.shelf_traits.specs.declared.fault.ReadError.TheVariants as error
use Rattle.synth_report.specs.declared.fault.FileOf.{FileOf}
use Rattle.synth_report.specs.declared.fault.Fault.{Fault}
use Rattle.synth_report.specs.declared.fault.Fault.TheVariants.{Form, Limit, Read, NoMemory}

-- the fault of a file of this part that wasn't read
abbrev pub fault_of_read : FileOf → ReadError → Fault
fault_of_read part error.ReadFault = Read part
fault_of_read part (error.Bad why) = Form part why
fault_of_read part (error.Limit what number bound) = Limit what number bound
fault_of_read part error.NoMemory = NoMemory

-- the reader of a file of this part refuses its bytes, for this fault
abbrev pub ReaderRefuses : (List ℕ → ReadError → Type 0) → FileOf → List ℕ → Fault → Type 0
ReaderRefuses Refuses part bytes fault =
    (refusal : ReadError) × Refuses bytes refusal × (fault ≡ fault_of_read part refusal)

-- what a reader of a file answers where it doesn't read it, by the refusals of its form
abbrev pub FailsToRead : (List ℕ → ReadError → Type 0) → List ℕ → ShelfState → ShelfState
    → ReadError
    → Type 0
FailsToRead Refuses name was now error.ReadFault = Rose (was.reads name) (now.reads name)
FailsToRead Refuses name was now error.NoMemory = Unit {0}
FailsToRead Refuses name was now refusal =
    Changes was now (λ before after. Refuses (content_of before name) refusal)

-- a file of this part isn't read, and the fault says why
pub record IsNotRead (Refuses : List ℕ → ReadError → Type 0) (part : FileOf) (name : List ℕ)
    (was now : ShelfState) (fault : Fault) : Type 0 where
  pub error : ReadError
  pub fails : FailsToRead Refuses name was now error
  pub is : fault ≡ fault_of_read part error

-- what a reader of a file of this part answers, by what its bytes are and what is refused of them
abbrev pub ReadsPart : {T : Type 0} → (List ℕ → T → Type 0) → (List ℕ → ReadError → Type 0)
    → FileOf → List ℕ → ShelfState → ShelfState → Result T Fault → Type 0
ReadsPart Is Refuses part name was now (Ok value) = InFile name was now (λ bytes. Is bytes value)
ReadsPart Is Refuses part name was now (Err fault) = IsNotRead Refuses part name was now fault
