-- A reader has to trust this file. A file that is being read, in the words of contracts: how far it
-- was read, and what is there. (Own.)
use Rattle.std.specs.Prelude.{◌≡◌, ◌≤◌, ◌<◌, ◌+◌, ℕ, List, length, take, drop, Bool, true, Option, Some, None, Result, Ok, Err}
use Rattle.shelf_traits.specs.Files.{Files, ShelfState, ReadsRose, content_of}
use Rattle.shelf_traits.specs.declared.fault.FormFault.TheVariants.{Form}
use Rattle.shelf_traits.specs.declared.fault.ReadError.{ReadError}
use Rattle.shelf_traits.specs.declared.fault.ReadError.TheVariants.{ReadFault, Bad, NoMemory}

-- what a reader holds: the place of the next byte, the bytes from there on that it has asked for,
-- and whether it knows that the file ends after them
pub record Reading : Type 0 where
  pub at : ℕ
  pub waiting : List ℕ
  pub ended : Bool

-- what it holds after giving so many of the bytes that wait
abbrev pub after_serving : Reading → ℕ → Reading
after_serving r n = record { at = r.at + n; waiting = drop n r.waiting; ended = r.ended }

-- a fact of the file's bytes, where the shelf tells them
abbrev pub OfFile : List ℕ → Option Files → (List ℕ → Type 0) → Type 0
OfFile name None P = Unit {0}
OfFile name (Some files) P = P (content_of files name)

-- what a reader holds are the bytes from its place on
pub record IsAhead (r : Reading) (bytes : List ℕ) : Type 0 where
  pub waiting : r.waiting ≡ take (length r.waiting) (drop r.at bytes)
  pub within : r.at + length r.waiting ≤ length bytes
  pub ended : r.ended ≡ true → r.at + length r.waiting ≡ length bytes

-- the reader reads this file
abbrev pub Follows : List ℕ → ShelfState → Reading → Type 0
Follows name now r = OfFile name now.files (IsAhead r)

-- the bytes have a piece at a place
pub record StandsAt (at : ℕ) (piece bytes : List ℕ) : Type 0 where
  pub is : piece ≡ take (length piece) (drop at bytes)
  pub within : at + length piece ≤ length bytes

-- the piece at a place was read, and the reader's place is after it
pub record Took (name : List ℕ) (at : ℕ) (piece : List ℕ) (now : ShelfState)
    (r : Reading) : Type 0 where
  pub at_is : r.at ≡ at + length piece
  pub found : OfFile name now.files (StandsAt at piece)
  pub follows : Follows name now r

-- the file ends before so many bytes from a place on
abbrev pub EndsBefore : ℕ → ℕ → List ℕ → Type 0
EndsBefore end place bytes = (place ≡ length bytes) × (place < end)

-- the refusal of a read of the bytes from one place to another
abbrev pub StopsShort : List ℕ → ℕ → ShelfState → ShelfState → ReadError → Type 0
StopsShort name end was now ReadFault = ReadsRose name was now
StopsShort name end was now (Bad (Form place)) = OfFile name now.files (EndsBefore end place)
StopsShort name end was now error = ⊥

-- the same for a list, for which memory may lack too
abbrev pub StopsInList : List ℕ → ℕ → ShelfState → ShelfState → ReadError → Type 0
StopsInList name end was now NoMemory = Unit {0}
StopsInList name end was now ReadFault = StopsShort name end was now ReadFault
StopsInList name end was now (Bad fault) = StopsShort name end was now (Bad fault)
StopsInList name end was now error = ⊥

-- the file ends at the reader's place, or has a byte there
abbrev pub Stops : List ℕ → ℕ → ShelfState → ShelfState → Result (Unit {0}) ReadError → Type 0
Stops name at was now (Ok done) = OfFile name now.files (λ bytes. length bytes ≡ at)
Stops name at was now (Err ReadFault) = ReadsRose name was now
Stops name at was now (Err (Bad (Form place))) =
    (place ≡ at) × OfFile name now.files (λ bytes. at < length bytes)
Stops name at was now (Err error) = ⊥
