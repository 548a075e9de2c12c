-- A reader has to trust this file. A file that is being written, in the words of contracts: the
-- text so far, of which the last bytes may still wait, until a write fails. (Own.)
use Rattle.std.specs.Prelude.{◌≡◌, ℕ, List, ◌++◌, Bool, true, false}
use Rattle.shelf_traits.specs.Files.{ShelfState, Changes, OnlyWritesFile, Rose}
use Rattle.shelf_traits.specs.Written.{HoldsText, HoldsPart}

-- what a writer holds: the bytes that wait, and whether a write has failed
pub record Pending : Type 0 where
  pub waiting : List ℕ
  pub failed : Bool

abbrev pub pending : List ℕ → Bool → Pending
pending waiting failed = record { waiting = waiting; failed = failed }

-- the file holds the text, but for the bytes that wait
pub record IsBehind (name text waiting : List ℕ) (was now : ShelfState) : Type 0 where
  pub sent : List ℕ
  pub text_is : text ≡ sent ++ waiting
  pub holds : Changes was now (HoldsText name sent)

-- a write has failed, and the file holds a part of the text, however it goes on
pub record IsBroken (name text : List ℕ) (was now : ShelfState) : Type 0 where
  pub rose : Rose (was.writes name) (now.writes name)
  pub part : (rest : List ℕ) → Changes was now (HoldsPart name (text ++ rest))

-- since `was` this text has been put to the named file
pub record HasPut (name text : List ℕ) (was now : ShelfState) (pending : Pending) : Type 0 where
  pub whole : pending.failed ≡ false → IsBehind name text pending.waiting was now
  pub broken : pending.failed ≡ true → IsBroken name text was now
  pub counts : OnlyWritesFile name was now

-- a call after which the text so far is the same
abbrev pub Keeps : List ℕ → ShelfState → ShelfState → Pending → Pending → Type 0
Keeps name before after writer writer' = (was : ShelfState) (text : List ℕ)
    → HasPut name text was before writer → HasPut name text was after writer'

-- a call after which the text so far is longer by a piece
abbrev pub Puts : List ℕ → List ℕ → ShelfState → ShelfState → Pending → Pending → Type 0
Puts name piece before after writer writer' = (was : ShelfState) (text : List ℕ)
    → HasPut name text was before writer → HasPut name (text ++ piece) was after writer'
