-- A reader has to trust this file. What files have after texts are written to them one after
-- another, and what a sink was given. (Own.)
use Rattle.std.specs.Prelude.{◌≡◌, ◌⊎◌, ℕ, List, [], ◌∷◌, ◌++◌, take, drop}
use Rattle.std.specs.FinMap as map
use Rattle.shelf_traits.specs.Files.{Files, ShelfState, SinkState, Told, Changes, Rose, IsPrefixAdded}

-- the named file holds the text, and all others are as before
abbrev pub HoldsText : List ℕ → List ℕ → Files → Files → Type 0
HoldsText name text was now = now ≡ map.insert was name text

-- the named file is as before, or holds a prefix of the text; all others are as before
abbrev pub HoldsPart : List ℕ → List ℕ → Files → Files → Type 0
HoldsPart name text was now = (now ≡ was) ⊎ ((n : ℕ) × (now ≡ map.insert was name (take n text)))

-- the files after the texts of these pairs, a name and a text each, are written in order
abbrev pub written : List (List ℕ × List ℕ) → Files → Files
written [] files = files
written (piece ∷ pieces) files = written pieces (map.insert files piece.0 piece.1)

-- the first of these pairs is written in part, and nothing else
abbrev pub FirstInPart : List (List ℕ × List ℕ) → Files → Files → Type 0
FirstInPart [] was now = now ≡ was
FirstInPart (piece ∷ pieces) was now = HoldsPart piece.0 piece.1 was now

-- the writing stopped at pair i: those before it are whole, it may be there in part, and all else
-- is as before
abbrev pub StoppedAt : List (List ℕ × List ℕ) → ℕ → Files → Files → Type 0
StoppedAt pieces i was now = FirstInPart (drop i pieces) (written (take i pieces) was) now

-- no file has changed, and the sink has nothing more
pub record Untouched (was now : ShelfState) (out out' : SinkState) : Type 0 where
  pub files : Changes was now (λ before after. after ≡ before)
  pub added : Told out.bytes out'.bytes (λ before after. after ≡ before)

-- a sink has been given a line: it has the line, or it has failed and has a prefix of the line
abbrev pub Says : SinkState → SinkState → List ℕ → Type 0
Says err err' line =
    Told err.bytes err'.bytes (λ before after. after ≡ before ++ line)
    ⊎ (Rose err.faults err'.faults × Told err.bytes err'.bytes
    (λ before after. IsPrefixAdded before line after))
