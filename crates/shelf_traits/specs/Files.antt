-- A reader has to trust this file. What the calls of a shelf do to its files, and those of a sink
-- to its bytes. (Own.)
use Rattle.std.specs.Prelude.{◌≡◌, ◌<◌, ◌≤◌, ◌-◌, ◌⊎◌, ℕ, Bool, not, nat_eq, List, [], ◌∷◌, ◌++◌, filter, length, take, drop, min, Option, Some, None, unwrap_or}
use Rattle.std.specs.Ordering.{nat_cmp}
use Rattle.std.specs.Cmp.Lexicographic.{pointwise, slice_cmp}
use Rattle.std.specs.FinMap as map
use Rattle.std.specs.List.{list_any}

-- files: a finite map from the bytes of a name to the bytes of the file
abbrev pub Files : Type 0
Files = map.FinMap (slice_cmp nat_cmp) (List ℕ)

-- what a shelf means: its files, where it tells them; for each name how often a read and a write
-- have failed; and the name of each of its calls, in their order, where it tells those
pub record ShelfState : Type 0 where
  pub files : Option Files
  pub reads : List ℕ → ℕ
  pub writes : List ℕ → ℕ
  pub asked : Option (List (List ℕ))

-- what a sink means: the bytes written, where it tells them, and how often a write has failed
pub record SinkState : Type 0 where
  pub bytes : Option (List ℕ)
  pub faults : ℕ

-- the bytes of a file; a missing one counts as empty
abbrev pub content_of : Files → List ℕ → List ℕ
content_of files name = unwrap_or (map.get files name) []

-- what is known at the exit was known at the entry, and a step leads from this to that; nothing is
-- said where nothing is known at the exit
abbrev pub Told : {C : Type 0} → Option C → Option C → (C → C → Type 0) → Type 0
Told was None step = Unit {0}
Told None (Some now) step = ⊥
Told (Some was) (Some now) step = step was now

-- the files of a shelf go by a step from those at the entry to those at the exit
abbrev pub Changes : ShelfState → ShelfState → (Files → Files → Type 0) → Type 0
Changes was now step = Told was.files now.files step

-- the last value of a count
abbrev pub last_count : ℕ
last_count = 18446744073709551615

-- a count has risen, or is at its last value
abbrev pub Rose : ℕ → ℕ → Type 0
Rose before now = (before < now) ⊎ (last_count ≤ now)

-- the count of read faults of a file rose, and that of its write faults
abbrev pub ReadsRose : List ℕ → ShelfState → ShelfState → Type 0
ReadsRose name was now = Rose (was.reads name) (now.reads name)

abbrev pub WritesRose : List ℕ → ShelfState → ShelfState → Type 0
WritesRose name was now = Rose (was.writes name) (now.writes name)

-- a fact of the bytes that a file has at the entry
abbrev pub InFile : List ℕ → ShelfState → ShelfState → (List ℕ → Type 0) → Type 0
InFile name was now Holds = Changes was now (λ before after. Holds (content_of before name))

abbrev pub NeverFalls : (List ℕ → ℕ) → (List ℕ → ℕ) → Type 0
NeverFalls before now = (name : List ℕ) → before name ≤ now name

-- the shelf was asked for this name, once
abbrev pub AsksFor : List ℕ → ShelfState → ShelfState → Type 0
AsksFor name was now = Told was.asked now.asked (λ before after. after ≡ before ++ name ∷ [])

-- the name is one of these
abbrev pub is_one_of : List (List ℕ) → List ℕ → Bool
is_one_of names name = list_any (pointwise nat_eq name) names

-- the calls that were for none of these names, in their order
unfoldable pub calls_beside : List (List ℕ) → List (List ℕ) → List (List ℕ)
calls_beside names calls = filter (λ call. not (is_one_of names call)) calls

-- the shelf was asked for these names alone: the calls for all others are as before
abbrev pub AsksOnly : List (List ℕ) → ShelfState → ShelfState → Type 0
AsksOnly names was now = Told was.asked now.asked
    (λ before after. calls_beside names after ≡ calls_beside names before)

-- these files alone are asked for; all files stay, and the counts of write faults
pub record OnlyReads (names : List (List ℕ)) (was now : ShelfState) : Type 0 where
  pub files : Changes was now (λ before after. after ≡ before)
  pub reads : NeverFalls was.reads now.reads
  pub writes : now.writes ≡ was.writes
  pub asked : AsksOnly names was now

-- these files alone are asked for; the counts of read faults stay
pub record OnlyWrites (names : List (List ℕ)) (was now : ShelfState) : Type 0 where
  pub writes : NeverFalls was.writes now.writes
  pub reads : now.reads ≡ was.reads
  pub asked : AsksOnly names was now

-- the same of one file
abbrev pub OnlyReadsFile : List ℕ → ShelfState → ShelfState → Type 0
OnlyReadsFile name was now = OnlyReads (name ∷ []) was now

abbrev pub OnlyWritesFile : List ℕ → ShelfState → ShelfState → Type 0
OnlyWritesFile name was now = OnlyWrites (name ∷ []) was now

-- a read of n bytes from a place on: as many as the buffer and the file have, and those of the file
pub record Reads (bytes : List ℕ) (at : ℕ) (into : List ℕ) (n : ℕ) : Type 0 where
  pub count : n ≡ min (length into) (length bytes - at)
  pub read : take n into ≡ take n (drop at bytes)

-- a prefix of a piece was added to what there was
abbrev pub IsPrefixAdded : List ℕ → List ℕ → List ℕ → Type 0
IsPrefixAdded was piece now = (n : ℕ) × (now ≡ was ++ take n piece)

-- a prefix of a piece was added to the bytes of one file
abbrev pub GrowsByPrefix : Files → List ℕ → List ℕ → Files → Type 0
GrowsByPrefix was name piece now = (n : ℕ)
    × (now ≡ map.insert was name (content_of was name ++ take n piece))

-- a file becomes present and empty; or it is as before, or empty
abbrev pub Begins : List ℕ → Files → Files → Type 0
Begins name was now = now ≡ map.insert was name []

abbrev pub BeginsPart : List ℕ → Files → Files → Type 0
BeginsPart name was now = (now ≡ was) ⊎ (now ≡ map.insert was name [])

-- a piece is put after the bytes of a file; or only a prefix of it is
abbrev pub Appends : List ℕ → List ℕ → Files → Files → Type 0
Appends name piece was now = now ≡ map.insert was name (content_of was name ++ piece)

abbrev pub AppendsPart : List ℕ → List ℕ → Files → Files → Type 0
AppendsPart name piece was now = (now ≡ was) ⊎ GrowsByPrefix was name piece now
