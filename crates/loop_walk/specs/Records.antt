-- A reader has to trust this file. The record of a walk: the walk, and the tables for its length.
-- (Own.)
use Rattle.std.specs.Prelude.{◌≡◌, ◌<◌, ◌⊎◌, ℕ, ◌/◌, ◌%◌, List, length, slice_index_or}
use Rattle.frame_distance.specs.Steps.{Steps}
use Rattle.loop_walk.specs.declared.fault.LoopFault.{LoopFault}
use Rattle.loop_walk.specs.declared.fault.TheConstants.{WALK_RULE, TABLES_RULE, DIAGONAL_RULE}
use Rattle.loop_walk.specs.Walks.{AtMost, HasStep, IsClosedWalk, steps_round, walk_cost}
use Rattle.loop_walk.specs.Tables.{EntriesHold, EntryHolds, entry_at, table_count, table_size}

-- the step from the frame at a position of the walk to the next one is there
abbrev pub StepHolds : Steps → List ℕ → ℕ → Type 0
StepHolds costs walk position = HasStep costs (slice_index_or (steps_round walk) position (0, 0))

-- the entry at a place of all tables is at most each of its sums
abbrev pub PlaceHolds : Steps → ℕ → List ℕ → ℕ → Type 0
PlaceHolds costs len tables place =
    let area = table_size costs in
    EntryHolds costs len tables (place / area) (place % area / costs.frames)
    (place % area % costs.frames)

-- of all tables, so many entries from the first on
abbrev pub PlacesHold : Steps → ℕ → List ℕ → ℕ → Type 0
PlacesHold costs len tables count = (place : ℕ) → place < count → PlaceHolds costs len tables place

-- the walk costs at most what the last table says of the closed walks from frame i
abbrev pub DiagonalHolds : Steps → List ℕ → List ℕ → ℕ → Type 0
DiagonalHolds costs walk tables i =
    AtMost (walk_cost costs walk) (entry_at costs tables (table_count (length walk)) i i)

abbrev pub DiagonalsHold : Steps → List ℕ → List ℕ → Type 0
DiagonalsHold costs walk tables = (i : ℕ) → i < costs.frames → DiagonalHolds costs walk tables i

-- the record stands: the walk is closed, each entry is at most each of its sums, and the walk costs
-- at most each diagonal entry of the last table
pub record WalkStands (costs : Steps) (walk tables : List ℕ) : Type 0 where
  pub closed : IsClosedWalk costs walk
  pub entries : EntriesHold costs (length walk) tables
  pub diagonals : DiagonalsHold costs walk tables

-- of the places below n, the first at which something doesn't hold
pub record IsFirstPlace (n : ℕ) (Holds : ℕ → Type 0) (place : ℕ) : Type 0 where
  pub below : place < n
  pub before : (earlier : ℕ) → earlier < place → Holds earlier
  pub broken : Holds place → ⊥

-- no step at a position of the walk
pub record BreaksWalk (costs : Steps) (walk : List ℕ) (fault : LoopFault) : Type 0 where
  pub kind : fault.kind ≡ WALK_RULE
  pub place : IsFirstPlace (length walk) (StepHolds costs walk) fault.place

-- an entry above one of its sums
pub record BreaksTables (costs : Steps) (walk tables : List ℕ) (fault : LoopFault) : Type 0 where
  pub kind : fault.kind ≡ TABLES_RULE
  pub closed : IsClosedWalk costs walk
  pub place : IsFirstPlace (length tables) (PlaceHolds costs (length walk) tables) fault.place

-- a frame from which the last table says of a closed walk that costs less
pub record BreaksLeast (costs : Steps) (walk tables : List ℕ) (fault : LoopFault) : Type 0 where
  pub kind : fault.kind ≡ DIAGONAL_RULE
  pub closed : IsClosedWalk costs walk
  pub entries : EntriesHold costs (length walk) tables
  pub place : IsFirstPlace costs.frames (DiagonalHolds costs walk tables) fault.place

-- the first broken rule, and the first place where it is broken
abbrev pub IsFirstLoopFault : Steps → List ℕ → List ℕ → LoopFault → Type 0
IsFirstLoopFault costs walk tables fault =
    BreaksWalk costs walk fault
    ⊎ (BreaksTables costs walk tables fault ⊎ BreaksLeast costs walk tables fault)
