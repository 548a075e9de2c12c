-- What the code keeps within the crate, which no public clause needs: numbers of 64 bits, of which
-- the greatest stands for none and a sum stops at it.
use Rattle.std.specs.Prelude.{◌≡◌, ◌≤◌, ◌<◌, ◌⊎◌, ℕ, ◌+◌, ◌-◌, ◌*◌, ◌^◌, zero, suc, min, List, ◌∷◌, ◌++◌, length, take, drop, Option, Some, None, slice_index, slice_index_or}
use Rattle.frame_distance.specs.Steps.{Steps, step_at}
use Rattle.loop_walk.specs.declared.product.TheConstants.{FAR, GREATEST_NUMBER}
use Rattle.loop_walk.specs.Walks.{AtMost, BeginsFirst, IsLeastWalk, steps_cost, sum_if_both, steps_along, steps_round, walk_cost}
use Rattle.loop_walk.specs.FirstWalks.{ComesFirst, IsFirstWalk, middles}
use Rattle.loop_walk.specs.Records.{WalkStands}
use Rattle.loop_walk.specs.Tables.{table_size, entry_at, entry_count, none_number, table_entry, table_count, AreTightTables, EntriesAreTight, IsBelowSums}

-- the sum that stops at none
abbrev pub stopped_sum : ℕ → ℕ → ℕ
stopped_sum a b = min (a + b) (2 ^ 64 - 1)

-- none, or at most a bound
abbrev pub IsNoneOrAtMost : ℕ → ℕ → Type 0
IsNoneOrAtMost bound number = (number ≡ none_number) ⊎ (number ≤ bound)

abbrev pub AreSmall : ℕ → List ℕ → Type 0
AreSmall bound numbers = (k : ℕ) → k < length numbers → IsNoneOrAtMost bound (slice_index numbers k)

-- the least of n numbers, or the number that stands for none
pub record IsLeastOf (none n number : ℕ) (step_number : ℕ → ℕ) : Type 0 where
  pub below : (v : ℕ) → v < n → number ≤ step_number v
  pub reached : (number ≡ none) ⊎ ((v : ℕ) × (v < n) × (number ≡ step_number v))

-- the least of n numbers, or none
abbrev pub IsLeastNumber : ℕ → ℕ → (ℕ → ℕ) → Type 0
IsLeastNumber = IsLeastOf none_number

-- row i of the one table and column j of the other, entry by entry
abbrev pub sum_through : ℕ → List ℕ → List ℕ → ℕ → ℕ → ℕ → ℕ
sum_through n left right i j v =
    stopped_sum (slice_index left (i * n + v)) (slice_index right (v * n + j))

-- the entry of a table of n frames in row and column i
abbrev pub diagonal : ℕ → List ℕ → ℕ → ℕ
diagonal n table i = slice_index table (i * n + i)

-- each entry of a table is the least of the sums of the two tables before it
abbrev pub IsProduct : ℕ → List ℕ → List ℕ → List ℕ → Type 0
IsProduct n left right made = (i j : ℕ) → i < n → j < n →
    IsLeastNumber n (slice_index made (i * n + j)) (sum_through n left right i j)

-- a number, with none brought near enough that sums of two don't wrap
abbrev pub brought_near : ℕ → ℕ
brought_near number = min number FAR

abbrev pub AreAtMostFar : List ℕ → Type 0
AreAtMostFar numbers = (k : ℕ) → k < length numbers → slice_index numbers k ≤ FAR

-- the numbers of a table, with none brought near
abbrev pub AreBroughtNear : List ℕ → List ℕ → Type 0
AreBroughtNear numbers nears =
    (k : ℕ) → k < length numbers → slice_index nears k ≡ brought_near (slice_index numbers k)

-- a row of the one table and column j of the other, entry by entry, with none brought near in both
abbrev pub near_row_sum : ℕ → List ℕ → List ℕ → ℕ → ℕ → ℕ
near_row_sum n firsts nears j v =
    brought_near (slice_index firsts v) + slice_index nears (v * n + j)

-- row i of the one table and column j of the other, so
abbrev pub near_sum_through : ℕ → List ℕ → List ℕ → ℕ → ℕ → ℕ → ℕ
near_sum_through n left nears i j v =
    brought_near (slice_index left (i * n + v)) + slice_index nears (v * n + j)

-- each entry of a table is the least of those sums
abbrev pub IsNearProduct : ℕ → List ℕ → List ℕ → List ℕ → Type 0
IsNearProduct n left nears made = (i j : ℕ) → i < n → j < n →
    IsLeastOf FAR n (slice_index made (i * n + j)) (near_sum_through n left nears i j)

-- a number that is there stays, and any other becomes none
abbrev pub IsRestored : ℕ → ℕ → Type 0
IsRestored number restored =
    ((number < FAR) × (restored ≡ number)) ⊎ ((FAR ≤ number) × (restored ≡ none_number))

abbrev pub AreRestored : List ℕ → List ℕ → Type 0
AreRestored numbers restored = (k : ℕ) → k < length numbers →
    IsRestored (slice_index numbers k) (slice_index restored k)

-- the table of the step costs
pub record IsStepTable (costs : Steps) (table : List ℕ) : Type 0 where
  pub whole : length table ≡ table_size costs
  pub entries : (i j : ℕ) → i < costs.frames → j < costs.frames →
      table_entry (slice_index table (i * costs.frames + j)) ≡ step_at costs i j
  pub small : AreSmall (2 ^ 46) table

-- a way from frame i to frame j, of which the frames between the two are given, comes first of all
-- ways of m steps at that cost
abbrev pub IsFirstWay : Steps → ℕ → ℕ → ℕ → Option ℕ → List ℕ → Type 0
IsFirstWay costs m i j cost between = (other : List ℕ) → suc (length other) ≡ m
    → steps_cost costs (steps_along i other j) ≡ cost
    → ComesFirst (middles m) (i ∷ between) (i ∷ other)

-- the frames of the first way from frame i to frame j, between the two, are added to a walk
pub record AddsWay (costs : Steps) (m i j : ℕ) (cost : Option ℕ) (old new : List ℕ) : Type 0 where
  pub between : List ℕ
  pub added : new ≡ old ++ between
  pub steps : suc (length between) ≡ m
  pub costs_so_much : steps_cost costs (steps_along i between j) ≡ cost
  pub first : IsFirstWay costs m i j cost between

-- a step as a number of a table
abbrev pub step_number : Option ℕ → ℕ
step_number None = none_number
step_number (Some cost) = cost

abbrev pub step_numbers : Steps → ℕ → ℕ → ℕ
step_numbers costs i j = step_number (step_at costs i j)

-- table number t of so many entries, where number 0 is that of the step costs
abbrev pub table_in : List ℕ → List ℕ → ℕ → List ℕ
table_in steps tables zero = steps
table_in steps tables (suc t) = take (length steps) (drop (t * length steps) tables)

-- the tables for a length, tight and far below the greatest number
pub record AreFilled (costs : Steps) (len : ℕ) (tables : List ℕ) : Type 0 where
  pub made : AreTightTables costs len tables
  pub small : AreSmall (len * 2 ^ 46) tables

-- the tables for a length come first, tight, and no sum of two entries wraps
pub record HoldsTables (costs : Steps) (len : ℕ) (tables : List ℕ) : Type 0 where
  pub enough : entry_count costs len ≤ length tables
  pub tight : EntriesAreTight costs len tables
  pub small : AreSmall (2 ^ 58) tables

-- the first walk of so many frames from one, round at the cost that the last table says
pub record GoesRound (costs : Steps) (len : ℕ) (tables : List ℕ) (first : ℕ)
    (walk : List ℕ) : Type 0 where
  pub frames : length walk ≡ len
  pub begins : slice_index walk 0 ≡ first
  pub cost : walk_cost costs walk ≡ entry_at costs tables (table_count len) first first
  pub before : (other : List ℕ) → length other ≡ len → slice_index other 0 ≡ first
      → walk_cost costs other ≡ entry_at costs tables (table_count len) first first
      → ComesFirst (middles len) walk other

-- an entry is at most the sums with second halves of another table
abbrev pub IsBelowProducts : Steps → List ℕ → ℕ → ℕ → ℕ → ℕ → Type 0
IsBelowProducts costs tables t second i j =
    IsBelowSums costs.frames (entry_at costs tables (suc t) i j)
    (λ v. sum_if_both (entry_at costs tables t i v) (entry_at costs tables second v j))

-- what an entry counts as in a sum that is made quickly: at most what it is, and none brought near
abbrev pub near_entry : Option ℕ → ℕ
near_entry None = FAR
near_entry (Some number) = min number GREATEST_NUMBER

-- row i of table number t, so
abbrev pub IsNearRow : Steps → List ℕ → ℕ → ℕ → List ℕ → Type 0
IsNearRow costs tables t i nears = (v : ℕ) → v < costs.frames →
    slice_index nears v ≡ near_entry (entry_at costs tables t i v)

-- all of table number t, so
abbrev pub AreNearEntries : Steps → List ℕ → ℕ → List ℕ → Type 0
AreNearEntries costs tables t nears = (v j : ℕ) → v < costs.frames → j < costs.frames →
    slice_index nears (v * costs.frames + j) ≡ near_entry (entry_at costs tables t v j)

-- a number is at most each sum of an entry, as entries count
abbrev pub IsBelowNearSums : Steps → List ℕ → ℕ → ℕ → ℕ → ℕ → ℕ → Type 0
IsBelowNearSums costs tables t second i j sum = (v : ℕ) → v < costs.frames →
    sum ≤ near_entry (entry_at costs tables t i v) + near_entry (entry_at costs tables second v j)

-- the last table says of no closed walk from frame i that it costs less
abbrev pub AllowsCost : Steps → ℕ → List ℕ → ℕ → ℕ → Type 0
AllowsCost costs len tables cost i =
    AtMost (Some cost) (entry_at costs tables (table_count len) i i)

-- the first of the least closed walks and its cost, and its record stands
pub record FindsLeast (costs : Steps) (len : ℕ) (tables walk : List ℕ) (cost : ℕ) : Type 0 where
  pub least : IsLeastWalk costs len walk
  pub first : BeginsFirst costs len walk
  pub one : IsFirstWalk costs len walk
  pub cost_is : walk_cost costs walk ≡ Some cost
  pub stands : WalkStands costs walk tables

-- the step round a walk at a position
abbrev pub step_round_at : Steps → List ℕ → ℕ → Option ℕ
step_round_at costs walk position =
    let step = slice_index_or (steps_round walk) position (0, 0) in step_at costs step.0 step.1
