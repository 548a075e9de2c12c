-- A reader has to trust this file. Tables of least costs along the binary digits of a length.
-- (Own.)
--
-- A table has an entry for each two of n frames, row by row. The table for length 1 is that of the
-- step costs, and isn't written. The others come one after another, in the order of their lengths.
use Rattle.std.specs.Prelude.{◌≡◌, ◌<◌, ◌≤◌, ℕ, zero, suc, ◌+◌, ◌-◌, ◌*◌, ◌/◌, ◌%◌, List, [], ◌∷◌, ◌++◌, length, Option, Some, None, IfSome, ◌==◌, nat_le, if◌then◌else◌, slice_index}
use Rattle.frame_distance.specs.Steps.{Steps, step_at}
use Rattle.limits.specs.declared.bounds.TheConstants.{LONGEST_LOOP}
use Rattle.loop_walk.specs.Walks.{sum_if_both, AtMost}

-- the greatest number of 64 bits stands for none
abbrev pub none_number : ℕ
none_number = 18446744073709551615

abbrev pub table_entry : ℕ → Option ℕ
table_entry number = if number == none_number then None else Some number

-- an odd length is one step more than the one before it, an even one twice as long
abbrev pub length_before : ℕ → ℕ
length_before m = if m % 2 == 1 then m - 1 else m / 2

abbrev pub lengths_within : ℕ → ℕ → List ℕ
lengths_within zero m = []
lengths_within (suc bound) m = if nat_le m 1 then [] else lengths_within bound (length_before m)
    ++ m ∷ []

-- the lengths of the tables for m: those along its binary digits from the second digit on, at each
-- digit the double of the length so far, and where the digit is 1 then that and one more
abbrev pub table_lengths : ℕ → List ℕ
table_lengths m = lengths_within m m

abbrev pub table_count : ℕ → ℕ
table_count m = length (table_lengths m)

-- a walk has so many frames
abbrev pub IsLength : ℕ → Type 0
IsLength m = (1 ≤ m) × (m ≤ LONGEST_LOOP)

-- how many entries a table has, and all tables for a length
abbrev pub table_size : Steps → ℕ
table_size costs = costs.frames * costs.frames

abbrev pub entry_count : Steps → ℕ → ℕ
entry_count costs len = table_count len * table_size costs

-- where entry (i, j) of written table t is among all entries
abbrev pub entry_place : Steps → ℕ → ℕ → ℕ → ℕ
entry_place costs t i j = t * table_size costs + (i * costs.frames + j)

-- entry (i, j) of table number t, where number 0 is that of the step costs
abbrev pub entry_at : Steps → List ℕ → ℕ → ℕ → ℕ → Option ℕ
entry_at costs tables zero i j = step_at costs i j
entry_at costs tables (suc t) i j = table_entry (slice_index tables (entry_place costs t i j))

-- the number of the table that the second halves of table t + 1 come from: the same table as the
-- first halves, and that of the step costs where its length m is odd
abbrev pub second_table : ℕ → ℕ → ℕ
second_table m t = if m % 2 == 1 then 0 else t

-- a sum of entry (i, j) of table t + 1, whose length is m: through frame v
abbrev pub sum_at : Steps → List ℕ → ℕ → ℕ → ℕ → ℕ → ℕ → Option ℕ
sum_at costs tables m t i j v =
    sum_if_both (entry_at costs tables t i v) (entry_at costs tables (second_table m t) v j)

-- an entry is at most each of the sums through the n frames
abbrev pub IsBelowSums : ℕ → Option ℕ → (ℕ → Option ℕ) → Type 0
IsBelowSums n entry sum = (v : ℕ) → v < n → AtMost entry (sum v)

-- an entry is the least of the sums through the n frames, and none where each is none
pub record IsLeastSum (n : ℕ) (entry : Option ℕ) (sum : ℕ → Option ℕ) : Type 0 where
  pub below : IsBelowSums n entry sum
  pub reached : IfSome entry (λ cost. (v : ℕ) × (v < n) × (sum v ≡ Some cost))

-- the sums of entry (i, j) of table t + 1 of the tables for a length
abbrev pub sums_of : Steps → ℕ → List ℕ → ℕ → ℕ → ℕ → ℕ → Option ℕ
sums_of costs len tables t i j = sum_at costs tables (slice_index (table_lengths len) t) t i j

-- that entry is at most each of its sums, or the least of them
abbrev pub EntryHolds : Steps → ℕ → List ℕ → ℕ → ℕ → ℕ → Type 0
EntryHolds costs len tables t i j =
    IsBelowSums costs.frames (entry_at costs tables (suc t) i j) (sums_of costs len tables t i j)

abbrev pub EntryIsTight : Steps → ℕ → List ℕ → ℕ → ℕ → ℕ → Type 0
EntryIsTight costs len tables t i j =
    IsLeastSum costs.frames (entry_at costs tables (suc t) i j) (sums_of costs len tables t i j)

-- each entry of the tables for a length
abbrev pub EachEntry : Steps → ℕ → (ℕ → ℕ → ℕ → Type 0) → Type 0
EachEntry costs len Holds =
    (t i j : ℕ) → t < table_count len → i < costs.frames → j < costs.frames → Holds t i j

-- each entry of the tables for a length is at most each of its sums
abbrev pub EntriesHold : Steps → ℕ → List ℕ → Type 0
EntriesHold costs len tables = EachEntry costs len (EntryHolds costs len tables)

-- each entry of the tables for a length is the least of its sums
abbrev pub EntriesAreTight : Steps → ℕ → List ℕ → Type 0
EntriesAreTight costs len tables = EachEntry costs len (EntryIsTight costs len tables)

-- the tables for a length, all tight
pub record AreTightTables (costs : Steps) (len : ℕ) (tables : List ℕ) : Type 0 where
  pub whole : length tables ≡ entry_count costs len
  pub tight : EntriesAreTight costs len tables
