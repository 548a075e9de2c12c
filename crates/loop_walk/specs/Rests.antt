-- What the code keeps within the crate, which no public clause needs: what is left of numbers where the
-- least of their row is taken away, lowered so that it fits 32 bits.
use Rattle.std.specs.Prelude.{◌≡◌, ◌≤◌, ◌<◌, ℕ, ◌+◌, ◌-◌, ◌*◌, min, List, length, slice_index}
use Rattle.loop_walk.specs.declared.product.TheConstants.{FAR}
use Rattle.loop_walk.specs.declared.rests.TheConstants.{GREATEST_BASE, GREATEST_REST}
use Rattle.loop_walk.specs.Products.{IsLeastOf, brought_near, near_row_sum}

-- what is left of a number, at most the greatest rest
abbrev pub rest_of : ℕ → ℕ → ℕ
rest_of base number = min (number - base) GREATEST_REST

-- a base is at most each number of a row
abbrev pub IsBase : List ℕ → ℕ → Type 0
IsBase numbers base = (k : ℕ) → k < length numbers → base ≤ slice_index numbers k

-- what is left of each number of a row
abbrev pub AreRestsOfRow : ℕ → List ℕ → List ℕ → Type 0
AreRestsOfRow base numbers rests =
    (k : ℕ) → k < length numbers → slice_index rests k ≡ rest_of base (slice_index numbers k)

abbrev pub AreSmallRests : List ℕ → Type 0
AreSmallRests rests = (k : ℕ) → k < length rests → slice_index rests k ≤ GREATEST_REST

-- the bases of the rows of a table
pub record AreBases (n : ℕ) (nears bases : List ℕ) : Type 0 where
  pub small : (v : ℕ) → v < n → slice_index bases v ≤ GREATEST_BASE
  pub below : (v j : ℕ) → v < n → j < n → slice_index bases v ≤ slice_index nears (v * n + j)

-- and what is left of each number
pub record AreRests (n : ℕ) (nears bases rests : List ℕ) : Type 0 where
  pub taken : AreBases n nears bases
  pub left : (v j : ℕ) → v < n → j < n →
      slice_index rests (v * n + j) ≡ rest_of (slice_index bases v) (slice_index nears (v * n + j))
  pub small : AreSmallRests rests

-- a row of the one table and column j of the other, entry by entry, by what is left of them
abbrev pub rest_sum : ℕ → List ℕ → List ℕ → ℕ → ℕ → ℕ
rest_sum n firsts rests j v = slice_index firsts v + slice_index rests (v * n + j)

-- first halves, none brought near, each with the base of the row of its second halves
abbrev pub AreRaised : List ℕ → List ℕ → List ℕ → Type 0
AreRaised firsts bases raised = (v : ℕ) → v < length firsts →
    slice_index raised v ≡ brought_near (slice_index firsts v) + slice_index bases v

-- a base and a rest that fits make the least sum of column j
abbrev pub IsExactBelow : ℕ → List ℕ → List ℕ → ℕ → ℕ → ℕ → Type 0
IsExactBelow n firsts nears base j rest = rest < GREATEST_REST →
    IsLeastOf FAR n (min (base + rest) FAR) (near_row_sum n firsts nears j)
