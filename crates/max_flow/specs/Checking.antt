-- The state of the solver: what leaves each node, counted pipe by pipe.
use Rattle.std.specs.Prelude.{◌≡◌, ◌≢◌, ◌≤◌, ◌+◌, ◌==◌, ℕ, ℤ, pos, ◌+ℤ◌, ◌-ℤ◌, ◌≤ℤ◌, List, slice_index_or}
use Rattle.max_flow.specs.declared.network.Pipe.{Pipe}
use Rattle.max_flow.specs.Flows.{part_if}
use Rattle.max_flow.specs.Residual.{AreResiduals, excess}

-- what a table says of a node
abbrev pub excess_at : List ℤ → ℕ → ℤ
excess_at table n = slice_index_or table n (pos 0)

-- no entry is farther from 0 than this
pub record AreWithin (most : ℕ) (table : List ℤ) : Type 0 where
  pub low : (n : ℕ) → (pos 0 -ℤ pos most) ≤ℤ excess_at table n
  pub high : (n : ℕ) → excess_at table n ≤ℤ pos most

-- an amount is added at one node
abbrev pub AddsAt : ℕ → ℤ → List ℤ → List ℤ → Type 0
AddsAt node amount before after =
    (n : ℕ) → excess_at after n ≡ excess_at before n +ℤ part_if (node == n) amount

-- the flow of a pipe fits it, and is counted at both its ends
pub record CountsPipe (pipe : Pipe) (against : ℕ) (before after : List ℤ) : Type 0 where
  pub within : against ≤ pipe.ahead + pipe.back
  pub counted : (n : ℕ) → excess_at after n
      ≡ excess_at before n +ℤ (part_if (pipe.from == n) (pos against -ℤ pos pipe.back)
      -ℤ part_if (pipe.to == n) (pos against -ℤ pos pipe.back))

-- each flow fits its pipe, and the table says what leaves each node
pub record AreExcesses (pipes : List Pipe) (backward : List ℕ) (table : List ℤ) : Type 0 where
  pub residuals : AreResiduals pipes backward
  pub counted : (n : ℕ) → excess_at table n ≡ excess pipes backward n

-- as much leaves as enters at each node but the two ends
abbrev pub IsBalancedBetween : ℕ → ℕ → List ℤ → Type 0
IsBalancedBetween source sink table = (n : ℕ) → n ≢ source → n ≢ sink → excess_at table n ≡ pos 0
