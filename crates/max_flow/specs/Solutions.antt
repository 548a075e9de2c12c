-- A reader has to trust this file. A flow of greatest value with the smallest source side of a
-- least cut.
use Rattle.std.specs.Prelude.{◌≡◌, ℕ, ℤ, pos, ◌≤ℤ◌, Bool, List}
use Rattle.max_flow.specs.Networks.{FlowNetwork}
use Rattle.max_flow.specs.Flows.{IsFlow, flow_value, IsCut, cut_capacity, IsLeastCut, IsContained}

-- what a solver of a network hands out
pub record IsSolution (network : FlowNetwork) (flows : List ℤ) (sides : List Bool)
    (amount : ℕ) : Type 0 where
  pub flow : IsFlow network flows
  pub value : flow_value network flows ≡ pos amount
  pub cut : IsCut network sides
  pub capacity : cut_capacity network sides ≡ amount
  pub greatest : (other : List ℤ) → IsFlow network other → flow_value network other ≤ℤ pos amount
  pub least : IsLeastCut network sides
  pub smallest : (other : List Bool) → IsLeastCut network other → IsContained sides other
