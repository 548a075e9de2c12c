-- A blocking flow, path by path.
use Rattle.std.proofs.Common.{◌≡◌, ◌≢◌, ◌<◌, ◌≤◌, ◌+◌, ℕ, List, All, refl, sym, subst, arith, ⊎_elim}
use Rattle.std.proofs.lemmas.Bool.{cases_lt}
use Rattle.std.proofs.lemmas.List.{get_or_past}
use Rattle.max_flow.specs.declared.network.Pipe.{Pipe}
use Rattle.max_flow.specs.Networks.{IsPipeOf}
use Rattle.max_flow.specs.Residual.{tail, AreChains, AreResiduals, Moves, Carries}
use Rattle.max_flow.specs.Levels.{AreLevels}
use Rattle.max_flow.specs.Paths.{AreCurrent, PassedAreDead}
use Rattle.max_flow.proofs.Arcs.{tail_below}
use Rattle.max_flow.proofs.Limits.{Carries_more}

-- a flow of at least the value it had; while it has that value, all that is passed over is dead
pub record IsBlocking (pipes : List Pipe) (nodes source sink : ℕ) (levels backward current : List ℕ) (first value : ℕ) : Type 0 where
  pub carries : Carries pipes source sink backward value
  pub grows : first ≤ value
  pub sound : AreCurrent pipes nodes current
  pub fresh : value ≡ first → AreLevels pipes nodes source backward levels × PassedAreDead pipes sink backward levels current

-- at the beginning of each chain no arc is passed over
pub AreCurrent_begins : (pipes : List Pipe) (nodes : ℕ) (last previous : List ℕ) → AreChains pipes nodes last previous → AreCurrent pipes nodes last
AreCurrent_begins pipes nodes last previous h = record {
  sized = h.nodes_sized;
  low = λ n. ⊎_elim (λ lt. (h.begins n lt).low) (λ past. omega (arith, get_or_past last n 0 (omega (arith, h.nodes_sized, past)))) (cases_lt n nodes);
  here = λ n some. ⊎_elim (λ lt. (h.begins n lt).here some) (λ past. absurd (omega (arith, get_or_past last n 0 (omega (arith, h.nodes_sized, past)), some))) (cases_lt n nodes);
}

pub IsBlocking_begins : (pipes : List Pipe) (nodes source sink : ℕ) (levels backward current last previous : List ℕ) (value : ℕ) → All (IsPipeOf nodes) pipes → AreChains pipes nodes last previous → current ≡ last
    → Carries pipes source sink backward value → AreLevels pipes nodes source backward levels → IsBlocking pipes nodes source sink levels backward current value value
IsBlocking_begins pipes nodes source sink levels backward current last previous value sound chained same carries are =
    subst (λ (c : List ℕ). IsBlocking pipes nodes source sink levels backward c value value) (sym same) (record {
      carries = carries;
      grows = omega arith;
      sound = AreCurrent_begins pipes nodes last previous chained;
      fresh = λ _. (are, λ arc arc_in past admissible. absurd ((chained.begins (tail pipes arc) (tail_below nodes pipes arc sound arc_in)).none arc past arc_in refl));
    })

pub IsBlocking_more : (pipes : List Pipe) (nodes source sink : ℕ) (levels backward backward' current current' : List ℕ) (first value amount : ℕ) → source ≢ sink → IsBlocking pipes nodes source sink levels backward current first value
    → AreCurrent pipes nodes current' → 0 < amount → AreResiduals pipes backward' → Moves pipes source sink amount backward backward' → IsBlocking pipes nodes source sink levels backward' current' first (value + amount)
IsBlocking_more pipes nodes source sink levels backward backward' current current' first value amount differ h are some residuals moves = record {
  carries = Carries_more pipes source sink backward backward' value amount differ h.carries residuals moves;
  grows = omega (arith, h.grows);
  sound = are;
  fresh = λ same. absurd (omega (arith, h.grows, some, same));
}
