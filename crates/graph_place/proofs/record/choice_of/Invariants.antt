use Rattle.std.proofs.Common.{◌≡◌, ℕ, ◌<◌, get_or, false}
use Rattle.std.specs.Prelude.{not}
use Rattle.max_flow.specs.Flows.{is_in}
use Rattle.graph_place.proofs.record.choice_of.Given as goal

abbrev pub invariant-loop-i : goal.invariant-loop-i
invariant-loop-i l = (k : ℕ) → k < l.i → get_or l.choice.items k false ≡ not (is_in l.sides (get_or l.nodes k 0))
