use Rattle.std.proofs.Common.{◌≡◌, ◌<◌, ℕ}
use Rattle.max_flow.specs.Flows.{pipe_flow}
use Rattle.max_flow.specs.Residual.{flows_of}
use Rattle.max_flow.proofs.solver.write_flows.Given as goal

abbrev pub invariant-loop-j : goal.invariant-loop-j
invariant-loop-j l = (k : ℕ) → k < l.j → pipe_flow l.flow k ≡ pipe_flow (flows_of l.pipes l.backward) k
