use Rattle.std.proofs.Common.{◌≡◌, ◌<◌, ℕ, slice_index}
use Rattle.max_flow.specs.Networks.{pipe_at}
use Rattle.max_flow.proofs.beginning.empty.Given as goal

abbrev pub invariant-loop-j : goal.invariant-loop-j
invariant-loop-j l = (k : ℕ) → k < l.j → slice_index l.backward k ≡ (pipe_at l.pipes k).back
