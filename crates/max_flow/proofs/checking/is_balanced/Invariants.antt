use Rattle.std.proofs.Common.{◌≡◌, ◌≢◌, ◌<◌, ℕ, pos}
use Rattle.max_flow.specs.Checking.{excess_at}
use Rattle.max_flow.proofs.checking.is_balanced.Given as goal

abbrev pub invariant-loop-n : goal.invariant-loop-n
invariant-loop-n l = (k : ℕ) → k < l.n → k ≢ l.source → k ≢ l.sink → excess_at l.excess k ≡ pos 0
