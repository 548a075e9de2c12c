use Rattle.std.proofs.Common.{◌≡◌, get_or}
use Rattle.cost_windows.specs.Tops.{max_to}
use Rattle.cost_windows.proofs.tops.top_of.Given as goal

abbrev pub invariant-loop-k : goal.invariant-loop-k
invariant-loop-k l = l.top ≡ max_to l.k (λ i. get_or l.row i 0)
