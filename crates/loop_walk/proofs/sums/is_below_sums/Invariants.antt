use Rattle.std.proofs.Common.{ℕ, suc, ◌<◌}
use Rattle.loop_walk.specs.Walks.{AtMost, sum_if_both}
use Rattle.loop_walk.specs.Tables.{entry_at}
use Rattle.loop_walk.proofs.sums.is_below_sums.Given as goal

abbrev pub invariant-loop-v : goal.invariant-loop-v
invariant-loop-v l = (u : ℕ) → u < l.v → AtMost (entry_at l.costs l.tables (suc l.t) l.i l.j) (sum_if_both (entry_at l.costs l.tables l.t l.i u) (entry_at l.costs l.tables l.second u l.j))
