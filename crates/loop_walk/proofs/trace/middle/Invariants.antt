use Rattle.std.proofs.Common.{ℕ, ◌<◌, ◌≤◌}
use Rattle.loop_walk.specs.Products.{sum_through}
use Rattle.loop_walk.proofs.trace.middle.Given as goal

abbrev pub invariant-loop-v : goal.invariant-loop-v
invariant-loop-v l = record {
  below : l.best < l.v;
  least : (u : ℕ) → u < l.v → sum_through l.n l.left l.right l.i l.j l.best ≤ sum_through l.n l.left l.right l.i l.j u;
  first : (u : ℕ) → u < l.best → sum_through l.n l.left l.right l.i l.j l.best < sum_through l.n l.left l.right l.i l.j u;
}
