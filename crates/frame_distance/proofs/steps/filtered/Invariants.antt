use Rattle.std.proofs.Common.{◌≡◌, ◌<◌, ◌^◌}
use Rattle.std.specs.Prelude.{All, IfSome}
use Rattle.frame_distance.specs.Tables.{entries_of}
use Rattle.frame_distance.specs.Steps.{step_cost}
use Rattle.frame_distance.proofs.steps.filtered.Given as goal

abbrev pub invariant-loop-k : goal.invariant-loop-k
invariant-loop-k l = record {
  so_far : l.costs.items ≡ entries_of l.n (step_cost l.table l.taps l.gap) l.k;
  below : All (λ cost. IfSome cost (λ number. number < 2 ^ 46)) l.costs.items;
}
