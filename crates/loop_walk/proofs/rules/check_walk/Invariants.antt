use Rattle.std.proofs.Common.{◌≡◌, ℕ, ◌*◌, ◌^◌, ◌<◌, ◌≤◌, take}
use Rattle.std.specs.Prelude.{Some}
use Rattle.loop_walk.specs.Walks.{steps_cost, steps_round}
use Rattle.loop_walk.specs.Records.{StepHolds}
use Rattle.loop_walk.proofs.rules.check_walk.Given as goal

abbrev pub invariant-loop-position : goal.invariant-loop-position
invariant-loop-position l = record {
  so_far : steps_cost l.costs (take l.position (steps_round l.walk)) ≡ Some l.cost;
  small : l.cost ≤ l.position * 2 ^ 46;
  before : (k : ℕ) → k < l.position → StepHolds l.costs l.walk k;
}
