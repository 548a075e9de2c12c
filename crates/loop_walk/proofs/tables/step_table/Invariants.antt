use Rattle.std.proofs.Common.{◌≡◌}
use Rattle.frame_distance.specs.Tables.{entries_of}
use Rattle.loop_walk.specs.Products.{step_numbers}
use Rattle.loop_walk.proofs.tables.step_table.Given as goal

abbrev pub invariant-loop-k : goal.invariant-loop-k
invariant-loop-k l = l.table.items ≡ entries_of l.n (step_numbers l.costs) l.k
