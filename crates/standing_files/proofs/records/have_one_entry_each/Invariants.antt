use Rattle.std.proofs.Common.{ℕ, ◌<◌}
use Rattle.standing_files.specs.Steps.{HaveOneEntry}
use Rattle.standing_files.proofs.records.have_one_entry_each.Given as goal

abbrev pub invariant-loop-i : goal.invariant-loop-i
invariant-loop-i l = (k : ℕ) → k < l.i → HaveOneEntry l.left l.entries k
