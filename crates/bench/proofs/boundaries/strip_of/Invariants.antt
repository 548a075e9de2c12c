use Rattle.std.proofs.Common.{◌≡◌, ◌≤◌, length}
use Rattle.std.specs.Prelude.{All}
use Rattle.strip_boundary.specs.declared.strip.TheConstants.{GREATEST_ERROR}
use Rattle.bench.proofs.boundaries.strip_of.Given as goal

abbrev pub invariant-loop-i : goal.invariant-loop-i
invariant-loop-i l = record {
  count : length l.errors.items ≡ l.i;
  greatest : All (λ error. error ≤ GREATEST_ERROR) l.errors.items;
}
