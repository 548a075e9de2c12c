use Rattle.std.proofs.Common.{slice_index}
use Rattle.strip_boundary.specs.Tables.{IsFirstLeastWithin}
use Rattle.strip_boundary.proofs.sums.first_least.Given as goal

abbrev pub invariant-loop-col : goal.invariant-loop-col
invariant-loop-col l = IsFirstLeastWithin (slice_index l.row) l.start l.col l.least
