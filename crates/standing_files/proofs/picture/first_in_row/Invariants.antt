use Rattle.std.proofs.Common.{ℕ, ◌<◌}
use Rattle.standing_files.specs.Standing.{IsCopiedAt}
use Rattle.standing_files.proofs.picture.first_in_row.Given as goal

abbrev pub invariant-loop-i : goal.invariant-loop-i
invariant-loop-i l = (k : ℕ) → k < l.i → IsCopiedAt l.samples l.picture l.map_file k
