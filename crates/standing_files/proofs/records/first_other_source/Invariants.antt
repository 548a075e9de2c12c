use Rattle.std.proofs.Common.{ℕ, ◌<◌}
use Rattle.cells.specs.Places.{place_of}
use Rattle.standing_files.specs.Standing.{HasOneSource}
use Rattle.standing_files.proofs.records.first_other_source.Given as goal

abbrev pub invariant-loop-i : goal.invariant-loop-i
invariant-loop-i l = (k : ℕ) → k < l.i → HasOneSource l.left l.map (place_of l.map.size k)
