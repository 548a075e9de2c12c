use Rattle.std.proofs.Common.{ℕ, ◌<◌}
use Rattle.standing_files.specs.Standing.{HasOneFrame}
use Rattle.standing_files.proofs.records.first_other_frame.Given as goal

abbrev pub invariant-loop-i : goal.invariant-loop-i
invariant-loop-i l = (k : ℕ) → k < l.i → HasOneFrame l.walk l.frames k
