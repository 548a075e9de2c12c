use Rattle.std.proofs.Common.{ℕ, ◌*◌, ◌<◌}
use Rattle.standing_files.specs.Standing.{IsCopiedAt, map_output}
use Rattle.standing_files.proofs.picture.judge_picture.Given as goal

abbrev pub invariant-loop-row : goal.invariant-loop-row
invariant-loop-row l = (k : ℕ) → k < (map_output l.map_file).w * l.row → IsCopiedAt l.samples l.picture l.map_file k
