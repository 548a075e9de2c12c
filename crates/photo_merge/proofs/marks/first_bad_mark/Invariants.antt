use Rattle.std.proofs.Common.{ℕ, ◌<◌}
use Rattle.photo_merge.specs.Marks.{HasMark}
use Rattle.photo_merge.proofs.marks.first_bad_mark.Given as goal

-- each cell so far can be a mark
abbrev pub invariant-loop-i : goal.invariant-loop-i
invariant-loop-i l = (j : ℕ) → j < l.i → HasMark l.count l.marks j
