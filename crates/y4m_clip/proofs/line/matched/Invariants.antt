use Rattle.std.proofs.Common.{length, take, ◌-◌, ◌≡◌, ◌≤◌}
use Rattle.y4m_clip.proofs.line.matched.Given as goal

abbrev pub invariant-matching : goal.invariant-matching
invariant-matching l = record { inside : l.n ≤ length l.text; within : l.n ≤ length l.word; same : take l.n l.text ≡ take l.n l.word }

abbrev pub decreases-matching : goal.decreases-matching
decreases-matching l = length l.text - l.n
