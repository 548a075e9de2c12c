use Rattle.std.proofs.Common.{ℕ, ◌+◌, ◌*◌, ◌<◌}
use Rattle.loop_walk.specs.Records.{PlaceHolds}
use Rattle.loop_walk.proofs.rules.broken_entry.Given as goal

abbrev pub invariant-loop-i : goal.invariant-loop-i
invariant-loop-i l = (place : ℕ) → place < l.t * (l.costs.frames * l.costs.frames) + l.i * l.costs.frames → PlaceHolds l.costs l.length l.tables place
