use Rattle.std.proofs.Common.{◌≤◌, ◌*◌, ◌-◌, length}
use Rattle.max_flow.specs.Checking.{AreWithin}
use Rattle.max_flow.proofs.Counting.{AreCountedFrom}
use Rattle.max_flow.proofs.checking.count_pipes.Given as goal

abbrev pub invariant-pipes : goal.invariant-pipes
invariant-pipes l =
    AreCountedFrom l.pipes l.backward l.excess l.left
    × (l.left ≤ length l.backward)
    × AreWithin (131072 * (length l.backward - l.left)) l.excess

abbrev pub decreases-pipes : goal.decreases-pipes
decreases-pipes l = l.left
