use Rattle.std.proofs.Common.{◌≡◌, replicate}
use Rattle.std.proofs.Math.Seq.{paste}
use Rattle.cells.proofs.volume.fill_at.Given as goal

abbrev pub invariant-loop-i : goal.invariant-loop-i
invariant-loop-i l = l.bytes ≡ paste l.initial.bytes l.start (replicate l.i l.byte) l.i
