use Rattle.std.proofs.Common.{◌+◌, ◌*◌, ◌<◌, ℕ}
use Rattle.search_squares.specs.Gathered.{AreFree}
use Rattle.search_squares.proofs.blocks.is_block_free.Given as goal

abbrev pub invariant-loop-j : goal.invariant-loop-j
invariant-loop-j l = (j : ℕ) → j < l.j → AreFree l.free (l.start + l.w * j) l.side
