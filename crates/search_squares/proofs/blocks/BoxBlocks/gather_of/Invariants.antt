use Rattle.std.proofs.Common.{◌≡◌}
use Rattle.search_squares.specs.Gathered.{AreGathered}
use Rattle.search_squares.proofs.blocks.BoxBlocks.gather_of.Given as goal

abbrev pub invariant-loop-i : goal.invariant-loop-i
invariant-loop-i l = record {
  gathered : AreGathered l.canvas l.rect l.blocks.side l.blocks.size l.blocks.blocks.items l.free.items;
  side : l.blocks.side ≡ l.side;
  size : l.blocks.size ≡ l.fn.size;
}
