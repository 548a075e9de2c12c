use Rattle.std.proofs.Common.{◌≡◌, ◌*◌}
use Rattle.search_squares.specs.Gathered.{AreSingles}
use Rattle.search_squares.proofs.blocks.BoxBlocks.singles_of.Given as goal

abbrev pub invariant-loop-row : goal.invariant-loop-row
invariant-loop-row l = record {
  singles : AreSingles l.canvas l.rect l.blocks.size l.filled (l.rect.size.w * l.row) l.blocks.blocks.items;
  side : l.blocks.side ≡ 1;
  size : l.blocks.size ≡ l.fn.size;
}
