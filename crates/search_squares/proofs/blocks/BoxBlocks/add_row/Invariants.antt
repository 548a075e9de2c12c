use Rattle.std.proofs.Common.{◌≡◌, ◌+◌, ◌*◌}
use Rattle.search_squares.specs.Gathered.{AreSingles}
use Rattle.search_squares.proofs.blocks.BoxBlocks.add_row.Given as goal

abbrev pub invariant-cells : goal.invariant-cells
invariant-cells l = record {
  singles : AreSingles l.canvas l.rect l.self.size l.filled (l.rect.size.w * l.row + l.x) l.self.blocks.items;
  side : l.self.side ≡ l.fn.self.side;
  size : l.self.size ≡ l.fn.self.size;
}
