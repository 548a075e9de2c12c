use Rattle.std.proofs.Common.{◌≡◌, ◌+◌, ◌*◌, length}
use Rattle.shelf_traits.specs.Files.{OnlyReadsFile}
use Rattle.source_map.specs.Heads.{size_read}
use Rattle.source_map.specs.Readings.{Found, list_read}
use Rattle.source_map.proofs.head_reading.read_sizes.Given as goal

abbrev pub invariant-loop-i : goal.invariant-loop-i
invariant-loop-i g l = record {
  found : Found l.name l.fn.file.at (g.S.Shelf.state l.shelf) l.file (list_read size_read l.i) l.sizes;
  count : length l.sizes ≡ l.i;
  at : l.file.at ≡ l.fn.file.at + 12 * l.i;
  reads : OnlyReadsFile l.name (g.S.Shelf.state l.fn.shelf) (g.S.Shelf.state l.shelf);
}
