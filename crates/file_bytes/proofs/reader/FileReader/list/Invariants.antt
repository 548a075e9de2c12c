use Rattle.std.proofs.Common.{◌≡◌, ◌+◌, ◌*◌}
use Rattle.std.specs.List.{flat_map}
use Rattle.std.specs.Prelude.{vec_len}
use Rattle.shelf_traits.specs.Files.{OnlyReadsFile}
use Rattle.file_bytes.specs.Reading.{Took}
use Rattle.file_bytes.proofs.reader.FileReader.list.Given as goal

abbrev pub invariant-loop-i : goal.invariant-loop-i
invariant-loop-i g l = record {
  count : vec_len l.numbers ≡ l.i;
  at : l.self.at ≡ l.fn.self.at + g.T.Field.WIDTH * l.i;
  took : Took l.name l.fn.self.at (flat_map g.T.Field.field l.numbers.items) (g.S.Shelf.state l.shelf) l.self;
  reads : OnlyReadsFile l.name (g.S.Shelf.state l.fn.shelf) (g.S.Shelf.state l.shelf);
}
