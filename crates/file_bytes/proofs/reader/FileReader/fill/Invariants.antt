use Rattle.std.proofs.Common.{◌-◌, ◌≤◌, length, take}
use Rattle.shelf_traits.specs.Files.{OnlyReadsFile}
use Rattle.file_bytes.specs.Reading.{Took}
use Rattle.file_bytes.proofs.reader.FileReader.fill.Given as goal

abbrev pub invariant-filling : goal.invariant-filling
invariant-filling g l = record {
  within : l.filled ≤ length l.into;
  took : Took l.name l.fn.self.at (take l.filled l.into) (g.S.Shelf.state l.shelf) l.self;
  reads : OnlyReadsFile l.name (g.S.Shelf.state l.fn.shelf) (g.S.Shelf.state l.shelf);
}

abbrev pub decreases-filling : goal.decreases-filling
decreases-filling g l = length l.initial.into - l.filled
