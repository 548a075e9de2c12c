use Rattle.std.proofs.Common.{◌≡◌, ◌+◌, length, take}
use Rattle.cells.specs.Cells.{sizes_of}
use Rattle.shelf_traits.specs.Files.{OnlyReads}
use Rattle.command.specs.Commands.{names_in}
use Rattle.sample_files.specs.Several.{AreSoundSeveral, sample_files}
use Rattle.sample_files.proofs.Reading.{AreReadSoFar}
use Rattle.sample_files.proofs.several.read_several.Given as goal

-- the samples so far are those of as many files
abbrev pub invariant-loop-i : goal.invariant-loop-i
invariant-loop-i g l = record {
  reads : OnlyReads (names_in (sample_files l.first l.more)) (g.S.Shelf.state l.fn.shelf) (g.S.Shelf.state l.shelf);
  read : AreReadSoFar l.asked l.first (take l.i l.more) l.samples (g.S.Shelf.state l.fn.shelf) (g.S.Shelf.state l.shelf);
  so_far : AreSoundSeveral l.asked l.samples;
  count : length (sizes_of l.samples.volume) ≡ l.i + 1;
}
