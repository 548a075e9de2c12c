use Rattle.std.proofs.Common.{◌≡◌, ◌++◌}
use Rattle.shelf_traits.specs.Files.{Changes, OnlyWritesFile}
use Rattle.shelf_traits.specs.Written.{HoldsText}
use Rattle.y4m_clip.specs.Spaces.{joined_to, samples_of}
use Rattle.y4m_clip.specs.Writing.{frame_form}
use Rattle.command_files.proofs.out.write_clip.Given as goal

-- the writer still fits the volume, and the file holds the stream line and the frames so far
abbrev pub invariant-loop-f : goal.invariant-loop-f
invariant-loop-f g l = record {
  writer : l.writer ≡ l.fn.writer;
  width : l.volume.size.w ≡ l.writer.w;
  height : l.volume.size.h ≡ l.writer.h;
  samples : l.volume.k ≡ samples_of l.writer.kind;
  writes : OnlyWritesFile l.name (g.S.Shelf.state l.fn.shelf) (g.S.Shelf.state l.shelf);
  holds : Changes (g.S.Shelf.state l.fn.shelf) (g.S.Shelf.state l.shelf) (HoldsText l.name (l.fn.writer.line ++ joined_to l.f (frame_form l.fn.writer.kind l.volume)));
}
