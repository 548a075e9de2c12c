use Rattle.std.proofs.Common.{◌≡◌, ◌++◌, slice_index}
use Rattle.shelf_traits.specs.Files.{Changes, OnlyWritesFile}
use Rattle.shelf_traits.specs.Written.{HoldsText}
use Rattle.y4m_clip.specs.Spaces.{joined_to}
use Rattle.y4m_clip.specs.Writing.{frame_form}
use Rattle.loop_command.specs.LoopOuts.{CanWriteFrames}
use Rattle.loop_command.proofs.files.write_frames.Given as goal

-- the writer stays ready, and the file holds the stream line and the frames so far
abbrev pub invariant-loop-f : goal.invariant-loop-f
invariant-loop-f g l = record {
  writer : l.writer ≡ l.fn.writer;
  ready : CanWriteFrames l.writer l.sample l.walk;
  writes : OnlyWritesFile l.name (g.S.Shelf.state l.fn.shelf) (g.S.Shelf.state l.shelf);
  holds : Changes (g.S.Shelf.state l.fn.shelf) (g.S.Shelf.state l.shelf) (HoldsText l.name (l.fn.writer.line ++ joined_to l.f-index (λ i. frame_form l.fn.writer.kind l.sample (slice_index l.walk i))));
}
