use Rattle.std.proofs.Common.{◌≡◌, ◌≤◌, ◌+◌, ◌*◌, length}
use Rattle.limits.specs.declared.bounds.TheConstants.{MOST_LINE_BYTES}
use Rattle.shelf_traits.specs.Files.{InFile, OnlyReadsFile}
use Rattle.y4m_clip.specs.Spaces.{samples_of}
use Rattle.y4m_clip.specs.Frames.{FramesSeen}
use Rattle.y4m_clip.proofs.frames.read_frames.Given as goal

abbrev pub invariant-loop-count : goal.invariant-loop-count
invariant-loop-count g l = record {
  reads : OnlyReadsFile l.name (g.S.Shelf.state l.initial.shelf) (g.S.Shelf.state l.shelf);
  seen : InFile l.name (g.S.Shelf.state l.initial.shelf) (g.S.Shelf.state l.shelf) (λ bytes. FramesSeen l.front.form.space l.front.w l.front.h l.front.start bytes l.count l.at l.bytes.items);
  whole : length l.bytes.items ≡ samples_of l.front.form.space * l.front.w * l.front.h * l.count;
  planes : length l.planes.items ≡ samples_of l.front.form.space * (l.front.w * l.front.h);
  place : l.at ≤ MOST_LINE_BYTES + l.count * 300000000;
}
