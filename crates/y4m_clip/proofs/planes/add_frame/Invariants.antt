use Rattle.std.proofs.Common.{◌≡◌, ◌++◌}
use Rattle.y4m_clip.specs.Spaces.{joined_to}
use Rattle.y4m_clip.specs.Clips.{frame_row}
use Rattle.y4m_clip.proofs.planes.add_frame.Given as goal

abbrev pub invariant-loop-y : goal.invariant-loop-y
invariant-loop-y l = l.cells.items ≡ l.initial.cells.items ++ joined_to l.y (frame_row l.space l.w l.h l.planes)
