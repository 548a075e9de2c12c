use Rattle.std.proofs.Common.{◌≡◌, ℕ, ◌+◌, ◌*◌}
use Rattle.y4m_clip.specs.Spaces.{joined_to}
use Rattle.y4m_clip.specs.Writing.{row_samples}
use Rattle.y4m_clip.specs.Laying.{Lays}
use Rattle.y4m_clip.proofs.lay.lay_plane.Given as goal

abbrev pub invariant-loop-y : goal.invariant-loop-y
invariant-loop-y l = record {
  lays : Lays (joined_to l.y (λ (y : ℕ). joined_to l.rows (λ (j : ℕ). row_samples l.volume l.f y (l.start + l.count * j) l.count))) l.initial.planes l.at l.planes l.next;
  place : l.next ≡ l.at + l.count * l.volume.size.w * l.rows * l.y;
}
