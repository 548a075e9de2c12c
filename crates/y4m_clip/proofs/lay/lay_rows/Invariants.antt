use Rattle.std.proofs.Common.{◌≡◌, ℕ, ◌+◌, ◌*◌}
use Rattle.y4m_clip.specs.Spaces.{joined_to}
use Rattle.y4m_clip.specs.Laying.{Lays, run_samples}
use Rattle.y4m_clip.proofs.lay.lay_rows.Given as goal

abbrev pub invariant-loop-j : goal.invariant-loop-j
invariant-loop-j l = record {
  lays : Lays (joined_to l.j (λ (j : ℕ). run_samples l.row l.k (l.start + l.count * j) l.count l.w)) l.initial.planes l.at l.planes l.next;
  place : l.next ≡ l.at + l.count * l.w * l.j;
}
