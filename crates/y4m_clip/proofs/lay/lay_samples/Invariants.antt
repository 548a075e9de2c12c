use Rattle.std.proofs.Common.{◌≡◌, ◌+◌, ◌*◌}
use Rattle.y4m_clip.specs.Laying.{Lays, run_samples}
use Rattle.y4m_clip.proofs.lay.lay_samples.Given as goal

abbrev pub invariant-loop-x : goal.invariant-loop-x
invariant-loop-x l = record {
  lays : Lays (run_samples l.row l.k l.start l.count l.x) l.initial.planes l.at l.planes l.next;
  place : l.next ≡ l.at + l.count * l.x;
}
