use Rattle.std.proofs.Common.{◌≡◌}
use Rattle.std.proofs.Math.Seq.{paste}
use Rattle.map_canvas.specs.Runs.{source_run}
use Rattle.map_canvas.proofs.map.name_run.Given as goal

abbrev pub invariant-loop-j : goal.invariant-loop-j
invariant-loop-j l = l.sources ≡ paste l.initial.sources l.start (source_run l.from l.w) l.j
