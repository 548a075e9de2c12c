use Rattle.std.specs.Prelude.{◌≡◌, ◌+◌, ◌-◌, false, None, if◌then◌else◌}
use Rattle.map_canvas.specs.Maps.{first_unfilled}
use Rattle.limits.specs.declared.bounds.TheConstants.{MOST_BOX_CELLS}
use Rattle.grow_run.specs.Work.{IsWork}
use Rattle.grow_run.proofs.grow.lay_all.Given as goal

abbrev pub invariant-placing : goal.invariant-placing
invariant-placing l = record {
  work : IsWork l.plan l.sample l.work;
  full : l.more ≡ false → first_unfilled l.work.canvas.map ≡ None;
}

abbrev pub decreases-placing : goal.decreases-placing
decreases-placing l = if l.more then MOST_BOX_CELLS - l.work.cells + 1 else 0
