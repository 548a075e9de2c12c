use Rattle.std.specs.Prelude.{◌≡◌, ◌+◌, ◌-◌, false, None, if◌then◌else◌}
use Rattle.cells.specs.Places.{cell_count}
use Rattle.map_canvas.specs.Maps.{first_unfilled}
use Rattle.tile_run.specs.Work.{IsWork, reached}
use Rattle.tile_run.proofs.tiling.tile_canvas.Given as goal

abbrev pub invariant-laying : goal.invariant-laying
invariant-laying l = record {
  work : IsWork l.plan l.sample l.work;
  full : l.more ≡ false → first_unfilled l.work.canvas.map ≡ None;
}

abbrev pub decreases-laying : goal.decreases-laying
decreases-laying l = if l.more then cell_count l.plan.size - reached l.work.canvas.map + 1 else 0
