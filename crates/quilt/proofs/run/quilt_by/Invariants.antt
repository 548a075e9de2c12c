use Rattle.std.specs.Prelude.{◌≡◌, ◌+◌, ◌-◌, false, if◌then◌else◌}
use Rattle.map_canvas.specs.Maps.{IsFull}
use Rattle.block_check.specs.Blocks.{block_cells}
use Rattle.limits.specs.declared.bounds.TheConstants.{MOST_BOX_CELLS}
use Rattle.quilt.specs.QuiltWork.{IsQuiltWork}
use Rattle.quilt.proofs.run.quilt_by.Given as goal

abbrev pub invariant-laying : goal.invariant-laying
invariant-laying g l = record {
  work : IsQuiltWork (g.P.BlockPicks.rating l.picks l.sample) l.asked l.sample l.work;
  full : l.more ≡ false → IsFull l.work.canvas.map;
}

abbrev pub decreases-laying : goal.decreases-laying
decreases-laying g l = if l.more then MOST_BOX_CELLS - block_cells l.work.blocks.items + 1 else 0
