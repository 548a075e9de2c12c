use Rattle.std.specs.Prelude.{◌≤◌, ◌-◌, Option}
use Rattle.cells.specs.declared.place.At.{At}
use Rattle.cells.specs.declared.place.Box3.{Box3}
use Rattle.limits.specs.declared.bounds.TheConstants.{MOST_BOX_CELLS}
use Rattle.grown.specs.Counted.{AreBoxes}
use Rattle.grown.proofs.Counting.{AreCounted, IsRoom}
use Rattle.grown.proofs.limit.count.Given as goal

abbrev pub invariant-counting : goal.invariant-counting
invariant-counting l = record {
  room : IsRoom l.output l.at.x l.at.y l.at.f;
  within : l.cells ≤ MOST_BOX_CELLS;
  counted : (box : At → Option Box3) → AreBoxes l.boxes l.output box → AreCounted l.boxes l.output box l.at.x l.at.y l.at.f l.cells;
}

abbrev pub decreases-counting : goal.decreases-counting
decreases-counting l = MOST_BOX_CELLS - l.cells
