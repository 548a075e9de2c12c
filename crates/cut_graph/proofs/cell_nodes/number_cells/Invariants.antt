use Rattle.std.specs.Prelude.{◌≡◌, option_copied, vec_capacity}
use Rattle.cells.specs.Places.{cell_count}
use Rattle.costs.specs.Lawful.{held_marks}
use Rattle.boxes.specs.Walks.{IsAtIndex}
use Rattle.cut_graph.specs.Building.{AreCellNodes}
use Rattle.cut_graph.proofs.cell_nodes.number_cells.Given as goal

abbrev pub invariant-loop-i : goal.invariant-loop-i
invariant-loop-i l = record {
  at : IsAtIndex l.size l.i l.at.x l.at.y l.at.f;
  cells : AreCellNodes l.canvas.map l.placement (held_marks (option_copied l.held)) l.i l.cells;
  room : vec_capacity l.cells.nodes ≡ cell_count l.size;
}
