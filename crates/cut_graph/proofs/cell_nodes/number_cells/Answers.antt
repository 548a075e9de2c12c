use Rattle.std.proofs.Common.{◌≡◌, ◌<◌, ℕ, List, length, ◌∙◌, subst, arith}
use Rattle.std.specs.Prelude.{Bool, IfSome, Option, Some, None, option_copied}
use Rattle.cells.specs.Places.{cell_count}
use Rattle.costs.specs.Lawful.{held_marks}
use Rattle.boxes.proofs.Indices.{counts_below}
use Rattle.cut_graph.specs.Building.{AreCellNodes}
use Rattle.cut_graph.proofs.Numbered.{no_cells}
use Rattle.cut_graph.proofs.cell_nodes.number_cells.Goals as goal

-- marks that are there have one for each index below their number
marks_past : (held : Option (List Bool)) (n i : ℕ) → i < n → IfSome held (λ marks. length marks ≡ n) → IfSome held (λ marks. i < length marks)
marks_past None n i lt is = tt
marks_past (Some marks) n i lt is = omega (arith, is)

pub loop-i-init : goal.loop-i-init
loop-i-init c =
    let axes = c.requires.small.axes in
    record {
      at = c.first-at.ensures.index c.args.placement.now.rect.size (record { w = axes.w.0; h = axes.h.0; f = axes.f.0 });
      cells =
          no_cells c.args.canvas.now.map c.args.placement.now (held_marks (option_copied c.args.held)) c.in_ok-cells.cells
          c.in_ok-cells.ensures.items c.in_ok-cells.ensures.next;
      room = c.in_ok-cells.ensures.room ∙ c.cells.ensures;
    }

pub give_at-requires-clause-counts : goal.give_at-requires-clause-counts
give_at-requires-clause-counts c =
    let at = c.loop-i.at in
    counts_below c.args.placement.now.rect.size c.loop-i.i at.x at.y at.f c.loop-i.invariant.at (omega (arith, c.cells-i-end.ensures, c.loop-i-test.true))

pub give_at-requires-clause-few : goal.give_at-requires-clause-few
give_at-requires-clause-few c = omega (arith, c.cells-i-end.ensures, c.loop-i-test.true, c.requires.small.cells)

pub next-at-requires : goal.next-at-requires
next-at-requires c =
    let at = c.loop-i.at in
    counts_below c.args.placement.now.rect.size c.loop-i.i at.x at.y at.f c.loop-i.invariant.at (omega (arith, c.cells-i-end.ensures, c.loop-i-test.true))

pub loop-i-preserved : goal.loop-i-preserved
loop-i-preserved c = record { at = c.next-at.ensures c.loop-i.i c.loop-i.invariant.at; cells = c.give_at.ensures.cells; room = c.give_at.ensures.room }

pub returns : goal.returns
returns c =
    let end : c.loop-i.i ≡ cell_count c.args.placement.now.rect.size = omega (arith, c.cells-i-end.ensures, c.loop-i-test.false) in
    subst (λ n. AreCellNodes c.args.canvas.now.map c.args.placement.now (held_marks (option_copied c.args.held)) n c.loop-i.cells) end c.loop-i.invariant.cells

pub give_at-requires-clause-marks : goal.give_at-requires-clause-marks
give_at-requires-clause-marks c = marks_past (option_copied c.args.held) (cell_count c.args.placement.now.rect.size) c.loop-i.i (omega (arith, c.cells-i-end.ensures, c.loop-i-test.true)) c.requires.marks

pub give_at-requires-clause-room : goal.give_at-requires-clause-room
give_at-requires-clause-room c = c.loop-i.invariant.room

pub give_at-requires-clause-index : goal.give_at-requires-clause-index
give_at-requires-clause-index c = omega arith

pub give_at-requires-clause-inside : goal.give_at-requires-clause-inside
give_at-requires-clause-inside c = c.requires.inside

pub give_at-requires-clause-cells : goal.give_at-requires-clause-cells
give_at-requires-clause-cells c = c.loop-i.invariant.cells
