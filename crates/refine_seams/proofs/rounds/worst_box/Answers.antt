use Rattle.std.proofs.Common.{◌∙◌, ap, sym, subst, arith}
use Rattle.cells.specs.declared.place.Size.{Size}
use Rattle.cells.specs.Boxes.{HasCells}
use Rattle.cells.specs.Distances.{distance}
use Rattle.map_canvas.specs.Maps.{SourceMap, map_at}
use Rattle.patch_picks.specs.Modes.{window}
use Rattle.grown.specs.Rounds.{IsWorstAt}
use Rattle.refine_seams.proofs.Rounding.{small_cells, worst_of_table}
use Rattle.refine_seams.proofs.rounds.worst_box.Goals as goal

pub returns-then-worst-eq0-clause-worst : goal.returns-then-worst-eq0-clause-worst
returns-then-worst-eq0-clause-worst c =
    let d = distance c.args.sample.now in
    let m = map_at c.args.canvas.now.map in
    let corner = c.worst-worst.result.corner in
    record {
      corner = corner;
      worst = subst (IsWorstAt c.args.side c.args.canvas.now.map c.args.sample.now corner) c.if-worst-eq0.true
          (worst_of_table c.args.side c.args.canvas.now.map c.args.sample.now c.args.table.now corner c.worst-worst.result.cost c.requires.table
          (c.worst-worst.ensures.worst d m c.requires.table.right) (c.worst-worst.ensures.cost d m c.requires.table.right));
    }

pub returns-clause-worst : goal.returns-clause-worst
returns-clause-worst c =
    let d = distance c.args.sample.now in
    let m = map_at c.args.canvas.now.map in
    let output = c.size.ensures.size ∙ ap (λ (m : SourceMap). m.size) c.map.ensures.map in
    record {
      size = c.window_size.ensures.size ∙ ap (λ (size : Size). window c.args.side size c.args.sample.now) output;
      cells = c.window_size.ensures.some c.requires.side
          (subst HasCells (sym output) (small_cells c.args.canvas.now.map.size c.map.ensures.canvas.map.small));
      sum = c.worst-worst.result.cost;
      worst = worst_of_table c.args.side c.args.canvas.now.map c.args.sample.now c.args.table.now c.worst-worst.result.corner c.worst-worst.result.cost c.requires.table
          (c.worst-worst.ensures.worst d m c.requires.table.right) (c.worst-worst.ensures.cost d m c.requires.table.right);
      some = omega (arith, c.if-worst-eq0.false);
    }
