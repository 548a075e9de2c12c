use Rattle.std.proofs.Common.{◌≤◌, ◌∙◌, ap, sym, subst}
use Rattle.std.specs.Prelude.{All}
use Rattle.map_canvas.specs.Maps.{empty_map}
use Rattle.limits.specs.declared.bounds.TheConstants.{MOST_BOX_CELLS}
use Rattle.cut_check.specs.Records.{box_cells}
use Rattle.cut_replay.specs.Replay.{EachStands, IsFormed, left_by}
use Rattle.cut_replay.proofs.Standing.{each_fits, each_keeps, each_least}
use Rattle.grown.specs.Grown.{IsRun, first_growth}
use Rattle.grow_run.specs.Work.{growth_of}
use Rattle.grown.proofs.Splitting.{run_splits, size_stays, starts}
use Rattle.grow_run.proofs.grow.grow_canvas.Goals as goal

pub returns : goal.returns
returns c =
    let plan = c.args.plan.now in
    let sample = c.args.sample.now in
    let volume = c.samples-samples.ensures.volume in
    let made = c.in_ok-refine_all.ensures in
    let end = c.refine_all.new.work in
    let cuts = c.from_vec.result in
    let items = sym c.from_vec.ensures in
    let stand = subst (EachStands sample (empty_map plan.size)) items made.0.stand in
    let run = subst (λ cuts. IsRun plan sample cuts (growth_of end)) items made.0.run in
    record {
      draws = end.draws;
      run = run;
      done = made.1;
      split = run_splits plan sample volume c.requires.small cuts (growth_of end) run;
      size = size_stays plan sample (first_growth plan) cuts (growth_of end) run;
      left = ap (left_by (empty_map plan.size)) c.from_vec.ensures ∙ made.0.left;
      canvas = made.0.canvas;
      over = made.0.over;
      stand = stand;
      least = each_least sample (empty_map plan.size) cuts stand;
      keep = each_keeps sample (empty_map plan.size) cuts volume (starts plan sample volume c.requires.small) stand;
      writable = record {
        fit = each_fits sample (empty_map plan.size) cuts stand;
        formed = subst (All IsFormed) items made.0.formed;
        cells = subst (λ cuts. box_cells cuts ≤ MOST_BOX_CELLS) items (subst (λ n. n ≤ MOST_BOX_CELLS) made.0.cells made.0.within);
      };
    }
