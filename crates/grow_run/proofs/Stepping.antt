-- The steps of a run, as the code makes them.
use mathlib.Core.Bool.{false≢true}
use Rattle.std.proofs.Common.{◌≡◌, ℕ, ◌+◌, ◌≤◌, ◌<◌, Bool, true, false, [], ◌∷◌, ◌++◌, ap, sym, ◌∙◌, subst, arith}
use Rattle.std.proofs.lemmas.List.Elements.{All-nil, All-push}
use Rattle.std.specs.Prelude.{All, Ok}
use Rattle.cells.specs.Boxes.{HasCells}
use Rattle.cells.specs.Cells.{Cells}
use Rattle.cells.specs.Distances.{distance}
use Rattle.map_canvas.specs.declared.canvas.Placement.{Placement}
use Rattle.map_canvas.specs.Canvases.{CanvasState, IsCanvas, StandsOver, empty_canvas}
use Rattle.map_canvas.specs.Choices.{box_count, map_after}
use Rattle.map_canvas.specs.Maps.{empty_map, first_unfilled}
use Rattle.boxes.specs.Pairs.{pair_count}
use Rattle.cut_check.specs.declared.record.CutRecord.{CutRecord}
use Rattle.cut_check.specs.Records.{CutStands, box_cells, setting}
use Rattle.least_choice.specs.Fewest.{IsFewestHeld}
use Rattle.graph_place.specs.Placed.{IsPlaced}
use Rattle.limits.specs.declared.bounds.TheConstants.{MOST_BOX_CELLS}
use Rattle.cut_replay.specs.Replay.{EachStands, IsFormed, left_by}
use Rattle.cut_replay.proofs.RunLaws.{cells_more, each_more, left_more}
use Rattle.grown.specs.declared.plan.GrowPlan.{GrowPlan}
use Rattle.grow_run.specs.declared.steps.Work.{Work}
use Rattle.grown.specs.Grown.{ComesNext, GrowsBy, IsRun, PassesAt, draws_left, first_growth, rounds_made}
use Rattle.cost_windows.specs.Tables.{WindowSums}
use Rattle.grown.specs.Rounds.{NoWindowCosts}
use Rattle.grow_run.specs.Work.{IsRefining, IsWork, Refines, growth_of}
use Rattle.grown.proofs.Stepping.{leads_more}

-- a placement that is put in is one step more
pub one_more : (plan : GrowPlan) (sample : Cells) (was now : Work) (placement : Placement) (cut : CutRecord) → IsWork plan sample was
    → ComesNext plan sample (growth_of was) placement → HasCells placement.rect.size → now.draws ≡ draws_left plan was.draws (first_unfilled was.canvas.map) → now.rounds ≡ rounds_made was.rounds (first_unfilled was.canvas.map)
    → IsPlaced was.canvas sample placement [] now.canvas cut → IsCanvas now.canvas
    → now.cuts.items ≡ was.cuts.items ++ cut ∷ [] → now.cells ≡ was.cells + box_count placement → now.cells ≤ MOST_BOX_CELLS → now.rounds ≤ plan.rounds
    → IsWork plan sample now
one_more plan sample was now placement cut work next some draws rounds placed is items cells within few = record {
  run = subst (λ cuts. IsRun plan sample cuts (growth_of now)) (sym items) (leads_more (GrowsBy plan sample) (first_growth plan) was.cuts.items (growth_of was) cut (growth_of now) work.run by);
  cells = cells ∙ ap (λ n. n + box_count placement) work.cells ∙ ap (λ p. box_cells was.cuts.items + box_count p) here ∙ sym (cells_more was.cuts.items cut) ∙ ap box_cells (sym items);
  within = within;
  rounds = few;
  formed = subst (All IsFormed) (sym items) (All-push IsFormed was.cuts.items cut work.formed (record {
    cells = subst (λ (p : Placement). HasCells p.rect.size) here some;
    choice = placed.choice_count ∙ ap box_count here;
    flows = placed.flow_count ∙ ap (λ (p : Placement). pair_count p.rect.size) here;
  }));
  stand = subst (EachStands sample (empty_map plan.size)) (sym items) (each_more (λ m cut. CutStands (setting m sample []) cut) (empty_map plan.size) was.cuts.items cut work.stand
      (subst (λ m. CutStands (setting m sample []) cut) (sym work.left) placed.stands));
  left = ap (left_by (empty_map plan.size)) items ∙ left_more (empty_map plan.size) was.cuts.items cut ∙ ap (λ m. map_after m cut.placement cut.choice) work.left ∙ sym left_now;
  over = placed.over;
  canvas = is;
}
  where
    here : placement ≡ cut.placement
    here = sym placed.same_placement

    left_now : now.canvas.map ≡ map_after was.canvas.map cut.placement cut.choice
    left_now = placed.map ∙ ap (λ p. map_after was.canvas.map p cut.choice) here

    by : GrowsBy plan sample (growth_of was) cut (growth_of now)
    by = record {
      next = subst (ComesNext plan sample (growth_of was)) here next;
      choice_count = placed.choice_count ∙ ap box_count here;
      fewest = subst (λ p. IsFewestHeld (distance sample) was.canvas.map p [] cut.choice) here placed.fewest;
      map = left_now;
      draws = draws;
      rounds = rounds;
    }

-- no step is made yet
pub none_made : (plan : GrowPlan) (sample : Cells) (now : Work) → IsCanvas now.canvas → StandsOver now.canvas sample → now.canvas ≡ empty_canvas plan.size sample.k → now.draws ≡ record { seed = plan.seed; place = 0 }
    → now.cuts.items ≡ [] → now.cells ≡ 0 → now.rounds ≡ 0 → IsWork plan sample now
none_made plan sample now is over canvas draws none cells rounds = record {
  run = subst (λ cuts. IsRun plan sample cuts (growth_of now)) (sym none) (λ i. record { map = (canvas i).map; draws = draws i; rounds = rounds i });
  cells = cells ∙ ap box_cells (sym none);
  within = omega (arith, cells);
  rounds = omega (arith, rounds);
  formed = subst (All IsFormed) (sym none) (All-nil IsFormed);
  stand = subst (EachStands sample (empty_map plan.size)) (sym none) tt;
  left = ap (left_by (empty_map plan.size)) none ∙ ap (λ (c : CanvasState). c.map) (sym canvas);
  over = over;
  canvas = is;
}

-- the box of the next placement takes the run past its bound
pub passes : (plan : GrowPlan) (sample : Cells) (was : Work) (placement : Placement) (number : ℕ) → IsWork plan sample was → ComesNext plan sample (growth_of was) placement
    → number ≡ was.cells + box_count placement → MOST_BOX_CELLS < number → PassesAt plan sample number
passes plan sample was placement number work next cells past = record {
  cuts = was.cuts.items;
  growth = growth_of was;
  placement = placement;
  run = work.run;
  within = subst (λ n. n ≤ MOST_BOX_CELLS) work.cells work.within;
  next = next;
  cells = cells ∙ ap (λ n. n + box_count placement) work.cells;
  past = past;
}

pub refined : (plan : GrowPlan) (sample : Cells) (was now : Work) (table : WindowSums) (more : Bool) → Refines plan sample was now table (Ok more)
    → IsRefining plan sample now table × (more ≡ false → NoWindowCosts plan.side now.canvas.map sample)
refined plan sample was now table true step = (step.0, λ e. absurd (false≢true (sym e)))
refined plan sample was now table false step = (step.0, λ e. step.1)
