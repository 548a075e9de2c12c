-- The steps of a run, as the code makes them.
use Rattle.std.proofs.Common.{◌≡◌, ◌+◌, ◌-◌, ◌<◌, ◌≤◌, Bool, true, false, List, [], ◌∷◌, ◌++◌, length-append, refl, ap, sym, ◌∙◌, subst, arith}
use Rattle.cells.specs.Cells.{Cells}
use Rattle.cells.specs.Places.{cell_count}
use Rattle.map_canvas.specs.Canvases.{CanvasState, IsCanvas, StandsOver, empty_canvas}
use Rattle.map_canvas.proofs.Fronts.{front_in}
use Rattle.std.specs.Prelude.{Ok, is_none, if◌then◌else◌}
use Rattle.patch_picks.specs.Runs.{Leads}
use Rattle.torus.specs.Steps.{TileStep, TilesBy, Tiling, tiling_of}
use Rattle.torus.proofs.Afters.{reaches_more}
use Rattle.torus.specs.declared.plan.RunPlan.{RunPlan}
use Rattle.tile_run.specs.declared.tiling.Work.{Work}
use Rattle.torus.specs.Tilings.{IsRunPlan, IsTiled, first_tiling}
use Rattle.tile_run.specs.Work.{Advances, IsWork, reached}

leads_more : {S A : Type 0} (Step : S → A → S → Type 0) (s : S) (list : List A) (t : S) (a : A) (u : S) → Leads Step s list t → Step t a u → Leads Step s (list ++ a ∷ []) u
leads_more Step s [] t a u run step = (u, (subst (λ x. Step x a u) run step, refl))
leads_more Step s (b ∷ rest) t a u run step = (run.0, (run.1.0, leads_more Step run.0 rest t a u run.1.1 step))

-- no step is made yet
pub none_laid : (plan : RunPlan) (sample : Cells) (now : Work) → IsCanvas now.canvas → StandsOver now.canvas sample → now.canvas ≡ empty_canvas plan.size sample.k → now.draws ≡ record { seed = plan.seed; place = 0 } → now.placements ≡ 0 → IsWork plan sample now
none_laid plan sample now is over canvas draws none = record {
  steps = [];
  run = λ i. record { map = (canvas i).map; draws = draws i };
  count = none;
  few = omega arith;
  size_is = ap (λ (c : CanvasState). c.map.size) canvas;
  over = over;
  canvas = is;
}

-- a patch is laid
pub one_laid : (plan : RunPlan) (sample : Cells) (was now : Work) (step : TileStep) → IsWork plan sample was → TilesBy plan.tile sample (tiling_of was.canvas was.draws) step (tiling_of now.canvas now.draws) → IsCanvas now.canvas → StandsOver now.canvas sample
    → now.placements ≡ was.placements + 1 → IsWork plan sample now × (reached was.canvas.map < reached now.canvas.map)
one_laid plan sample was now step work by is over count = (
  record {
    steps = work.steps ++ step ∷ [];
    run = leads_more (TilesBy plan.tile sample) (first_tiling plan) work.steps (tiling_of was.canvas was.draws) step (tiling_of now.canvas now.draws) work.run by;
    count = omega (arith, count, work.count, length-append work.steps (step ∷ []));
    few = omega (arith, more, work.few, length-append work.steps (step ∷ []));
    size_is = ap (λ m. m.size) by.map ∙ work.size_is;
    over = over;
    canvas = is;
  },
  more,
)
  where
    more : reached was.canvas.map < reached now.canvas.map
    more = reaches_more plan.tile sample (tiling_of was.canvas was.draws) (tiling_of now.canvas now.draws) step work.canvas.map by

-- nothing is laid over a full canvas
pub none_more : (plan : RunPlan) (sample : Cells) (was now : Work) → IsWork plan sample was → tiling_of now.canvas now.draws ≡ tiling_of was.canvas was.draws → IsCanvas now.canvas → StandsOver now.canvas sample → now.placements ≡ was.placements → IsWork plan sample now
none_more plan sample was now work same is over count = record {
  steps = work.steps;
  run = subst (IsTiled plan sample work.steps) (sym same) work.run;
  count = count ∙ work.count;
  few = omega (arith, work.few, ap (λ (t : Tiling). reached t.map) same);
  size_is = ap (λ (t : Tiling). t.map.size) same ∙ work.size_is;
  over = over;
  canvas = is;
}

-- there are no more patches than cells
pub few_laid : (plan : RunPlan) (sample : Cells) (work : Work) → IsRunPlan plan → IsWork plan sample work → work.placements ≤ 1048576
few_laid plan sample work is its =
    omega (arith, its.count, its.few, front_in is_none work.canvas.map.sources, its.canvas.map.count, ap cell_count its.size_is, is.cells)

-- so the cells that aren't reached yet get fewer
pub smaller : (plan : RunPlan) (sample : Cells) (was now : Work) (more : Bool) → Advances plan sample was now (Ok more)
    → (if more then cell_count plan.size - reached now.canvas.map + 1 else 0) < cell_count plan.size - reached was.canvas.map + 1
smaller plan sample was now true step = omega (arith, step.1, front_in is_none now.canvas.map.sources, step.0.canvas.map.count, ap cell_count step.0.size_is)
smaller plan sample was now false step = omega arith
