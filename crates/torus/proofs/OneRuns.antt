-- There is one run to a full map, and each of its choices is least.
use Rattle.std.proofs.Common.{◌≡◌, List, [], ◌∷◌, refl, sym, ◌∙◌, subst, arith}
use Rattle.cells.specs.Cells.{Cells, IsVolume}
use Rattle.cells.specs.Places.{IsSmall}
use Rattle.map_canvas.specs.Maps.{IsFull, IsMap}
use Rattle.map_canvas.proofs.Marks.{empty_is_canvas}
use Rattle.patch_picks.specs.Runs.{Leads}
use Rattle.job_words.specs.declared.tile.TilePlan.{TilePlan}
use Rattle.torus.specs.Steps.{TileStep, TilesBy, Tiling}
use Rattle.torus.proofs.Afters.{full_has_none, keeps_around, leaves_map}
use Rattle.torus.proofs.OneSteps.{one_tile}
use Rattle.torus.specs.declared.plan.RunPlan.{RunPlan}
use Rattle.torus.specs.OneTiling.{EachIsLeast, EachKeeps, OneTiling}
use Rattle.torus.specs.Tilings.{EachTileIsLeast, EachTileKeeps, IsRunPlan, first_tiling}

-- an output of at most 2^20 cells is small
pub small_output : (plan : RunPlan) → IsRunPlan plan → IsSmall plan.size
small_output plan is = record { axes = is.axes; cells = omega (arith, is.cells) }

module _ (plan : TilePlan) (sample : Cells) (volume : IsVolume sample) where
  one_run : (from : Tiling) (steps others : List TileStep) (tiling other : Tiling) → IsMap from.map → Leads (TilesBy plan sample) from steps tiling → IsFull tiling.map
      → Leads (TilesBy plan sample) from others other → IsFull other.map → (steps ≡ others) × (tiling ≡ other)
  one_run from [] [] tiling other is run full also full' = (refl, run ∙ sym also)
  one_run from [] (b ∷ others) tiling other is run full also full' =
      absurd (full_has_none plan sample from also.0 b is (subst (λ (t : Tiling). IsFull t.map) run full) also.1.0)
  one_run from (a ∷ steps) [] tiling other is run full also full' =
      absurd (full_has_none plan sample from run.0 a is (subst (λ (t : Tiling). IsFull t.map) also full') run.1.0)
  one_run from (a ∷ steps) (b ∷ others) tiling other is run full also full' =
      let step = one_tile plan sample from run.0 also.0 a b run.1.0 also.1.0 in
      let rest = one_run run.0 steps others tiling other (leaves_map plan sample from run.0 a volume is run.1.0) run.1.1 full (subst (λ next. Leads (TilesBy plan sample) next others other) (sym step.1) also.1.1) full' in
      (λ k. step.0 k ∷ rest.0 k, rest.1)

  each_least : (from : Tiling) (steps : List TileStep) (tiling : Tiling) → Leads (TilesBy plan sample) from steps tiling → EachTileIsLeast sample plan.wrap from.map steps
  each_least from [] tiling run = tt
  each_least from (step ∷ steps) tiling run =
      (run.1.0.fewest.least, subst (λ m. EachTileIsLeast sample plan.wrap m steps) run.1.0.map (each_least run.0 steps tiling run.1.1))

  each_keeps : (from : Tiling) (steps : List TileStep) (tiling : Tiling) → Leads (TilesBy plan sample) from steps tiling → EachTileKeeps plan.wrap from.map steps
  each_keeps from [] tiling run = tt
  each_keeps from (step ∷ steps) tiling run =
      (keeps_around from.map plan.wrap step.placement step.choice run.1.0.fewest.least.one, subst (λ m. EachTileKeeps plan.wrap m steps) run.1.0.map (each_keeps run.0 steps tiling run.1.1))

pub one_tiling : (plan : RunPlan) (sample : Cells) → IsVolume sample → IsRunPlan plan → OneTiling plan sample
one_tiling plan sample volume is steps others tiling other run full also full' =
    one_run plan.tile sample volume (first_tiling plan) steps others tiling other (empty_is_canvas plan.size sample.k (small_output plan is) volume.samples).map run full also full'

pub all_least : (plan : RunPlan) (sample : Cells) → IsVolume sample → EachIsLeast plan sample
all_least plan sample volume steps tiling run = each_least plan.tile sample volume (first_tiling plan) steps tiling run

pub all_keep : (plan : RunPlan) (sample : Cells) → IsVolume sample → EachKeeps plan sample
all_keep plan sample volume steps tiling run = each_keeps plan.tile sample volume (first_tiling plan) steps tiling run
