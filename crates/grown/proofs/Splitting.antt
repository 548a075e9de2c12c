-- The rounds of a run follow its placements.
use Rattle.std.proofs.Common.{◌≡◌, ◌+◌, List, [], ◌∷◌, ◌++◌, length, length-append, refl, ap, sym, ◌∙◌, subst, arith}
use Rattle.std.specs.Prelude.{Bool, Option, Some, None, IsSome}
use Rattle.cells.specs.declared.place.At.{At}
use Rattle.cells.specs.declared.place.Size.{Size}
use Rattle.cells.specs.Cells.{Cells, IsVolume}
use Rattle.cells.specs.Places.{IsInside, IsSmall}
use Rattle.map_canvas.specs.declared.canvas.Placement.{Placement}
use Rattle.map_canvas.specs.Choices.{IsAfter, map_after}
use Rattle.map_canvas.specs.Maps.{IsFull, IsMap, SourceMap, empty_map, first_unfilled}
use Rattle.map_canvas.proofs.AfterLaws.{stays_filled}
use Rattle.map_canvas.proofs.Afters.{map_after_is}
use Rattle.map_canvas.proofs.EmptyAndFull.{whole_is_full}
use Rattle.map_canvas.proofs.Marks.{empty_is_canvas}
use Rattle.map_canvas.proofs.Unfilled.{full_is_whole}
use Rattle.cut_check.specs.declared.record.CutRecord.{CutRecord}
use Rattle.cut_replay.specs.Replay.{EachOver, left_by}
use Rattle.grown.specs.declared.plan.GrowPlan.{GrowPlan}
use Rattle.grown.specs.Grown.{Growth, GrowsBy, first_growth, rounds_made}
use Rattle.grown.specs.OneRun.{RoundsFollow}
use Rattle.patch_picks.specs.Runs.{Leads}
use Rattle.grown.proofs.Nexts.{next_fits, stays_map}

pub stays_full : (m after : SourceMap) (placement : Placement) (choice : List Bool) → IsFull m → IsAfter m placement choice after → IsFull after
stays_full m after placement choice full step p inside = stays_filled m placement choice after step p (full p (subst (λ (size : Size). IsInside size p) step.size inside))

abbrev IsUnfilled : SourceMap → CutRecord → Type 0
IsUnfilled m cut = IsSome (first_unfilled m)

abbrev IsFilledUp : SourceMap → CutRecord → Type 0
IsFilledUp m cut = IsFull m

record SplitFrom (from : Growth) (cuts : List CutRecord) (after : Growth) : Type 0 where
  laid : List CutRecord
  refined : List CutRecord
  parts : cuts ≡ laid ++ refined
  count : after.rounds ≡ from.rounds + length refined
  unfilled : EachOver IsUnfilled from.map laid
  full : EachOver IsFilledUp (left_by from.map laid) refined

module _ (plan : GrowPlan) (sample : Cells) (volume : IsVolume sample) where
  pub next_full : (was now : Growth) (cut : CutRecord) → IsMap was.map → IsFull was.map → GrowsBy plan sample was cut now → IsFull now.map
  next_full was now cut is full step =
      subst IsFull (sym step.map) (stays_full was.map (map_after was.map cut.placement cut.choice) cut.placement cut.choice full
      (map_after_is was.map sample cut.placement cut.choice is (next_fits plan sample was cut.placement step.next)))

  -- over a full map there are rounds alone
  all_full : (from : Growth) (cuts : List CutRecord) (after : Growth) → IsMap from.map → IsFull from.map → Leads (GrowsBy plan sample) from cuts after
      → EachOver IsFilledUp from.map cuts × (after.rounds ≡ from.rounds + length cuts)
  all_full from [] after is full run = (tt, omega (arith, ap (λ (growth : Growth). growth.rounds) run))
  all_full from (cut ∷ cuts) after is full run =
      let step = run.1.0 in
      let rest = all_full run.0 cuts after (stays_map plan sample from run.0 cut volume step is) (next_full from run.0 cut is full step) run.1.1 in
      let made : run.0.rounds ≡ from.rounds + 1 = step.rounds ∙ ap (rounds_made from.rounds) (full_is_whole from.map is full) in
      ((full, subst (λ m. EachOver IsFilledUp m cuts) step.map rest.0), omega (arith, rest.1, made))

  -- a step before a run that splits
  split_step : (from next : Growth) (cut : CutRecord) (cuts : List CutRecord) (after : Growth) → IsMap from.map → GrowsBy plan sample from cut next → Leads (GrowsBy plan sample) next cuts after → SplitFrom next cuts after
      → (o : Option At) → first_unfilled from.map ≡ o → SplitFrom from (cut ∷ cuts) after
  split_step from next cut cuts after is step run rest None e =
      let full = all_full from (cut ∷ cuts) after is (whole_is_full from.map is e) (next, (step, run)) in
      record { laid = []; refined = cut ∷ cuts; parts = refl; count = full.1; unfilled = tt; full = full.0 }
  split_step from next cut cuts after is step run rest (Some q) e =
      let made : next.rounds ≡ from.rounds = step.rounds ∙ ap (rounds_made from.rounds) e in
      record {
        laid = cut ∷ rest.laid;
        refined = rest.refined;
        parts = ap (λ list. cut ∷ list) rest.parts;
        count = omega (arith, rest.count, made);
        unfilled = (subst IsSome (sym e) refl, subst (λ m. EachOver IsUnfilled m rest.laid) step.map rest.unfilled);
        full = subst (λ m. EachOver IsFilledUp (left_by m rest.laid) rest.refined) step.map rest.full;
      }

  split_from : (from : Growth) (cuts : List CutRecord) (after : Growth) → IsMap from.map → Leads (GrowsBy plan sample) from cuts after → SplitFrom from cuts after
  split_from from [] after is run = record { laid = []; refined = []; parts = refl; count = omega (arith, ap (λ (growth : Growth). growth.rounds) run); unfilled = tt; full = tt }
  split_from from (cut ∷ cuts) after is run =
      split_step from run.0 cut cuts after is run.1.0 run.1.1 (split_from run.0 cuts after (stays_map plan sample from run.0 cut volume run.1.0 is) run.1.1) (first_unfilled from.map) refl

pub starts : (plan : GrowPlan) (sample : Cells) → IsVolume sample → IsSmall plan.size → IsMap (empty_map plan.size)
starts plan sample volume small = (empty_is_canvas plan.size sample.k small volume.samples).map

pub run_splits : (plan : GrowPlan) (sample : Cells) → IsVolume sample → IsSmall plan.size → RoundsFollow plan sample
run_splits plan sample volume small cuts growth run =
    let is = split_from plan sample volume (first_growth plan) cuts growth (starts plan sample volume small) run in
    record {
      laid = is.laid;
      refined = is.refined;
      parts = is.parts;
      placements = omega (arith, is.count, ap length is.parts, length-append is.laid is.refined);
      count = omega (arith, is.count);
      unfilled = is.unfilled;
      full = is.full;
    }

-- a run leaves a map of its size
pub size_stays : (plan : GrowPlan) (sample : Cells) (from : Growth) (cuts : List CutRecord) (after : Growth) → Leads (GrowsBy plan sample) from cuts after → after.map.size ≡ from.map.size
size_stays plan sample from [] after run = ap (λ (growth : Growth). growth.map.size) run
size_stays plan sample from (cut ∷ cuts) after run = size_stays plan sample run.0 cuts after run.1.1 ∙ ap (λ (m : SourceMap). m.size) run.1.0.map
