-- No round raises the total.
use Rattle.std.proofs.Common.{◌≤◌, [], ◌∷◌, ap, sym, subst, arith}
use Rattle.cells.specs.Cells.{Cells, IsVolume}
use Rattle.map_canvas.specs.Choices.{map_after}
use Rattle.map_canvas.proofs.Afters.{map_after_is}
use Rattle.least_choice.specs.Totals.{map_total}
use Rattle.least_choice.proofs.Totals.{keeps_total}
use Rattle.grown.specs.declared.plan.GrowPlan.{GrowPlan}
use Rattle.grown.specs.Grown.{Growth}
use Rattle.grown.specs.OneRun.{NoneRaise, NoneRaises}
use Rattle.grown.proofs.Nexts.{next_fits, stays_map}
use Rattle.grown.proofs.Splitting.{next_full}

pub none_raises : (plan : GrowPlan) (sample : Cells) → NoneRaises plan sample
none_raises plan sample before after cut is full step =
    let fits = next_fits plan sample before cut.placement step.next in
    subst (λ m. map_total sample m ≤ map_total sample before.map) (sym step.map)
    (keeps_total before.map sample cut.placement [] cut.choice (map_after before.map cut.placement cut.choice) fits.inside step.fewest.least
    (map_after_is before.map sample cut.placement cut.choice is fits) full)

pub none_raise : (plan : GrowPlan) (sample : Cells) → IsVolume sample → NoneRaise plan sample
none_raise plan sample volume before after [] is full run = omega (arith, ap (λ (growth : Growth). map_total sample growth.map) run)
none_raise plan sample volume before after (cut ∷ cuts) is full run =
    let step = run.1.0 in
    omega (
      arith,
      none_raises plan sample before run.0 cut is full step,
      none_raise plan sample volume run.0 after cuts (stays_map plan sample before run.0 cut volume step is) (next_full plan sample volume before run.0 cut is full step) run.1.1,
    )
