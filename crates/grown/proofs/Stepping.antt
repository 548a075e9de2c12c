-- A step more of a run, by the next placement of a mode or of a round.
use Rattle.std.proofs.Common.{◌≡◌, ◌+◌, ◌*◌, ◌<◌, List, [], ◌∷◌, ◌++◌, refl, ap, sym, subst, arith}
use Rattle.std.proofs.lemmas.Nat.{mul-add-lt}
use Rattle.std.specs.Prelude.{None}
use Rattle.cells.specs.declared.place.Size.{Size}
use Rattle.cells.specs.Boxes.{HasCells}
use Rattle.cells.specs.Cells.{Cells}
use Rattle.cells.specs.Places.{cell_count}
use Rattle.map_canvas.specs.declared.canvas.Placement.{Placement}
use Rattle.map_canvas.specs.Maps.{first_unfilled}
use Rattle.patch_picks.specs.Steps.{IsNextAt, draws_after}
use Rattle.grown.specs.Rounds.{IsRoundAt}
use Rattle.grown.specs.declared.plan.GrowPlan.{GrowPlan}
use Rattle.grown.specs.Grown.{ComesNext, ComesNextFor, Growth, draws_left, rounds_made}
use Rattle.patch_picks.specs.Runs.{Leads}

pub leads_more : {S A : Type 0} (Step : S → A → S → Type 0) (s : S) (list : List A) (t : S) (a : A) (u : S) → Leads Step s list t → Step t a u → Leads Step s (list ++ a ∷ []) u
leads_more Step s [] t a u run step = (u, (subst (λ x. Step x a u) run step, refl))
leads_more Step s (b ∷ rest) t a u run step = (run.0, (run.1.0, leads_more Step run.0 rest t a u run.1.1 step))

-- the mode's next placement comes next, and so does that of a round of a full map
pub next_laid : (plan : GrowPlan) (sample : Cells) (growth : Growth) (placement : Placement) → IsNextAt plan.mode growth.map sample growth.draws placement → ComesNext plan sample growth placement
next_laid plan sample growth placement next = subst (λ o. ComesNextFor plan sample growth o placement) (sym next.first) next

pub draws_laid : (plan : GrowPlan) (sample : Cells) (growth : Growth) (placement : Placement) → IsNextAt plan.mode growth.map sample growth.draws placement → draws_after plan.mode growth.draws ≡ draws_left plan growth.draws (first_unfilled growth.map)
draws_laid plan sample growth placement next = ap (draws_left plan growth.draws) (sym next.first)

pub rounds_laid : (plan : GrowPlan) (sample : Cells) (growth : Growth) (placement : Placement) → IsNextAt plan.mode growth.map sample growth.draws placement → growth.rounds ≡ rounds_made growth.rounds (first_unfilled growth.map)
rounds_laid plan sample growth placement next = ap (rounds_made growth.rounds) (sym next.first)

pub next_refined : (plan : GrowPlan) (sample : Cells) (growth : Growth) (placement : Placement) → first_unfilled growth.map ≡ None → growth.rounds < plan.rounds
    → IsRoundAt plan.side plan.tol growth.map sample growth.draws placement → ComesNext plan sample growth placement
next_refined plan sample growth placement none left round = subst (λ o. ComesNextFor plan sample growth o placement) (sym none) (left, round)

-- a box that has a cell has some
pub some_cells : (size : Size) → HasCells size → 0 < cell_count size
some_cells size has =
    let inner : 0 * size.h + 0 < size.h * size.f = mul-add-lt 0 size.h 0 size.f has.f has.h in
    omega (arith, mul-add-lt 0 size.w 0 (size.h * size.f) (omega (arith, inner)) has.w)
