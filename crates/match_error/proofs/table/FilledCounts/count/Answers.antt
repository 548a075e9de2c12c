use Rattle.std.proofs.lemmas.Grind.{common_steps}
use Rattle.std.proofs.Common.{◌≡◌, ◌≤◌, ℕ, subst, sym, ◌∙◌, arith}
use Rattle.std.proofs.lemmas.Int.{to_z-of_z}
use Rattle.std.specs.Prelude.{pos, ◌+ℤ◌, IfSome, Option, Some}
use Rattle.cells.specs.Places.{cell_count}
use Rattle.match_error.proofs.Tables.{cells_small, pieces}
use Rattle.match_error.proofs.table.FilledCounts.count.Goals as goal

of_some : (o : Option ℕ) (n : ℕ) (P : ℕ → Type 0) → o ≡ Some n → IfSome o P → P n
of_some o n P is holds = subst (λ p. IfSome p P) is holds

pub returns-in-Some-Some-Some-clause-count : goal.returns-in-Some-Some-Some-clause-count
returns-in-Some-Some-Some-clause-count c =
    let rect = c.args.rect.now in
    let outer = c.args.self.now.rect in
    let here = c.in-Some-Some-Some in
    let step_x = of_some _ here.x _ here.is-0 c.step_in-x.ensures.step in
    let step_y = of_some _ here.y _ here.is-1 c.step_in-y.ensures.step in
    let step_f = of_some _ here.f _ here.is-2 c.step_in-f.ensures.step in
    let x : rect.corner.x ≡ outer.corner.x +ℤ pos here.x = grind (arith, to_z-of_z, step_x) in
    let y : rect.corner.y ≡ outer.corner.y +ℤ pos here.y = grind (arith, to_z-of_z, step_y) in
    let f : rect.corner.f ≡ outer.corner.f +ℤ pos here.f = grind (arith, to_z-of_z, step_f) in
    c.box_count.ensures ∙ pieces c.args.canvas.now.map outer rect here.x here.y here.f x y f (of_some _ here.y _ here.is-1 c.step_in-y.ensures.room)

pub returns-in-Some-Some-Some-clause-small : goal.returns-in-Some-Some-Some-clause-small
returns-in-Some-Some-Some-clause-small c =
    subst (λ n. n ≤ cell_count c.args.rect.now.size) (sym (returns-in-Some-Some-Some-clause-count c)) (cells_small c.args.canvas.now.map c.args.rect.now)

pub box_count-requires-clause-counts : goal.box_count-requires-clause-counts
box_count-requires-clause-counts c = grind (arith, common_steps)

pub box_count-requires-clause-columns : goal.box_count-requires-clause-columns
box_count-requires-clause-columns c = grind (arith, common_steps)

pub box_count-requires-clause-rows : goal.box_count-requires-clause-rows
box_count-requires-clause-rows c = grind (arith, common_steps)

pub box_count-requires-clause-frames : goal.box_count-requires-clause-frames
box_count-requires-clause-frames c = grind (arith, common_steps)

pub returns-in_default-clause-small : goal.returns-in_default-clause-small
returns-in_default-clause-small c = c.filled_count.ensures.small

pub returns-in_default-clause-count : goal.returns-in_default-clause-count
returns-in_default-clause-count c = c.filled_count.ensures.count

pub filled_count-requires : goal.filled_count-requires
filled_count-requires c = grind (arith, common_steps)
