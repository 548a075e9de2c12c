use Rattle.std.proofs.Common.{arith, rules, w32, ap, ◌∙◌}
use Rattle.std.proofs.lemmas.Grind.{common_steps}
use Rattle.std.specs.Prelude.{pos, ◌+ℤ◌}
use Rattle.std.proofs.lemmas.Int.{to_z-of_z}
use mir.Val.{SFits}
use Rattle.costs.proofs.marks.cell_on.Goals as goal

pub returns-in_err-coordinate_on-3 : goal.returns-in_err-coordinate_on-3
returns-in_err-coordinate_on-3 c = grind (arith, common_steps)

pub returns-in_err-coordinate_on-2 : goal.returns-in_err-coordinate_on-2
returns-in_err-coordinate_on-2 c = grind (arith, common_steps)

pub returns : goal.returns
returns c =
    let corner = c.args.rect.now.corner in
    let at = c.args.at in
    let x : SFits w32 c.in_ok-coordinate_on.field-0 = search rules in
    let corner_x : SFits w32 corner.x = search rules in
    let y : SFits w32 c.in_ok-coordinate_on-2.field-0 = search rules in
    let corner_y : SFits w32 corner.y = search rules in
    let f : SFits w32 c.in_ok-coordinate_on-3.field-0 = search rules in
    let corner_f : SFits w32 corner.f = search rules in
    λ k. record {
      x = (to_z-of_z w32 c.in_ok-coordinate_on.field-0 x ∙ c.in_ok-coordinate_on.ensures ∙ ap (λ z. z +ℤ pos at.x) (to_z-of_z w32 corner.x corner_x)) k;
      y = (to_z-of_z w32 c.in_ok-coordinate_on-2.field-0 y ∙ c.in_ok-coordinate_on-2.ensures ∙ ap (λ z. z +ℤ pos at.y) (to_z-of_z w32 corner.y corner_y)) k;
      f = (to_z-of_z w32 c.in_ok-coordinate_on-3.field-0 f ∙ c.in_ok-coordinate_on-3.ensures ∙ ap (λ z. z +ℤ pos at.f) (to_z-of_z w32 corner.f corner_f)) k;
    }
