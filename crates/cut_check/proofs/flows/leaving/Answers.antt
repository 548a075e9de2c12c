use Rattle.std.proofs.Common.{rules, sym, subst, w32, ◌∙◌}
use Rattle.std.proofs.lemmas.Int.{to_z-of_z}
use Rattle.std.specs.Prelude.{pos, ◌+ℤ◌}
use mir.Val.{SFits}
use Rattle.cut_check.specs.Flows.{IsBetween, minus_of}
use Rattle.cut_check.specs.Steps.{most_along, most_leaving}
use Rattle.cut_check.proofs.flows.leaving.Goals as goal

pub returns-clause-near : goal.returns-clause-near
returns-clause-near c =
    let fits : SFits w32 c.sum_of.result = search rules in
    subst (IsBetween (minus_of most_leaving) (pos most_leaving)) (sym (to_z-of_z w32 c.sum_of.result fits)) c.sum_of.ensures.near

pub returns-clause-is : goal.returns-clause-is
returns-clause-is c =
    let x = c.leaving_along_x.result in
    let y = c.leaving_along_y.result in
    let f = c.leaving_along_frames.result in
    let all_fit : SFits w32 c.sum_of.result = search rules in
    let x_fits : SFits w32 x = search rules in
    let y_fits : SFits w32 y = search rules in
    let f_fits : SFits w32 f = search rules in
    to_z-of_z w32 c.sum_of.result all_fit ∙ c.sum_of.ensures.is ∙ (λ k. (to_z-of_z w32 x x_fits k +ℤ to_z-of_z w32 y y_fits k) +ℤ to_z-of_z w32 f f_fits k)
    ∙ (λ k. (c.leaving_along_x.ensures.is k +ℤ c.leaving_along_y.ensures.is k) +ℤ c.leaving_along_frames.ensures.is k)

pub sum_of-requires-clause-a : goal.sum_of-requires-clause-a
sum_of-requires-clause-a c =
    let out = c.leaving_along_x.result in
    let fits : SFits w32 out = search rules in
    subst (IsBetween (minus_of most_along) (pos most_along)) (sym (to_z-of_z w32 out fits)) c.leaving_along_x.ensures.near

pub sum_of-requires-clause-b : goal.sum_of-requires-clause-b
sum_of-requires-clause-b c =
    let out = c.leaving_along_y.result in
    let fits : SFits w32 out = search rules in
    subst (IsBetween (minus_of most_along) (pos most_along)) (sym (to_z-of_z w32 out fits)) c.leaving_along_y.ensures.near

pub sum_of-requires-clause-c : goal.sum_of-requires-clause-c
sum_of-requires-clause-c c =
    let out = c.leaving_along_frames.result in
    let fits : SFits w32 out = search rules in
    subst (IsBetween (minus_of most_along) (pos most_along)) (sym (to_z-of_z w32 out fits)) c.leaving_along_frames.ensures.near
