use Rattle.std.proofs.lemmas.Grind.{common_steps}
use Rattle.std.proofs.Common.{◌≡◌, ◌∙◌, ap, arith, subst, sym, rules, w32}
use Rattle.std.proofs.lemmas.Int.{to_z-of_z}
use Rattle.cells.specs.Places.{IsInside}
use Rattle.turned.specs.Turns.{quarters_from, quarters_size, from_end}
use Rattle.turned.proofs.Turns.{end_twice, quarters_inside, same_place}
use mir.Val.{SFits}
use Rattle.turned.proofs.turn.quarters_from.Goals as goal

pub returns-in-1-clause-from : goal.returns-in-1-clause-from
returns-in-1-clause-from c =
    let size = c.args.size in
    let at = c.args.at in
    let x : SFits w32 at.x = search rules in
    let y : SFits w32 at.y = search rules in
    let f : SFits w32 at.f = search rules in
    let end_x : SFits w32 c.from_end.result = search rules in
    same_place _ (quarters_from 1 size at) (to_z-of_z w32 at.y y) (to_z-of_z w32 c.from_end.result end_x ∙ c.from_end.ensures ∙ ap (from_end size.h) (to_z-of_z w32 at.x x)) (to_z-of_z w32 at.f f)
    ∙ ap (λ n. quarters_from n size at) (sym c.in-1.is)

pub returns-in-1-clause-inside : goal.returns-in-1-clause-inside
returns-in-1-clause-inside c =
    subst (IsInside c.args.size) (sym (returns-in-1-clause-from c)) (quarters_inside c.args.quarters c.args.size c.args.at c.requires.inside)

pub returns-in-2-clause-from : goal.returns-in-2-clause-from
returns-in-2-clause-from c =
    let size = c.args.size in
    let at = c.args.at in
    let x : SFits w32 at.x = search rules in
    let y : SFits w32 at.y = search rules in
    let f : SFits w32 at.f = search rules in
    let end_x : SFits w32 c.from_end-in-2.result = search rules in
    let end_y : SFits w32 c.from_end-in-2-2.result = search rules in
    same_place _ (quarters_from 2 size at) (to_z-of_z w32 c.from_end-in-2.result end_x ∙ c.from_end-in-2.ensures ∙ ap (from_end size.w) (to_z-of_z w32 at.x x)) (to_z-of_z w32 c.from_end-in-2-2.result end_y ∙ c.from_end-in-2-2.ensures ∙ ap (from_end size.h) (to_z-of_z w32 at.y y)) (to_z-of_z w32 at.f f)
    ∙ ap (λ n. quarters_from n size at) (sym c.in-2.is)

pub returns-in-2-clause-inside : goal.returns-in-2-clause-inside
returns-in-2-clause-inside c =
    subst (IsInside c.args.size) (sym (returns-in-2-clause-from c)) (quarters_inside c.args.quarters c.args.size c.args.at c.requires.inside)

pub returns-in-3-clause-from : goal.returns-in-3-clause-from
returns-in-3-clause-from c =
    let size = c.args.size in
    let at = c.args.at in
    let x : SFits w32 at.x = search rules in
    let y : SFits w32 at.y = search rules in
    let f : SFits w32 at.f = search rules in
    let end_y : SFits w32 c.from_end-in-3.result = search rules in
    same_place _ (quarters_from 3 size at) (to_z-of_z w32 c.from_end-in-3.result end_y ∙ c.from_end-in-3.ensures ∙ ap (from_end size.w) (to_z-of_z w32 at.y y)) (to_z-of_z w32 at.x x ∙ sym (end_twice size.h at.x)) (to_z-of_z w32 at.f f)
    ∙ ap (λ n. quarters_from n size at) (sym c.in-3.is)

pub returns-in-3-clause-inside : goal.returns-in-3-clause-inside
returns-in-3-clause-inside c =
    subst (IsInside c.args.size) (sym (returns-in-3-clause-from c)) (quarters_inside c.args.quarters c.args.size c.args.at c.requires.inside)

pub returns-in_default-clause-from : goal.returns-in_default-clause-from
returns-in_default-clause-from c =
    let none : c.args.quarters ≡ 0 = omega arith in
    ap (λ n. quarters_from n c.args.size c.args.at) (sym none)

pub returns-in_default-clause-inside : goal.returns-in_default-clause-inside
returns-in_default-clause-inside c =
    let none : c.args.quarters ≡ 0 = omega arith in
    subst (λ n. IsInside (quarters_size n c.args.size) c.args.at) none c.requires.inside

pub from_end-requires-in-2-2-clause-to : goal.from_end-requires-in-2-2-clause-to
from_end-requires-in-2-2-clause-to c = grind (arith, common_steps)

pub from_end-requires-in-3-clause-to : goal.from_end-requires-in-3-clause-to
from_end-requires-in-3-clause-to c = grind (arith, common_steps)

pub from_end-requires-in-2-clause-to : goal.from_end-requires-in-2-clause-to
from_end-requires-in-2-clause-to c = grind (arith, common_steps)

pub from_end-requires-clause-to : goal.from_end-requires-clause-to
from_end-requires-clause-to c = grind (arith, common_steps)

pub from_end-requires-in-2-2-clause-from : goal.from_end-requires-in-2-2-clause-from
from_end-requires-in-2-2-clause-from c = grind (arith, common_steps)

pub from_end-requires-in-3-clause-from : goal.from_end-requires-in-3-clause-from
from_end-requires-in-3-clause-from c = grind (arith, common_steps)

pub from_end-requires-in-2-clause-from : goal.from_end-requires-in-2-clause-from
from_end-requires-in-2-clause-from c = grind (arith, common_steps)

pub from_end-requires-clause-from : goal.from_end-requires-clause-from
from_end-requires-clause-from c = grind (arith, common_steps)
