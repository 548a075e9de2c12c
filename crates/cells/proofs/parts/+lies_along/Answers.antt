use Rattle.std.proofs.lemmas.Grind.{common_steps}
use Rattle.std.proofs.Common.{refl, arith}
use Rattle.std.proofs.lemmas.Int.{to_z-of_z}
use Rattle.std.specs.Prelude.{◌<ℤ◌, pos}
use mathlib.Core.Bool.{false≢true}
use Rattle.cells.proofs.PartBoxes.{holds_front, not_before}
use Rattle.cells.proofs.parts.+lies_along.Goals as goal

pub returns-then-lies_in : goal.returns-then-lies_in
returns-then-lies_in t c =
    (λ yes. holds_front c.args.size c.args.more.now c.args.rect.now.corner c.args.rect.now.size (c.lies_in.ensures.0 c.if-lies_in.true), λ holds. refl)

pub returns-then-rect-lt0 : goal.returns-then-rect-lt0
returns-then-rect-lt0 t c =
    let before : c.args.rect.now.corner.f <ℤ pos 0 = grind (arith, to_z-of_z, c.if-rect-lt0.true) in
    (λ no. absurd (false≢true no), λ holds. absurd (not_before c.args.size c.args.more.now c.args.rect.now.corner c.args.rect.now.size before holds))

pub returns-in-Some : goal.returns-in-Some
returns-in-Some t c = grind (arith, common_steps)

pub returns-in-None : goal.returns-in-None
returns-in-None t c = grind (arith, common_steps)

pub lies_along-requires : goal.lies_along-requires
lies_along-requires t c = grind (arith, common_steps)

pub past-requires-clause-from : goal.past-requires-clause-from
past-requires-clause-from t c = grind (arith, common_steps)
