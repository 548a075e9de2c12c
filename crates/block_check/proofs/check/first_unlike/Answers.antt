use Rattle.std.proofs.lemmas.Grind.{common_steps}
use Rattle.std.proofs.Common.{◌≡◌, ◌*◌, ap, sym, ◌∙◌, subst, arith}
use Rattle.std.proofs.Math.Nat.{mul-one}
use Rattle.cells.specs.Firsts.{Each}
use Rattle.block_check.specs.Steps.{IsSharedAt}
use Rattle.block_check.proofs.BlockRows.{first_of_row, shared_rows}
use Rattle.block_check.proofs.check.first_unlike.Goals as goal

pub loop-y-preserved : goal.loop-y-preserved
loop-y-preserved c = shared_rows c.args.canvas.now.map c.args.placement.now c.args.left c.args.top c.loop-y.y c.loop-y-test.true c.loop-y.invariant c.in_default.ensures

pub returns-in-Some : goal.returns-in-Some
returns-in-Some c = first_of_row c.args.canvas.now.map c.args.placement.now c.args.left c.args.top c.in-Some.x c.loop-y.y c.requires.frame c.loop-y-test.true c.loop-y.invariant c.in-Some.ensures

pub returns : goal.returns
returns c =
    let size = c.args.placement.now.rect.size in
    let height : c.loop-y.y ≡ size.h * size.f = (let e : c.loop-y.y ≡ size.h = omega (arith, c.loop-y-test.false, c.loop-y.auto.y-end) in e) ∙ sym (ap (λ f. size.h * f) c.requires.frame ∙ mul-one size.h) in
    subst (λ h. Each (size.w * h) (IsSharedAt c.args.canvas.now.map c.args.placement.now c.args.left c.args.top)) height c.loop-y.invariant

pub loop-y-init : goal.loop-y-init
loop-y-init c = grind (arith, common_steps)
