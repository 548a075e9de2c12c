use Rattle.std.proofs.Common.{arith}
use Rattle.std.proofs.lemmas.Grind.{common_steps}
use Rattle.std.proofs.Common.{below_more, sym, ◌∙◌}
use mathlib.Core.Bool.{false≢true}
use Rattle.block_check.specs.Steps.{IsSharedCell}
use Rattle.block_check.proofs.check.first_unlike_in.Goals as goal

pub loop-x-preserved : goal.loop-x-preserved
loop-x-preserved c =
    below_more (λ x. IsSharedCell c.args.canvas.now.map c.args.placement.now c.args.left c.args.top x c.args.y) c.loop-x.x c.loop-x.invariant
    (c.is_shared.ensures.0 c.if-not-is_shared.false)

pub returns-then-not-is_shared : goal.returns-then-not-is_shared
returns-then-not-is_shared c = record {
  below = c.loop-x-test.true;
  before = c.loop-x.invariant;
  here = λ shared. false≢true (sym c.if-not-is_shared.true ∙ c.is_shared.ensures.1 shared);
}

pub returns : goal.returns
returns c = grind (arith, common_steps)
