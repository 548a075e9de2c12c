use Rattle.std.proofs.lemmas.Grind.{common_steps}
use Rattle.std.proofs.Common.{refl, take, arith}
use Rattle.shelf_core.proofs.TapeLaws.{spanned_more, spanned_part, spanned_take}
use Rattle.shelf_core.proofs.tape.start_of.Goals as goal

pub overflow_add-start : goal.overflow_add-start
overflow_add-start c =
    omega (arith, spanned_part c.loop-span.span-index (take c.args.i c.args.spans.now) _ c.loop-span-test.true refl, spanned_take c.args.i c.args.spans.now)

pub overflow_add-start-in-loop-span : goal.overflow_add-start-in-loop-span
overflow_add-start-in-loop-span c =
    omega (arith, spanned_part c.loop-span.span-index (take c.args.i c.args.spans.now) _ c.loop-span-test.true refl, spanned_take c.args.i c.args.spans.now, c.loop-span.invariant)

pub loop-span-preserved : goal.loop-span-preserved
loop-span-preserved c =
    omega (arith, spanned_more c.loop-span.span-index (take c.args.i c.args.spans.now) _ c.loop-span-test.true refl, c.loop-span.invariant)

pub returns : goal.returns
returns c = grind (arith, common_steps)
