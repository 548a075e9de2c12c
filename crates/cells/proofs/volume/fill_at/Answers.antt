use Rattle.std.proofs.lemmas.Grind.{common_steps}
use Rattle.std.proofs.Common.{◌+◌, ap, ◌∙◌, arith, slice_set}
use Rattle.std.proofs.lemmas.List.Edits.{fill_from_more}
use Rattle.cells.proofs.volume.fill_at.Goals as goal

pub loop-i-preserved : goal.loop-i-preserved
loop-i-preserved c =
    ap (λ bytes. slice_set bytes (c.args.start + c.loop-i.i) c.args.byte) c.loop-i.invariant
    ∙ fill_from_more c.args.bytes.now c.args.start c.loop-i.i c.args.byte (omega (arith, c.requires, c.loop-i-test.true))

pub returns : goal.returns
returns c = grind (arith, common_steps)

pub loop-i-init : goal.loop-i-init
loop-i-init c = grind (arith, common_steps)
