use Rattle.std.proofs.Common.{sym, ◌∙◌, arith}
use Rattle.std.proofs.lemmas.Option.{slice_get-get_or}
use Rattle.std.proofs.lemmas.Grind.{common_steps}
use Rattle.patch_place.proofs.eligible.nth_near.Goals as goal

pub entries-preserved : goal.entries-preserved
entries-preserved c = grind (arith, common_steps)

pub returns-then-before-nth : goal.returns-then-before-nth
returns-then-before-nth c = record { i = c.entries.entry-index; at = slice_get-get_or c.args.entries.now c.entries.entry-index _ (omega (arith, c.entries-test.true)); passes = sym c.is_near.ensures ∙ c.if-is_near.true; number = sym c.entries.invariant.counted ∙ c.if-before-nth.true }
