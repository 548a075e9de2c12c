-- The sum so far is that of the spans passed.
use Rattle.std.proofs.Common.{◌≡◌, take}
use Rattle.shelf_core.specs.Tapes.{spanned}
use Rattle.shelf_core.proofs.tape.start_of.Given as goal

abbrev pub invariant-loop-span : goal.invariant-loop-span
invariant-loop-span l = l.start ≡ spanned (take l.span-index l.before)
