use Rattle.std.proofs.Common.{arith}
use Rattle.std.proofs.lemmas.Grind.{common_steps}
use Rattle.std.proofs.Common.{sym, ap, subst, List, ℕ}
use Rattle.shelf_core.specs.Tapes.{TapeState}
use Rattle.shelf_core.specs.SureStates.{HasNamesOnce}
use Rattle.shelf_core.proofs.SureLaws.{sized_none}
use Rattle.shelf_core.proofs.sure_shelf.SureShelf.make.Goals as goal

pub invariant_of-result : goal.invariant_of-result
invariant_of-result c = let P : List (List ℕ × List ℕ) → Type 0 = λ files. HasNamesOnce files in subst P (sym (ap (λ (t : TapeState). t.files) (c.in_ok-tape.ensures {u = tt}))) sized_none

pub returns : goal.returns
returns c = grind (arith, common_steps)
