use Rattle.std.proofs.lemmas.Grind.{common_steps}
use Rattle.std.proofs.Common.{◌≡◌, ◌*◌, subst, arith}
use Rattle.patch_place.specs.Tables.{IsBestOf}
use Rattle.patch_picks.proofs.Bests.{best_of_less}
use Rattle.patch_place.proofs.eligible.better.Goals as goal

pub returns-then-here-there-clause-best : goal.returns-then-here-there-clause-best
returns-then-here-there-clause-best c = λ errors is.
    let here : c.from.result * c.from-2.result ≡ c.args.error.now.sum * c.in-Some.other.count = λ k. c.from.ensures k * c.from-2.ensures k in
    let there : c.from-3.result * c.from-4.result ≡ c.in-Some.other.sum * c.args.error.now.count = λ k. c.from-3.ensures k * c.from-4.ensures k in
    best_of_less c.in-Some.other c.args.error.now (omega arith) (omega (arith, here, there, c.if-here-there.true)) errors (subst (IsBestOf errors) c.in-Some.is is)

pub returns-clause-best : goal.returns-clause-best
returns-clause-best c = grind (arith, common_steps)

pub returns-in_default-clause-best : goal.returns-in_default-clause-best
returns-in_default-clause-best c = grind (arith, common_steps)
