use Rattle.std.proofs.lemmas.Grind.{common_steps}
use Rattle.std.proofs.Common.{◌≡◌, ◌+◌, ◌<◌, ap, sym, subst, ◌∙◌, arith, w32, to_z, of_z}
use Rattle.std.proofs.lemmas.Int.{to_z-of_z}
use Rattle.std.specs.Prelude.{pos, ◌-ℤ◌}
use Rattle.cells.specs.declared.place.At.{At}
use Rattle.search_squares.specs.Bounds.{place_along}
use Rattle.search_squares.proofs.PlaceRuns.{along, along_on}
use Rattle.search_squares.proofs.eliminated.Eliminated.count_from.Goals as goal

pub returns : goal.returns
returns c = λ j lj sum are.
    let run = c.args.self.now in
    let at = c.args.at in
    let first = c.in-Some.first in
    let at_is : to_z w32 (of_z w32 at.x) ≡ at.x = grind (arith, to_z-of_z) in
    let from_is : to_z w32 (of_z w32 run.from.x) ≡ run.from.x = grind (arith, to_z-of_z) in
    let steps : at.x -ℤ run.from.x ≡ pos first = subst (λ z. z -ℤ run.from.x ≡ pos first) at_is (subst (λ z. to_z w32 (of_z w32 at.x) -ℤ z ≡ pos first) from_is c.in-Some.ensures) in
    let on = along run at first (c.covers.ensures.0 c.if-not-covers.false) steps in
    let place = ap (λ (p : At). place_along p j) on.1 ∙ along_on run.from first j in
    let beyond : run.limit < sum (place_along run.from (first + j)) = are (first + j) (omega (arith, c.min.ensures, on.0, lj)) (c.marked_from.ensures j (omega (arith, c.min.ensures, lj))) in
    let there : run.limit < sum (place_along at j) = subst (λ p. run.limit < sum p) (sym place) beyond in
    omega (arith, there, c.if-limit-self.false)

pub overflow_sub-self : goal.overflow_sub-self
overflow_sub-self c =
    let run = c.args.self.now in
    let at = c.args.at in
    let first = c.in-Some.first in
    let at_is : to_z w32 (of_z w32 at.x) ≡ at.x = grind (arith, to_z-of_z) in
    let from_is : to_z w32 (of_z w32 run.from.x) ≡ run.from.x = grind (arith, to_z-of_z) in
    let steps : at.x -ℤ run.from.x ≡ pos first = subst (λ z. z -ℤ run.from.x ≡ pos first) at_is (subst (λ z. to_z w32 (of_z w32 at.x) -ℤ z ≡ pos first) from_is c.in-Some.ensures) in
    omega (arith, (along run at first (c.covers.ensures.0 c.if-not-covers.false) steps).0)

pub returns-in_default : goal.returns-in_default
returns-in_default c = grind (arith, common_steps)

pub returns-then-not-covers : goal.returns-then-not-covers
returns-then-not-covers c = grind (arith, common_steps)

pub returns-then-limit-self : goal.returns-then-limit-self
returns-then-limit-self c = grind (arith, common_steps)
