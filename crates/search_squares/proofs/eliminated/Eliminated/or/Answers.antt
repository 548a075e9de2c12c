use Rattle.std.proofs.Common.{◌<◌, ◌≤◌, sym, subst, ◌∙◌, arith, ⊎_elim}
use Rattle.std.specs.Int.{bit_at}
use Rattle.std.proofs.lemmas.Bool.{cases_lt}
use Rattle.std.proofs.lemmas.Nat.Bits.{bit_at-lt}
use Rattle.cells.specs.declared.place.At.{At}
use Rattle.search_squares.specs.Bounds.{place_along}
use Rattle.search_squares.proofs.PlaceRuns.{same_place}
use Rattle.search_squares.proofs.eliminated.Eliminated.or.Goals as goal

pub returns-then-eq : goal.returns-then-eq
returns-then-eq c = λ sum one both j lj marked.
    let run = c.args.self in
    let other = c.args.other in
    let same = same_place run.from other.from (sym c.eq.ensures ∙ c.if-eq.true) in
    ⊎_elim
    (λ (unset : bit_at run.above j < 1).
    let there : other.limit < sum (place_along run.from j) =
    subst (λ (p : At). other.limit < sum (place_along p j)) (sym same) (both j (omega (arith, lj, c.min.ensures)) (c.marks_of_both.ensures j marked (omega (arith, unset)))) in
    omega (arith, there, c.min-then-eq.ensures))
    (λ (set : 1 ≤ bit_at run.above j). let here : run.limit < sum (place_along run.from j) = one j (omega (arith, lj, c.min.ensures)) (omega (arith, set, bit_at-lt run.above j)) in omega (arith, here, c.min-then-eq.ensures))
    (cases_lt (bit_at run.above j) 1)
