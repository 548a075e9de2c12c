use Rattle.std.proofs.Common.{◌/◌, ◌≤◌, subst, arith}
use Rattle.search_squares.specs.Bounds.{place_along}
use Rattle.search_squares.proofs.PlaceRuns.{times_above}
use Rattle.search_squares.proofs.eliminated.Eliminated.times.Goals as goal

pub returns : goal.returns
returns c = λ sum other at_least are j lj marked.
    let run = c.args.self in
    let place = place_along run.from j in
    times_above c.args.n c.args.limit run.limit (sum place) (other place) (omega (arith, c.if-n-eq0.false)) (subst (λ m. c.args.limit / m ≤ run.limit) c.from.ensures c.if-limit-from.false) (are j lj marked) (at_least place)

pub returns-then-n-eq0 : goal.returns-then-n-eq0
returns-then-n-eq0 c = λ sum other at_least are. c.none.ensures other

pub returns-then-limit-from : goal.returns-then-limit-from
returns-then-limit-from c = λ sum other at_least are. c.none-then-limit-from.ensures other
