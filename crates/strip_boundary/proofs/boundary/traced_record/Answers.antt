use Rattle.std.proofs.Common.{arith}
use Rattle.std.proofs.lemmas.Grind.{common_steps}
use Rattle.strip_boundary.specs.Boundaries.{IsFirstLeast}
use Rattle.strip_boundary.specs.Tables.{IsTracedFrom}
use Rattle.strip_boundary.proofs.PathLaws.{stands_from_traced, first_least_from_traced}
use Rattle.strip_boundary.proofs.boundary.traced_record.Goals as goal

-- the path of the record goes back through its sums
traced : (c : goal.After-from_vec-2) → IsTracedFrom c.args.strip.now c.in_ok-sums.sums.items c.from_vec.result 0
traced c = rw (c.from_vec.ensures, ← c.as_slice.ensures.value) c.in_ok-path.ensures

first_least : (c : goal.After-from_vec-2) → IsFirstLeast c.args.strip.now c.from_vec.result
first_least c = first_least_from_traced c.args.strip.now c.in_ok-sums.sums.items c.from_vec.result c.in_ok-sums.ensures (traced c)

pub returns-clause-least : goal.returns-clause-least
returns-clause-least c = (first_least c).least

pub returns-clause-first : goal.returns-clause-first
returns-clause-first c = first_least c

pub returns-clause-stands : goal.returns-clause-stands
returns-clause-stands c =
    stands_from_traced c.args.strip.now (record { path = c.from_vec.result; sums = c.from_vec-2.result })
    (rw c.from_vec-2.ensures c.in_ok-sums.ensures)
    (rw c.from_vec-2.ensures (traced c))

pub returns-clause-tight : goal.returns-clause-tight
returns-clause-tight c = grind (arith, common_steps)
