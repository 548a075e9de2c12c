use Rattle.std.proofs.Common.{take, arith, length-take-le}
use Rattle.std.proofs.lemmas.Grind.{common_steps}
use Rattle.std.proofs.lemmas.List.Sums.{count_by-le-length}
use Rattle.patch_place.specs.Tables.{is_near}
use Rattle.patch_place.proofs.eligible.near_count.Goals as goal

pub entries-preserved : goal.entries-preserved
entries-preserved c = grind (arith, common_steps)

pub overflow_add-n : goal.overflow_add-n
overflow_add-n c =
    let seen = take c.entries.entry-index c.args.entries.now in
    omega (arith, c.entries.invariant, c.entries-test.true, c.requires.few, count_by-le-length (is_near c.args.tol c.args.best.now) seen, length-take-le c.entries.entry-index c.args.entries.now (omega (arith, c.entries-test.true)))

pub returns : goal.returns
returns c = grind (arith, common_steps)
