use Rattle.std.proofs.lemmas.Grind.{common_steps}
use Rattle.strip_boundary.proofs.SumLaws.{more_tight, row_is_tight}
use Rattle.std.proofs.Common.{◌≡◌, arith}
use Rattle.strip_boundary.proofs.sums.add_row.Goals as goal

pub loop-col-preserved : goal.loop-col-preserved
loop-col-preserved c =
    rw c.in_ok-push.ensures.items
    (more_tight c.args.strip.now c.loop-col.sums.items c.args.row c.loop-col.col c.tight_sum-sum.result
    c.loop-col.invariant
    (rw (← c.as_slice.ensures.value) c.tight_sum-sum.ensures))

pub returns : goal.returns
returns c =
    let whole : c.loop-col.col ≡ c.args.strip.now.cols = omega arith in
    row_is_tight c.args.strip.now c.loop-col.sums.items c.args.row (rw whole at c.loop-col.invariant)

pub tight_sum-sum-requires-clause-above : goal.tight_sum-sum-requires-clause-above
tight_sum-sum-requires-clause-above c = grind (arith, common_steps)
