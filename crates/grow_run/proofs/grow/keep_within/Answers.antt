use Rattle.grown.proofs.Reaching.{boxes_pass}
use Rattle.grow_run.proofs.grow.keep_within.Goals as goal

pub returns-in-Some : goal.returns-in-Some
returns-in-Some c =
    boxes_pass c.args.plan.now c.args.sample.now c.samples-samples.ensures.volume c.requires.small c.requires.patch c.in-Some.number (rw c.in-Some.is at c.first_past.ensures)
