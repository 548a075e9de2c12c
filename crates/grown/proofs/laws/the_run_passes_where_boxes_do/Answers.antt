use Rattle.grown.proofs.Reaching.{boxes_pass}
use Rattle.grown.proofs.laws.the_run_passes_where_boxes_do.Goals as goal

pub returns : goal.returns
returns c = boxes_pass c.args.plan.now c.args.sample.now c.samples-samples.ensures.volume c.requires.small c.requires.patch
