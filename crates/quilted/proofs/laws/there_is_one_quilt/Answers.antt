use Rattle.quilted.proofs.OneQuilt.{one_quilt}
use Rattle.quilted.proofs.laws.there_is_one_quilt.Goals as goal

pub returns : goal.returns
returns c = one_quilt c.args.plan.now c.args.sample.now c.args.size c.samples-samples.ensures.volume c.requires
