use Rattle.quilted.proofs.Reaching.{blocks_pass}
use Rattle.quilted.proofs.laws.a_run_passes_where_blocks_do.Goals as goal

pub returns : goal.returns
returns c = λ rating. blocks_pass rating c.args.asked.now c.args.sample.now c.samples-samples.ensures.volume c.requires
