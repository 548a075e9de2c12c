use Rattle.quilted.proofs.Runs.{quilts_replay}
use Rattle.quilted.proofs.laws.quilts_replay.Goals as goal

pub returns : goal.returns
returns c = quilts_replay c.args.plan.now c.args.sample.now c.size-size.ensures.volume c.requires.block c.args.size c.requires.small c.requires.frame
