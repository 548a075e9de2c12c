use Rattle.torus.proofs.OneRuns.{all_keep, all_least, one_tiling}
use Rattle.torus.proofs.laws.there_is_one_tiled_run.Goals as goal

pub returns-clause-one : goal.returns-clause-one
returns-clause-one c = one_tiling c.args.plan.now c.args.sample.now c.samples-samples.ensures.volume c.requires

pub returns-clause-least : goal.returns-clause-least
returns-clause-least c = all_least c.args.plan.now c.args.sample.now c.samples-samples.ensures.volume

pub returns-clause-keep : goal.returns-clause-keep
returns-clause-keep c = all_keep c.args.plan.now c.args.sample.now c.samples-samples.ensures.volume
