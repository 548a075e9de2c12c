use Rattle.quilted.proofs.OneLimits.{ends_within, limits_are_one, passes_there}
use Rattle.quilted.proofs.laws.there_is_one_quilt_limit.Goals as goal

pub returns-clause-within : goal.returns-clause-within
returns-clause-within c = ends_within c.args.asked.now c.args.sample.now c.samples-samples.ensures.volume c.requires

pub returns-clause-limit : goal.returns-clause-limit
returns-clause-limit c = limits_are_one c.args.asked.now c.args.sample.now

pub returns-clause-run : goal.returns-clause-run
returns-clause-run c = passes_there c.args.asked.now c.args.sample.now c.samples-samples.ensures.volume c.requires
