use Rattle.grown.proofs.OneRuns.{ends_within, limits_are_one, runs_are_one}
use Rattle.grown.proofs.laws.there_is_one_grown_run.Goals as goal

pub returns-clause-run : goal.returns-clause-run
returns-clause-run c = runs_are_one c.args.plan.now c.args.sample.now c.samples-samples.ensures.volume c.requires

pub returns-clause-within : goal.returns-clause-within
returns-clause-within c = ends_within c.args.plan.now c.args.sample.now c.samples-samples.ensures.volume c.requires

pub returns-clause-limit : goal.returns-clause-limit
returns-clause-limit c = limits_are_one c.args.plan.now c.args.sample.now
