use Rattle.grown.proofs.Raising.{none_raise, none_raises}
use Rattle.grown.proofs.laws.no_round_raises_the_total.Goals as goal

pub returns-clause-one : goal.returns-clause-one
returns-clause-one c = none_raises c.args.plan.now c.args.sample.now

pub returns-clause-all : goal.returns-clause-all
returns-clause-all c = none_raise c.args.plan.now c.args.sample.now c.samples-samples.ensures.volume
