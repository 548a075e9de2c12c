use Rattle.grown.proofs.Splitting.{run_splits}
use Rattle.grown.proofs.laws.rounds_follow_placements.Goals as goal

pub returns : goal.returns
returns c = run_splits c.args.plan.now c.args.sample.now c.samples-samples.ensures.volume c.requires
