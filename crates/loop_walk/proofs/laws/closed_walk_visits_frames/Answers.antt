use Rattle.loop_walk.proofs.OneAnswer.{walk_frames}
use Rattle.loop_walk.proofs.laws.closed_walk_visits_frames.Goals as goal

pub returns : goal.returns
returns c = walk_frames
