use Rattle.std.proofs.Common.{subst, sym}
use Rattle.std.specs.Prelude.{All}
use Rattle.cut_replay.specs.Replay.{IsFormed}
use Rattle.grow_command.proofs.trial_plan.checked.Goals as goal

pub replay_cuts-requires-clause-formed : goal.replay_cuts-requires-clause-formed
replay_cuts-requires-clause-formed c = subst (All IsFormed) (sym c.as_slice.ensures) c.requires.1.writable.formed
