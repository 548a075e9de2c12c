use Rattle.std.proofs.Common.{arith}
use Rattle.patch_picks.proofs.Rooms.{room_fits}
use Rattle.patch_picks.proofs.candidates.room.Goals as goal

pub returns-clause-fits : goal.returns-clause-fits
returns-clause-fits c = grind (arith, room_fits c.args.part c.args.inner c.requires)
