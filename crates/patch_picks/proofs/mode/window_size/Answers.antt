use Rattle.std.proofs.Common.{arith}
use Rattle.patch_picks.proofs.mode.window_size.Goals as goal

pub returns-clause-parts : goal.returns-clause-parts
returns-clause-parts c = λ number part at.
    let room = c.least_part-least.ensures.parts number part at in
    record { w = omega (arith, room.w); h = omega (arith, room.h); f = omega (arith, room.f) }
