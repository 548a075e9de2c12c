use Rattle.std.proofs.Common.{ap, arith}
use Rattle.shelf_core.specs.Tapes.{TapeState, spent}
use Rattle.shelf_core.proofs.TapeLaws.{spent_cut}
use Rattle.shelf_core.proofs.tape.Tape.free.Goals as goal

pub returns : goal.returns
returns c =
    omega (arith, ap (λ (t : TapeState). spent t.files) c.self.view_is, ap (λ (t : TapeState). t.room) c.self.view_is, spent_cut c.self.inside.spans.items c.self.inside.bytes.items c.self.invariant.covered, c.self.invariant.within)
