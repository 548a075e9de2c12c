use Rattle.std.proofs.Common.{subst, rules, ℕ, ◌<◌}
use Rattle.std.specs.Prelude.{slice_index}
use Rattle.cells.specs.Cells.{IsVolume}
use Rattle.cells.proofs.Buffering.{is_volume}
use Rattle.cells.proofs.volume.Volume.size.Goals as goal

pub returns-clause-volume : goal.returns-clause-volume
returns-clause-volume c =
    let small : (i : ℕ) → slice_index c.self.inside.bytes.items i < 256 = search rules in
    subst IsVolume c.self.view_is (is_volume c.self.inside.size c.self.inside.more c.self.inside.k c.self.inside.bytes.items c.self.invariant small)
