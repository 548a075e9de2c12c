use Rattle.std.proofs.Common.{◌≡◌, ◌≤◌, ◌*◌, take}
use Rattle.offset_errors.specs.Numbers.{squares}
use Rattle.offset_errors.proofs.entries.squares_of.Given as goal

abbrev pub invariant-bytes : goal.invariant-bytes
invariant-bytes l = (l.sum ≡ squares (take l.i l.cell)) × (l.sum ≤ 65025 * l.i)
