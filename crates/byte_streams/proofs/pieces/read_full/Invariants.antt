use Rattle.std.proofs.Common.{◌≡◌, ◌≤◌, ◌-◌, length, take}
use Rattle.std.specs.Io.KnownBytes.{Consumes}
use Rattle.byte_streams.proofs.pieces.read_full.Given as goal

abbrev pub invariant-parts : goal.invariant-parts
invariant-parts g l = (length l.into ≡ length l.initial.into) × (l.n ≤ length l.into) × Consumes (g.R.Read.remaining l.initial.reader) (g.R.Read.remaining l.reader) (take l.n l.into)

abbrev pub decreases-parts : goal.decreases-parts
decreases-parts g l = length l.into - l.n
