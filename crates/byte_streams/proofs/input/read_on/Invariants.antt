use Rattle.std.proofs.Common.{◌≡◌, ◌≤◌, ◌-◌, length}
use Rattle.byte_streams.proofs.SoFar.{KnownSoFar}
use Rattle.byte_streams.proofs.input.read_on.Given as goal

abbrev pub invariant-parts : goal.invariant-parts
invariant-parts g l = record {
  same_length : length l.into ≡ length l.initial.into;
  within : l.n ≤ length l.into;
  kept : g.F.InputFile.bytes l.file ≡ g.F.InputFile.bytes l.initial.file;
  read : KnownSoFar (g.F.InputFile.bytes l.initial.file) (g.F.InputFile.place l.initial.file) (g.F.InputFile.place l.file) l.into l.n;
}

abbrev pub decreases-parts : goal.decreases-parts
decreases-parts g l = length l.into - l.n
