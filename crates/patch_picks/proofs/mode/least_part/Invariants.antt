use Rattle.std.proofs.Common.{◌≡◌, drop}
use Rattle.patch_picks.specs.Modes.{least_of, least_part}
use Rattle.patch_picks.proofs.mode.least_part.Given as goal

abbrev pub invariant-parts : goal.invariant-parts
invariant-parts l = least_of l.least (drop l.n l.sizes) ≡ least_part l.fn.sample
