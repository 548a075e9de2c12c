use Rattle.std.proofs.Common.{◌≡◌, take}
use Rattle.turned_map.proofs.turned_file.copy_of.Given as goal

abbrev pub invariant-loop-part : goal.invariant-loop-part
invariant-loop-part l = l.copy ≡ take l.part l.samples
