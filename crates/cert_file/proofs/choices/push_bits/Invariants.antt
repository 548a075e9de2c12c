use Rattle.std.proofs.Common.{◌≡◌, ◌++◌, take}
use Rattle.cert_file.proofs.choices.push_bits.Given as goal

abbrev pub invariant-loop-bit : goal.invariant-loop-bit
invariant-loop-bit l = l.bits.items ≡ l.fn.bits.items ++ take l.bit-index l.bit-items
