use Rattle.std.proofs.Common.{arith}
use Rattle.std.proofs.lemmas.Nat.Bits.{bit_at_or}
use Rattle.search_squares.proofs.lanes.marks_of_both.Goals as goal

pub returns : goal.returns
returns c = λ j marked unset. omega (arith, bit_at_or c.args.some c.args.others j, marked, unset)
