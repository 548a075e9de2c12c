use Rattle.std.proofs.Common.{arith}
use Rattle.search_squares.proofs.eliminated.Eliminated.none.Goals as goal

pub returns : goal.returns
returns c = omega arith
