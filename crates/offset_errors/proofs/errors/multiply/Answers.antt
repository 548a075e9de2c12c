use Rattle.std.proofs.Common.{arith}
use Rattle.offset_errors.proofs.errors.multiply.Goals as goal

pub returns : goal.returns
returns c = c.multiply.ensures c.args.f.now c.args.g.now c.split.ensures c.split-2.ensures

pub multiply-requires-clause-images : goal.multiply-requires-clause-images
multiply-requires-clause-images c = omega arith
