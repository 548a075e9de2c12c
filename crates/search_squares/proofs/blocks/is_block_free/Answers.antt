use Rattle.std.proofs.Common.{arith}
use Rattle.std.proofs.lemmas.Grind.{common_steps}
use Rattle.std.proofs.Common.{◌+◌, ◌*◌}
use borrow.Author.Count.{below_more}
use Rattle.search_squares.specs.Gathered.{AreFree}
use Rattle.search_squares.proofs.blocks.is_block_free.Goals as goal

pub loop-j-preserved : goal.loop-j-preserved
loop-j-preserved c =
    below_more (λ j. AreFree c.args.free.now (c.args.start + c.args.w * j) c.args.side) c.loop-j.j c.loop-j.invariant
    (c.is_row_free.ensures c.if-not-is_row_free.false)

pub is_row_free-requires : goal.is_row_free-requires
is_row_free-requires c = grind (arith, common_steps)
