use Rattle.std.proofs.Common.{◌≡◌, ◌+◌, ◌*◌, refl, subst, ◌∙◌, arith}
use Rattle.search_squares.specs.Gathered.{IsTaken, rows_sum}
use Rattle.search_squares.proofs.Taking.{block_more, none_taken}
use Rattle.search_squares.proofs.blocks.take_block.Goals as goal

pub loop-j-init : goal.loop-j-init
loop-j-init c = none_taken _ _ _ (λ g. refl)

pub take_row-requires-clause-room : goal.take_row-requires-clause-room
take_row-requires-clause-room c = omega (arith, c.requires.rows c.loop-j.j c.loop-j-test.true, c.loop-j.invariant.long)

pub take_row-requires-clause-free : goal.take_row-requires-clause-free
take_row-requires-clause-free c = λ i li.
    c.loop-j.invariant.after (c.args.start + c.args.w * c.loop-j.j + i) (omega arith) ∙ c.requires.free c.loop-j.j c.loop-j-test.true i li

pub loop-j-preserved : goal.loop-j-preserved
loop-j-preserved c =
    block_more c.args.start c.args.w c.args.side c.loop-j.j c.args.free.now c.loop-j.free c.take_row.new.free c.loop-j.invariant c.take_row.ensures c.requires.across

pub returns : goal.returns
returns c =
    let whole : c.loop-j.j ≡ c.args.side = omega (arith, c.loop-j-test.false, c.loop-j.auto.j-end) in
    subst (λ n. IsTaken (c.args.start + c.args.w * n) (rows_sum c.args.start c.args.w c.args.side n) c.args.free.now c.loop-j.free) whole c.loop-j.invariant

pub overflow_add-start : goal.overflow_add-start
overflow_add-start c = omega arith
