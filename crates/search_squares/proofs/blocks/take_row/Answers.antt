use Rattle.std.proofs.Common.{◌≡◌, ◌+◌, refl, subst, ◌∙◌, arith}
use Rattle.search_squares.specs.Gathered.{IsTaken, sum_along}
use Rattle.search_squares.proofs.Taking.{none_taken, row_more}
use Rattle.search_squares.proofs.blocks.take_row.Goals as goal

pub loop-i-init : goal.loop-i-init
loop-i-init c = none_taken _ _ _ (λ g. refl)

pub loop-i-preserved : goal.loop-i-preserved
loop-i-preserved c =
    let start = c.args.start in
    row_more start c.loop-i.i c.args.free.now c.loop-i.free c.loop-i.invariant (omega (arith, c.loop-i.invariant.long, c.requires.room, c.loop-i-test.true))
    (c.loop-i.invariant.after (start + c.loop-i.i) (omega arith) ∙ c.requires.free c.loop-i.i c.loop-i-test.true)

pub returns : goal.returns
returns c =
    let whole : c.loop-i.i ≡ c.args.n = omega (arith, c.loop-i-test.false, c.loop-i.auto.i-end) in
    subst (λ n. IsTaken (c.args.start + n) (sum_along c.args.start n) c.args.free.now c.loop-i.free) whole c.loop-i.invariant
