use Rattle.std.proofs.lemmas.Grind.{common_steps}
use Rattle.std.proofs.Common.{◌≡◌, ℕ, ◌+◌, ◌<◌, ◌∙◌, length, get_or, ap, arith}
use Rattle.std.specs.Prelude.{min}
use Rattle.loop_walk.specs.declared.rests.TheConstants.{GREATEST_REST}
use Rattle.loop_walk.proofs.ProductLaws.{bounded_more, lowered_more, same_after}
use Rattle.loop_walk.proofs.rests.lower_rests.Goals as goal

pub loop-j-preserved : goal.loop-j-preserved
loop-j-preserved c =
    let j = c.loop-j.j in
    let start = c.args.sums.now in
    let sums = c.loop-j.sums in
    let so = c.loop-j.invariant in
    let inside : j < length sums = omega (arith, c.loop-j.auto.sums, c.loop-j-test.true) in
    let low : ℕ → ℕ = λ k. min (c.args.first + get_or c.args.seconds.now k 0) (c.args.other + get_or c.args.others.now k 0) in
    let is : c.min.result ≡ min (get_or sums j 0) (low j) = c.min.ensures ∙ ap (min (get_or sums j 0)) c.min-sum.ensures in
    record {
      lowered = lowered_more start sums j c.min.result low inside so.lowered so.same is;
      same = same_after start sums j c.min.result so.same;
      small = bounded_more GREATEST_REST sums j c.min.result inside (omega (arith, is, so.small j inside)) so.small;
    }

pub bounds-sums-j-in-loop-j : goal.bounds-sums-j-in-loop-j
bounds-sums-j-in-loop-j c = grind (arith, common_steps)

pub overflow_add-other : goal.overflow_add-other
overflow_add-other c = grind (arith, common_steps)

pub returns-clause-small : goal.returns-clause-small
returns-clause-small c = grind (arith, common_steps)
