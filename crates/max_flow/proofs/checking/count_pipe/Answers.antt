use Rattle.std.proofs.lemmas.Grind.{common_steps}
use Rattle.std.proofs.Common.{pos, ◌+ℤ◌, ◌-ℤ◌, ◌≤ℤ◌, ◌==◌, sym, subst, arith}
use Rattle.std.proofs.lemmas.Int.{ints}
use Rattle.max_flow.specs.Checking.{excess_at}
use Rattle.max_flow.proofs.Counting.{flow_is, less_is, less_opposite, taken_low, taken_high, CountsPipe_at}
use Rattle.max_flow.proofs.checking.count_pipe.Goals as goal

pub add_at-requires-2-clause-high : goal.add_at-requires-2-clause-high
add_at-requires-2-clause-high c =
    let pipe = c.args.pipe.now in
    let is = flow_is c.args.against pipe.back _ _ c.from.ensures c.from-2.ensures (omega (arith, c.if-against-pipe.false, c.requires.pipe.ahead_limit, c.requires.pipe.back_limit)) c.requires.pipe.back_limit in
    let low = subst (λ f. (pos 0 -ℤ pos 65536) ≤ℤ f) (sym is) (omega (arith, ints, c.requires.pipe.back_limit)) in
    let high = subst (λ f. f ≤ℤ pos 131072) (sym is) (omega (arith, ints, c.if-against-pipe.false, c.requires.pipe.ahead_limit, c.requires.pipe.back_limit)) in
    subst (λ f. (excess_at c.add_at.new.excess pipe.to +ℤ f) ≤ℤ pos 4611686018427387904) (sym (less_is _ low high)) (taken_high (pipe.from == pipe.to) _ _ _ (c.add_at.ensures pipe.to) (c.requires.room.high pipe.to) low high)

pub returns : goal.returns
returns c =
    let pipe = c.args.pipe.now in
    let is = flow_is c.args.against pipe.back _ _ c.from.ensures c.from-2.ensures (omega (arith, c.if-against-pipe.false, c.requires.pipe.ahead_limit, c.requires.pipe.back_limit)) c.requires.pipe.back_limit in
    let low = subst (λ f. (pos 0 -ℤ pos 65536) ≤ℤ f) (sym is) (omega (arith, ints, c.requires.pipe.back_limit)) in
    let high = subst (λ f. f ≤ℤ pos 131072) (sym is) (omega (arith, ints, c.if-against-pipe.false, c.requires.pipe.ahead_limit, c.requires.pipe.back_limit)) in
    CountsPipe_at _ _ _ _ _ c.add_at.new.excess _ c.add_at.ensures c.add_at-2.ensures (omega arith) is (less_opposite _ _ (less_is _ low high))

pub add_at-requires-2-clause-node : goal.add_at-requires-2-clause-node
add_at-requires-2-clause-node c = omega arith

pub add_at-requires-clause-node : goal.add_at-requires-clause-node
add_at-requires-clause-node c = c.requires.pipe.from_in

pub add_at-requires-clause-low : goal.add_at-requires-clause-low
add_at-requires-clause-low c =
    let pipe = c.args.pipe.now in
    let is = flow_is c.args.against pipe.back _ _ c.from.ensures c.from-2.ensures (omega (arith, c.if-against-pipe.false, c.requires.pipe.ahead_limit, c.requires.pipe.back_limit)) c.requires.pipe.back_limit in
    subst (λ f. (pos 0 -ℤ pos 4611686018427387904) ≤ℤ (excess_at c.args.excess.now pipe.from +ℤ f)) (sym is) (omega (arith, ints, c.requires.room.low pipe.from, c.requires.pipe.back_limit))

pub add_at-requires-clause-high : goal.add_at-requires-clause-high
add_at-requires-clause-high c =
    let pipe = c.args.pipe.now in
    let is = flow_is c.args.against pipe.back _ _ c.from.ensures c.from-2.ensures (omega (arith, c.if-against-pipe.false, c.requires.pipe.ahead_limit, c.requires.pipe.back_limit)) c.requires.pipe.back_limit in
    subst (λ f. (excess_at c.args.excess.now pipe.from +ℤ f) ≤ℤ pos 4611686018427387904) (sym is) (omega (arith, ints, c.requires.room.high pipe.from, c.if-against-pipe.false, c.requires.pipe.ahead_limit))

pub add_at-requires-2-clause-low : goal.add_at-requires-2-clause-low
add_at-requires-2-clause-low c =
    let pipe = c.args.pipe.now in
    let is = flow_is c.args.against pipe.back _ _ c.from.ensures c.from-2.ensures (omega (arith, c.if-against-pipe.false, c.requires.pipe.ahead_limit, c.requires.pipe.back_limit)) c.requires.pipe.back_limit in
    let low = subst (λ f. (pos 0 -ℤ pos 65536) ≤ℤ f) (sym is) (omega (arith, ints, c.requires.pipe.back_limit)) in
    let high = subst (λ f. f ≤ℤ pos 131072) (sym is) (omega (arith, ints, c.if-against-pipe.false, c.requires.pipe.ahead_limit, c.requires.pipe.back_limit)) in
    subst (λ f. (pos 0 -ℤ pos 4611686018427387904) ≤ℤ (excess_at c.add_at.new.excess pipe.to +ℤ f)) (sym (less_is _ low high)) (taken_low (pipe.from == pipe.to) _ _ _ (c.add_at.ensures pipe.to) (c.requires.room.low pipe.to) low high)

pub overflow_sub-flow-2 : goal.overflow_sub-flow-2
overflow_sub-flow-2 c = grind (arith, common_steps)

pub overflow_sub-flow : goal.overflow_sub-flow
overflow_sub-flow c = grind (arith, common_steps)
