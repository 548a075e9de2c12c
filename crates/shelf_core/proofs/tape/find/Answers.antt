use Rattle.std.proofs.lemmas.Grind.{common_steps}
use Rattle.std.proofs.Common.{◌≡◌, ◌+◌, ◌-◌, ap, ◌∙◌, sym, arith, nat_eq, true, take, drop, get_or}
use Rattle.std.specs.Cmp.Lexicographic.{pointwise}
use Rattle.std.proofs.lemmas.Iterator.Adapters.{position_from-zero}
use Rattle.shelf_core.specs.Tapes.{has_name, no_span, cut}
use Rattle.shelf_core.proofs.TapeLaws.{find_here, find_end}
use Rattle.shelf_core.proofs.tape.find.Goals as goal

pub returns-then-eq : goal.returns-then-eq
returns-then-eq c =
    let here : pointwise nat_eq (take (get_or c.args.spans.now c.loop-i.i no_span).name (drop c.loop-i.start c.args.bytes.now)) c.args.name.now ≡ true =
    let more : (c.loop-i.start + (get_or c.args.spans.now c.loop-i.i no_span).name) - c.loop-i.start ≡ (get_or c.args.spans.now c.loop-i.i no_span).name = omega arith in
    ap (λ n. pointwise nat_eq (take n (drop c.loop-i.start c.args.bytes.now)) c.args.name.now) (sym more) ∙ sym c.eq.ensures ∙ c.if-eq.true in
    sym (find_here c.args.name.now c.loop-i.i c.loop-i.start c.args.spans.now c.args.bytes.now c.loop-i-test.true here)
    ∙ c.loop-i.invariant.found ∙ sym (position_from-zero (has_name c.args.name.now) (cut c.args.spans.now c.args.bytes.now))

pub returns : goal.returns
returns c =
    sym (find_end c.args.name.now c.loop-i.i c.args.spans.now _ c.loop-i-test.false)
    ∙ c.loop-i.invariant.found ∙ sym (position_from-zero (has_name c.args.name.now) (cut c.args.spans.now c.args.bytes.now))

pub overflow_add-start-in-loop-i : goal.overflow_add-start-in-loop-i
overflow_add-start-in-loop-i c = grind (arith, common_steps)

pub overflow_add-start : goal.overflow_add-start
overflow_add-start c = grind (arith, common_steps)

pub loop-i-preserved : goal.loop-i-preserved
loop-i-preserved c = grind (arith, common_steps)

pub overflow_add-own : goal.overflow_add-own
overflow_add-own c = grind (arith, common_steps)

pub slice_bounds-own-end : goal.slice_bounds-own-end
slice_bounds-own-end c = grind (arith, common_steps)
