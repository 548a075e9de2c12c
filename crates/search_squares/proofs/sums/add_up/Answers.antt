use Rattle.std.proofs.Common.{◌≡◌, ◌≤◌, ◌<◌, ◌+◌, ◌-◌, ◌*◌, ◌^◌, ◌∙◌, length, ap, sym, subst, arith}
use Rattle.std.proofs.Math.Nat.{mul-le-mul_left}
use Rattle.std.proofs.lemmas.Simd.{get_or-put_chunk_above, get_or-put_chunk_at, get_or-put_chunk_below, length-put_chunk}
use Rattle.search_squares.specs.declared.sums.TheConstants.{LANES}
use Rattle.search_squares.proofs.AddedSums.{all_added, none_added, run_added, same_sums}
use Rattle.search_squares.proofs.sums.add_up.Goals as goal

pub overflow_mul-reach : goal.overflow_mul-reach
overflow_mul-reach c = omega (arith, c.requires.reach, mul-le-mul_left c.args.step (let le : c.args.n - 1 ≤ c.args.n = omega arith in le))

pub loop-run-init : goal.loop-run-init
loop-run-init c = none_added c.args.step c.args.n (LANES * 0) c.args.entries.now (omega arith)

pub stepped_sums-sums-requires-clause-inside : goal.stepped_sums-sums-requires-clause-inside
stepped_sums-sums-requires-clause-inside c = λ j lt.
    omega (arith, mul-le-mul_left c.args.step (let le : j ≤ c.args.n - 1 = omega (arith, lt) in le), c.loop-run-test.true, c.loop-run.auto, c.loop-run.invariant.long)

pub stepped_sums-sums-requires-clause-fits : goal.stepped_sums-sums-requires-clause-fits
stepped_sums-sums-requires-clause-fits c = λ i lt.
    let at = LANES * c.loop-run.run + i in
    subst (λ s. s < 2 ^ 16) (sym (same_sums c.args.step c.args.n (LANES * c.loop-run.run) c.args.entries.now c.loop-run.entries c.loop-run.invariant at (omega arith))) (c.requires.fits at)

pub loop-run-preserved : goal.loop-run-preserved
loop-run-preserved c =
    let first = LANES * c.loop-run.run in
    let was = c.loop-run.entries in
    let sums = c.stepped_sums-sums.result in
    let long = c.stepped_sums-sums.ensures.long in
    let room : first + LANES ≤ length was = omega (arith, c.loop-run-test.true, c.loop-run.auto, c.loop-run.invariant.long) in
    run_added c.args.step c.args.n first c.args.entries.now was c.loop-run.invariant _ (LANES * (c.loop-run.run + 1)) (omega arith) (length-put_chunk first was sums)
    (λ i lt. get_or-put_chunk_at first was sums i 0 (omega (arith, long, lt)) (omega (arith, long, room)) ∙ c.stepped_sums-sums.ensures.sums i lt)
    (λ i lt. get_or-put_chunk_below first was sums i 0 lt) (λ i le. get_or-put_chunk_above first was sums i 0 (omega (arith, long, le)))

pub returns : goal.returns
returns c =
    all_added c.args.step c.args.n (LANES * c.loop-run.run) c.args.entries.now c.loop-run.entries c.loop-run.invariant c.requires.some
    (λ i last is le.
    let reach : c.args.step * (c.args.n - 1) ≡ c.args.step * last = ap (λ m. c.args.step * m) (let e : c.args.n - 1 ≡ last = omega (arith, is) in e) in
    omega (arith, reach, le, c.loop-run-test.false, c.loop-run.auto))
