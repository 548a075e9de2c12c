use Rattle.std.proofs.lemmas.Grind.{common_steps}
use Rattle.std.proofs.Common.{◌≡◌, ◌≤◌, ℕ, ◌+◌, ◌∙◌, List, length, length-take-le, get_or, take, ap, arith}
use Rattle.std.proofs.lemmas.List.{get_or-replicate, get_or-take, length-replicate}
use Rattle.std.proofs.lemmas.Simd.{get_or-zip2, length-zip2}
use Rattle.search_squares.specs.declared.sums.TheConstants.{LANES}
use Rattle.search_squares.specs.Sums.{stepped_sum}
use Rattle.search_squares.proofs.Vectors.{lanes_fit}
use Rattle.search_squares.proofs.AddedSums.{lane_more, lane_fits}
use Rattle.search_squares.proofs.sums.stepped_sums.Goals as goal

pub loop-j-init : goal.loop-j-init
loop-j-init c = record {
  sums = λ i lt. ap (λ (xs : List ℕ). get_or xs i 0) c.no_sums-sums.ensures ∙ get_or-replicate LANES i 0 0 lt;
  long = omega (arith, length-replicate {A = ℕ} LANES 0, ap length c.no_sums-sums.ensures);
}

pub overflow_add-sums : goal.overflow_add-sums
overflow_add-sums c =
    lanes_fit c.loop-j.sums c.run_at-run.result.now c.loop-j.invariant.long (omega (arith, c.run_at-run.ensures.long)) (λ i lt.
    lane_fits c.args.step c.loop-j.j c.args.first i c.args.entries.now c.loop-j.sums c.run_at-run.result.now lt (c.loop-j.invariant.sums i lt) c.run_at-run.ensures.run c.args.n c.loop-j-test.true (c.requires.fits i lt))

pub loop-j-preserved : goal.loop-j-preserved
loop-j-preserved c =
    let sums = c.loop-j.sums in
    let whole = c.run_at-run.result.now in
    let run = take LANES whole in
    let enough : LANES ≤ length whole = omega (arith, c.run_at-run.ensures.long) in
    let long = length-take-le LANES whole enough in
    record {
      sums = λ i lt.
          get_or-zip2 (λ a b. a + b) sums run i 0 0 0 (omega (arith, c.loop-j.invariant.long, lt)) (omega (arith, long, lt))
          ∙ ap (λ n. get_or sums i 0 + n) (get_or-take LANES whole i 0 lt)
          ∙ lane_more c.args.step c.loop-j.j c.args.first i c.args.entries.now sums whole lt (c.loop-j.invariant.sums i lt) c.run_at-run.ensures.run;
      long = length-zip2 (λ a b. a + b) sums run (omega (arith, c.loop-j.invariant.long, long)) ∙ c.loop-j.invariant.long;
    }

pub returns-clause-sums : goal.returns-clause-sums
returns-clause-sums c = λ i lt.
    let whole : c.loop-j.j ≡ c.args.n = omega (arith, c.loop-j-test.false, c.loop-j.auto.j-end) in
    c.loop-j.invariant.sums i lt ∙ ap (λ n. stepped_sum c.args.entries.now c.args.step n (c.args.first + i)) whole

pub run_at-run-requires : goal.run_at-run-requires
run_at-run-requires c = omega arith

pub overflow_add-first : goal.overflow_add-first
overflow_add-first c = grind (arith, common_steps)
