use Rattle.std.proofs.lemmas.Grind.{common_steps}
use Rattle.std.proofs.Common.{◌≡◌, arith}
use Rattle.std.proofs.lemmas.List.Sums.{sum_by-take-le}
use Rattle.std.specs.List.{sum_by}
use Rattle.match_error.specs.Errors.{error_sum}
use Rattle.match_error.specs.Runs.{run_error}
use Rattle.match_error.proofs.Bounds.{error_small}
use Rattle.match_error.proofs.RunLists.{part_of_sum}
use Rattle.match_error.proofs.gathered.FilledRuns.error_sum_within.Goals as goal

pub overflow_add-sum : goal.overflow_add-sum
overflow_add-sum c =
    let error = run_error c.args.self.now.bytes.items c.args.sample.now c.args.placement.now.from in
    let within =
    part_of_sum error c.deref-run-items.result.now c.args.self.now.runs.items c.runs.run-index _ c.runs.sum c.run_sum-sum.result (error_sum c.args.canvas.now.map c.args.sample.now c.args.placement.now) c.deref-run-items.ensures.value c.runs-test.true c.run_sum-sum.ensures.sum c.runs.invariant.sum
    (c.requires.cells.error c.args.sample.now c.args.placement.now.from (record { volume = c.samples-sample.ensures.volume; stands = c.requires.over; fits = c.requires.fits })) in
    omega (arith, within, error_small c.args.canvas.now.map c.args.sample.now c.args.placement.now c.map-map.ensures.canvas.map.small c.samples-sample.ensures.volume c.requires.fits)

pub returns-then-sum-limit-clause-none : goal.returns-then-sum-limit-clause-none
returns-then-sum-limit-clause-none c =
    let error = run_error c.args.self.now.bytes.items c.args.sample.now c.args.placement.now.from in
    let within =
    part_of_sum error c.deref-run-items.result.now c.args.self.now.runs.items c.runs.run-index _ c.runs.sum c.run_sum-sum.result (error_sum c.args.canvas.now.map c.args.sample.now c.args.placement.now) c.deref-run-items.ensures.value c.runs-test.true c.run_sum-sum.ensures.sum c.runs.invariant.sum
    (c.requires.cells.error c.args.sample.now c.args.placement.now.from (record { volume = c.samples-sample.ensures.volume; stands = c.requires.over; fits = c.requires.fits })) in
    omega (arith, c.if-sum-limit.true, within)

pub returns-clause-small : goal.returns-clause-small
returns-clause-small c =
    let error = run_error c.args.self.now.bytes.items c.args.sample.now c.args.placement.now.from in
    let whole : sum_by error c.args.self.now.runs.items ≡ error_sum c.args.canvas.now.map c.args.sample.now c.args.placement.now =
    c.requires.cells.error c.args.sample.now c.args.placement.now.from (record { volume = c.samples-sample.ensures.volume; stands = c.requires.over; fits = c.requires.fits }) in
    omega (
      arith,
      whole,
      c.runs.invariant.sum,
      sum_by-take-le error c.args.self.now.runs.items c.runs.run-index,
      error_small c.args.canvas.now.map c.args.sample.now c.args.placement.now c.map-map.ensures.canvas.map.small c.samples-sample.ensures.volume c.requires.fits,
    )

pub returns-then-sum-limit-clause-bound : goal.returns-then-sum-limit-clause-bound
returns-then-sum-limit-clause-bound c = error_small c.args.canvas.now.map c.args.sample.now c.args.placement.now c.map-map.ensures.canvas.map.small c.samples-sample.ensures.volume c.requires.fits

pub returns-clause-bound : goal.returns-clause-bound
returns-clause-bound c = error_small c.args.canvas.now.map c.args.sample.now c.args.placement.now c.map-map.ensures.canvas.map.small c.samples-sample.ensures.volume c.requires.fits

pub runs-preserved : goal.runs-preserved
runs-preserved c = grind (arith, common_steps)

pub returns-clause-some : goal.returns-clause-some
returns-clause-some c = grind (arith, common_steps)

pub is_exact-requires-clause-cells : goal.is_exact-requires-clause-cells
is_exact-requires-clause-cells c = grind (arith, common_steps)

pub returns-then-is_exact-clause-bound : goal.returns-then-is_exact-clause-bound
returns-then-is_exact-clause-bound c = grind (arith, common_steps)

pub run_sum-sum-requires-clause-run : goal.run_sum-sum-requires-clause-run
run_sum-sum-requires-clause-run c = grind (arith, common_steps)

pub run_sum-sum-requires-clause-sources : goal.run_sum-sum-requires-clause-sources
run_sum-sum-requires-clause-sources c = c.requires.fits.sources

pub run_sum-sum-requires-clause-front : goal.run_sum-sum-requires-clause-front
run_sum-sum-requires-clause-front c = c.front_index-front.ensures

pub run_sum-sum-requires-clause-volume : goal.run_sum-sum-requires-clause-volume
run_sum-sum-requires-clause-volume c = grind (arith, common_steps)

pub returns-clause-most : goal.returns-clause-most
returns-clause-most c = grind (arith, common_steps)
