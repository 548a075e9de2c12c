use Rattle.std.proofs.lemmas.Grind.{common_steps}
use Rattle.std.proofs.Common.{◌∙◌, ℕ, ap, arith, refl}
use Rattle.std.proofs.lemmas.List.{take_all}
use Rattle.std.specs.List.{sum_by}
use Rattle.map_canvas.specs.CellErrors.{spot_error}
use Rattle.match_error.specs.Errors.{row_error}
use Rattle.match_error.specs.Rows.{run_part}
use Rattle.match_error.proofs.Bounds.{row_small}
use Rattle.match_error.proofs.Overlaps.{unfilled_error}
use Rattle.match_error.proofs.RunLists.{part_of_sum}
use Rattle.match_error.proofs.overlap.runs_sum.Goals as goal

pub overflow_add-sum : goal.overflow_add-sum
overflow_add-sum c =
    let m = c.args.canvas.now.map in
    let sample = c.args.sample.now in
    let placement = c.args.placement.now in
    let g = λ (i : ℕ). spot_error m sample placement i c.args.y c.args.f in
    let whole = c.requires.runs.sum g (λ i lt not. unfilled_error m sample placement i c.args.y c.args.f not) in
    let within =
    part_of_sum (run_part g c.args.x placement.rect.size.w) c.args.runs.now c.args.runs.now c.runs.run-index _ c.runs.sum c.run_sum-sum.result (row_error m sample placement c.args.y c.args.f) refl c.runs-test.true c.run_sum-sum.ensures c.runs.invariant whole in
    omega (arith, within, row_small m sample placement c.args.y c.args.f c.map-map.ensures.canvas.map.small c.samples-sample.ensures.volume c.requires.fits)

pub returns-clause-sum : goal.returns-clause-sum
returns-clause-sum c =
    let m = c.args.canvas.now.map in
    let sample = c.args.sample.now in
    let placement = c.args.placement.now in
    let g = λ (i : ℕ). spot_error m sample placement i c.args.y c.args.f in
    c.runs.invariant
    ∙ ap (sum_by (run_part g c.args.x placement.rect.size.w)) (take_all c.runs.run-index c.args.runs.now c.runs-test.false)
    ∙ c.requires.runs.sum g (λ i lt not. unfilled_error m sample placement i c.args.y c.args.f not)

pub returns-clause-small : goal.returns-clause-small
returns-clause-small c =
    omega (arith, returns-clause-sum c, row_small c.args.canvas.now.map c.args.sample.now c.args.placement.now c.args.y c.args.f c.map-map.ensures.canvas.map.small c.samples-sample.ensures.volume c.requires.fits)

pub runs-preserved : goal.runs-preserved
runs-preserved c = grind (arith, common_steps)

pub run_sum-sum-requires-clause-run : goal.run_sum-sum-requires-clause-run
run_sum-sum-requires-clause-run c = omega arith
