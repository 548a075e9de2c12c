use Rattle.std.proofs.lemmas.Grind.{common_steps}
use Rattle.std.proofs.Common.{◌≡◌, ◌<◌, ap, arith, subst, sym}
use Rattle.std.specs.Prelude.{IfNone}
use Rattle.boxes.specs.Sums.{sum_to}
use Rattle.map_canvas.proofs.Filling.{fits_small}
use Rattle.match_error.specs.Errors.{error_sum, frame_error}
use Rattle.match_error.proofs.Bounds.{error_small, passed}
use Rattle.match_error.proofs.overlap.box_sum_within.Goals as goal

pub with_frame-requires-clause-small : goal.with_frame-requires-clause-small
with_frame-requires-clause-small c = fits_small c.args.canvas.now.map.size c.args.sample.now c.args.placement.now c.requires.fits c.map-map.ensures.canvas.map.small

pub returns-in_err-sum-clause-none : goal.returns-in_err-sum-clause-none
returns-in_err-sum-clause-none c =
    let m = c.args.canvas.now.map in
    let sample = c.args.sample.now in
    let placement = c.args.placement.now in
    let over : c.args.limit < error_sum m sample placement =
    omega (arith, passed c.args.limit 0 placement.rect.size.f c.loop-f.f (frame_error m sample placement) c.loop-f-test.true (omega (arith, c.in_err-sum.ensures.none, c.loop-f.invariant.sum))) in
    subst (λ found. IfNone found (c.args.limit < error_sum m sample placement)) (sym c.from_residual.ensures) over

pub returns-in_err-sum-clause-bound : goal.returns-in_err-sum-clause-bound
returns-in_err-sum-clause-bound c = error_small c.args.canvas.now.map c.args.sample.now c.args.placement.now c.map-map.ensures.canvas.map.small c.samples-sample.ensures.volume c.requires.fits

pub returns-clause-bound : goal.returns-clause-bound
returns-clause-bound c = error_small c.args.canvas.now.map c.args.sample.now c.args.placement.now c.map-map.ensures.canvas.map.small c.samples-sample.ensures.volume c.requires.fits

pub returns-clause-small : goal.returns-clause-small
returns-clause-small c =
    let whole : c.loop-f.f ≡ c.args.placement.now.rect.size.f = omega (arith, c.loop-f-test.false, c.loop-f.auto.f-end) in
    let sum = ap (λ n. sum_to n (frame_error c.args.canvas.now.map c.args.sample.now c.args.placement.now)) whole in
    omega (arith, returns-clause-bound c, c.loop-f.invariant.sum, sum)

pub loop-f-preserved : goal.loop-f-preserved
loop-f-preserved c = grind (arith, common_steps)

pub returns-clause-some : goal.returns-clause-some
returns-clause-some c = grind (arith, common_steps)

pub returns-in_err-sum-clause-some : goal.returns-in_err-sum-clause-some
returns-in_err-sum-clause-some c = grind (arith, common_steps)

pub returns-in_err-sum-clause-small : goal.returns-in_err-sum-clause-small
returns-in_err-sum-clause-small c = grind (arith, common_steps)

pub returns-in_err-sum-clause-most : goal.returns-in_err-sum-clause-most
returns-in_err-sum-clause-most c = grind (arith, common_steps)

pub with_frame-requires-clause-fronts : goal.with_frame-requires-clause-fronts
with_frame-requires-clause-fronts c = grind (arith, common_steps)

pub with_frame-requires-clause-count : goal.with_frame-requires-clause-count
with_frame-requires-clause-count c = grind (arith, common_steps)

pub returns-clause-most : goal.returns-clause-most
returns-clause-most c = grind (arith, common_steps)

pub with_frame-requires-clause-so_far : goal.with_frame-requires-clause-so_far
with_frame-requires-clause-so_far c = grind (arith, common_steps)

pub with_frame-requires-clause-fits : goal.with_frame-requires-clause-fits
with_frame-requires-clause-fits c = grind (arith, common_steps)

pub with_frame-requires-clause-inset : goal.with_frame-requires-clause-inset
with_frame-requires-clause-inset c = grind (arith, common_steps)

pub with_frame-requires-clause-filled : goal.with_frame-requires-clause-filled
with_frame-requires-clause-filled c = grind (arith, common_steps)

pub with_frame-requires-clause-over : goal.with_frame-requires-clause-over
with_frame-requires-clause-over c = grind (arith, common_steps)

pub with_frame-requires-clause-before : goal.with_frame-requires-clause-before
with_frame-requires-clause-before c = grind (arith, common_steps)
