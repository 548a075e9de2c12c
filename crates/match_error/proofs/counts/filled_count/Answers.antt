use Rattle.std.proofs.Common.{◌≡◌, ℕ, ap, sym, ◌∙◌, ◌+◌, ◌*◌, ◌≤◌, arith}
use Rattle.std.proofs.Math.Nat.{mul-le-mul_left}
use Rattle.cells.specs.Places.{plus, spot}
use Rattle.boxes.specs.Sums.{sum_to}
use Rattle.boxes.proofs.Additions.{counts}
use Rattle.boxes.proofs.Axes.{sum_more}
use Rattle.map_canvas.specs.Maps.{map_at}
use Rattle.match_error.specs.Errors.{one_filled}
use Rattle.match_error.proofs.Filled.{box_cells, no_columns}
use Rattle.match_error.proofs.counts.filled_count.Goals as goal

pub returns-then-rect-eq0-clause-count : goal.returns-then-rect-eq0-clause-count
returns-then-rect-eq0-clause-count c = no_columns c.args.canvas.now.map c.args.rect.now c.if-rect-eq0.true

pub overflow_add-count : goal.overflow_add-count
overflow_add-count c =
    let size = c.args.rect.now.size in
    let frames : size.h * (c.loop-f.f + 1) ≤ size.h * size.f = mul-le-mul_left size.h (omega (arith, c.loop-f-test.true)) in
    let cells : size.w * (size.h * (c.loop-f.f + 1)) ≤ size.w * (size.h * size.f) = mul-le-mul_left size.w frames in
    omega (arith, cells, c.loop-f.invariant.fits, c.frame_count-count.ensures.small, box_cells c.args.canvas.now.map.size c.args.rect.now c.requires.inside, c.map-map.ensures.canvas.map.small.cells)

pub returns-clause-count : goal.returns-clause-count
returns-clause-count c =
    let rect = c.args.rect.now in
    let frame = λ (f : ℕ). sum_to rect.size.h (λ y. sum_to rect.size.w (λ x. one_filled (map_at c.args.canvas.now.map (plus rect.corner (spot x y f))))) in
    let whole : c.loop-f.f ≡ c.args.rect.now.size.f = omega (arith, c.loop-f-test.false, c.loop-f.auto.f-end) in
    c.loop-f.invariant.count ∙ ap (λ n. sum_to n frame) whole

pub loop-f-preserved : goal.loop-f-preserved
loop-f-preserved c =
    let rect = c.args.rect.now in
    let frame = λ (f : ℕ). sum_to rect.size.h (λ y. sum_to rect.size.w (λ x. one_filled (map_at c.args.canvas.now.map (plus rect.corner (spot x y f))))) in
    record {
      count = (λ t. c.loop-f.invariant.count t + c.frame_count-count.ensures.count t) ∙ sym (sum_more counts c.loop-f.f frame);
      fits = omega (arith, c.loop-f.invariant.fits, c.frame_count-count.ensures.small);
    }

pub returns-clause-small : goal.returns-clause-small
returns-clause-small c =
    let size = c.args.rect.now.size in
    let whole : c.loop-f.f ≡ c.args.rect.now.size.f = omega (arith, c.loop-f-test.false, c.loop-f.auto.f-end) in
    omega (arith, c.loop-f.invariant.fits, ap (λ n. size.w * (size.h * n)) whole)
