use Rattle.std.proofs.lemmas.Grind.{common_steps}
use Rattle.std.proofs.Common.{ℕ, ◌+◌, sym, ◌∙◌, arith}
use Rattle.cells.specs.Places.{plus, spot}
use Rattle.boxes.specs.Sums.{sum_to}
use Rattle.boxes.proofs.Additions.{counts}
use Rattle.boxes.proofs.Axes.{sum_more}
use Rattle.map_canvas.specs.Maps.{map_at}
use Rattle.match_error.specs.Errors.{one_filled}
use Rattle.match_error.proofs.counts.frame_count.Goals as goal

pub loop-y-preserved : goal.loop-y-preserved
loop-y-preserved c =
    let rect = c.args.rect.now in
    let row = λ (y : ℕ). sum_to rect.size.w (λ x. one_filled (map_at c.args.canvas.now.map (plus rect.corner (spot x y c.args.f)))) in
    record {
      count = (λ t. c.loop-y.invariant.count t + c.row_count-count.ensures.count t) ∙ sym (sum_more counts c.loop-y.y row);
      fits = omega (arith, c.loop-y.invariant.fits, c.row_count-count.ensures.small);
    }

pub returns-clause-count : goal.returns-clause-count
returns-clause-count c = grind (arith, common_steps)

pub returns-clause-small : goal.returns-clause-small
returns-clause-small c = grind (arith, common_steps)
