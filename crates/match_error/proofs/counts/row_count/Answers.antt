use Rattle.std.proofs.lemmas.Grind.{common_steps}
use Rattle.std.proofs.Common.{arith, ◌∙◌, ◌/◌, ◌≤◌, ap, subst, sym}
use Rattle.std.specs.Prelude.{sum}
use Rattle.match_error.proofs.Overlaps.{row_short}
use Rattle.cells.specs.Cells.{row_at}
use Rattle.map_canvas.specs.Canvases.{filled_marks}
use Rattle.match_error.proofs.Filled.{row_at_most, row_marks}
use Rattle.match_error.proofs.counts.row_count.Goals as goal

pub returns-clause-count : goal.returns-clause-count
returns-clause-count c =
    let canvas = c.args.canvas.now in
    let rect = c.args.rect.now in
    (λ i. (c.mark_sum.ensures ∙ ap sum (c.filled_row.ensures.marks ∙ (λ j. row_at (filled_marks canvas.map canvas.picture.k) (c.row_start-at.ensures j) rect.size.w))) i
    / (c.samples-samples.ensures.samples ∙ (λ j. (c.picture.ensures.picture j).k)) i)
    ∙ row_marks canvas.map canvas.picture.k rect c.args.y c.args.f c.picture.ensures.canvas.map c.picture.ensures.canvas.picture.samples.0 c.requires.inside c.requires.counts.0 c.requires.counts.1 c.requires.counts.2

pub returns-clause-small : goal.returns-clause-small
returns-clause-small c =
    subst (λ n. n ≤ c.args.rect.now.size.w) (sym (returns-clause-count c)) (row_at_most c.args.canvas.now.map c.args.rect.now c.args.y c.args.f)

pub mark_sum-requires : goal.mark_sum-requires
mark_sum-requires c = omega (arith, c.filled_row.ensures.len, row_short c.args.canvas.now c.args.rect.now c.picture.ensures.canvas c.requires.inside)

pub filled_row-requires-clause-room : goal.filled_row-requires-clause-room
filled_row-requires-clause-room c = grind (arith, common_steps)

pub row_start-at-requires-clause-fits : goal.row_start-at-requires-clause-fits
row_start-at-requires-clause-fits c = grind (arith, common_steps)

pub row_start-at-requires-clause-counts : goal.row_start-at-requires-clause-counts
row_start-at-requires-clause-counts c = grind (arith, common_steps)
