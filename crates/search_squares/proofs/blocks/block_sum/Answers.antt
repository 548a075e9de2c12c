use Rattle.std.proofs.Common.{◌≡◌, ◌*◌, ◌+◌, ℕ, ap, sym, subst, ◌∙◌, arith}
use Rattle.std.specs.Prelude.{sum}
use Rattle.boxes.specs.Sums.{sum_to}
use Rattle.cells.specs.Cells.{HasRun, row_at}
use Rattle.cells.specs.Places.{SumFits, plus, spot}
use Rattle.cells.proofs.PartBoxes.{inside_sum_fits}
use Rattle.boxes.proofs.Additions.{counts}
use Rattle.boxes.proofs.Axes.{sum_more}
use Rattle.search_squares.proofs.RowBytes.{row_short, rows_small}
use Rattle.search_squares.proofs.blocks.block_sum.Goals as goal

pub plus-requires : goal.plus-requires
plus-requires c =
    let y = c.loop-y.y in
    subst (SumFits c.args.at) (sym c.step_to.ensures)
    (inside_sum_fits c.args.picture.now c.samples-samples.ensures.volume c.args.at (spot 0 y 0) (c.requires.rows y c.loop-y-test.true).first)

pub row-row-requires : goal.row-row-requires
row-row-requires c =
    subst (λ p. HasRun c.args.picture.now p c.args.side) (sym (c.plus.ensures ∙ ap (plus c.args.at) c.step_to.ensures))
    (c.requires.rows c.loop-y.y c.loop-y-test.true)

pub byte_sum-requires : goal.byte_sum-requires
byte_sum-requires c = omega (arith, c.row-row.ensures.len, row_short c.args.side c.args.picture.now.k c.requires.few (omega (arith, c.loop-y-test.true)))

pub overflow_add-sum : goal.overflow_add-sum
overflow_add-sum c =
    omega (arith, rows_small c.args.side c.args.picture.now.k c.loop-y.y c.loop-y.sum _ c.from-sum.result c.requires.few c.loop-y-test.true c.loop-y.invariant.small c.row-row.ensures.len (omega (arith, c.from-sum.ensures, c.byte_sum.ensures.small)))

pub loop-y-preserved : goal.loop-y-preserved
loop-y-preserved c =
    let y = c.loop-y.y in
    let rows = λ (y : ℕ). sum (row_at c.args.picture.now (plus c.args.at (spot 0 y 0)) c.args.side) in
    record {
      so_far =
          (λ t. c.loop-y.invariant.so_far t + (c.from-sum.ensures ∙ c.byte_sum.ensures.sum ∙ ap sum (c.row-row.ensures.bytes ∙ ap (λ p. row_at c.args.picture.now p c.args.side) (c.plus.ensures ∙ ap (plus c.args.at) c.step_to.ensures))) t)
          ∙ sym (sum_more counts y rows);
      small = (rows_small c.args.side c.args.picture.now.k y c.loop-y.sum _ _ c.requires.few c.loop-y-test.true c.loop-y.invariant.small c.row-row.ensures.len (omega (arith, c.from-sum.ensures, c.byte_sum.ensures.small))).0;
    }

pub returns : goal.returns
returns c =
    let whole : c.loop-y.y ≡ c.args.side = omega (arith, c.loop-y-test.false, c.loop-y.auto.y-end) in
    c.loop-y.invariant.so_far ∙ ap (λ n. sum_to n (λ y. sum (row_at c.args.picture.now (plus c.args.at (spot 0 y 0)) c.args.side))) whole

pub overflow_cast-result : goal.overflow_cast-result
overflow_cast-result c =
    let whole : c.loop-y.y ≡ c.args.side = omega (arith, c.loop-y-test.false, c.loop-y.auto.y-end) in
    omega (arith, c.loop-y.invariant.small, c.requires.few, ap (λ n. 255 * (c.args.picture.now.k * c.args.side) * n) whole)
