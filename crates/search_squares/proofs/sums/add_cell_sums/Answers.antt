use Rattle.std.proofs.Common.{◌≡◌, ◌≤◌, ◌+◌, ◌*◌, ◌∙◌, take, drop, ap, sym, subst, arith}
use Rattle.std.proofs.Math.Nat.{mul-le-mul_left}
use Rattle.std.specs.Prelude.{sum}
use Rattle.cells.specs.Cells.{HasRun, row_at}
use Rattle.cells.specs.Places.{SumFits, plus}
use Rattle.match_error.proofs.RowPlaces.{row_in_volume}
use Rattle.search_squares.specs.Sums.{ArePut, IsCellSum}
use Rattle.search_squares.proofs.BlockRows.{cell_of_row}
use Rattle.search_squares.proofs.SumRows.{none_put, one_put}
use Rattle.search_squares.proofs.sums.add_cell_sums.Goals as goal

pub plus-requires : goal.plus-requires
plus-requires c =
    let rect = c.args.rect.now in
    let row = row_in_volume c.args.sample.now c.requires.volume rect.corner rect.size c.args.y c.args.f c.requires.inside c.requires.small.axes.w.0 c.requires.row.0 c.requires.row.1 in
    subst (SumFits rect.corner) (sym c.step_to.ensures) row.sum

pub row-row-requires : goal.row-row-requires
row-row-requires c =
    let rect = c.args.rect.now in
    let row = row_in_volume c.args.sample.now c.requires.volume rect.corner rect.size c.args.y c.args.f c.requires.inside c.requires.small.axes.w.0 c.requires.row.0 c.requires.row.1 in
    subst (λ p. HasRun c.args.sample.now p rect.size.w) (sym (c.plus.ensures ∙ ap (plus rect.corner) c.step_to.ensures)) row.run

pub cell_of-requires : goal.cell_of-requires
cell_of-requires c =
    let k = c.args.sample.now.k in
    let x = c.loop-x.x in
    omega (arith, ap (λ n. n * x + n) c.samples-k.ensures.samples, c.row-row.ensures.len, mul-le-mul_left k (let le : x + 1 ≤ c.args.rect.now.size.w = omega (arith, c.loop-x-test.true, c.loop-x.auto) in le))

pub byte_sum-requires : goal.byte_sum-requires
byte_sum-requires c = omega (arith, c.cell_of.ensures.long, c.samples-k.ensures.samples, c.requires.volume.samples)

pub loop-x-init : goal.loop-x-init
loop-x-init c = none_put (IsCellSum c.args.sample.now c.args.rect.now c.args.y c.args.f) c.args.sums.now.items

pub loop-x-preserved : goal.loop-x-preserved
loop-x-preserved c =
    let sample = c.args.sample.now in
    let rect = c.args.rect.now in
    let Is = IsCellSum sample rect c.args.y c.args.f in
    let was = c.args.sums.now.items in
    let x = c.loop-x.x in
    let bytes = c.row-row.ensures.bytes ∙ ap (λ p. row_at sample p rect.size.w) (c.plus.ensures ∙ ap (plus rect.corner) c.step_to.ensures) in
    let cell = c.cell_of.ensures.bytes ∙ (λ t. take (c.samples-k.ensures.samples t) (drop (c.samples-k.ensures.samples t * x) (bytes t)))
    ∙ cell_of_row sample c.requires.volume rect c.requires.inside x c.args.y c.args.f (omega (arith, c.loop-x-test.true, c.loop-x.auto)) c.requires.row.0 c.requires.row.1 in
    subst (λ now. ArePut Is (x + 1) was now) (sym c.in_ok-push.ensures.items)
    (one_put Is x was c.loop-x.sums.items _ c.loop-x.invariant
    (record {
      is = c.byte_sum.ensures.sum ∙ ap sum cell;
      small = omega (arith, c.byte_sum.ensures.small, c.cell_of.ensures.long, c.samples-k.ensures.samples);
    }))

pub returns : goal.returns
returns c =
    let Is = IsCellSum c.args.sample.now c.args.rect.now c.args.y c.args.f in
    let whole : c.loop-x.x ≡ c.args.rect.now.size.w = omega (arith, c.loop-x-test.false, c.loop-x.auto.x-end) in
    subst (λ n. ArePut Is n c.args.sums.now.items c.loop-x.sums.items) whole c.loop-x.invariant
