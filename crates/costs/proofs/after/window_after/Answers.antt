use Rattle.std.proofs.lemmas.Grind.{common_steps}
use Rattle.std.proofs.Common.{◌≡◌, ◌∙◌, ℕ, ap, arith, ◌<◌}
use Rattle.cells.specs.Distances.{distance}
use Rattle.cells.specs.Places.{cell_count}
use Rattle.cells.specs.Boxes.{cell_in}
use Rattle.boxes.specs.Sums.{sum_to}
use Rattle.boxes.proofs.Additions.{counts}
use Rattle.boxes.proofs.Axes.{sum_more}
use Rattle.boxes.proofs.Boxes.{box_counts}
use Rattle.map_canvas.specs.Maps.{SourceMap}
use Rattle.map_canvas.proofs.Filling.{fits_small}
use Rattle.costs.specs.Lawful.{window_after}
use Rattle.boxes.specs.Pairs.{at_index}
use Rattle.boxes.proofs.Indices.{at_index_is, counts_below}
use Rattle.costs.specs.Choosing.{within_after}
use Rattle.costs.specs.Costs.{pairs_at}
use Rattle.costs.proofs.after.window_after.Goals as goal

pub cells-i-end-requires : goal.cells-i-end-requires
cells-i-end-requires c =
    fits_small c.args.canvas.now.map.size c.args.sample.now c.args.placement.now c.requires.fits c.map-map.ensures.canvas.map.small

pub overflow_add-sum : goal.overflow_add-sum
overflow_add-sum c =
    let small = fits_small c.args.canvas.now.map.size c.args.sample.now c.args.placement.now c.requires.fits c.map-map.ensures.canvas.map.small in
    omega (arith, c.loop-i.invariant.fits, c.pairs_after.ensures.small, c.from-sum.ensures, c.cells-i-end.ensures, c.loop-i-test.true, small.cells)

pub loop-i-preserved : goal.loop-i-preserved
loop-i-preserved c =
    let rect = c.args.placement.now.rect in
    let i = c.loop-i.i in
    let at = c.loop-i.at in
    let g : ℕ → ℕ → ℕ → ℕ = λ x y f. pairs_at (distance c.args.sample.now) (within_after c.map-map.result.now c.args.placement.now c.args.choice.now) (cell_in rect x y f) in
    let same : at_index rect.size g i ≡ g at.x at.y at.f = at_index_is rect.size g i at.x at.y at.f c.loop-i.invariant.at in
    record {
      at = c.next-at.ensures i c.loop-i.invariant.at;
      sum = omega (arith, sum_more counts i (at_index rect.size g), c.loop-i.invariant.sum, same, c.pairs_after.ensures.cost, c.from-sum.ensures);
      fits = omega (arith, c.loop-i.invariant.fits, c.pairs_after.ensures.small, c.from-sum.ensures);
    }

pub returns : goal.returns
returns c =
    let rect = c.args.placement.now.rect in
    let g : ℕ → ℕ → ℕ → ℕ = λ x y f. pairs_at (distance c.args.sample.now) (within_after c.map-map.result.now c.args.placement.now c.args.choice.now) (cell_in rect x y f) in
    let end : c.loop-i.i ≡ cell_count rect.size = omega (arith, c.cells-i-end.ensures, c.loop-i-test.false) in
    c.loop-i.invariant.sum ∙ ap (λ n. sum_to n (at_index rect.size g)) end ∙ box_counts counts rect.size g
    ∙ ap (λ (m : SourceMap). window_after (distance c.args.sample.now) m c.args.placement.now c.args.choice.now) c.map-map.ensures.map

pub next-at-requires : goal.next-at-requires
next-at-requires c = grind (arith, common_steps)

pub pairs_after-requires-clause-counts : goal.pairs_after-requires-clause-counts
pairs_after-requires-clause-counts c =
    let size = c.args.placement.now.rect.size in
    let at = c.loop-i.at in
    let below : c.loop-i.i < cell_count size = omega (arith, c.loop-i-test.true, c.cells-i-end.ensures) in
    counts_below size c.loop-i.i at.x at.y at.f c.loop-i.invariant.at below
