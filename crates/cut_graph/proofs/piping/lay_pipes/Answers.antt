use Rattle.std.proofs.Common.{◌≡◌, ◌∙◌, ℕ, refl, sym, arith, subst}
use Rattle.cells.specs.Places.{cell_count, raster_index}
use Rattle.cells.specs.declared.place.Axis.TheVariants.{X, Y, F}
use Rattle.boxes.proofs.Indices.{counts_below}
use Rattle.boxes.proofs.PairNumbers.{pairs_few}
use Rattle.boxes.specs.Pairs.{pairs_before}
use Rattle.cut_graph.specs.Plans.{HasNodes, IsPiped, IsPipedPast, before}
use Rattle.cut_graph.proofs.Laying.{none_piped, past_cell, plan_small}
use Rattle.cut_graph.proofs.piping.lay_pipes.Goals as goal

pub begin-requires-clause-pairs : goal.begin-requires-clause-pairs
begin-requires-clause-pairs c =
    let plan = c.args.plan.now in
    let size = plan.placement.rect.size in
    omega (arith, c.requires.plan.seams_count, pairs_few size (cell_count size), (plan_small plan c.requires.plan).cells)

pub loop-i-init : goal.loop-i-init
loop-i-init c =
    let plan = c.args.plan.now in
    let begun = c.in_ok-piping.ensures in
    record {
      at = c.first-at.ensures.index plan.placement.rect.size c.requires.plan.fits.some;
      piping = none_piped plan c.args.nodes _ c.in_ok-piping.piping c.requires.plan refl begun.0 begun.1 begun.2 begun.3;
    }

pub add_along-requires-clause-counts : goal.add_along-requires-clause-counts
add_along-requires-clause-counts c =
    let at = c.loop-i.at in
    counts_below c.args.plan.now.placement.rect.size c.loop-i.i at.x at.y at.f c.loop-i.invariant.at (omega (arith, c.loop-i-test.true, c.requires.plan.cells_count))

pub add_along-requires-in-loop-i-clause-counts : goal.add_along-requires-in-loop-i-clause-counts
add_along-requires-in-loop-i-clause-counts c =
    let at = c.loop-i.at in
    counts_below c.args.plan.now.placement.rect.size c.loop-i.i at.x at.y at.f c.loop-i.invariant.at (omega (arith, c.loop-i-test.true, c.requires.plan.cells_count))

pub add_along-requires-in-loop-i-2-clause-counts : goal.add_along-requires-in-loop-i-2-clause-counts
add_along-requires-in-loop-i-2-clause-counts c =
    let at = c.loop-i.at in
    counts_below c.args.plan.now.placement.rect.size c.loop-i.i at.x at.y at.f c.loop-i.invariant.at (omega (arith, c.loop-i-test.true, c.requires.plan.cells_count))

pub add_along-requires-clause-nodes : goal.add_along-requires-clause-nodes
add_along-requires-clause-nodes c = subst (HasNodes c.args.plan.now) (sym c.loop-i.invariant.piping.size) c.requires.nodes

pub add_along-requires-clause-so_far : goal.add_along-requires-clause-so_far
add_along-requires-clause-so_far c =
    let plan = c.args.plan.now in
    let size = plan.placement.rect.size in
    let piping = c.loop-i.piping in
    subst (λ (n : ℕ). IsPiped plan n (before plan (raster_index size c.loop-i.at.x c.loop-i.at.y c.loop-i.at.f)) (pairs_before size (raster_index size c.loop-i.at.x c.loop-i.at.y c.loop-i.at.f)) piping) (sym c.loop-i.invariant.piping.size)
    (subst (λ (i : ℕ). IsPiped plan c.args.nodes (before plan i) (pairs_before size i) piping) (sym c.loop-i.invariant.at.index) c.loop-i.invariant.piping)

pub add_along-requires-in-loop-i-clause-nodes : goal.add_along-requires-in-loop-i-clause-nodes
add_along-requires-in-loop-i-clause-nodes c = subst (HasNodes c.args.plan.now) (sym (c.add_along.ensures.size ∙ c.loop-i.invariant.piping.size)) c.requires.nodes

pub add_along-requires-in-loop-i-clause-so_far : goal.add_along-requires-in-loop-i-clause-so_far
add_along-requires-in-loop-i-clause-so_far c =
    let at = c.loop-i.at in
    subst (λ (n : ℕ). IsPipedPast c.args.plan.now n X at.x at.y at.f c.add_along.new.self) (sym c.add_along.ensures.size) c.add_along.ensures

pub add_along-requires-in-loop-i-2-clause-nodes : goal.add_along-requires-in-loop-i-2-clause-nodes
add_along-requires-in-loop-i-2-clause-nodes c = subst (HasNodes c.args.plan.now) (sym (c.add_along-in-loop-i.ensures.size ∙ c.add_along.ensures.size ∙ c.loop-i.invariant.piping.size)) c.requires.nodes

pub add_along-requires-in-loop-i-2-clause-so_far : goal.add_along-requires-in-loop-i-2-clause-so_far
add_along-requires-in-loop-i-2-clause-so_far c =
    let at = c.loop-i.at in
    subst (λ (n : ℕ). IsPipedPast c.args.plan.now n Y at.x at.y at.f c.add_along-in-loop-i.new.self) (sym c.add_along-in-loop-i.ensures.size) c.add_along-in-loop-i.ensures

pub next-at-requires : goal.next-at-requires
next-at-requires c =
    let at = c.loop-i.at in
    counts_below c.args.plan.now.placement.rect.size c.loop-i.i at.x at.y at.f c.loop-i.invariant.at (omega (arith, c.loop-i-test.true, c.requires.plan.cells_count))

pub loop-i-preserved : goal.loop-i-preserved
loop-i-preserved c =
    let plan = c.args.plan.now in
    let at = c.loop-i.at in
    let now = c.add_along-in-loop-i-2.new.self in
    let counts = counts_below plan.placement.rect.size c.loop-i.i at.x at.y at.f c.loop-i.invariant.at (omega (arith, c.loop-i-test.true, c.requires.plan.cells_count)) in
    let nodes : c.add_along-in-loop-i.new.self.network.nodes ≡ c.args.nodes = c.add_along-in-loop-i.ensures.size ∙ c.add_along.ensures.size ∙ c.loop-i.invariant.piping.size in
    record {
      at = c.next-at.ensures c.loop-i.i c.loop-i.invariant.at;
      piping = past_cell plan c.args.nodes at.x at.y at.f c.loop-i.i now counts c.loop-i.invariant.at.index (subst (λ n. IsPipedPast plan n F at.x at.y at.f now) nodes c.add_along-in-loop-i-2.ensures);
    }

pub returns : goal.returns
returns c =
    let plan = c.args.plan.now in
    let size = plan.placement.rect.size in
    let end : c.loop-i.i ≡ cell_count size = omega (arith, c.loop-i-test.false, c.requires.plan.cells_count) in
    subst (λ n. IsPiped plan c.args.nodes (before plan n) (pairs_before size n) c.loop-i.piping) end c.loop-i.invariant.piping
