use Rattle.std.proofs.Common.{◌≡◌, ◌+◌, ◌∙◌, ap, sym, length, subst, arith}
use Rattle.cells.specs.Places.{cell_count}
use Rattle.cells.specs.declared.place.Axis.TheVariants.{F}
use Rattle.boxes.proofs.Indices.{counts_below}
use Rattle.boxes.proofs.PairNumbers.{pairs_few, pairs_next}
use Rattle.boxes.specs.Pairs.{has_next, one_if, pair_number, pairs_before}
use Rattle.cut_graph.specs.Building.{AreSeamNodes}
use Rattle.cut_graph.proofs.AtPairs.{no_seams}
use Rattle.cut_graph.proofs.seam_nodes.number_seams.Goals as goal

pub loop-i-init : goal.loop-i-init
loop-i-init c =
    let axes = c.requires.small.axes in
    record {
      at = c.first-at.ensures.index c.args.size (record { w = axes.w.0; h = axes.h.0; f = axes.f.0 });
      seams = no_seams c.args.cells.now c.args.size c.args.first c.in_ok-seams.seams c.requires.first.0 c.in_ok-seams.ensures.items c.in_ok-seams.ensures.next;
      number = let nodes = c.in_ok-seams.seams.nodes in omega (arith, nodes.ok, ap length c.in_ok-seams.ensures.items);
      room = c.in_ok-seams.ensures.room ∙ c.pair_count.ensures;
    }

pub give_along-requires-clause-counts : goal.give_along-requires-clause-counts
give_along-requires-clause-counts c =
    let at = c.loop-i.at in
    counts_below c.args.size c.loop-i.i at.x at.y at.f c.loop-i.invariant.at (omega (arith, c.loop-i-test.true, c.requires.cells))

pub give_along-requires-in-loop-i-clause-counts : goal.give_along-requires-in-loop-i-clause-counts
give_along-requires-in-loop-i-clause-counts c =
    let at = c.loop-i.at in
    counts_below c.args.size c.loop-i.i at.x at.y at.f c.loop-i.invariant.at (omega (arith, c.loop-i-test.true, c.requires.cells))

pub give_along-requires-in-loop-i-2-clause-counts : goal.give_along-requires-in-loop-i-2-clause-counts
give_along-requires-in-loop-i-2-clause-counts c =
    let at = c.loop-i.at in
    counts_below c.args.size c.loop-i.i at.x at.y at.f c.loop-i.invariant.at (omega (arith, c.loop-i-test.true, c.requires.cells))

pub give_along-requires-clause-few : goal.give_along-requires-clause-few
give_along-requires-clause-few c =
    let seams = c.loop-i.invariant.seams in
    omega (arith, seams.numbering.short, seams.count, pairs_few c.args.size c.loop-i.i, c.requires.first, c.requires.small.cells, c.requires.cells)

pub give_along-requires-in-loop-i-clause-few : goal.give_along-requires-in-loop-i-clause-few
give_along-requires-in-loop-i-clause-few c =
    let seams = c.loop-i.invariant.seams in
    omega (arith, seams.numbering.short, seams.count, pairs_few c.args.size c.loop-i.i, c.requires.first, c.requires.small.cells, c.requires.cells, c.give_along.ensures.next)

pub give_along-requires-in-loop-i-2-clause-few : goal.give_along-requires-in-loop-i-2-clause-few
give_along-requires-in-loop-i-2-clause-few c =
    let seams = c.loop-i.invariant.seams in
    omega (arith, seams.numbering.short, seams.count, pairs_few c.args.size c.loop-i.i, c.requires.first, c.requires.small.cells, c.requires.cells, c.give_along.ensures.next, c.give_along-in-loop-i.ensures.next)

pub give_along-requires-clause-number : goal.give_along-requires-clause-number
give_along-requires-clause-number c = c.loop-i.invariant.number ∙ ap (pairs_before c.args.size) (sym c.loop-i.invariant.at.index)

pub next-at-requires : goal.next-at-requires
next-at-requires c =
    let at = c.loop-i.at in
    counts_below c.args.size c.loop-i.i at.x at.y at.f c.loop-i.invariant.at (omega (arith, c.loop-i-test.true, c.requires.cells))

pub loop-i-preserved : goal.loop-i-preserved
loop-i-preserved c =
    let at = c.loop-i.at in
    let size = c.args.size in
    let cells = c.args.cells.now in
    let first = c.args.first in
    let some = c.requires.first.0 in
    let counts = counts_below c.args.size c.loop-i.i at.x at.y at.f c.loop-i.invariant.at (omega (arith, c.loop-i-test.true, c.requires.cells)) in
    let begun = subst (λ i. AreSeamNodes cells size first (pairs_before size i) c.loop-i.seams) (sym c.loop-i.invariant.at.index) c.loop-i.invariant.seams in
    let one = c.give_along.ensures.seams first some begun in
    let two = c.give_along-in-loop-i.ensures.seams first some one in
    let number : pair_number size F at.x at.y at.f + one_if (has_next size F at.x at.y at.f) ≡ pairs_before size (c.loop-i.i + 1) =
    omega (arith, pairs_next size at.x at.y at.f counts, ap (λ i. pairs_before size (i + 1)) c.loop-i.invariant.at.index) in
    record {
      at = c.next-at.ensures c.loop-i.i c.loop-i.invariant.at;
      seams = subst (λ n. AreSeamNodes cells size first n c.give_along-in-loop-i-2.new.seams) number (c.give_along-in-loop-i-2.ensures.seams first some two);
      number = c.give_along-in-loop-i-2.ensures.number ∙ number;
      room = c.give_along-in-loop-i-2.ensures.room;
    }

pub returns : goal.returns
returns c =
    let size = c.args.size in
    let end : c.loop-i.i ≡ cell_count size = omega (arith, c.loop-i-test.false, c.requires.cells) in
    subst (λ n. AreSeamNodes c.args.cells.now size c.args.first (pairs_before size n) c.loop-i.seams) end c.loop-i.invariant.seams

pub give_along-requires-clause-cells : goal.give_along-requires-clause-cells
give_along-requires-clause-cells c = c.requires.cells

pub give_along-requires-in-loop-i-clause-cells : goal.give_along-requires-in-loop-i-clause-cells
give_along-requires-in-loop-i-clause-cells c = c.requires.cells

pub give_along-requires-in-loop-i-2-clause-cells : goal.give_along-requires-in-loop-i-2-clause-cells
give_along-requires-in-loop-i-2-clause-cells c = c.requires.cells
