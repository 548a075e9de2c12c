use Rattle.std.proofs.Common.{◌≡◌, ◌++◌, ap, sym, subst, ◌∙◌, arith, length}
use Rattle.cells.specs.Places.{cell_count}
use Rattle.cells.proofs.BoxLaws.{box_small}
use Rattle.map_canvas.specs.Maps.{SourceMap}
use Rattle.boxes.specs.Pairs.{pairs_before}
use Rattle.boxes.proofs.Indices.{at_index_is, counts_below}
use Rattle.cells.specs.Boxes.{HoldsBox}
use Rattle.graph_place.specs.Parts.{flows_before, flows_from}
use Rattle.graph_place.specs.Records.{IsSolvedFor}
use Rattle.graph_place.proofs.Recording.{before_more, length-before}
use Rattle.graph_place.proofs.record.flows_of.Goals as goal

pub cells-i-end-requires : goal.cells-i-end-requires
cells-i-end-requires c = box_small c.args.canvas.now.map.size c.args.placement.now.rect.corner c.args.placement.now.rect.size c.map-map.ensures.canvas.map.small c.requires.cells c.requires.inside

pub loop-i-init : goal.loop-i-init
loop-i-init c = record {
  at = c.first-at.ensures.index c.args.placement.now.rect.size c.requires.cells;
  flows = c.in_ok-flows.ensures.items;
  room = omega (arith, c.in_ok-flows.ensures.exact, ap length c.as_slice.ensures, c.requires.solved.first.count, c.requires.solved.nodes.seam_nodes);
}

pub add_pairs-requires-clause-inside : goal.add_pairs-requires-clause-inside
add_pairs-requires-clause-inside c =
    let rect = c.args.placement.now.rect in
    subst (λ (m : SourceMap). HoldsBox m.size rect.corner rect.size) (sym c.map-map.ensures.map) c.requires.inside

pub add_pairs-requires-clause-solved : goal.add_pairs-requires-clause-solved
add_pairs-requires-clause-solved c = subst (λ (m : SourceMap). IsSolvedFor m c.args.placement.now c.args.places.now c.args.solved.now) (sym c.map-map.ensures.map) c.requires.solved

pub add_pairs-requires-clause-counts : goal.add_pairs-requires-clause-counts
add_pairs-requires-clause-counts c =
    let at = c.loop-i.at in
    counts_below c.args.placement.now.rect.size c.loop-i.i at.x at.y at.f c.loop-i.invariant.at (omega (arith, c.cells-i-end.ensures, c.loop-i-test.true))

pub add_pairs-requires-clause-small : goal.add_pairs-requires-clause-small
add_pairs-requires-clause-small c = box_small c.args.canvas.now.map.size c.args.placement.now.rect.corner c.args.placement.now.rect.size c.map-map.ensures.canvas.map.small c.requires.cells c.requires.inside

pub add_pairs-requires-clause-number : goal.add_pairs-requires-clause-number
add_pairs-requires-clause-number c =
    omega (
      arith,
      ap length c.loop-i.invariant.flows,
      length-before c.map-map.result.now c.args.placement.now c.args.places.now c.args.solved.now.flow c.loop-i.i,
      ap (pairs_before c.args.placement.now.rect.size) c.loop-i.invariant.at.index,
    )

pub next-at-requires : goal.next-at-requires
next-at-requires c =
    let at = c.loop-i.at in
    counts_below c.args.placement.now.rect.size c.loop-i.i at.x at.y at.f c.loop-i.invariant.at (omega (arith, c.cells-i-end.ensures, c.loop-i-test.true))

pub loop-i-preserved : goal.loop-i-preserved
loop-i-preserved c =
    let m = c.map-map.result.now in
    let placement = c.args.placement.now in
    let flows = c.args.solved.now.flow in
    let at = c.loop-i.at in
    record {
      at = c.next-at.ensures c.loop-i.i c.loop-i.invariant.at;
      flows =
          c.add_pairs.ensures.flows
          ∙ ap (λ fs. fs ++ flows_from m placement c.args.places.now flows at.x at.y at.f) c.loop-i.invariant.flows
          ∙ ap (λ more. flows_before m placement c.args.places.now flows c.loop-i.i ++ more) (sym (at_index_is placement.rect.size (flows_from m placement c.args.places.now flows) c.loop-i.i at.x at.y at.f c.loop-i.invariant.at))
          ∙ sym (before_more m placement c.args.places.now flows c.loop-i.i);
      room = c.add_pairs.ensures.room;
    }

pub returns : goal.returns
returns c =
    let end : c.loop-i.i ≡ cell_count c.args.placement.now.rect.size = omega (arith, c.cells-i-end.ensures, c.loop-i-test.false) in
    c.loop-i.invariant.flows ∙ (λ k. flows_before (c.map-map.ensures.map k) c.args.placement.now c.args.places.now c.args.solved.now.flow (end k))
