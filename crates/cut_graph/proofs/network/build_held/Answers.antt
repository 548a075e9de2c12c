use Rattle.std.proofs.lemmas.Grind.{common_steps}
use Rattle.std.proofs.Common.{sym, subst, arith}
use Rattle.std.specs.Prelude.{option_copied}
use Rattle.cells.specs.Distances.{distance}
use Rattle.costs.specs.Lawful.{held_marks}
use Rattle.boxes.specs.Pairs.{pair_count}
use Rattle.cut_graph.specs.Building.{AreSeamNodes}
use Rattle.cut_graph.specs.Cuts.{IsNetworkOf}
use Rattle.cut_graph.proofs.Whole.{are_nodes, held_filled, is_network, sinks_unfilled}
use Rattle.cells.proofs.BoxLaws.{box_small}
use Rattle.cells.proofs.DistanceLaws.{distance_laws}
use Rattle.cut_graph.proofs.Cutting.{choices_are_cuts}
use Rattle.cut_graph.proofs.network.build_held.Goals as goal

pub number_cells-requires-clause-small : goal.number_cells-requires-clause-small
number_cells-requires-clause-small c =
    let m = c.args.canvas.now.map in
    let rect = c.args.placement.now.rect in
    box_small m.size rect.corner rect.size c.map-map.ensures.canvas.map.small c.requires.fits.some c.requires.fits.inside

pub number_seams-requires-clause-small : goal.number_seams-requires-clause-small
number_seams-requires-clause-small c =
    let m = c.args.canvas.now.map in
    let rect = c.args.placement.now.rect in
    box_small m.size rect.corner rect.size c.map-map.ensures.canvas.map.small c.requires.fits.some c.requires.fits.inside

pub number_seams-requires-clause-first : goal.number_seams-requires-clause-first
number_seams-requires-clause-first c =
    let numbering = c.in_ok-cells.ensures.numbering in
    let small = number_seams-requires-clause-small c in
    (omega (arith, numbering.order), omega (arith, numbering.short, c.in_ok-cells.ensures.count, small.cells))

pub lay-requires-clause-unfilled : goal.lay-requires-clause-unfilled
lay-requires-clause-unfilled c = sinks_unfilled c.args.canvas.now.map c.args.placement.now (held_marks (option_copied c.args.held)) c.in_ok-cells.cells c.in_ok-cells.ensures

pub returns : goal.returns
returns c =
    let d = distance c.args.sample.now in
    let m = c.args.canvas.now.map in
    let placement = c.args.placement.now in
    let marks = option_copied c.args.held in
    let cells = c.in_ok-cells.cells in
    let seams = c.in_ok-seams.seams in
    let piping = c.in_ok-piping.piping in
    let is_seams = subst (λ list. AreSeamNodes list placement.rect.size cells.next (pair_count placement.rect.size) seams) c.deref.ensures.value c.in_ok-seams.ensures in
    let nodes = are_nodes m placement (held_marks marks) cells seams piping.first.items c.requires.fits.some (held_filled m placement marks c.requires.held) c.in_ok-cells.ensures is_seams in
    let whole = is_network d m placement (held_marks marks) cells.nodes.items seams.nodes.items seams.next piping nodes c.in_ok-piping.ensures in
    let network = subst (IsNetworkOf d m placement (held_marks marks) piping.network)
    (λ k. record { cell_nodes = sym c.from_vec.ensures k; seam_nodes = sym c.from_vec-2.ensures k; pipes = sym c.from_vec-3.ensures k }) whole in
    record { network = network; cuts = choices_are_cuts d (distance_laws c.args.sample.now c.samples-samples.ensures.volume) m placement (held_marks marks) _ _ network }

pub lay-requires-clause-seams : goal.lay-requires-clause-seams
lay-requires-clause-seams c = grind (arith, common_steps)

pub lay-requires-clause-fits : goal.lay-requires-clause-fits
lay-requires-clause-fits c = c.requires.fits

pub number_cells-requires-clause-marks : goal.number_cells-requires-clause-marks
number_cells-requires-clause-marks c = grind (arith, common_steps)

pub lay-requires-clause-cells_count : goal.lay-requires-clause-cells_count
lay-requires-clause-cells_count c = grind (arith, common_steps)
