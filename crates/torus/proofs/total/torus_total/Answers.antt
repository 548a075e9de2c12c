use Rattle.std.proofs.Common.{arith}
use Rattle.std.proofs.lemmas.Grind.{common_steps}
use Rattle.std.proofs.Common.{ap, ◌∙◌}
use Rattle.cells.specs.Distances.{distance}
use Rattle.cells.specs.Places.{spot}
use Rattle.map_canvas.specs.Maps.{map_at}
use Rattle.costs.specs.Costs.{pairs_of_box}
use Rattle.costs.proofs.Wholes.{pairs_whole}
use Rattle.torus.specs.Wraps.{map_around}
use Rattle.torus.proofs.total.torus_total.Goals as goal

pub returns : goal.returns
returns c =
    let d = distance c.args.sample.now in
    let m = c.args.canvas.now.map in
    let size = c.size.ensures.size ∙ ap (λ m. m.size) c.map-map.ensures.map in
    c.pairs_of_box.ensures
    ∙ (λ k. pairs_of_box d (map_around c.args.wrap.now (c.map-map.ensures.map k).size (map_at (c.map-map.ensures.map k))) (record { corner = spot 0 0 0; size = size k }))
    ∙ pairs_whole d m.size (map_around c.args.wrap.now m.size (map_at m))

pub pairs_of_box-requires : goal.pairs_of_box-requires
pairs_of_box-requires c = grind (arith, common_steps)
