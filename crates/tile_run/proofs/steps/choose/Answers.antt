use Rattle.std.proofs.Common.{◌<◌, length, refl, sym, subst}
use Rattle.std.specs.Prelude.{All}
use Rattle.cells.specs.Boxes.{HoldsBox}
use Rattle.map_canvas.specs.Choices.{Fits}
use Rattle.patch_picks.specs.Lists.{fit_list, part_lists}
use Rattle.patch_picks.proofs.BoxLists.{all_in_room, some_room}
use Rattle.torus.specs.Tiles.{small_box}
use Rattle.torus.proofs.Choosing.{chosen_around}
use Rattle.torus.proofs.TileBoxes.{inner_holds}
use Rattle.tile_run.proofs.steps.choose.Goals as goal

pub pick_with-requires-clause-some : goal.pick_with-requires-clause-some
pick_with-requires-clause-some c =
    let sample = c.args.sample.now in
    let wrap = c.args.plan.now.wrap in
    let rect = c.args.rect.now in
    subst (λ r. 0 < length (part_lists (fit_list r) sample)) (sym c.small_box-inner.ensures) (some_room sample (small_box wrap rect) 1 sample.size refl c.requires.tile.room)

pub pick_with-requires-clause-fit : goal.pick_with-requires-clause-fit
pick_with-requires-clause-fit c =
    let sample = c.args.sample.now in
    let wrap = c.args.plan.now.wrap in
    let rect = c.args.rect.now in
    let small = c.in_ok-small.small.map in
    subst (λ r. All (Fits small.size sample) (part_lists (fit_list r) sample)) (sym c.small_box-inner.ensures)
    (all_in_room small.size sample (small_box wrap rect) c.requires.tile.some
    (subst (λ s. HoldsBox s (small_box wrap rect).corner (small_box wrap rect).size) (sym (c.in_ok-small.ensures {u = tt}).small.size) (inner_holds wrap c.args.canvas.now.map.size rect c.requires.tile.takes)))

pub returns-clause-chosen : goal.returns-clause-chosen
returns-clause-chosen c =
    let picked = c.in_ok-placement.ensures in
    let placed = c.in-Ok.ensures.placed in
    chosen_around c.args.plan.now c.args.canvas.now.map c.args.sample.now c.args.draws.now c.args.rect.now c.small_box-inner.result c.in_ok-small.small.map c.in_ok-placement.placement c.in-Ok.cut
    c.requires.tile.takes c.in_ok-small.ensures.small c.small_box-inner.ensures picked.picked picked.listed picked.fits placed.same_placement placed.choice_count placed.fewest
