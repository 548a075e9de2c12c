use Rattle.std.proofs.Common.{ap, length, refl, sym, ◌∙◌, subst}
use Rattle.std.proofs.lemmas.Result.{err_from_is_err_and}
use Rattle.std.specs.Prelude.{IsSome}
use Rattle.cells.specs.Places.{HasAxes, IsInside}
use Rattle.torus.specs.Choosing.{placed_around}
use Rattle.torus.specs.Tiles.{IsAfterAround}
use Rattle.torus.proofs.Making.{step_made}
use Rattle.torus.proofs.TileBoxes.{tile_at}
use Rattle.tile_run.proofs.steps.next_tile_with.Goals as goal

pub tile_box-rect-requires-clause-output : goal.tile_box-rect-requires-clause-output
tile_box-rect-requires-clause-output c = subst HasAxes (sym (c.size-size.ensures.size ∙ ap (λ m. m.size) c.map.ensures.map)) c.map.ensures.canvas.map.small.axes

pub tile_box-rect-requires-clause-inside : goal.tile_box-rect-requires-clause-inside
tile_box-rect-requires-clause-inside c = subst (λ s. IsInside s c.in-Some.q) (sym (c.size-size.ensures.size ∙ ap (λ m. m.size) c.map.ensures.map)) c.in-Some.ensures.inside

pub choose-requires-clause-tile : goal.choose-requires-clause-tile
choose-requires-clause-tile c =
    (tile_at c.args.plan.now c.args.canvas.now.map.size c.args.sample.now c.in-Some.q c.size-size.result c.size.result c.tile_box-rect.result (c.size-size.ensures.size ∙ ap (λ m. m.size) c.map.ensures.map) c.size.ensures.size c.tile_box-rect.ensures
    c.map.ensures.canvas.map.small c.size.ensures.volume.small c.in-Some.ensures.inside c.requires.wide c.requires.side c.requires.cells).tile

pub returns-in_err-cut-clause-tiles : goal.returns-in_err-cut-clause-tiles
returns-in_err-cut-clause-tiles c =
    let p = err_from_is_err_and c.from_residual.result c.from_residual.ensures.1 in
    rw p.1 (subst IsSome (sym (sym c.first_unfilled.ensures.first ∙ c.in-Some.is)) refl, λ k. record { map = c.args.canvas.now.map; draws = c.in_err-cut.ensures.kept k })

pub put_around-requires-clause-takes : goal.put_around-requires-clause-takes
put_around-requires-clause-takes c =
    (tile_at c.args.plan.now c.args.canvas.now.map.size c.args.sample.now c.in-Some.q c.size-size.result c.size.result c.tile_box-rect.result (c.size-size.ensures.size ∙ ap (λ m. m.size) c.map.ensures.map) c.size.ensures.size c.tile_box-rect.ensures
    c.map.ensures.canvas.map.small c.size.ensures.volume.small c.in-Some.ensures.inside c.requires.wide c.requires.side c.requires.cells).tile.takes

pub put_around-requires-clause-fits : goal.put_around-requires-clause-fits
put_around-requires-clause-fits c = c.in_ok-cut.ensures.chosen.fits

pub put_around-requires-clause-choices : goal.put_around-requires-clause-choices
put_around-requires-clause-choices c = ap length c.as_slice.ensures ∙ c.in_ok-cut.ensures.chosen.choice_count

pub returns-clause-tiles : goal.returns-clause-tiles
returns-clause-tiles c =
    let at = tile_at c.args.plan.now c.args.canvas.now.map.size c.args.sample.now c.in-Some.q c.size-size.result c.size.result c.tile_box-rect.result (c.size-size.ensures.size ∙ ap (λ m. m.size) c.map.ensures.map) c.size.ensures.size c.tile_box-rect.ensures
    c.map.ensures.canvas.map.small c.size.ensures.volume.small c.in-Some.ensures.inside c.requires.wide c.requires.side c.requires.cells in
    let rect = c.tile_box-rect.result in
    let cut = c.in_ok-cut.cut in
    let m = c.args.canvas.now.map in (
      cut.choice,
      step_made c.args.plan.now c.args.sample.now c.args.canvas.now c.put_around.new.canvas c.args.draws.now c.choose.new.draws c.in-Some.q rect cut (sym c.first_unfilled.ensures.first ∙ c.in-Some.is) at.is_box at.tile at.covers
          c.in_ok-cut.ensures.chosen c.in_ok-cut.ensures.next c.map.ensures.canvas.map c.put_around.ensures.canvas.map
          (subst (λ choice. IsAfterAround m c.args.plan.now.wrap (placed_around rect cut.placement) choice c.put_around.new.canvas.map) c.as_slice.ensures c.put_around.ensures.after),
    )
