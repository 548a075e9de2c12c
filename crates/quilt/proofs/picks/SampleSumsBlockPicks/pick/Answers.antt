use Rattle.std.proofs.Common.{◌≡◌, refl, ap, ◌∙◌, subst}
use Rattle.std.specs.Prelude.{All}
use Rattle.cells.specs.declared.place.Size.{Size}
use Rattle.map_canvas.specs.Choices.{Fits}
use Rattle.map_canvas.specs.Maps.{SourceMap}
use Rattle.patch_picks.specs.Lists.{fit_list, part_lists}
use Rattle.quilted.proofs.Picking.{picked_has_box}
use Rattle.quilt.proofs.picks.SampleSumsBlockPicks.pick.Goals as goal

pub pick_with-requires-clause-some : goal.pick_with-requires-clause-some
pick_with-requires-clause-some c = c.box_list_is_all_that_fit.ensures.some 1 c.args.sample.now.size refl c.requires.fits.room

pub pick_with-requires-clause-fit : goal.pick_with-requires-clause-fit
pick_with-requires-clause-fit c =
    let output : c.size.result ≡ c.args.canvas.now.map.size = c.size.ensures.size ∙ ap (λ (m : SourceMap). m.size) c.map.ensures.map in
    subst (λ (size : Size). All (Fits size c.args.sample.now) (part_lists (fit_list c.args.rect.now) c.args.sample.now)) output c.box_list_is_all_that_fit.ensures.fit

pub returns-clause-same : goal.returns-clause-same
returns-clause-same c = picked_has_box c.args.rect.now c.args.sample.now c.pick_with.result c.pick_with.ensures.listed
