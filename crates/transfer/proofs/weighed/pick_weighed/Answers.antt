use Rattle.std.proofs.Common.{◌≡◌, refl, ap, ◌∙◌, subst}
use Rattle.std.specs.Prelude.{All}
use Rattle.cells.specs.declared.place.Size.{Size}
use Rattle.map_canvas.specs.Choices.{Fits}
use Rattle.map_canvas.specs.Maps.{SourceMap}
use Rattle.patch_picks.specs.Lists.{fit_list, part_lists}
use Rattle.transfer.proofs.Picking.{all_asked, picked_box, picked_by_target, picked_fits}
use Rattle.transfer.proofs.weighed.pick_weighed.Goals as goal

pub pick_by-placement-requires-clause-some : goal.pick_by-placement-requires-clause-some
pick_by-placement-requires-clause-some c = c.box_list_is_all_that_fit.ensures.some 1 c.args.sample.now.size refl c.requires.fits.room

pub pick_by-placement-requires-clause-ready : goal.pick_by-placement-requires-clause-ready
pick_by-placement-requires-clause-ready c = c.in_ok-errors.ensures.ready

pub pick_by-placement-requires-clause-asked : goal.pick_by-placement-requires-clause-asked
pick_by-placement-requires-clause-asked c =
    let output : c.size.result ≡ c.args.canvas.now.map.size = c.size.ensures.size ∙ ap (λ (m : SourceMap). m.size) c.map.ensures.map in
    let fit = subst (λ (size : Size). All (Fits size c.args.sample.now) (part_lists (fit_list c.args.rect.now) c.args.sample.now)) output c.box_list_is_all_that_fit.ensures.fit in
    all_asked c.args.alpha c.args.target.now c.args.rect.now c.args.canvas.now c.args.sample.now c.in_ok-errors.errors c.in_ok-errors.ensures fit

pub returns-clause-pick : goal.returns-clause-pick
returns-clause-pick c =
    let output : c.size.result ≡ c.args.canvas.now.map.size = c.size.ensures.size ∙ ap (λ (m : SourceMap). m.size) c.map.ensures.map in
    let fit = subst (λ (size : Size). All (Fits size c.args.sample.now) (part_lists (fit_list c.args.rect.now) c.args.sample.now)) output c.box_list_is_all_that_fit.ensures.fit in
    picked_by_target c.args.alpha c.args.target.now c.args.rect.now c.args.canvas.now c.args.sample.now c.in_ok-errors.errors c.in_ok-errors.ensures fit c.args.tol c.args.draws.now c.pick_by-placement.result c.pick_by-placement.ensures.picked

pub returns-clause-same : goal.returns-clause-same
returns-clause-same c =
    let output : c.size.result ≡ c.args.canvas.now.map.size = c.size.ensures.size ∙ ap (λ (m : SourceMap). m.size) c.map.ensures.map in
    let fit = subst (λ (size : Size). All (Fits size c.args.sample.now) (part_lists (fit_list c.args.rect.now) c.args.sample.now)) output c.box_list_is_all_that_fit.ensures.fit in
    picked_box c.args.alpha c.args.target.now c.args.rect.now c.args.canvas.now c.args.sample.now c.in_ok-errors.errors c.in_ok-errors.ensures fit c.pick_by-placement.result c.pick_by-placement.ensures.asked

pub returns-clause-fits : goal.returns-clause-fits
returns-clause-fits c =
    let output : c.size.result ≡ c.args.canvas.now.map.size = c.size.ensures.size ∙ ap (λ (m : SourceMap). m.size) c.map.ensures.map in
    let fit = subst (λ (size : Size). All (Fits size c.args.sample.now) (part_lists (fit_list c.args.rect.now) c.args.sample.now)) output c.box_list_is_all_that_fit.ensures.fit in
    picked_fits c.args.alpha c.args.target.now c.args.rect.now c.args.canvas.now c.args.sample.now c.in_ok-errors.errors c.in_ok-errors.ensures fit c.pick_by-placement.result c.pick_by-placement.ensures.asked
