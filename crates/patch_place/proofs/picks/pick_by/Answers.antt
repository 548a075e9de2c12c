use Rattle.std.proofs.Common.{arith}
use Rattle.std.proofs.lemmas.Grind.{common_steps}
use Rattle.std.proofs.lemmas.List.Elements.{All-contains}
use Rattle.patch_place.specs.BoxErrors.{box_list}
use Rattle.patch_picks.proofs.Counting.{slice_get-Contains}
use Rattle.patch_place.proofs.Known.{pick_of_short}
use Rattle.patch_place.proofs.picks.pick_by.Goals as goal

pub box_entry-requires : goal.box_entry-requires
box_entry-requires g c =
    let list = box_list c.args.rect.now c.args.sample.now in
    (pick_of_short (g.E.BoxErrors.error c.args.errors.now) c.args.tol list c.args.draws.now _ c.picked-i.result c.requires.some c.in_ok-short.ensures c.picked-i.ensures.picked).below

pub returns-clause-picked : goal.returns-clause-picked
returns-clause-picked g c =
    let list = box_list c.args.rect.now c.args.sample.now in
    (pick_of_short (g.E.BoxErrors.error c.args.errors.now) c.args.tol list c.args.draws.now _ c.picked-i.result c.requires.some c.in_ok-short.ensures c.picked-i.ensures.picked).picked _ c.box_entry.ensures

pub returns-clause-listed : goal.returns-clause-listed
returns-clause-listed g c = slice_get-Contains (box_list c.args.rect.now c.args.sample.now) c.box_entry.result c.picked-i.result c.box_entry.ensures

pub returns-clause-asked : goal.returns-clause-asked
returns-clause-asked g c =
    All-contains (g.E.BoxErrors.MayAsk c.args.errors.now) (box_list c.args.rect.now c.args.sample.now) c.box_entry.result c.requires.asked (returns-clause-listed g c)

pub picked-i-requires-clause-some : goal.picked-i-requires-clause-some
picked-i-requires-clause-some g c = grind (arith, common_steps)
