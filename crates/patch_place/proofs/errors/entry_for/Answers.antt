use Rattle.std.proofs.Common.{arith}
use Rattle.std.proofs.lemmas.Grind.{common_steps}
use Rattle.std.proofs.Common.{◌≡◌, Some, slice_get, subst, ◌∙◌}
use Rattle.map_canvas.specs.Choices.{Fits}
use Rattle.patch_picks.specs.Lists.{listed}
use Rattle.patch_picks.specs.Picks.{listed_on}
use Rattle.patch_picks.proofs.Counting.{All-slice_get}
use Rattle.patch_place.proofs.errors.entry_for.Goals as goal

pub returns-clause-fits : goal.returns-clause-fits
returns-clause-fits c =
    let list = listed_on c.args.canvas.now c.args.sample.now c.args.list.now in
    let at : slice_get list c.args.i ≡ Some c.entry.result = subst (λ size. slice_get (listed c.args.list.now size c.args.sample.now) c.args.i ≡ Some c.entry.result) (c.size.ensures.size ∙ (λ t. (c.map.ensures.map t).size)) c.entry.ensures in
    λ all. All-slice_get (Fits c.args.canvas.now.map.size c.args.sample.now) list c.args.i c.entry.result all at

pub entry-requires-clause-below : goal.entry-requires-clause-below
entry-requires-clause-below c = grind (arith, common_steps)
