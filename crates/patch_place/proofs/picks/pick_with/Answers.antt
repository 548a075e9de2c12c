use Rattle.std.proofs.Common.{subst, sym, arith}
use Rattle.std.proofs.lemmas.Grind.{common_steps}
use Rattle.match_error.specs.Errors.{error_of}
use Rattle.patch_picks.specs.Picks.{IsPick, listed_on}
use Rattle.patch_picks.proofs.Counting.{slice_get-Contains}
use Rattle.patch_place.proofs.Known.{pick_of_short}
use Rattle.patch_place.proofs.picks.pick_with.Goals as goal

pub entry_for-requires-2-clause-below : goal.entry_for-requires-2-clause-below
entry_for-requires-2-clause-below c =
    let list = listed_on c.args.canvas.now c.args.sample.now c.args.list.now in
    (pick_of_short (error_of c.args.canvas.now.map c.args.sample.now) c.in-Some.tol list c.args.draws.now _ c.picked-i.result c.requires.some c.in_ok-short.ensures c.picked-i.ensures.picked).below

pub returns-clause-picked : goal.returns-clause-picked
returns-clause-picked c =
    let list = listed_on c.args.canvas.now c.args.sample.now c.args.list.now in
    let f = error_of c.args.canvas.now.map c.args.sample.now in
    subst (λ tol. IsPick f tol list c.args.draws.now c.entry_for-2.result) (sym c.in-Some.is)
    ((pick_of_short f c.in-Some.tol list c.args.draws.now _ c.picked-i.result c.requires.some c.in_ok-short.ensures c.picked-i.ensures.picked).picked c.entry_for-2.result c.entry_for-2.ensures.at)

pub returns-clause-listed : goal.returns-clause-listed
returns-clause-listed c = slice_get-Contains _ c.entry_for-2.result c.picked-i.result c.entry_for-2.ensures.at

pub picked-i-requires-clause-some : goal.picked-i-requires-clause-some
picked-i-requires-clause-some c = grind (arith, common_steps)

pub returns-in_default-clause-listed : goal.returns-in_default-clause-listed
returns-in_default-clause-listed c = slice_get-Contains _ c.entry_for.result c.below-i.result c.entry_for.ensures.at

pub returns-clause-fits : goal.returns-clause-fits
returns-clause-fits c = grind (arith, common_steps)

pub returns-in_default-clause-fits : goal.returns-in_default-clause-fits
returns-in_default-clause-fits c = grind (arith, common_steps)

pub returns-in_default-clause-picked : goal.returns-in_default-clause-picked
returns-in_default-clause-picked c = grind (arith, common_steps)
