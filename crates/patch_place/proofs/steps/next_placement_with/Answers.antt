use Rattle.std.proofs.Common.{arith}
use Rattle.std.proofs.lemmas.Grind.{common_steps}
use Rattle.patch_picks.specs.Fitting.{FitsAndCovers}
use Rattle.patch_picks.specs.Picks.{listed_on}
use Rattle.patch_picks.proofs.Counting.{All-slice_get}
use Rattle.patch_place.proofs.steps.next_placement_with.Goals as goal

pub returns : goal.returns
returns c = grind (arith, common_steps)

pub returns-in-Grid : goal.returns-in-Grid
returns-in-Grid c = (
  record {
    q = c.in-Some.q;
    first = grind (arith, common_steps);
    chosen = grind (arith, common_steps);
    fits = All-slice_get (FitsAndCovers c.args.canvas.now.map.size c.args.sample.now c.in-Some.q) (listed_on c.args.canvas.now c.args.sample.now c.candidates_for-list.result) 0 c.entry_for.result c.candidates_for-list.ensures.over c.entry_for.ensures.at;
  },
  grind (arith, common_steps),
)
