use Rattle.std.proofs.Common.{arith}
use Rattle.std.proofs.lemmas.Grind.{common_steps}
use Rattle.patch_picks.proofs.BoxLists.{cells_of_index}
use Rattle.patch_picks.proofs.candidates.place_in.Goals as goal

pub returns-clause-below : goal.returns-clause-below
returns-clause-below c = grind (arith, common_steps)

pub nonzero_div-result : goal.nonzero_div-result
nonzero_div-result c = (cells_of_index c.args.size c.args.i c.requires.below).w

pub nonzero_div-result-2 : goal.nonzero_div-result-2
nonzero_div-result-2 c = (cells_of_index c.args.size c.args.i c.requires.below).w

pub nonzero_div-result-3 : goal.nonzero_div-result-3
nonzero_div-result-3 c = (cells_of_index c.args.size c.args.i c.requires.below).h

pub nonzero_rem-result : goal.nonzero_rem-result
nonzero_rem-result c = (cells_of_index c.args.size c.args.i c.requires.below).w

pub nonzero_rem-result-2 : goal.nonzero_rem-result-2
nonzero_rem-result-2 c = (cells_of_index c.args.size c.args.i c.requires.below).h
