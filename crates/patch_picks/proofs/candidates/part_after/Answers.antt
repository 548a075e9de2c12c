use Rattle.patch_picks.proofs.Parts.{part_small}
use Rattle.patch_picks.proofs.candidates.part_after.Goals as goal

pub returns-clause-small : goal.returns-clause-small
returns-clause-small c = part_small c.args.sizes.now c.args.n c.at.result c.requires.parts c.at.ensures.size c.at.ensures.axes
