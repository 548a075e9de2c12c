use Rattle.std.proofs.Common.{subst, sym}
use Rattle.patch_picks.specs.Counts.{AreVolumeParts}
use Rattle.patch_picks.proofs.Parts.{volume_parts}
use Rattle.patch_picks.proofs.candidates.parts_of.Goals as goal

pub returns-clause-parts : goal.returns-clause-parts
returns-clause-parts c = subst AreVolumeParts (sym c.sizes.ensures) (volume_parts c.args.sample.now c.samples-sample.ensures.volume)
