use Rattle.std.proofs.Common.{arith}
use Rattle.std.proofs.lemmas.Grind.{common_steps}
use Rattle.std.proofs.Common.{refl}
use Rattle.patch_place.proofs.Shortlists.{unfilled_short}
use Rattle.patch_place.proofs.shortlist.Shortlist.begun.Goals as goal

pub returns-clause-short : goal.returns-clause-short
returns-clause-short c = λ errors all long. unfilled_short _ errors c.new.ensures.items refl long all

pub returns-clause-sound : goal.returns-clause-sound
returns-clause-sound c = grind (arith, common_steps)
