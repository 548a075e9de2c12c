use Rattle.std.proofs.Common.{arith, refl}
use Rattle.std.proofs.lemmas.Grind.{common_steps}
use Rattle.patch_place.proofs.Shortlists.{short_keep}
use Rattle.patch_place.proofs.shortlist.Shortlist.keep.Goals as goal

pub returns-clause-more : goal.returns-clause-more
returns-clause-more c =
    short_keep c.args.self.now _ (record { sum = c.args.error.now.sum; count = c.args.error.now.count; index = c.args.self.now.seen }) c.args.error.now c.in_ok-push.ensures.items refl refl refl refl refl c.better-self.ensures.best

pub returns-clause-sound : goal.returns-clause-sound
returns-clause-sound c = grind (arith, common_steps)
