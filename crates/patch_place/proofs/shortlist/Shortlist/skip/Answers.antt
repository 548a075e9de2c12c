use Rattle.std.proofs.Common.{refl}
use Rattle.patch_place.proofs.Shortlists.{short_skip}
use Rattle.patch_place.proofs.shortlist.Shortlist.skip.Goals as goal

pub returns-clause-more : goal.returns-clause-more
returns-clause-more c = λ error past. short_skip c.args.self.now _ error refl refl refl refl refl past
