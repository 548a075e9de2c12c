use Rattle.patch_place.proofs.Shortlists.{best_limit, known_limit}
use Rattle.patch_place.proofs.shortlist.Shortlist.limit_for.Goals as goal

pub returns-then-by_best-by_known : goal.returns-then-by_best-by_known
returns-then-by_best-by_known c = best_limit c.args.self.now c.args.count c.limit_by-by_best.result c.limit_by-by_best.ensures.sum c.limit_by-by_best.ensures.none

pub returns-else-by_best-by_known : goal.returns-else-by_best-by_known
returns-else-by_best-by_known c =
    known_limit c.args.self.now c.args.count c.limit_by-by_known.result c.requires.sound.known_low c.limit_by-by_known.ensures.sum c.limit_by-by_known.ensures.none
