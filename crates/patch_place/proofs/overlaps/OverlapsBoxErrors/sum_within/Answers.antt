use Rattle.std.proofs.Common.{sym, subst}
use Rattle.match_error.specs.Runs.{AreFilledRuns}
use Rattle.patch_place.proofs.overlaps.OverlapsBoxErrors.sum_within.Goals as goal

pub error_sum_within-requires-clause-cells : goal.error_sum_within-requires-clause-cells
error_sum_within-requires-clause-cells c = subst (λ r. AreFilledRuns c.args.self.now.canvas.now r c.args.self.now.runs) (sym c.requires.asked.box) c.requires.ready.runs
