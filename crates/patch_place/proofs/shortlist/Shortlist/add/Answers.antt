use Rattle.std.proofs.Common.{inl, sym, arith, ◌∙◌}
use Rattle.std.proofs.lemmas.Grind.{common_steps}
use Rattle.match_error.specs.Errors.{error_of}
use Rattle.patch_place.proofs.Shortlists.{past_for}
use Rattle.patch_place.proofs.shortlist.Shortlist.add.Goals as goal

pub returns-in-Some-error_sum_within-clause-more : goal.returns-in-Some-error_sum_within-clause-more
returns-in-Some-error_sum_within-clause-more c = grind (arith, common_steps)

pub returns-in-Some-clause-more : goal.returns-in-Some-clause-more
returns-in-Some-clause-more c = grind (arith, common_steps)

pub returns-in-None-clause-more : goal.returns-in-None-clause-more
returns-in-None-clause-more c = c.skip-in-None.ensures.more _ (past_for c.args.self.now c.count-count.result c.limit_for.result (error_of c.args.canvas.now.map c.args.sample.now c.args.placement.now) c.limit_for.ensures (sym c.count-count.ensures.count) (omega (arith, c.error_sum_within.ensures.bound)) c.in-None.ensures.none)

pub returns-then-count-eq0-clause-more : goal.returns-then-count-eq0-clause-more
returns-then-count-eq0-clause-more c = c.skip.ensures.more _ (inl (sym c.count-count.ensures.count ∙ c.if-count-eq0.true))
