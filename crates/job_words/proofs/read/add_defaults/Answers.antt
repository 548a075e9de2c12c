use Rattle.std.proofs.Common.{arith}
use Rattle.std.proofs.lemmas.Grind.{common_steps}
use Rattle.std.proofs.Common.{ap, sym, ◌∙◌}
use Rattle.std.proofs.lemmas.List.{append-nil}
use Rattle.job_words.proofs.Reading.{default_added}
use Rattle.job_words.proofs.read.add_defaults.Goals as goal
use Rattle.job_words.proofs.read.add_defaults.Goals.{in-Some+in_ok-add, in_default}

pub loop-row-preserved : goal.loop-row-preserved
loop-row-preserved c = elim c.match-default_of.branch [
  | in-Some+in_ok-add w ↦ default_added c.args.rows.now c.loop-row.row-index _ _ _ c.loop-row.settings.items _ c.loop-row-test.true (w.in-Some.ensures {u = tt}) c.loop-row.invariant (ap (λ v. v.items) w.settings-is ∙ w.in_ok-add.ensures {u = tt})
  | in_default w ↦ default_added c.args.rows.now c.loop-row.row-index _ _ _ c.loop-row.settings.items _ c.loop-row-test.true w.in_default.ensures c.loop-row.invariant (ap (λ v. v.items) w.settings-is ∙ sym (append-nil _))
]

pub returns : goal.returns
returns c = grind (arith, common_steps)
