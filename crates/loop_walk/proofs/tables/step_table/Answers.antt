use Rattle.std.proofs.lemmas.Grind.{common_steps}
use Rattle.std.proofs.Common.{◌≡◌, ◌*◌, ap, sym, ◌∙◌, arith}
use Rattle.frame_distance.specs.Tables.{entries_of}
use Rattle.frame_distance.proofs.EntryLaws.{entries_of_more}
use Rattle.loop_walk.specs.Products.{step_number, step_numbers}
use Rattle.loop_walk.proofs.StepTable.{step_table_is, unwrapped}
use Rattle.loop_walk.proofs.tables.step_table.Goals as goal

pub loop-k-preserved : goal.loop-k-preserved
loop-k-preserved c =
    rw (c.in_ok-push.ensures.items, c.unwrap_or.ensures ∙ unwrapped c.step-step.result ∙ ap step_number c.step-step.ensures.cost, c.loop-k.invariant)
    (sym (entries_of_more c.frames-n.result (step_numbers c.args.costs.now) c.loop-k.k))

pub returns : goal.returns
returns c =
    let whole : c.loop-k.k ≡ c.frames-n.result * c.frames-n.result = omega arith in
    step_table_is c.args.costs.now c.frames-n.ensures.steps c.loop-k.table.items
    (c.loop-k.invariant ∙ ap (entries_of c.frames-n.result (step_numbers c.args.costs.now)) whole
    ∙ ap (λ n. entries_of n (step_numbers c.args.costs.now) (n * n)) c.frames-n.ensures.frames)

pub step-step-requires-clause-from : goal.step-step-requires-clause-from
step-step-requires-clause-from c = grind (arith, common_steps)
