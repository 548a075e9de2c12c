use Rattle.std.proofs.lemmas.Grind.{common_steps}
use Rattle.std.proofs.Common.{◌≡◌, ◌<◌, ◌*◌, ◌^◌, length, sym, ◌∙◌, ap, arith}
use Rattle.std.specs.Prelude.{None, IfSome}
use Rattle.std.proofs.lemmas.List.Elements.{All-push}
use Rattle.frame_distance.specs.Tables.{entries_of}
use Rattle.frame_distance.specs.Steps.{step_cost, steps_of, step_at}
use Rattle.frame_distance.proofs.EntryLaws.{entries_of_more, entries_of-inside, length-entries_of}
use Rattle.frame_distance.proofs.StepLaws.{step_at-inside}
use Rattle.frame_distance.proofs.steps.filtered.Goals as goal

pub loop-k-preserved : goal.loop-k-preserved
loop-k-preserved c = record {
  so_far =
      rw (c.in_ok-push.ensures.items, c.step_cost-cost.ensures.cost, c.loop-k.invariant.so_far)
      (sym (entries_of_more c.frames-n.result (step_cost c.args.table.now c.args.taps c.args.gap) c.loop-k.k));
  below = rw c.in_ok-push.ensures.items (All-push (λ cost. IfSome cost (λ number. number < 2 ^ 46)) _ _ c.loop-k.invariant.below c.step_cost-cost.ensures.below);
}

-- all are made
costs_are : (c : goal.After-loop-k) → c.loop-k.costs.items ≡ entries_of c.args.table.now.frames (step_cost c.args.table.now c.args.taps c.args.gap) (c.args.table.now.frames * c.args.table.now.frames)
costs_are c =
    let whole : c.loop-k.k ≡ c.frames-n.result * c.frames-n.result = omega arith in
    c.loop-k.invariant.so_far ∙ ap (entries_of c.frames-n.result (step_cost c.args.table.now c.args.taps c.args.gap)) whole
    ∙ ap (λ n. entries_of n (step_cost c.args.table.now c.args.taps c.args.gap) (n * n)) c.frames-n.ensures.frames

pub invariant_of-result : goal.invariant_of-result
invariant_of-result c =
    let n = c.args.table.now.frames in
    record {
      frames = rw c.frames-n.ensures.frames c.frames-n.ensures.table.frames;
      whole =
          rw c.frames-n.ensures.frames
          (ap length (costs_are c) ∙ length-entries_of n (step_cost c.args.table.now c.args.taps c.args.gap) (n * n));
      below = c.loop-k.invariant.below;
    }

pub returns-clause-each : goal.returns-clause-each
returns-clause-each c = λ i j row column.
    let table = c.args.table.now in
    (λ t. step_at (record { frames = c.frames-n.ensures.frames t; costs = costs_are c t }) i j)
    ∙ step_at-inside (steps_of table c.args.taps c.args.gap) i j row column
    ∙ entries_of-inside table.frames (step_cost table c.args.taps c.args.gap) i j None row column

pub step_cost-cost-requires-clause-from : goal.step_cost-cost-requires-clause-from
step_cost-cost-requires-clause-from c = grind (arith, common_steps)

pub returns-clause-steps : goal.returns-clause-steps
returns-clause-steps c = grind (arith, common_steps)

pub loop-k-init : goal.loop-k-init
loop-k-init c = grind (arith, common_steps)

pub overflow_mul-k-end : goal.overflow_mul-k-end
overflow_mul-k-end c = grind (arith, common_steps)
