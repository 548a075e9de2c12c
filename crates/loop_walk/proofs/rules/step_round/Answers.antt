use Rattle.std.proofs.Common.{sym, ◌∙◌, ◌≡◌, ◌≤◌, arith, get_or, ⊎_elim, inl, inr}
use Rattle.std.specs.Prelude.{◌⊎◌}
use Rattle.frame_distance.specs.Steps.{step_at}
use Rattle.loop_walk.specs.Walks.{steps_round}
use Rattle.loop_walk.proofs.rules.step_round.Goals.{then-position-walk, else-position-walk}
use Rattle.loop_walk.proofs.CheckLaws.{no_step, step_from, step_inside, step_last}
use Rattle.loop_walk.proofs.rules.step_round.Goals as goal

pub returns-then-to-n-clause-cost : goal.returns-then-to-n-clause-cost
returns-then-to-n-clause-cost c =
    let from = c.from-from.ensures ∙ sym (step_from c.args.walk.now c.args.position c.requires) in
    let to : c.if-position-walk.to ≡ (get_or (steps_round c.args.walk.now) c.args.position (0, 0)).1 = elim c.if-position-walk.branch [
      | then-position-walk w ↦ w.to-is ∙ w.from-to.ensures ∙ sym (step_inside c.args.walk.now c.args.position w.if-position-walk.true)
      | else-position-walk w ↦ w.to-is ∙ w.from-to-else-position-walk.ensures ∙ sym (step_last c.args.walk.now c.args.position c.requires w.if-position-walk.false)
    ] in
    c.step.ensures.cost ∙ (λ k. step_at c.args.costs.now (from k) (to k))

pub returns-else-from-n-clause-cost : goal.returns-else-from-n-clause-cost
returns-else-from-n-clause-cost c =
    let costs = c.args.costs.now in
    let from = c.from-from.ensures ∙ sym (step_from c.args.walk.now c.args.position c.requires) in
    let to : c.if-position-walk.to ≡ (get_or (steps_round c.args.walk.now) c.args.position (0, 0)).1 = elim c.if-position-walk.branch [
      | then-position-walk w ↦ w.to-is ∙ w.from-to.ensures ∙ sym (step_inside c.args.walk.now c.args.position w.if-position-walk.true)
      | else-position-walk w ↦ w.to-is ∙ w.from-to-else-position-walk.ensures ∙ sym (step_last c.args.walk.now c.args.position c.requires w.if-position-walk.false)
    ] in
    let out : (costs.frames ≤ c.from-from.result) ⊎ (costs.frames ≤ c.if-position-walk.to) = ⊎_elim
    (λ to_out. inr (omega (arith, c.frames-n.ensures.frames, to_out.1))) (λ from_out. inl (omega (arith, c.frames-n.ensures.frames, from_out))) c.else-from-n.either in
    sym (no_step costs c.from-from.result c.if-position-walk.to out) ∙ (λ k. step_at costs (from k) (to k))
