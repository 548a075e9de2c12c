use Rattle.std.proofs.lemmas.Grind.{common_steps}
use Rattle.std.proofs.Common.{◌≡◌, ◌<◌, List, All, refl, ap, subst, ◌∙◌, sym, arith, Bool, length, ⊎_elim}
use Rattle.std.proofs.lemmas.Bool.{cases_lt}
use Rattle.std.proofs.lemmas.List.{with_items_is, get_or_past}
use Rattle.max_flow.specs.declared.network.Pipe.{Pipe}
use Rattle.max_flow.specs.Networks.{IsPipeOf}
use Rattle.max_flow.specs.Flows.{is_in}
use Rattle.max_flow.specs.Residual.{AreResiduals, flows_of}
use Rattle.max_flow.specs.Levels.{level_of}
use Rattle.max_flow.proofs.Solving.{solution_at}
use Rattle.max_flow.proofs.solver.hand_out.Goals as goal

pub returns-clause-solved : goal.returns-clause-solved
returns-clause-solved c =
    let n = c.args.network.now in
    let levels = c.requires.levels.numbers in
    let flows_is : c.from_vec.result ≡ c.write_flows.new.flow = c.from_vec.ensures ∙ with_items_is c.in_ok-flow.flow c.write_flows.new.flow (omega (arith, c.write_flows.auto.flow, c.deref_mut.ensures.len)) in
    let sides_is : c.from_vec-2.result ≡ c.write_sides.new.sides = c.from_vec-2.ensures ∙ with_items_is c.in_ok-sides.sides c.write_sides.new.sides (omega (arith, c.write_sides.auto.sides, c.deref_mut-2.ensures.len)) in
    let at_sink : level_of c.args.levels.now c.sink.result ≡ 0 = omega (arith, c.if-levels-sink-gt0.false) in
    let sink : level_of c.args.levels.now n.sink ≡ 0 = subst (λ s. level_of c.args.levels.now s ≡ 0) c.sink.ensures.value at_sink in
    let source_in : n.source < n.nodes = ⊎_elim (λ lt. lt) (λ past. absurd (omega (arith, get_or_past c.args.levels.now n.source 0 (omega (arith, levels.sized, past)), levels.first))) (cases_lt n.source n.nodes) in
    solution_at n n.pipes n.nodes n.source n.sink c.args.backward.now c.args.levels.now c.from_vec.result c.from_vec-2.result c.args.value
    refl refl refl refl (subst (All (IsPipeOf n.nodes)) c.pipes-pipes.ensures.value c.pipes-pipes.ensures.sound) source_in
    c.requires.carries c.requires.levels (c.requires.closed sink) sink
    (flows_is ∙ c.write_flows.ensures ∙ ap (λ (p : List Pipe). flows_of p c.args.backward.now) c.pipes-pipes.ensures.value)
    (ap length sides_is ∙ omega (arith, c.write_sides.auto.sides, c.deref_mut-2.ensures.len, c.in_ok-sides.ensures.len, levels.sized))
    (λ k. ap (λ (sides : List Bool). is_in sides k) sides_is ∙ c.write_sides.ensures k)

pub write_flows-requires-clause-pipes : goal.write_flows-requires-clause-pipes
write_flows-requires-clause-pipes c = grind (arith, common_steps)

pub write_flows-requires-clause-residuals : goal.write_flows-requires-clause-residuals
write_flows-requires-clause-residuals c = subst (λ (pipes : List Pipe). AreResiduals pipes c.args.backward.now) (sym c.pipes-pipes.ensures.value) c.requires.carries.residuals

pub write_sides-requires : goal.write_sides-requires
write_sides-requires c = grind (arith, common_steps)

pub write_flows-requires-clause-sized : goal.write_flows-requires-clause-sized
write_flows-requires-clause-sized c = grind (arith, common_steps)
