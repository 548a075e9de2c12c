use Rattle.std.proofs.Common.{◌≡◌, arith, subst, sym}
use Rattle.std.proofs.lemmas.Grind.{common_steps}
use Rattle.std.proofs.lemmas.Result.{IfOk-weaker}
use Rattle.max_flow.specs.Levels.{IsClosed, level_of}
use Rattle.max_flow.proofs.solver.run_in.Goals as goal

pub invariant_of-graph : goal.invariant_of-graph
invariant_of-graph c = grind (arith, common_steps)

pub returns-clause-levels : goal.returns-clause-levels
returns-clause-levels c = grind (arith, common_steps)

pub returns-clause-closed : goal.returns-clause-closed
returns-clause-closed c =
    IfOk-weaker c.run.result _ _
    (λ _ closed zero. subst (λ pipes. IsClosed pipes c.run.new.backward c.run.new.levels) c.pipes-pipes.ensures.value
    (closed (subst (λ s. level_of c.run.new.levels s ≡ 0) (sym c.sink.ensures.value) zero)))
    c.run.ensures.closed

pub returns-clause-sink : goal.returns-clause-sink
returns-clause-sink c = grind (arith, common_steps)

pub link-requires-clause-empty : goal.link-requires-clause-empty
link-requires-clause-empty c = grind (arith, common_steps)

pub run-requires-clause-levels : goal.run-requires-clause-levels
run-requires-clause-levels c = grind (arith, common_steps)

pub returns-clause-carries : goal.returns-clause-carries
returns-clause-carries c = grind (arith, common_steps)

pub link-requires-clause-pipes : goal.link-requires-clause-pipes
link-requires-clause-pipes c = grind (arith, common_steps)

pub link-requires-clause-limit : goal.link-requires-clause-limit
link-requires-clause-limit c = grind (arith, common_steps)

pub overflow_cast-graph-2 : goal.overflow_cast-graph-2
overflow_cast-graph-2 c = omega arith

pub overflow_cast-graph : goal.overflow_cast-graph
overflow_cast-graph c = omega arith

pub run-requires-clause-carries : goal.run-requires-clause-carries
run-requires-clause-carries c = grind (arith, common_steps)

pub link-requires-clause-sized : goal.link-requires-clause-sized
link-requires-clause-sized c = grind (arith, common_steps)
