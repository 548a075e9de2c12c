use Rattle.std.proofs.lemmas.Result.{IfOk-weaker}
use Rattle.max_flow.proofs.solver.solve.Goals as goal

pub returns-clause-flow : goal.returns-clause-flow
returns-clause-flow c = IfOk-weaker c.solution.result _ _ (λ solved is. is.flow) c.solution.ensures

pub returns-clause-value : goal.returns-clause-value
returns-clause-value c = IfOk-weaker c.solution.result _ _ (λ solved is. is.value) c.solution.ensures

pub returns-clause-cut : goal.returns-clause-cut
returns-clause-cut c = IfOk-weaker c.solution.result _ _ (λ solved is. is.cut) c.solution.ensures

pub returns-clause-capacity : goal.returns-clause-capacity
returns-clause-capacity c = IfOk-weaker c.solution.result _ _ (λ solved is. is.capacity) c.solution.ensures

pub returns-clause-greatest : goal.returns-clause-greatest
returns-clause-greatest c = IfOk-weaker c.solution.result _ _ (λ solved is. is.greatest) c.solution.ensures

pub returns-clause-least : goal.returns-clause-least
returns-clause-least c = IfOk-weaker c.solution.result _ _ (λ solved is. is.least) c.solution.ensures

pub returns-clause-smallest : goal.returns-clause-smallest
returns-clause-smallest c = IfOk-weaker c.solution.result _ _ (λ solved is. is.smallest) c.solution.ensures
