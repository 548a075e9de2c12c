use Rattle.std.proofs.lemmas.Result.{IfOk-weaker}
use Rattle.max_flow.specs.Solutions.{IsSolution}
use Rattle.graph_place.proofs.placing.solved_record.Goals as goal
use Rattle.graph_place.proofs.placing.solved_record.Goals.{In_ok-solved}

solution : (c : In_ok-solved) → IsSolution c.args.network.now c.in_ok-solved.solved.flow c.in_ok-solved.solved.source_side c.in_ok-solved.solved.value
solution c = record {
  flow = c.in_ok-solved.ensures.flow;
  value = c.in_ok-solved.ensures.value;
  cut = c.in_ok-solved.ensures.cut;
  capacity = c.in_ok-solved.ensures.capacity;
  greatest = c.in_ok-solved.ensures.greatest;
  least = c.in_ok-solved.ensures.least;
  smallest = c.in_ok-solved.ensures.smallest;
}

pub to_record-requires-clause-solved : goal.to_record-requires-clause-solved
to_record-requires-clause-solved c = c.requires.serves c.in_ok-solved.solved (solution (goal.at.to_record-requires-clause-solved c).In_ok-solved)

pub returns : goal.returns
returns c = IfOk-weaker c.to_record.result _ _ (λ cut gives. record {
  solved = c.in_ok-solved.solved;
  is = solution (goal.at.returns c).In_ok-solved;
  gives = gives;
}) c.to_record.ensures
