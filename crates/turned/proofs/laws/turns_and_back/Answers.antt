use Rattle.turned.proofs.Turns.{turn_back, turn_inside, turn_outside, turn_there}
use Rattle.turned.proofs.laws.turns_and_back.Goals as goal

pub returns-clause-from_to : goal.returns-clause-from_to
returns-clause-from_to c = turn_back

pub returns-clause-to_from : goal.returns-clause-to_from
returns-clause-to_from c = turn_there

pub returns-clause-inside : goal.returns-clause-inside
returns-clause-inside c = λ t size p. (turn_inside t size p, turn_outside t size p)
