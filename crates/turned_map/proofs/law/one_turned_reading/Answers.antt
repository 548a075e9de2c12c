use Rattle.turned_map.proofs.TurnedAgain.{not_refused, one_value, read_again}
use Rattle.turned_map.proofs.TurnedSpelled.{turned_spelled}
use Rattle.turned_map.proofs.law.one_turned_reading.Goals as goal

pub returns-clause-read_again : goal.returns-clause-read_again
returns-clause-read_again c = read_again

pub returns-clause-one_value : goal.returns-clause-one_value
returns-clause-one_value c = one_value

pub returns-clause-not_refused : goal.returns-clause-not_refused
returns-clause-not_refused c = not_refused

pub returns-clause-one_spelling : goal.returns-clause-one_spelling
returns-clause-one_spelling c = turned_spelled
