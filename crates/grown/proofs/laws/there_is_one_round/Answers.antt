use Rattle.grown.proofs.OneRound.{none_idle, one_round}
use Rattle.grown.proofs.laws.there_is_one_round.Goals as goal

pub returns-clause-one : goal.returns-clause-one
returns-clause-one c = one_round

pub returns-clause-idle : goal.returns-clause-idle
returns-clause-idle c = none_idle
