use Rattle.standing_files.proofs.Breaking.{breaks_none, one_broken_rule}
use Rattle.standing_files.proofs.laws.one_first_broken_rule.Goals as goal

pub returns-clause-none : goal.returns-clause-none
returns-clause-none c = breaks_none

pub returns-clause-one : goal.returns-clause-one
returns-clause-one c = one_broken_rule
