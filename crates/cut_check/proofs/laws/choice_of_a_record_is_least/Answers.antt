use Rattle.cut_check.proofs.Least.{record_is_least, stands_least_alone}
use Rattle.cut_check.proofs.laws.choice_of_a_record_is_least.Goals as goal

pub returns-clause-held : goal.returns-clause-held
returns-clause-held c = λ s marks stands. record_is_least s c.args.cut.now marks stands

pub returns-clause-alone : goal.returns-clause-alone
returns-clause-alone c = λ m sample stands. stands_least_alone m sample c.args.cut.now stands
