use Rattle.sample_files.proofs.OneAnswer as once
use Rattle.sample_files.proofs.law.one_answer.Goals as goal

pub returns-clause-one_value : goal.returns-clause-one_value
returns-clause-one_value c = once.one_value

pub returns-clause-one_refusal : goal.returns-clause-one_refusal
returns-clause-one_refusal c = once.refused_once

pub returns-clause-not_both : goal.returns-clause-not_both
returns-clause-not_both c = once.not_both
