use Rattle.netpbm_p6.proofs.OneReading.{one_picture, one_refusal, not_both}
use Rattle.netpbm_p6.proofs.ReadAgain.{read_again, written_is_read}
use Rattle.netpbm_p6.proofs.law.one_reading.Goals as goal

pub returns-clause-one_picture : goal.returns-clause-one_picture
returns-clause-one_picture c = one_picture

pub returns-clause-one_refusal : goal.returns-clause-one_refusal
returns-clause-one_refusal c = one_refusal

pub returns-clause-not_both : goal.returns-clause-not_both
returns-clause-not_both c = not_both

pub returns-clause-read_again : goal.returns-clause-read_again
returns-clause-read_again c = read_again

pub returns-clause-written_is_read : goal.returns-clause-written_is_read
returns-clause-written_is_read c = written_is_read
