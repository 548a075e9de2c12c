use Rattle.y4m_clip.proofs.OneClip.{one_clip}
use Rattle.y4m_clip.proofs.OneRefusal.{one_refusal, not_both}
use Rattle.y4m_clip.proofs.ClipAgain.{read_again, written_is_read}
use Rattle.y4m_clip.proofs.law.one_reading.Goals as goal

pub returns-clause-one_clip : goal.returns-clause-one_clip
returns-clause-one_clip c = one_clip

pub returns-clause-one_refusal : goal.returns-clause-one_refusal
returns-clause-one_refusal c = one_refusal

pub returns-clause-not_both : goal.returns-clause-not_both
returns-clause-not_both c = not_both

pub returns-clause-read_again : goal.returns-clause-read_again
returns-clause-read_again c = read_again

pub returns-clause-written_is_read : goal.returns-clause-written_is_read
returns-clause-written_is_read c = written_is_read
