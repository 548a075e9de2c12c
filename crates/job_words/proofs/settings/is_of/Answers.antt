use Rattle.std.proofs.Common.{◌∙◌}
use Rattle.job_words.proofs.Comparing.{keys_compared}
use Rattle.job_words.proofs.settings.is_of.Goals as goal

pub returns : goal.returns
returns c = c.eq.ensures ∙ keys_compared c.args.setting.now.key c.args.key
