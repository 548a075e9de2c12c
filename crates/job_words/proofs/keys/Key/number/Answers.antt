use Rattle.job_words.proofs.Keyed.{unnumbered}
use Rattle.job_words.proofs.keys.Key.number.Goals as goal

pub returns-in_default : goal.returns-in_default
returns-in_default c = unnumbered c.args.self c.in_default.not-More
