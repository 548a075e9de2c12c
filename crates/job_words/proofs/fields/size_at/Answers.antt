use Rattle.std.proofs.Common.{arith}
use Rattle.limits.specs.declared.bounds.TheConstants.{GREATEST_AXIS}
use Rattle.job_words.specs.declared.keys.Key.TheVariants as key
use Rattle.job_words.specs.Words.{value_at}
use Rattle.job_words.proofs.Full.{number_within, numeric}
use Rattle.job_words.proofs.fields.size_at.Goals as goal

pub number_at-requires : goal.number_at-requires
number_at-requires c = numeric 1 GREATEST_AXIS (value_at key.Width c.args.settings.now) c.requires.width

pub overflow_cast-result : goal.overflow_cast-result
overflow_cast-result c = omega (arith, number_within 1 GREATEST_AXIS (value_at key.Width c.args.settings.now) c.requires.width)

pub number_at-requires-2 : goal.number_at-requires-2
number_at-requires-2 c = numeric 1 GREATEST_AXIS (value_at key.Height c.args.settings.now) c.requires.height

pub overflow_cast-result-2 : goal.overflow_cast-result-2
overflow_cast-result-2 c = omega (arith, number_within 1 GREATEST_AXIS (value_at key.Height c.args.settings.now) c.requires.height)

pub number_at-requires-3 : goal.number_at-requires-3
number_at-requires-3 c = numeric 1 GREATEST_AXIS (value_at key.Frames c.args.settings.now) c.requires.frames

pub overflow_cast-result-3 : goal.overflow_cast-result-3
overflow_cast-result-3 c = omega (arith, number_within 1 GREATEST_AXIS (value_at key.Frames c.args.settings.now) c.requires.frames)
