use Rattle.std.proofs.Common.{arith, refl}
use Rattle.std.proofs.lemmas.Grind.{common_steps}
use Rattle.limits.specs.declared.bounds.TheConstants.{GREATEST_AXIS, GREATEST_OVERLAP, GREATEST_SAMPLE_NUMBER, GREATEST_SEED, GREATEST_TOLERANCE, MOST_ROUNDS}
use Rattle.job_words.specs.declared.keys.Key.TheVariants as key
use Rattle.job_words.specs.declared.table.Texts.TheVariants.{Places}
use Rattle.job_words.specs.Words.{value_at}
use Rattle.job_words.specs.TrialWords.{trial_rows}
use Rattle.job_words.proofs.Full.{number_within, numeric, position}
use Rattle.job_words.proofs.TrialLawful.{trial_lawful, trial_values}
use Rattle.job_words.proofs.trial.read_trial.Goals as goal

pub nth_at-requires : goal.nth_at-requires
nth_at-requires c = (position Places (value_at key.Place c.deref-values.result.now) (trial_values trial_rows c.args.words.now _ c.deref-values.result.now refl (c.in_ok-settings.ensures {u = tt}).ok c.deref-values.ensures.value).place).0

pub place_nth-requires : goal.place_nth-requires
place_nth-requires c = omega (arith, (position Places (value_at key.Place c.deref-values.result.now) (trial_values trial_rows c.args.words.now _ c.deref-values.result.now refl (c.in_ok-settings.ensures {u = tt}).ok c.deref-values.ensures.value).place).1)

pub number_at-requires : goal.number_at-requires
number_at-requires c = numeric 0 GREATEST_SAMPLE_NUMBER (value_at key.N c.deref-values.result.now) (trial_values trial_rows c.args.words.now _ c.deref-values.result.now refl (c.in_ok-settings.ensures {u = tt}).ok c.deref-values.ensures.value).n

pub overflow_cast-result : goal.overflow_cast-result
overflow_cast-result c = omega (arith, number_within 0 GREATEST_SAMPLE_NUMBER (value_at key.N c.deref-values.result.now) (trial_values trial_rows c.args.words.now _ c.deref-values.result.now refl (c.in_ok-settings.ensures {u = tt}).ok c.deref-values.ensures.value).n)

pub number_at-requires-2 : goal.number_at-requires-2
number_at-requires-2 c = numeric 1 GREATEST_AXIS (value_at key.Width c.deref-values.result.now) (trial_values trial_rows c.args.words.now _ c.deref-values.result.now refl (c.in_ok-settings.ensures {u = tt}).ok c.deref-values.ensures.value).width

pub overflow_cast-result-2 : goal.overflow_cast-result-2
overflow_cast-result-2 c = omega (arith, number_within 1 GREATEST_AXIS (value_at key.Width c.deref-values.result.now) (trial_values trial_rows c.args.words.now _ c.deref-values.result.now refl (c.in_ok-settings.ensures {u = tt}).ok c.deref-values.ensures.value).width)

pub number_at-requires-3 : goal.number_at-requires-3
number_at-requires-3 c = numeric 1 GREATEST_AXIS (value_at key.Height c.deref-values.result.now) (trial_values trial_rows c.args.words.now _ c.deref-values.result.now refl (c.in_ok-settings.ensures {u = tt}).ok c.deref-values.ensures.value).height

pub overflow_cast-result-3 : goal.overflow_cast-result-3
overflow_cast-result-3 c = omega (arith, number_within 1 GREATEST_AXIS (value_at key.Height c.deref-values.result.now) (trial_values trial_rows c.args.words.now _ c.deref-values.result.now refl (c.in_ok-settings.ensures {u = tt}).ok c.deref-values.ensures.value).height)

pub number_at-requires-4 : goal.number_at-requires-4
number_at-requires-4 c = numeric 1 GREATEST_AXIS (value_at key.Side c.deref-values.result.now) (trial_values trial_rows c.args.words.now _ c.deref-values.result.now refl (c.in_ok-settings.ensures {u = tt}).ok c.deref-values.ensures.value).side

pub overflow_cast-result-4 : goal.overflow_cast-result-4
overflow_cast-result-4 c = omega (arith, number_within 1 GREATEST_AXIS (value_at key.Side c.deref-values.result.now) (trial_values trial_rows c.args.words.now _ c.deref-values.result.now refl (c.in_ok-settings.ensures {u = tt}).ok c.deref-values.ensures.value).side)

pub number_at-requires-5 : goal.number_at-requires-5
number_at-requires-5 c = numeric 0 GREATEST_OVERLAP (value_at key.Overlap c.deref-values.result.now) (trial_values trial_rows c.args.words.now _ c.deref-values.result.now refl (c.in_ok-settings.ensures {u = tt}).ok c.deref-values.ensures.value).overlap

pub overflow_cast-result-5 : goal.overflow_cast-result-5
overflow_cast-result-5 c = omega (arith, number_within 0 GREATEST_OVERLAP (value_at key.Overlap c.deref-values.result.now) (trial_values trial_rows c.args.words.now _ c.deref-values.result.now refl (c.in_ok-settings.ensures {u = tt}).ok c.deref-values.ensures.value).overlap)

pub number_at-requires-6 : goal.number_at-requires-6
number_at-requires-6 c = numeric 0 GREATEST_TOLERANCE (value_at key.Tol c.deref-values.result.now) (trial_values trial_rows c.args.words.now _ c.deref-values.result.now refl (c.in_ok-settings.ensures {u = tt}).ok c.deref-values.ensures.value).tol

pub overflow_cast-result-6 : goal.overflow_cast-result-6
overflow_cast-result-6 c = omega (arith, number_within 0 GREATEST_TOLERANCE (value_at key.Tol c.deref-values.result.now) (trial_values trial_rows c.args.words.now _ c.deref-values.result.now refl (c.in_ok-settings.ensures {u = tt}).ok c.deref-values.ensures.value).tol)

pub number_at-requires-7 : goal.number_at-requires-7
number_at-requires-7 c = numeric 0 MOST_ROUNDS (value_at key.Rounds c.deref-values.result.now) (trial_values trial_rows c.args.words.now _ c.deref-values.result.now refl (c.in_ok-settings.ensures {u = tt}).ok c.deref-values.ensures.value).rounds

pub overflow_cast-result-7 : goal.overflow_cast-result-7
overflow_cast-result-7 c = omega (arith, number_within 0 MOST_ROUNDS (value_at key.Rounds c.deref-values.result.now) (trial_values trial_rows c.args.words.now _ c.deref-values.result.now refl (c.in_ok-settings.ensures {u = tt}).ok c.deref-values.ensures.value).rounds)

pub number_at-requires-8 : goal.number_at-requires-8
number_at-requires-8 c = numeric 0 GREATEST_SEED (value_at key.Seed c.deref-values.result.now) (trial_values trial_rows c.args.words.now _ c.deref-values.result.now refl (c.in_ok-settings.ensures {u = tt}).ok c.deref-values.ensures.value).seed

pub returns-clause-lawful : goal.returns-clause-lawful
returns-clause-lawful c = trial_lawful trial_rows c.args.words.now _ c.deref-values.result.now refl (c.in_ok-settings.ensures {u = tt}).ok c.deref-values.ensures.value _ (grind (arith, common_steps))

pub returns-clause-exact : goal.returns-clause-exact
returns-clause-exact c = grind (arith, common_steps)
