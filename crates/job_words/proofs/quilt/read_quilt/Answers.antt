use Rattle.std.proofs.Common.{Err, ap, arith, inr, refl, ◌∙◌}
use Rattle.std.proofs.lemmas.Result.{err_from_is_err_and}
use Rattle.std.proofs.lemmas.Grind.{common_steps}
use Rattle.limits.specs.declared.bounds.TheConstants.{GREATEST_AXIS, GREATEST_OVERLAP, GREATEST_SEED, GREATEST_TOLERANCE}
use Rattle.job_words.specs.declared.keys.Key.TheVariants as key
use Rattle.job_words.specs.Words.{value_at}
use Rattle.job_words.specs.QuiltWords.{quilt_rows}
use Rattle.job_words.proofs.Full.{number_within, numeric}
use Rattle.job_words.proofs.QuiltLawful.{quilt_values, quilt_lawful}
use Rattle.job_words.proofs.quilt.read_quilt.Goals as goal

pub number_at-requires : goal.number_at-requires
number_at-requires c = numeric 1 GREATEST_AXIS (value_at key.Width c.deref-values.result.now) (quilt_values quilt_rows c.args.words.now _ c.deref-values.result.now refl (c.in_ok-settings.ensures {u = tt}).ok c.deref-values.ensures.value).width

pub overflow_cast-result : goal.overflow_cast-result
overflow_cast-result c = omega (arith, number_within 1 GREATEST_AXIS (value_at key.Width c.deref-values.result.now) (quilt_values quilt_rows c.args.words.now _ c.deref-values.result.now refl (c.in_ok-settings.ensures {u = tt}).ok c.deref-values.ensures.value).width)

pub number_at-requires-2 : goal.number_at-requires-2
number_at-requires-2 c = numeric 1 GREATEST_AXIS (value_at key.Height c.deref-values.result.now) (quilt_values quilt_rows c.args.words.now _ c.deref-values.result.now refl (c.in_ok-settings.ensures {u = tt}).ok c.deref-values.ensures.value).height

pub overflow_cast-result-2 : goal.overflow_cast-result-2
overflow_cast-result-2 c = omega (arith, number_within 1 GREATEST_AXIS (value_at key.Height c.deref-values.result.now) (quilt_values quilt_rows c.args.words.now _ c.deref-values.result.now refl (c.in_ok-settings.ensures {u = tt}).ok c.deref-values.ensures.value).height)

pub number_at-requires-3 : goal.number_at-requires-3
number_at-requires-3 c = numeric 1 GREATEST_AXIS (value_at key.Block c.deref-values.result.now) (quilt_values quilt_rows c.args.words.now _ c.deref-values.result.now refl (c.in_ok-settings.ensures {u = tt}).ok c.deref-values.ensures.value).block

pub overflow_cast-result-3 : goal.overflow_cast-result-3
overflow_cast-result-3 c = omega (arith, number_within 1 GREATEST_AXIS (value_at key.Block c.deref-values.result.now) (quilt_values quilt_rows c.args.words.now _ c.deref-values.result.now refl (c.in_ok-settings.ensures {u = tt}).ok c.deref-values.ensures.value).block)

pub number_at-requires-4 : goal.number_at-requires-4
number_at-requires-4 c = numeric 0 GREATEST_OVERLAP (value_at key.Overlap c.deref-values.result.now) (quilt_values quilt_rows c.args.words.now _ c.deref-values.result.now refl (c.in_ok-settings.ensures {u = tt}).ok c.deref-values.ensures.value).overlap

pub overflow_cast-result-4 : goal.overflow_cast-result-4
overflow_cast-result-4 c = omega (arith, number_within 0 GREATEST_OVERLAP (value_at key.Overlap c.deref-values.result.now) (quilt_values quilt_rows c.args.words.now _ c.deref-values.result.now refl (c.in_ok-settings.ensures {u = tt}).ok c.deref-values.ensures.value).overlap)

pub number_at-requires-5 : goal.number_at-requires-5
number_at-requires-5 c = numeric 0 GREATEST_TOLERANCE (value_at key.Tol c.deref-values.result.now) (quilt_values quilt_rows c.args.words.now _ c.deref-values.result.now refl (c.in_ok-settings.ensures {u = tt}).ok c.deref-values.ensures.value).tol

pub overflow_cast-result-5 : goal.overflow_cast-result-5
overflow_cast-result-5 c = omega (arith, number_within 0 GREATEST_TOLERANCE (value_at key.Tol c.deref-values.result.now) (quilt_values quilt_rows c.args.words.now _ c.deref-values.result.now refl (c.in_ok-settings.ensures {u = tt}).ok c.deref-values.ensures.value).tol)

pub number_at-requires-6 : goal.number_at-requires-6
number_at-requires-6 c = numeric 0 GREATEST_SEED (value_at key.Seed c.deref-values.result.now) (quilt_values quilt_rows c.args.words.now _ c.deref-values.result.now refl (c.in_ok-settings.ensures {u = tt}).ok c.deref-values.ensures.value).seed

pub names_at-requires : goal.names_at-requires
names_at-requires c = (quilt_values quilt_rows c.args.words.now _ c.deref-values.result.now refl (c.in_ok-settings.ensures {u = tt}).ok c.deref-values.ensures.value).names

pub returns-clause-lawful : goal.returns-clause-lawful
returns-clause-lawful c = quilt_lawful quilt_rows c.args.words.now _ c.deref-values.result.now refl (c.in_ok-settings.ensures {u = tt}).ok c.deref-values.ensures.value _ (grind (arith, common_steps))

pub returns-clause-exact : goal.returns-clause-exact
returns-clause-exact c = grind (arith, common_steps)

pub returns-in_err-names_at-clause-exact : goal.returns-in_err-names_at-clause-exact
returns-in_err-names_at-clause-exact c =
    let p = err_from_is_err_and c.from_residual-in_err-names_at.result c.from_residual-in_err-names_at.ensures.1 in
    inr (p.1 ∙ ap Err p.2)
