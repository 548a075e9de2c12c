use Rattle.std.proofs.Common.{Err, ap, arith, inr, refl, ◌∙◌}
use Rattle.std.proofs.lemmas.Result.{err_from_is_err_and}
use Rattle.std.proofs.lemmas.Grind.{common_steps}
use Rattle.limits.specs.declared.bounds.TheConstants.{LONGEST_LOOP, WIDEST_GAP}
use Rattle.job_words.specs.declared.keys.Key.TheVariants as key
use Rattle.job_words.specs.Words.{value_at}
use Rattle.job_words.specs.LoopWords.{loop_rows}
use Rattle.job_words.proofs.Full.{number_within, numeric}
use Rattle.job_words.proofs.LoopLawful.{loop_values, loop_lawful}
use Rattle.job_words.proofs.loop_words.read_loop.Goals as goal

pub names_at-requires : goal.names_at-requires
names_at-requires c = (loop_values loop_rows c.args.words.now _ c.deref-values.result.now refl (c.in_ok-settings.ensures {u = tt}).ok c.deref-values.ensures.value).names

pub number_at-requires : goal.number_at-requires
number_at-requires c = numeric 1 LONGEST_LOOP (value_at key.Length c.deref-values.result.now) (loop_values loop_rows c.args.words.now _ c.deref-values.result.now refl (c.in_ok-settings.ensures {u = tt}).ok c.deref-values.ensures.value).frames

pub overflow_cast-result : goal.overflow_cast-result
overflow_cast-result c = omega (arith, number_within 1 LONGEST_LOOP (value_at key.Length c.deref-values.result.now) (loop_values loop_rows c.args.words.now _ c.deref-values.result.now refl (c.in_ok-settings.ensures {u = tt}).ok c.deref-values.ensures.value).frames)

pub number_at-requires-2 : goal.number_at-requires-2
number_at-requires-2 c =
    let taps = (loop_values loop_rows c.args.words.now _ c.deref-values.result.now refl (c.in_ok-settings.ensures {u = tt}).ok c.deref-values.ensures.value).taps in
    grind (arith, common_steps)

pub number_at-requires-3 : goal.number_at-requires-3
number_at-requires-3 c = numeric 1 WIDEST_GAP (value_at key.Gap c.deref-values.result.now) (loop_values loop_rows c.args.words.now _ c.deref-values.result.now refl (c.in_ok-settings.ensures {u = tt}).ok c.deref-values.ensures.value).gap

pub overflow_cast-result-2 : goal.overflow_cast-result-2
overflow_cast-result-2 c = omega (arith, number_within 1 WIDEST_GAP (value_at key.Gap c.deref-values.result.now) (loop_values loop_rows c.args.words.now _ c.deref-values.result.now refl (c.in_ok-settings.ensures {u = tt}).ok c.deref-values.ensures.value).gap)

pub returns-clause-lawful : goal.returns-clause-lawful
returns-clause-lawful c = loop_lawful loop_rows c.args.words.now _ c.deref-values.result.now refl (c.in_ok-settings.ensures {u = tt}).ok c.deref-values.ensures.value _ (grind (arith, common_steps))

pub returns-clause-exact : goal.returns-clause-exact
returns-clause-exact c = grind (arith, common_steps)

pub returns-in_err-names_at-clause-exact : goal.returns-in_err-names_at-clause-exact
returns-in_err-names_at-clause-exact c =
    let p = err_from_is_err_and c.from_residual-in_err-names_at.result c.from_residual-in_err-names_at.ensures.1 in
    inr (p.1 ∙ ap Err p.2)
