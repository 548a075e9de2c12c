use Rattle.std.proofs.Common.{Err, ap, arith, inr, refl, ◌∙◌}
use Rattle.std.proofs.lemmas.Result.{err_from_is_err_and}
use Rattle.std.proofs.lemmas.Grind.{common_steps}
use Rattle.job_words.specs.MergeWords.{merge_rows}
use Rattle.job_words.proofs.MergeLawful.{merge_values, merge_lawful}
use Rattle.job_words.proofs.merge.read_merge.Goals as goal

pub two_names_at-requires-clause-first : goal.two_names_at-requires-clause-first
two_names_at-requires-clause-first c = (merge_values merge_rows c.args.words.now _ c.deref-values.result.now refl (c.in_ok-settings.ensures {u = tt}).ok c.deref-values.ensures.value).sample

pub two_names_at-requires-clause-second : goal.two_names_at-requires-clause-second
two_names_at-requires-clause-second c = (merge_values merge_rows c.args.words.now _ c.deref-values.result.now refl (c.in_ok-settings.ensures {u = tt}).ok c.deref-values.ensures.value).marks

pub two_names_at-requires-2-clause-first : goal.two_names_at-requires-2-clause-first
two_names_at-requires-2-clause-first c = (merge_values merge_rows c.args.words.now _ c.deref-values.result.now refl (c.in_ok-settings.ensures {u = tt}).ok c.deref-values.ensures.value).out

pub two_names_at-requires-2-clause-second : goal.two_names_at-requires-2-clause-second
two_names_at-requires-2-clause-second c = (merge_values merge_rows c.args.words.now _ c.deref-values.result.now refl (c.in_ok-settings.ensures {u = tt}).ok c.deref-values.ensures.value).map

pub returns-clause-lawful : goal.returns-clause-lawful
returns-clause-lawful c = merge_lawful merge_rows c.args.words.now _ c.deref-values.result.now refl (c.in_ok-settings.ensures {u = tt}).ok c.deref-values.ensures.value _ (grind (arith, common_steps))

pub returns-clause-exact : goal.returns-clause-exact
returns-clause-exact c = grind (arith, common_steps)

pub returns-in_err-sample-clause-exact : goal.returns-in_err-sample-clause-exact
returns-in_err-sample-clause-exact c =
    let p = err_from_is_err_and c.from_residual-in_err-sample.result c.from_residual-in_err-sample.ensures.1 in
    inr (p.1 ∙ ap Err p.2)

pub returns-in_err-out-clause-exact : goal.returns-in_err-out-clause-exact
returns-in_err-out-clause-exact c =
    let p = err_from_is_err_and c.from_residual-in_err-out.result c.from_residual-in_err-out.ensures.1 in
    inr (p.1 ∙ ap Err p.2)

pub returns-in_err-more_at-clause-exact : goal.returns-in_err-more_at-clause-exact
returns-in_err-more_at-clause-exact c =
    let p = err_from_is_err_and c.from_residual-in_err-more_at.result c.from_residual-in_err-more_at.ensures.1 in
    inr (p.1 ∙ ap Err p.2)
