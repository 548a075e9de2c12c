use Rattle.std.proofs.Common.{Err, ap, arith, inr, refl, subst, sym, ◌∙◌}
use Rattle.std.proofs.lemmas.Result.{err_from_is_err_and}
use Rattle.std.proofs.lemmas.Grind.{common_steps}
use Rattle.job_words.specs.CheckWords.{check_rows}
use Rattle.job_words.specs.Names.{AreNames, name_list}
use Rattle.job_words.proofs.CheckLawful.{check_lawful, check_values}
use Rattle.job_words.proofs.check.read_check.Goals as goal

pub names_at-requires : goal.names_at-requires
names_at-requires c = (check_values check_rows c.args.words.now _ c.deref.result.now refl (c.in_ok-settings.ensures {u = tt}).ok c.deref.ensures.value).names

pub turns_at-turns-requires : goal.turns_at-turns-requires
turns_at-turns-requires c = (check_values check_rows c.args.words.now _ c.deref-2.result.now refl (c.in_ok-settings.ensures {u = tt}).ok c.deref-2.ensures.value).turns

pub returns-clause-lawful : goal.returns-clause-lawful
returns-clause-lawful c = record {
  names = subst (λ names. AreNames (name_list names)) (sym (c.in_ok-names.ensures {u = tt}))
      (check_lawful check_rows c.args.words.now _ c.deref.result.now refl (c.in_ok-settings.ensures {u = tt}).ok c.deref.ensures.value _ refl).names;
}

pub returns-clause-exact : goal.returns-clause-exact
returns-clause-exact c = grind (arith, common_steps)

pub returns-in_err-names-clause-exact : goal.returns-in_err-names-clause-exact
returns-in_err-names-clause-exact c =
    let p = err_from_is_err_and c.from_residual-in_err-names.result c.from_residual-in_err-names.ensures.1 in
    inr (p.1 ∙ ap Err p.2)
