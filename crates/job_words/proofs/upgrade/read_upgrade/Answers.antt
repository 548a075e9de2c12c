use Rattle.std.proofs.Common.{Err, ap, arith, inr, refl, ◌∙◌}
use Rattle.std.proofs.lemmas.Result.{err_from_is_err_and}
use Rattle.std.proofs.lemmas.Grind.{common_steps}
use Rattle.job_words.specs.UpgradeWords.{upgrade_rows}
use Rattle.job_words.proofs.UpgradeLawful.{upgrade_values, upgrade_lawful}
use Rattle.job_words.proofs.upgrade.read_upgrade.Goals as goal

pub two_names_at-requires-clause-first : goal.two_names_at-requires-clause-first
two_names_at-requires-clause-first c = (upgrade_values upgrade_rows c.args.words.now _ c.deref-values.result.now refl (c.in_ok-settings.ensures {u = tt}).ok c.deref-values.ensures.value).map

pub two_names_at-requires-clause-second : goal.two_names_at-requires-clause-second
two_names_at-requires-clause-second c = (upgrade_values upgrade_rows c.args.words.now _ c.deref-values.result.now refl (c.in_ok-settings.ensures {u = tt}).ok c.deref-values.ensures.value).record_file

pub two_names_at-requires-2-clause-first : goal.two_names_at-requires-2-clause-first
two_names_at-requires-2-clause-first c = (upgrade_values upgrade_rows c.args.words.now _ c.deref-values.result.now refl (c.in_ok-settings.ensures {u = tt}).ok c.deref-values.ensures.value).new_map

pub two_names_at-requires-2-clause-second : goal.two_names_at-requires-2-clause-second
two_names_at-requires-2-clause-second c = (upgrade_values upgrade_rows c.args.words.now _ c.deref-values.result.now refl (c.in_ok-settings.ensures {u = tt}).ok c.deref-values.ensures.value).new_record_file

pub returns-clause-lawful : goal.returns-clause-lawful
returns-clause-lawful c = upgrade_lawful upgrade_rows c.args.words.now _ c.deref-values.result.now refl (c.in_ok-settings.ensures {u = tt}).ok c.deref-values.ensures.value _ (grind (arith, common_steps))

pub returns-clause-exact : goal.returns-clause-exact
returns-clause-exact c = grind (arith, common_steps)

pub returns-in_err-map-clause-exact : goal.returns-in_err-map-clause-exact
returns-in_err-map-clause-exact c =
    let p = err_from_is_err_and c.from_residual-in_err-map.result c.from_residual-in_err-map.ensures.1 in
    inr (p.1 ∙ ap Err p.2)

pub returns-in_err-new_map-clause-exact : goal.returns-in_err-new_map-clause-exact
returns-in_err-new_map-clause-exact c =
    let p = err_from_is_err_and c.from_residual-in_err-new_map.result c.from_residual-in_err-new_map.ensures.1 in
    inr (p.1 ∙ ap Err p.2)
