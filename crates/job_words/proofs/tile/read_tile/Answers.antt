use Rattle.std.proofs.Common.{Err, ap, arith, inr, refl, ◌∙◌}
use Rattle.std.proofs.lemmas.Result.{err_from_is_err_and}
use Rattle.std.proofs.lemmas.Grind.{common_steps}
use Rattle.std.specs.Prelude.{Ok}
use Rattle.limits.specs.declared.bounds.TheConstants.{GREATEST_AXIS, GREATEST_OVERLAP, GREATEST_SEED, GREATEST_TOLERANCE}
use Rattle.job_words.specs.declared.keys.Key.TheVariants as key
use Rattle.job_words.specs.declared.table.Texts.TheVariants.{Wraps}
use Rattle.job_words.specs.Words.{value_at}
use Rattle.job_words.specs.declared.tile.TileJob.{TileJob}
use Rattle.job_words.specs.TileWords.{tile_rows}
use Rattle.job_words.proofs.Full.{number_within, numeric, position}
use Rattle.job_words.proofs.TileLawful.{tile_values, tile_lawful}
use Rattle.job_words.proofs.tile.read_tile.Goals as goal

pub size_at-size-requires : goal.size_at-size-requires
size_at-size-requires c = (tile_values tile_rows c.args.words.now _ c.deref-values.result.now refl (c.in_ok-settings.ensures {u = tt}).ok c.deref-values.ensures.value).size

pub two_names_at-requires-clause-first : goal.two_names_at-requires-clause-first
two_names_at-requires-clause-first c = (tile_values tile_rows c.args.words.now _ c.deref-values.result.now refl (c.in_ok-settings.ensures {u = tt}).ok c.deref-values.ensures.value).out

pub two_names_at-requires-clause-second : goal.two_names_at-requires-clause-second
two_names_at-requires-clause-second c = (tile_values tile_rows c.args.words.now _ c.deref-values.result.now refl (c.in_ok-settings.ensures {u = tt}).ok c.deref-values.ensures.value).map

pub name_at-requires : goal.name_at-requires
name_at-requires c = (tile_values tile_rows c.args.words.now _ c.deref-values.result.now refl (c.in_ok-settings.ensures {u = tt}).ok c.deref-values.ensures.value).sample

pub number_at-requires-4 : goal.number_at-requires-4
number_at-requires-4 c = numeric 0 GREATEST_SEED (value_at key.Seed c.deref-values.result.now) (tile_values tile_rows c.args.words.now _ c.deref-values.result.now refl (c.in_ok-settings.ensures {u = tt}).ok c.deref-values.ensures.value).seed

pub returns-clause-lawful : goal.returns-clause-lawful
returns-clause-lawful c =
    let job : TileJob = record { sample = c.in_ok-name_at.field-0; out = c.in_ok-out.out; map = c.in_ok-out.map; size = c.size_at-size.result; plan = _; seed = _ } in
    tile_lawful tile_rows c.args.words.now _ c.deref-values.result.now refl (c.in_ok-settings.ensures {u = tt}).ok c.deref-values.ensures.value job (Ok job) (grind (arith, common_steps)) (grind (arith, common_steps))

pub number_at-requires : goal.number_at-requires
number_at-requires c = numeric 1 GREATEST_AXIS (value_at key.Side c.deref-values.result.now) (tile_values tile_rows c.args.words.now _ c.deref-values.result.now refl (c.in_ok-settings.ensures {u = tt}).ok c.deref-values.ensures.value).side

pub overflow_cast-plan : goal.overflow_cast-plan
overflow_cast-plan c = omega (arith, number_within 1 GREATEST_AXIS (value_at key.Side c.deref-values.result.now) (tile_values tile_rows c.args.words.now _ c.deref-values.result.now refl (c.in_ok-settings.ensures {u = tt}).ok c.deref-values.ensures.value).side)

pub number_at-requires-2 : goal.number_at-requires-2
number_at-requires-2 c = numeric 0 GREATEST_OVERLAP (value_at key.Overlap c.deref-values.result.now) (tile_values tile_rows c.args.words.now _ c.deref-values.result.now refl (c.in_ok-settings.ensures {u = tt}).ok c.deref-values.ensures.value).overlap

pub overflow_cast-plan-2 : goal.overflow_cast-plan-2
overflow_cast-plan-2 c = omega (arith, number_within 0 GREATEST_OVERLAP (value_at key.Overlap c.deref-values.result.now) (tile_values tile_rows c.args.words.now _ c.deref-values.result.now refl (c.in_ok-settings.ensures {u = tt}).ok c.deref-values.ensures.value).overlap)

pub number_at-requires-3 : goal.number_at-requires-3
number_at-requires-3 c = numeric 0 GREATEST_TOLERANCE (value_at key.Tol c.deref-values.result.now) (tile_values tile_rows c.args.words.now _ c.deref-values.result.now refl (c.in_ok-settings.ensures {u = tt}).ok c.deref-values.ensures.value).tol

pub overflow_cast-plan-3 : goal.overflow_cast-plan-3
overflow_cast-plan-3 c = omega (arith, number_within 0 GREATEST_TOLERANCE (value_at key.Tol c.deref-values.result.now) (tile_values tile_rows c.args.words.now _ c.deref-values.result.now refl (c.in_ok-settings.ensures {u = tt}).ok c.deref-values.ensures.value).tol)

pub nth_at-requires : goal.nth_at-requires
nth_at-requires c = (position Wraps (value_at key.Wrap c.deref-values.result.now) (tile_values tile_rows c.args.words.now _ c.deref-values.result.now refl (c.in_ok-settings.ensures {u = tt}).ok c.deref-values.ensures.value).wrap).0

pub wrap_nth-requires : goal.wrap_nth-requires
wrap_nth-requires c = omega (arith, (position Wraps (value_at key.Wrap c.deref-values.result.now) (tile_values tile_rows c.args.words.now _ c.deref-values.result.now refl (c.in_ok-settings.ensures {u = tt}).ok c.deref-values.ensures.value).wrap).1)

pub returns-clause-exact : goal.returns-clause-exact
returns-clause-exact c = grind (arith, common_steps)

pub returns-in-Some-clause-exact : goal.returns-in-Some-clause-exact
returns-in-Some-clause-exact c = grind (arith, common_steps)

pub returns-in_err-name_at-clause-exact : goal.returns-in_err-name_at-clause-exact
returns-in_err-name_at-clause-exact c =
    let p = err_from_is_err_and c.from_residual-in_err-name_at.result c.from_residual-in_err-name_at.ensures.1 in
    inr (p.1 ∙ ap Err p.2)

pub returns-in_err-out-clause-exact : goal.returns-in_err-out-clause-exact
returns-in_err-out-clause-exact c =
    let p = err_from_is_err_and c.from_residual-in_err-out.result c.from_residual-in_err-out.ensures.1 in
    inr (p.1 ∙ ap Err p.2)
