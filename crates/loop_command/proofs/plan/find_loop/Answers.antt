use Rattle.std.proofs.Common.{◌≡◌, ◌∙◌, ap, subst}
use Rattle.std.proofs.lemmas.Result.{err_from_is_err_and}
use Rattle.std.specs.Prelude.{Some}
use Rattle.frame_distance.specs.Steps.{steps_of}
use Rattle.loop_walk.specs.declared.record.LoopError.TheVariants as error
use Rattle.loop_walk.specs.Walks.{BeginsFirst, HasNoWalk, IsLeastWalk, walk_cost}
use Rattle.loop_walk.specs.FirstWalks.{IsFirstWalk}
use Rattle.loop_walk.specs.Tables.{AreTightTables}
use Rattle.loop_walk.specs.Records.{WalkStands}
use Rattle.cert_file.specs.WalkForms.{AreWide}
use Rattle.loop_command.proofs.plan.find_loop.Goals as goal

pub returns-in_err-found-clause-no_loop : goal.returns-in_err-found-clause-no_loop
returns-in_err-found-clause-no_loop c =
    let job = c.args.job.now in
    let steps_are = (c.in_ok-costs.ensures {u = tt}).steps ∙ ap (λ table. steps_of table job.taps job.gap) (c.in_ok-table.ensures {u = tt}).table in
    let p = err_from_is_err_and c.from_residual-in_err-found.result c.from_residual-in_err-found.ensures.1 in
    rw (p.1, p.2) (subst (λ steps. c.in_err-found.field-0.0 ≡ error.NoLoop → HasNoWalk steps job.length) steps_are (c.in_err-found.ensures {u = tt}).no_loop)

pub returns-clause-found : goal.returns-clause-found
returns-clause-found c =
    let job = c.args.job.now in
    let steps_are = (c.in_ok-costs.ensures {u = tt}).steps ∙ ap (λ table. steps_of table job.taps job.gap) (c.in_ok-table.ensures {u = tt}).table in
    let made = c.in_ok-found.ensures {u = tt} in
    let found = c.in_ok-found.found in
    record {
      least = subst (λ steps. IsLeastWalk steps job.length found.walk) steps_are made.least;
      first = subst (λ steps. BeginsFirst steps job.length found.walk) steps_are made.first;
      one = subst (λ steps. IsFirstWalk steps job.length found.walk) steps_are made.one;
      cost = subst (λ steps. walk_cost steps found.walk ≡ Some found.cost) steps_are made.cost;
      tight = subst (λ steps. AreTightTables steps job.length found.tables) steps_are made.tight;
      stands = subst (λ steps. WalkStands steps found.walk found.tables) steps_are made.stands;
      wide = subst (λ walk. AreWide walk found.tables) c.as_slice.ensures (subst (λ tables. AreWide c.as_slice.result.now tables) c.as_slice-2.ensures c.are_wide.ensures);
    }
