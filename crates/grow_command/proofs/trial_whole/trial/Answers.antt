use Rattle.std.proofs.Common.{[], subst, sym}
use Rattle.std.proofs.lemmas.Result.{err_from_is_err_and}
use Rattle.shelf_traits.proofs.FileLaws.{only_reads_same, only_writes_same}
use Rattle.command.specs.Outcomes.{Leaves}
use Rattle.command.proofs.Halves.{not_planned, planned}
use Rattle.grow_command.specs.Trials.{NotTried, trial_command}
use Rattle.grow_command.proofs.Trying.{trial_made, trial_not_made}
use Rattle.grow_command.proofs.trial_whole.trial.Goals as goal

pub returns : goal.returns
returns g c = λ shelf. planned (trial_command c.args.job.now) [] c.in_ok-summary.summary shelf shelf shelf (g.O.Sink.state c.args.out.now) (g.O.Sink.state c.report_run.new.out) (only_reads_same shelf)
    (trial_made c.args.job.now c.requires shelf c.in_ok-summary.summary (c.in_ok-summary.ensures {u = tt}).made) (only_writes_same shelf) c.report_run.result (c.report_run.ensures shelf)

pub returns-in_err-summary : goal.returns-in_err-summary
returns-in_err-summary g c = λ shelf.
    let job = c.args.job.now in
    let out = g.O.Sink.state c.args.out.now in
    let p = err_from_is_err_and c.from_residual.result c.from_residual.ensures.1 in
    subst (Leaves (trial_command job) shelf shelf out out) (sym p.1)
    (not_planned (trial_command job) shelf shelf (only_reads_same shelf) out p.0 (trial_not_made job shelf p.0 (subst (NotTried job) (sym p.2) (c.in_err-summary.ensures {u = tt}).failed)))
