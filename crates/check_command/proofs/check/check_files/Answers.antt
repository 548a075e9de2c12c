use Rattle.std.proofs.Common.{[], subst}
use Rattle.std.proofs.lemmas.Result.{err_from_is_err_and}
use Rattle.shelf_traits.proofs.FileLaws.{only_writes_same}
use Rattle.command.specs.Writing.{WritesRun}
use Rattle.command.proofs.Halves.{not_planned, planned}
use Rattle.check_command.specs.Checks.{check_command, summary_of}
use Rattle.check_command.proofs.check.check_files.Goals as goal

pub returns : goal.returns
returns g c =
    let a = g.S.Shelf.state c.args.shelf.now in
    let b = g.S.Shelf.state c.judge_files.new.shelf in
    let out = g.O.Sink.state c.args.out.now in
    let out' = g.O.Sink.state c.report_run.new.out in
    planned (check_command c.args.job.now) [] (summary_of c.in_ok-verdict.verdict) a b b out out' c.judge_files.ensures.reads (c.in_ok-verdict.ensures {u = tt}).planned (only_writes_same b) c.report_run.result
    (subst (λ summary. WritesRun [] summary b b out out' c.report_run.result) c.summary_of.ensures (c.report_run.ensures b))

pub returns-in_err-verdict : goal.returns-in_err-verdict
returns-in_err-verdict g c =
    let p = err_from_is_err_and c.from_residual.result c.from_residual.ensures.1 in
    rw (p.1, p.2) (not_planned (check_command c.args.job.now) (g.S.Shelf.state c.args.shelf.now) (g.S.Shelf.state c.judge_files.new.shelf) c.judge_files.ensures.reads (g.O.Sink.state c.args.out.now) c.in_err-verdict.field-0.0 (c.in_err-verdict.ensures {u = tt}).planned)
