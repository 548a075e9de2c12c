use Rattle.std.proofs.lemmas.Result.{err_from_is_err_and}
use Rattle.command.proofs.Halves.{not_planned, planned}
use Rattle.quilt_command.specs.Transfers.{made_summary, transfer_command, transfer_files}
use Rattle.quilt_command.proofs.transfer_whole.transfer_picture.Goals as goal

pub returns-in_err-made : goal.returns-in_err-made
returns-in_err-made g c =
    let p = err_from_is_err_and c.from_residual.result c.from_residual.ensures.1 in
    rw (p.1, p.2) (not_planned (transfer_command c.args.job.now) (g.S.Shelf.state c.args.shelf.now) (g.S.Shelf.state c.plan.new.shelf) c.plan.ensures.reads (g.O.Sink.state c.args.out.now) c.in_err-made.field-0.0 (c.in_err-made.ensures {u = tt}).planned)

pub write-answer-requires : goal.write-answer-requires
write-answer-requires g c = (c.in_ok-made.ensures {u = tt}).made

pub returns : goal.returns
returns g c =
    let job = c.args.job.now in
    let made = c.in_ok-made.made in
    planned (transfer_command job) (transfer_files job made) (made_summary made) (g.S.Shelf.state c.args.shelf.now) (g.S.Shelf.state c.plan.new.shelf) (g.S.Shelf.state c.write-answer.new.shelf)
    (g.O.Sink.state c.args.out.now) (g.O.Sink.state c.write-answer.new.out) c.plan.ensures.reads (c.in_ok-made.ensures {u = tt}).planned c.write-answer.ensures.writes c.write-answer.result c.write-answer.ensures.wrote
