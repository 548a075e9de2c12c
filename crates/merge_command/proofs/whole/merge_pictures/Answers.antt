use Rattle.std.proofs.lemmas.Result.{err_from_is_err_and}
use Rattle.command.proofs.Halves.{not_planned, planned}
use Rattle.merge_command.specs.MergeCommand.{merge_command, merge_files, merge_summary}
use Rattle.merge_command.proofs.whole.merge_pictures.Goals as goal

pub returns-in_err-made : goal.returns-in_err-made
returns-in_err-made g c =
    let p = err_from_is_err_and c.from_residual.result c.from_residual.ensures.1 in
    rw (p.1, p.2) (not_planned (merge_command c.args.job.now) (g.S.Shelf.state c.args.shelf.now) (g.S.Shelf.state c.plan.new.shelf) c.plan.ensures.reads (g.O.Sink.state c.args.out.now) c.in_err-made.field-0.0 (c.in_err-made.ensures {u = tt}).planned)

pub write_merge-answer-requires : goal.write_merge-answer-requires
write_merge-answer-requires g c = (c.in_ok-made.ensures {u = tt}).made

pub returns : goal.returns
returns g c =
    let job = c.args.job.now in
    let made = c.in_ok-made.made in
    planned (merge_command job) (merge_files job made) (merge_summary made) (g.S.Shelf.state c.args.shelf.now) (g.S.Shelf.state c.plan.new.shelf) (g.S.Shelf.state c.write_merge-answer.new.shelf)
    (g.O.Sink.state c.args.out.now) (g.O.Sink.state c.write_merge-answer.new.out) c.plan.ensures.reads (c.in_ok-made.ensures {u = tt}).planned c.write_merge-answer.ensures.writes c.write_merge-answer.result c.write_merge-answer.ensures.wrote
