use Rattle.std.proofs.lemmas.Result.{err_from_is_err_and}
use Rattle.synth_report.specs.declared.fault.Fault.TheVariants.{NoMemory}
use Rattle.command.proofs.Halves.{not_planned, planned}
use Rattle.loop_command.specs.Loops.{loop_command, loop_files, loop_summary}
use Rattle.loop_command.proofs.whole.loop_clip.Goals as goal

pub returns-in_err-looped : goal.returns-in_err-looped
returns-in_err-looped g c =
    let p = err_from_is_err_and c.from_residual.result c.from_residual.ensures.1 in
    rw (p.1, p.2) (not_planned (loop_command c.args.job.now) (g.S.Shelf.state c.args.shelf.now) (g.S.Shelf.state c.plan.new.shelf) c.plan.ensures.reads (g.O.Sink.state c.args.out.now) c.in_err-looped.field-0.0 (c.in_err-looped.ensures {u = tt}).planned)

pub write_loop-answer-requires-clause-made : goal.write_loop-answer-requires-clause-made
write_loop-answer-requires-clause-made g c = (c.in_ok-looped.ensures {u = tt}).made

pub returns : goal.returns
returns g c =
    let job = c.args.job.now in
    let looped = c.in_ok-looped.looped in
    planned (loop_command job) (loop_files job looped) (loop_summary job looped) (g.S.Shelf.state c.args.shelf.now) (g.S.Shelf.state c.plan.new.shelf) (g.S.Shelf.state c.write_loop-answer.new.shelf)
    (g.O.Sink.state c.args.out.now) (g.O.Sink.state c.write_loop-answer.new.out) c.plan.ensures.reads (c.in_ok-looped.ensures {u = tt}).planned c.write_loop-answer.ensures.writes c.write_loop-answer.result c.write_loop-answer.ensures.wrote

pub returns-in-Err : goal.returns-in-Err
returns-in-Err g c =
    not_planned (loop_command c.args.job.now) (g.S.Shelf.state c.args.shelf.now) (g.S.Shelf.state c.plan.new.shelf) c.plan.ensures.reads (g.O.Sink.state c.args.out.now) NoMemory tt
