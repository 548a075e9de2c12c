use Rattle.std.proofs.lemmas.Result.{err_from_is_err_and}
use Rattle.synth_report.specs.declared.fault.Fault.TheVariants.{NoMemory}
use Rattle.command.proofs.Halves.{not_planned, planned}
use Rattle.outputs.specs.Tilings.{tile_command, tile_files, tile_summary}
use Rattle.tile_command.proofs.whole.tile.Goals as goal

pub returns-in_err-made : goal.returns-in_err-made
returns-in_err-made g c =
    let p = err_from_is_err_and c.from_residual.result c.from_residual.ensures.1 in
    rw (p.1, p.2) (not_planned (tile_command c.args.job.now) (g.S.Shelf.state c.args.shelf.now) (g.S.Shelf.state c.plan.new.shelf) c.plan.ensures.reads (g.O.Sink.state c.args.out.now) c.in_err-made.field-0.0 (c.in_err-made.ensures {u = tt}).planned)

pub write_tiling-answer-requires-clause-made : goal.write_tiling-answer-requires-clause-made
write_tiling-answer-requires-clause-made g c = (c.in_ok-made.ensures {u = tt}).made

pub returns : goal.returns
returns g c =
    let job = c.args.job.now in
    let made = c.in_ok-made.made in
    planned (tile_command job) (tile_files job made) (tile_summary job made) (g.S.Shelf.state c.args.shelf.now) (g.S.Shelf.state c.plan.new.shelf) (g.S.Shelf.state c.write_tiling-answer.new.shelf)
    (g.O.Sink.state c.args.out.now) (g.O.Sink.state c.write_tiling-answer.new.out) c.plan.ensures.reads (c.in_ok-made.ensures {u = tt}).planned c.write_tiling-answer.ensures.writes c.write_tiling-answer.result c.write_tiling-answer.ensures.wrote

pub returns-in-Err : goal.returns-in-Err
returns-in-Err g c =
    not_planned (tile_command c.args.job.now) (g.S.Shelf.state c.args.shelf.now) (g.S.Shelf.state c.plan.new.shelf) c.plan.ensures.reads (g.O.Sink.state c.args.out.now) NoMemory tt
