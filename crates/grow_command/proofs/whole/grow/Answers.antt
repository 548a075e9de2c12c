use Rattle.std.proofs.lemmas.Result.{err_from_is_err_and}
use Rattle.synth_report.specs.declared.fault.Fault.TheVariants.{NoMemory}
use Rattle.command.proofs.Halves.{not_planned, planned}
use Rattle.outputs.specs.Growths.{grow_command, growth_files, growth_summary}
use Rattle.outputs.proofs.Growing.{samples_only}
use Rattle.grow_command.proofs.whole.grow.Goals as goal

pub returns-in_err-growth : goal.returns-in_err-growth
returns-in_err-growth g c =
    let p = err_from_is_err_and c.from_residual.result c.from_residual.ensures.1 in
    rw (p.1, p.2) (not_planned (grow_command c.args.job.now) (g.S.Shelf.state c.args.shelf.now) (g.S.Shelf.state c.plan.new.shelf) (samples_only c.args.job.now (g.S.Shelf.state c.args.shelf.now) (g.S.Shelf.state c.plan.new.shelf) c.plan.ensures.reads) (g.O.Sink.state c.args.out.now) c.in_err-growth.field-0.0 (c.in_err-growth.ensures {u = tt}).planned)

pub write_growth-answer-requires-clause-made : goal.write_growth-answer-requires-clause-made
write_growth-answer-requires-clause-made g c =
    let its = (c.in_ok-growth.ensures {u = tt}).made in
    record { volume = its.volume; sound = its.sound; are = its.are; few = its.few; sizes = its.sizes; bounds = its.bounds; grown = its.grown }

pub returns : goal.returns
returns g c =
    let job = c.args.job.now in
    let growth = c.in_ok-growth.growth in
    planned (grow_command job) (growth_files job growth) (growth_summary job growth) (g.S.Shelf.state c.args.shelf.now) (g.S.Shelf.state c.plan.new.shelf) (g.S.Shelf.state c.write_growth-answer.new.shelf)
    (g.O.Sink.state c.args.out.now) (g.O.Sink.state c.write_growth-answer.new.out) (samples_only c.args.job.now (g.S.Shelf.state c.args.shelf.now) (g.S.Shelf.state c.plan.new.shelf) c.plan.ensures.reads) (c.in_ok-growth.ensures {u = tt}).planned c.write_growth-answer.ensures.writes c.write_growth-answer.result c.write_growth-answer.ensures.wrote

pub returns-in-Err : goal.returns-in-Err
returns-in-Err g c =
    not_planned (grow_command c.args.job.now) (g.S.Shelf.state c.args.shelf.now) (g.S.Shelf.state c.plan.new.shelf) (samples_only c.args.job.now (g.S.Shelf.state c.args.shelf.now) (g.S.Shelf.state c.plan.new.shelf) c.plan.ensures.reads) (g.O.Sink.state c.args.out.now) NoMemory tt
