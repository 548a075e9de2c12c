use Rattle.std.proofs.Common.{[], subst}
use Rattle.command.specs.Promises.{KeepsOthers}
use Rattle.outputs.specs.TileHeadlines.{OneTile}
use Rattle.system_files.specs.Replays.{shelf_of, sink_of}
use Rattle.weave_engine.specs.Engine.{command_of}
use Rattle.weave_program.proofs.program.run_program.Goals as goal

pub returns-clause-other_files : goal.returns-clause-other_files
returns-clause-other_files g c =
    let now = shelf_of g.S.Start.files g.S.Start.left c.run.new.shelf.calls in
    subst (λ calls. KeepsOthers command_of c.args.words.now (shelf_of g.S.Start.files g.S.Start.left calls) now)
    c.in-Ok-new.ensures.calls c.run.ensures.other_files

pub returns-clause-one_tile : goal.returns-clause-one_tile
returns-clause-one_tile g c =
    let now = shelf_of g.S.Start.files g.S.Start.left c.run.new.shelf.calls in
    let told = sink_of g.S.Start.left_out c.run.new.out in
    subst (λ calls. OneTile c.args.words.now (shelf_of g.S.Start.files g.S.Start.left calls) now (sink_of g.S.Start.left_out []) told c.run.result)
    c.in-Ok-new.ensures.calls (
    subst (λ said. OneTile c.args.words.now (shelf_of g.S.Start.files g.S.Start.left c.in-Ok-new.shelf.calls) now (sink_of g.S.Start.left_out said) told c.run.result)
    c.requires.unsaid c.run.ensures.one_tile
    )
