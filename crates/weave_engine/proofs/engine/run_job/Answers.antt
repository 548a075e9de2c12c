use Rattle.std.proofs.Common.{subst, sym}
use Rattle.command.specs.Outcomes.{Leaves}
use Rattle.weave_engine.specs.Engine.{command_of}
use Rattle.weave_engine.proofs.engine.run_job.Goals as goal

pub returns-in-Grow : goal.returns-in-Grow
returns-in-Grow g c =
    subst (λ job. Leaves (command_of job) (g.S.Shelf.state c.args.shelf.now) (g.S.Shelf.state c.grow.new.shelf) (g.O.Sink.state c.args.out.now) (g.O.Sink.state c.grow.new.out) c.grow.result) (sym c.in-Grow.is) c.grow.ensures

pub returns-in-Check : goal.returns-in-Check
returns-in-Check g c =
    subst (λ job. Leaves (command_of job) (g.S.Shelf.state c.args.shelf.now) (g.S.Shelf.state c.check_files.new.shelf) (g.O.Sink.state c.args.out.now) (g.O.Sink.state c.check_files.new.out) c.check_files.result) (sym c.in-Check.is) c.check_files.ensures

pub returns-in-Trial : goal.returns-in-Trial
returns-in-Trial g c =
    subst (λ job. Leaves (command_of job) (g.S.Shelf.state c.args.shelf.now) (g.S.Shelf.state c.args.shelf.now) (g.O.Sink.state c.args.out.now) (g.O.Sink.state c.trial.new.out) c.trial.result) (sym c.in-Trial.is) (c.trial.ensures (g.S.Shelf.state c.args.shelf.now))

pub returns-in-Tile : goal.returns-in-Tile
returns-in-Tile g c =
    subst (λ job. Leaves (command_of job) (g.S.Shelf.state c.args.shelf.now) (g.S.Shelf.state c.tile.new.shelf) (g.O.Sink.state c.args.out.now) (g.O.Sink.state c.tile.new.out) c.tile.result) (sym c.in-Tile.is) c.tile.ensures

pub returns-in-Loop : goal.returns-in-Loop
returns-in-Loop g c =
    subst (λ job. Leaves (command_of job) (g.S.Shelf.state c.args.shelf.now) (g.S.Shelf.state c.loop_clip.new.shelf) (g.O.Sink.state c.args.out.now) (g.O.Sink.state c.loop_clip.new.out) c.loop_clip.result) (sym c.in-Loop.is) c.loop_clip.ensures
