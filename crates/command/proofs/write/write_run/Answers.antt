use Rattle.command.proofs.WritingLaws.{reported}
use Rattle.command.proofs.write.write_run.Goals as goal

pub returns-clause-wrote : goal.returns-clause-wrote
returns-clause-wrote g c =
    reported (g.F.RunFiles.texts c.args.files.now) c.args.summary (g.S.Shelf.state c.args.shelf.now) (g.S.Shelf.state c.write.new.shelf) (g.O.Sink.state c.args.out.now) (g.O.Sink.state c.report_run.new.out) c.report_run.result
    (c.in-Ok.ensures {u = tt}).wrote (c.report_run.ensures (g.S.Shelf.state c.write.new.shelf))
