use Rattle.synth_report.specs.declared.fault.FileOf.TheVariants.{Out}
use Rattle.command.proofs.WritingLaws.{stops_at_one}
use Rattle.command_files.specs.Outs.{out_text}
use Rattle.command_files.proofs.out.OutFileRunFiles.write.Goals as goal

pub returns-in-Err-clause-wrote : goal.returns-in-Err-clause-wrote
returns-in-Err-clause-wrote g c =
    let file = c.args.self.now in
    let failed = c.in-Err.ensures {u = tt} in
    stops_at_one Out file.name.now c.as_text.result.now (out_text file.writer file.picture.now)
    (g.S.Shelf.state c.args.shelf.now) (g.S.Shelf.state c.write_out.new.shelf) c.as_text.ensures failed.err failed.failed
