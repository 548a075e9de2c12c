use Rattle.std.proofs.Common.{subst}
use Rattle.shelf_traits.specs.Files.{Changes}
use Rattle.shelf_traits.specs.Written.{HoldsText}
use Rattle.cert_file.specs.RecordFiles.{walk_file_form}
use Rattle.synth_report.specs.declared.fault.FileOf.TheVariants.{Record}
use Rattle.command.proofs.WritingLaws.{stops_at_one}
use Rattle.loop_command.proofs.files.WalkFileRunFiles.write.Goals as goal

pub returns-in-Err-clause-wrote : goal.returns-in-Err-clause-wrote
returns-in-Err-clause-wrote g c =
    let file = c.args.self.now in
    let failed = c.in-Err.ensures {u = tt} in
    stops_at_one Record file.name.now c.as_text.result.now (walk_file_form file.head file.taps file.gap file.walk.now file.tables.now)
    (g.S.Shelf.state c.args.shelf.now) (g.S.Shelf.state c.write_walk.new.shelf) c.as_text.ensures failed.err failed.failed

pub returns-in-Ok-clause-wrote : goal.returns-in-Ok-clause-wrote
returns-in-Ok-clause-wrote g c =
    let file = c.args.self.now in
    subst (λ name. Changes (g.S.Shelf.state c.args.shelf.now) (g.S.Shelf.state c.write_walk.new.shelf) (HoldsText name (walk_file_form file.head file.taps file.gap file.walk.now file.tables.now))) c.as_text.ensures
    (c.in-Ok.ensures {u = tt}).ok
