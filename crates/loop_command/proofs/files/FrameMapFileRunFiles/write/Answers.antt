use Rattle.std.proofs.Common.{subst}
use Rattle.shelf_traits.specs.Files.{Changes}
use Rattle.shelf_traits.specs.Written.{HoldsText}
use Rattle.source_map.specs.MapFiles.{frame_map_form}
use Rattle.synth_report.specs.declared.fault.FileOf.TheVariants.{Map}
use Rattle.command.proofs.WritingLaws.{stops_at_one}
use Rattle.loop_command.proofs.files.FrameMapFileRunFiles.write.Goals as goal

pub returns-in-Err-clause-wrote : goal.returns-in-Err-clause-wrote
returns-in-Err-clause-wrote g c =
    let file = c.args.self.now in
    let failed = c.in-Err.ensures {u = tt} in
    stops_at_one Map file.name.now c.as_text.result.now (frame_map_form file.size file.sample file.frames.now)
    (g.S.Shelf.state c.args.shelf.now) (g.S.Shelf.state c.write_frame_map.new.shelf) c.as_text.ensures failed.err failed.failed

pub returns-in-Ok-clause-wrote : goal.returns-in-Ok-clause-wrote
returns-in-Ok-clause-wrote g c =
    let file = c.args.self.now in
    subst (λ name. Changes (g.S.Shelf.state c.args.shelf.now) (g.S.Shelf.state c.write_frame_map.new.shelf) (HoldsText name (frame_map_form file.size file.sample file.frames.now))) c.as_text.ensures
    (c.in-Ok.ensures {u = tt}).ok
