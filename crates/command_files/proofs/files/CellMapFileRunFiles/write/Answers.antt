use Rattle.std.proofs.Common.{subst}
use Rattle.shelf_traits.specs.Files.{Changes}
use Rattle.shelf_traits.specs.Written.{HoldsText}
use Rattle.source_map.specs.MapFiles.{cell_map_form}
use Rattle.command.proofs.WritingLaws.{stops_at_one}
use Rattle.command_files.proofs.files.CellMapFileRunFiles.write.Goals as goal

pub returns-in-Err-clause-wrote : goal.returns-in-Err-clause-wrote
returns-in-Err-clause-wrote g c =
    let file = c.args.self.now in
    let failed = c.in-Err.ensures {u = tt} in
    stops_at_one file.part file.name.now c.as_text.result.now (cell_map_form file.map.now file.samples file.version)
    (g.S.Shelf.state c.args.shelf.now) (g.S.Shelf.state c.write_cell_map.new.shelf) c.as_text.ensures failed.err failed.failed

pub returns-in-Ok-clause-wrote : goal.returns-in-Ok-clause-wrote
returns-in-Ok-clause-wrote g c =
    let file = c.args.self.now in
    subst (λ name. Changes (g.S.Shelf.state c.args.shelf.now) (g.S.Shelf.state c.write_cell_map.new.shelf) (HoldsText name (cell_map_form file.map.now file.samples file.version))) c.as_text.ensures (c.in-Ok.ensures {u = tt}).ok
