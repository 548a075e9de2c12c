use Rattle.synth_report.specs.declared.fault.FileOf.TheVariants as part
use Rattle.command.proofs.WritingLaws.{stops_at_one}
use Rattle.outputs.specs.GrownMaps.{map_text}
use Rattle.outputs.proofs.grown_map.GrownMapRunFiles.write.Goals as goal

pub returns-in-Err-clause-wrote : goal.returns-in-Err-clause-wrote
returns-in-Err-clause-wrote g c =
    let file = c.args.self.now in
    let failed = c.in-Err.ensures {u = tt} in
    stops_at_one part.Map file.name.now c.as_text.result.now (map_text file.turns file.map.now file.samples.now)
    (g.S.Shelf.state c.args.shelf.now) (g.S.Shelf.state c.write_map.new.shelf) c.as_text.ensures failed.err failed.failed
