use Rattle.std.proofs.Common.{◌≡◌, ◌∙◌, List, [], ◌∷◌, ap, subst, sym}
use Rattle.cells.specs.Cells.{sizes_of}
use Rattle.netpbm_p6.specs.Pictures.{IsPicture, p6_form}
use Rattle.source_map.specs.MapFiles.{IsWritable, cell_map_form}
use Rattle.source_map.specs.declared.head.Version.TheVariants.{One}
use Rattle.cert_file.specs.RecordFiles.{AreBlocksInForm, blocks_form}
use Rattle.synth_report.specs.declared.fault.FileOf.TheVariants as part
use Rattle.command.specs.Writing.{FileText, WritesRun, file_text}
use Rattle.outputs.specs.BlockOutputs.{quilt_files, quilt_head}
use Rattle.outputs.proofs.BlocksReady.{map_ready, picture_ready, record_ready}
use Rattle.outputs.proofs.quilt_files.write_quilt.Goals as goal

pub write_run-answer-requires : goal.write_run-answer-requires
write_run-answer-requires g c =
    let asked = c.args.asked.now in
    let made = c.args.made.now in
    let rating = c.requires.made.0 in
    let is = c.requires.made.1 in
    let picture = subst (IsPicture made.sample.maxval) (sym c.picture.ensures.picture) (picture_ready rating asked made is) in
    let map = subst (λ sizes. IsWritable c.map.result.now sizes One) (sym c.sizes.ensures)
    (subst (λ m. IsWritable m (sizes_of made.sample.volume) One) (sym c.map.ensures.map) (map_ready rating asked made is)) in
    let record_file = subst (λ sizes. AreBlocksInForm (record { output = asked.size; samples = sizes; version = One }) c.as_slice.result.now) (sym c.sizes-2.ensures)
    (subst (AreBlocksInForm (quilt_head asked.size made.sample.volume)) (sym c.as_slice.ensures) (record_ready rating asked made is)) in
    (picture, (map, record_file))

pub returns-clause-wrote : goal.returns-clause-wrote
returns-clause-wrote g c =
    let asked = c.args.asked.now in
    let names = c.args.names.now in
    let made = c.args.made.now in
    let was = g.S.Shelf.state c.args.shelf.now in
    let now = g.S.Shelf.state c.write_run-answer.new.shelf in
    let out = g.O.Sink.state c.args.out.now in
    let out' = g.O.Sink.state c.write_run-answer.new.out in
    let given : List FileText =
    file_text part.Out names.out (p6_form made.sample.maxval c.picture.result.now) ∷ file_text part.Map names.map (cell_map_form c.map.result.now c.sizes.result One)
    ∷ file_text part.Record names.record_file (blocks_form (record { output = asked.size; samples = c.sizes-2.result; version = One }) c.as_slice.result.now) ∷ [] in
    let same : given ≡ quilt_files names asked.size made =
    λ i. file_text part.Out names.out (p6_form made.sample.maxval (c.picture.ensures.picture i))
    ∷ file_text part.Map names.map (cell_map_form (c.map.ensures.map i) (c.sizes.ensures i) One)
    ∷ file_text part.Record names.record_file (blocks_form (record { output = asked.size; samples = c.sizes-2.ensures i; version = One }) (c.as_slice.ensures i)) ∷ [] in
    subst (λ files. WritesRun files c.args.summary was now out out' c.write_run-answer.result) same c.write_run-answer.ensures.wrote
