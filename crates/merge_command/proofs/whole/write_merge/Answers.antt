use Rattle.std.proofs.Common.{◌≡◌, List, [], ◌∷◌, subst, sym}
use Rattle.cells.specs.Cells.{sizes_of}
use Rattle.netpbm_p6.specs.Pictures.{IsPicture, p6_form}
use Rattle.source_map.specs.MapFiles.{IsWritable, cell_map_form}
use Rattle.source_map.specs.declared.head.Version.TheVariants.{Two}
use Rattle.synth_report.specs.declared.fault.FileOf.TheVariants as part
use Rattle.command.specs.Writing.{FileText, WritesRun, file_text}
use Rattle.merge_command.specs.MergeCommand.{merge_files, merge_summary}
use Rattle.merge_command.proofs.Ready.{map_ready, picture_ready}
use Rattle.merge_command.proofs.whole.write_merge.Goals as goal

pub write_run-requires : goal.write_run-requires
write_run-requires g c =
    let made = c.args.made.now in
    let picture = subst (IsPicture made.pictures.maxval) (sym c.picture.ensures.picture) (picture_ready made c.requires) in
    let map = subst (λ sizes. IsWritable c.map.result.now sizes Two) (sym c.sizes.ensures)
    (subst (λ m. IsWritable m (sizes_of made.pictures.volume) Two) (sym c.map.ensures.map) (map_ready made c.requires)) in
    (picture, map)

pub returns-clause-wrote : goal.returns-clause-wrote
returns-clause-wrote g c =
    let job = c.args.job.now in
    let made = c.args.made.now in
    let was = g.S.Shelf.state c.args.shelf.now in
    let now = g.S.Shelf.state c.write_run.new.shelf in
    let out = g.O.Sink.state c.args.out.now in
    let out' = g.O.Sink.state c.write_run.new.out in
    let given : List FileText =
    file_text part.Out job.out (p6_form made.pictures.maxval c.picture.result.now) ∷ file_text part.Map job.map (cell_map_form c.map.result.now c.sizes.result Two) ∷ [] in
    let same : given ≡ merge_files job made =
    λ i. file_text part.Out job.out (p6_form made.pictures.maxval (c.picture.ensures.picture i))
    ∷ file_text part.Map job.map (cell_map_form (c.map.ensures.map i) (c.sizes.ensures i) Two) ∷ [] in
    subst (λ files. WritesRun files (merge_summary made) was now out out' c.write_run.result) same
    (subst (λ summary. WritesRun given summary was now out out' c.write_run.result) c.summary_of-summary.ensures c.write_run.ensures.wrote)
