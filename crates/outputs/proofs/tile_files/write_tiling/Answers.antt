use Rattle.std.proofs.Common.{◌≡◌, ◌∙◌, List, [], ◌∷◌, ap, subst, sym}
use Rattle.cells.specs.Cells.{Cells, sizes_of}
use Rattle.source_map.specs.MapFiles.{IsWritable, cell_map_form}
use Rattle.source_map.specs.declared.head.Version.TheVariants.{One}
use Rattle.synth_report.specs.declared.fault.FileOf.TheVariants as part
use Rattle.command.specs.Writing.{FileText, WritesRun, file_text}
use Rattle.sample_files.specs.Samples.{form_text}
use Rattle.command_files.specs.Outs.{CanWrite, out_text, out_writer}
use Rattle.command_files.proofs.OutFiles.{can_write, text_of_form}
use Rattle.outputs.specs.Tilings.{tile_files, tile_summary}
use Rattle.outputs.proofs.TileReady.{map_ready, picture_ready}
use Rattle.outputs.proofs.tile_files.write_tiling.Goals as goal

pub write_run-answer-requires : goal.write_run-answer-requires
write_run-answer-requires g c =
    let job = c.args.job.now in
    let made = c.args.made.now in
    let its = c.requires.made in
    let map = subst (λ sizes. IsWritable c.map.result.now sizes One) (sym c.sizes.ensures) (map_ready job made c.map.result.now c.map.ensures.map its) in
    let size : c.picture.result.now.size ≡ job.size = ap (λ (v : Cells). v.size) c.picture.ensures.picture ∙ its.tiled.canvas.size ∙ its.tiled.size in
    let form = made.sample.form in
    let picture = c.picture.result.now in
    let own : c.args.writer ≡ out_writer form picture.size = c.requires.writer ∙ ap (out_writer form) (sym size) in
    (subst (λ w. CanWrite w picture) (sym own) (can_write form picture (picture_ready job made picture c.picture.ensures.picture c.requires.job its)), map)

pub returns-clause-wrote : goal.returns-clause-wrote
returns-clause-wrote g c =
    let job = c.args.job.now in
    let made = c.args.made.now in
    let was = g.S.Shelf.state c.args.shelf.now in
    let now = g.S.Shelf.state c.write_run-answer.new.shelf in
    let out = g.O.Sink.state c.args.out.now in
    let out' = g.O.Sink.state c.write_run-answer.new.out in
    let form = made.sample.form in
    let picture = c.picture.result.now in
    let size : picture.size ≡ job.size = ap (λ (v : Cells). v.size) c.picture.ensures.picture ∙ c.requires.made.tiled.canvas.size ∙ c.requires.made.tiled.size in
    let text : out_text c.args.writer picture ≡ form_text form made.tiled.canvas.picture =
    ap (λ w. out_text w picture) (c.requires.writer ∙ ap (out_writer form) (sym size)) ∙ text_of_form form picture ∙ ap (form_text form) c.picture.ensures.picture in
    let given : List FileText =
    file_text part.Out job.out (out_text c.args.writer picture) ∷ file_text part.Map job.map (cell_map_form c.map.result.now c.sizes.result One) ∷ [] in
    let same : given ≡ tile_files job made =
    λ i. file_text part.Out job.out (text i)
    ∷ file_text part.Map job.map (cell_map_form (c.map.ensures.map i) (c.sizes.ensures i) One) ∷ [] in
    subst (λ files. WritesRun files (tile_summary job made) was now out out' c.write_run-answer.result) same c.write_run-answer.ensures.wrote
