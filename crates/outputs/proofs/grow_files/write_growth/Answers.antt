use Rattle.std.proofs.Common.{◌≡◌, ◌∙◌, List, [], ◌∷◌, ap, subst, sym}
use Rattle.cells.specs.Cells.{Cells}
use Rattle.cert_file.specs.RecordFiles.{AreCutsInForm, cuts_form}
use Rattle.synth_report.specs.declared.fault.FileOf.TheVariants as part
use Rattle.command.specs.Writing.{FileText, WritesRun, file_text}
use Rattle.sample_files.specs.Samples.{form_text}
use Rattle.command_files.specs.Outs.{CanWrite, out_text, out_writer}
use Rattle.command_files.proofs.OutFiles.{can_write, text_of_form}
use Rattle.outputs.specs.GrownMaps.{map_text}
use Rattle.outputs.specs.Growths.{growth_files, growth_summary, head_over}
use Rattle.outputs.proofs.GrowReady.{map_ready, picture_ready, record_ready}
use Rattle.outputs.proofs.grow_files.write_growth.Goals as goal

pub write_run-answer-requires : goal.write_run-answer-requires
write_run-answer-requires g c =
    let job = c.args.job.now in
    let growth = c.args.growth.now in
    let made = c.requires.made in
    let map = map_ready job growth c.map.result.now c.map.ensures.map made.volume made in
    let record_file = subst (λ head. AreCutsInForm head c.as_slice.result.now) (sym c.head_over.ensures)
    (subst (λ cuts. AreCutsInForm (head_over job.size growth.samples.volume) cuts) (sym c.as_slice.ensures) (record_ready job growth made.volume c.requires.job made)) in
    let size : c.picture.result.now.size ≡ job.size = ap (λ (v : Cells). v.size) c.picture.ensures.picture ∙ made.grown.canvas.size ∙ made.grown.size in
    let form = growth.samples.form in
    let picture = c.picture.result.now in
    let own : c.args.writer ≡ out_writer form picture.size = c.requires.writer ∙ ap (out_writer form) (sym size) in
    (subst (λ w. CanWrite w picture) (sym own) (can_write form picture (picture_ready job growth picture c.picture.ensures.picture made.volume c.requires.job made)), (map, record_file))

pub returns-clause-wrote : goal.returns-clause-wrote
returns-clause-wrote g c =
    let job = c.args.job.now in
    let growth = c.args.growth.now in
    let was = g.S.Shelf.state c.args.shelf.now in
    let now = g.S.Shelf.state c.write_run-answer.new.shelf in
    let out = g.O.Sink.state c.args.out.now in
    let out' = g.O.Sink.state c.write_run-answer.new.out in
    let form = growth.samples.form in
    let picture = c.picture.result.now in
    let size : picture.size ≡ job.size = ap (λ (v : Cells). v.size) c.picture.ensures.picture ∙ c.requires.made.grown.canvas.size ∙ c.requires.made.grown.size in
    let text : out_text c.args.writer picture ≡ form_text form growth.grown.canvas.picture =
    ap (λ w. out_text w picture) (c.requires.writer ∙ ap (out_writer form) (sym size)) ∙ text_of_form form picture ∙ ap (form_text form) c.picture.ensures.picture in
    let given : List FileText =
    file_text part.Out job.names.out (out_text c.args.writer picture) ∷ file_text part.Map job.names.map (map_text job.turns c.map.result.now growth.sizes)
    ∷ file_text part.Record job.names.record_file (cuts_form c.head_over.result c.as_slice.result.now) ∷ [] in
    let same : given ≡ growth_files job growth =
    λ i. file_text part.Out job.names.out (text i)
    ∷ file_text part.Map job.names.map (map_text job.turns (c.map.ensures.map i) growth.sizes)
    ∷ file_text part.Record job.names.record_file (cuts_form (c.head_over.ensures i) (c.as_slice.ensures i)) ∷ [] in
    subst (λ files. WritesRun files (growth_summary job growth) was now out out' c.write_run-answer.result) same
    (subst (λ summary. WritesRun given summary was now out out' c.write_run-answer.result) c.summary_of-summary.ensures c.write_run-answer.ensures.wrote)
