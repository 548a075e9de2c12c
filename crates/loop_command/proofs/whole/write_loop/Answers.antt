use Rattle.std.proofs.Common.{◌≡◌, ◌∙◌, List, [], ◌∷◌, ap, subst, sym}
use Rattle.source_map.specs.MapFiles.{IsFrameMap, frame_map_form}
use Rattle.source_map.specs.declared.head.Version.TheVariants.{One}
use Rattle.y4m_clip.specs.Writing.{Writer, clip_form, writer_of}
use Rattle.cert_file.specs.RecordFiles.{walk_file_form}
use Rattle.cert_file.specs.WalkForms.{IsWalkInForm}
use Rattle.synth_report.specs.declared.fault.FileOf.TheVariants as part
use Rattle.command.specs.Writing.{FileText, WritesRun, file_text}
use Rattle.loop_command.specs.Loops.{frames_taken, loop_files, loop_head, loop_size, loop_summary}
use Rattle.loop_command.specs.LoopOuts.{CanWriteFrames, walked_clip}
use Rattle.loop_command.proofs.Taken.{taken_clip}
use Rattle.loop_command.proofs.LoopReady.{asked, frames_below, frames_ready, map_ready, record_ready}
use Rattle.loop_command.proofs.whole.write_loop.Goals as goal

pub write_run-requires : goal.write_run-requires
write_run-requires g c =
    let job = c.args.job.now in
    let looped = c.args.looped.now in
    let sample = looped.clip.volume in
    let lawful = c.requires.job in
    let made = c.requires.made in
    let walk = c.as_slice-walk.result.now in
    let tables = c.as_slice.result.now in
    let frames = subst (λ (w : Writer). CanWriteFrames w sample walk) (sym c.requires.writer)
    (subst (CanWriteFrames (writer_of looped.clip.form (loop_size sample job.length)) sample) (sym c.as_slice-walk.ensures) (frames_ready job lawful looped made)) in
    let map = subst (λ size. IsFrameMap size c.size.result walk) (sym c.loop_size-size.ensures)
    (subst (λ size. IsFrameMap (loop_size sample job.length) size walk) (sym c.size.ensures.size)
    (subst (IsFrameMap (loop_size sample job.length) sample.size) (sym c.as_slice-walk.ensures) (map_ready job lawful looped made))) in
    let record_file = subst (λ size. IsWalkInForm (record { output = size; samples = c.sizes.result; version = One }) job.gap walk tables) (sym c.loop_size-size.ensures)
    (subst (λ sizes. IsWalkInForm (record { output = loop_size sample job.length; samples = sizes; version = One }) job.gap walk tables) (sym c.sizes.ensures)
    (subst (λ w. IsWalkInForm (loop_head job sample) job.gap w tables) (sym c.as_slice-walk.ensures)
    (subst (IsWalkInForm (loop_head job sample) job.gap looped.found.walk) (sym c.as_slice.ensures) (record_ready job lawful looped made)))) in
    (frames, (map, record_file))

pub returns-clause-wrote : goal.returns-clause-wrote
returns-clause-wrote g c =
    let job = c.args.job.now in
    let looped = c.args.looped.now in
    let sample = looped.clip.volume in
    let form = looped.clip.form in
    let found = looped.found in
    let lawful = c.requires.job in
    let made = c.requires.made in
    let was = g.S.Shelf.state c.args.shelf.now in
    let now = g.S.Shelf.state c.write_run.new.shelf in
    let out = g.O.Sink.state c.args.out.now in
    let out' = g.O.Sink.state c.write_run.new.out in
    let frames : walked_clip c.args.writer sample c.as_slice-walk.result.now ≡ clip_form form (frames_taken sample found.walk) =
    (λ i. walked_clip (c.requires.writer i) sample (c.as_slice-walk.ensures i))
    ∙ ap (λ n. walked_clip (writer_of form (loop_size sample n)) sample found.walk) (sym (asked job lawful looped made))
    ∙ taken_clip sample made.volume found.walk (frames_below job lawful looped made) form in
    let given : List FileText =
    file_text part.Out job.names.out (walked_clip c.args.writer sample c.as_slice-walk.result.now)
    ∷ file_text part.Map job.names.map (frame_map_form c.loop_size-size.result c.size.result c.as_slice-walk.result.now)
    ∷ file_text part.Record job.names.record_file (walk_file_form (record { output = c.loop_size-size.result; samples = c.sizes.result; version = One }) job.taps job.gap c.as_slice-walk.result.now c.as_slice.result.now) ∷ [] in
    let same : given ≡ loop_files job looped =
    λ i. file_text part.Out job.names.out (frames i)
    ∷ file_text part.Map job.names.map (frame_map_form (c.loop_size-size.ensures i) (c.size.ensures.size i) (c.as_slice-walk.ensures i))
    ∷ file_text part.Record job.names.record_file (walk_file_form (record { output = c.loop_size-size.ensures i; samples = c.sizes.ensures i; version = One }) job.taps job.gap (c.as_slice-walk.ensures i) (c.as_slice.ensures i)) ∷ [] in
    subst (λ files. WritesRun files (loop_summary job looped) was now out out' c.write_run.result) same
    (subst (λ summary. WritesRun given summary was now out out' c.write_run.result) c.summary_of-summary.ensures c.write_run.ensures.wrote)
