use Rattle.std.proofs.Common.{◌∙◌, subst, sym, length, slice_index}
use Rattle.std.proofs.lemmas.List.{append-nil}
use Rattle.shelf_traits.specs.Files.{Changes, Appends, AppendsPart}
use Rattle.shelf_traits.specs.Written.{HoldsText}
use Rattle.shelf_traits.proofs.FileLaws.{only_writes_then}
use Rattle.y4m_clip.specs.Spaces.{joined_to}
use Rattle.y4m_clip.specs.Writing.{Writer, frame_form}
use Rattle.y4m_clip.proofs.Writes.{on_err}
use Rattle.command_files.proofs.Clips.{frame_added, frame_in_part, line_in_part}
use Rattle.loop_command.specs.LoopOuts.{CanWriteFrames}
use Rattle.loop_command.proofs.files.write_frames.Goals as goal

pub returns-in_err-start-clause-err : goal.returns-in_err-start-clause-err
returns-in_err-start-clause-err g c =
    let writer = c.args.writer.now in
    let walk = c.args.walk.now in
    on_err _ _
    (line_in_part c.args.name.now writer.line (joined_to (length walk) (λ i. frame_form writer.kind c.args.sample.now (slice_index walk i)))
    (g.S.Shelf.state c.args.shelf.now) (g.S.Shelf.state c.start.new.shelf) c.in_err-start.ensures.err)

pub returns-in_err-frame-clause-err : goal.returns-in_err-frame-clause-err
returns-in_err-frame-clause-err g c =
    let writer = c.args.writer.now in
    let sample = c.args.sample.now in
    let walk = c.args.walk.now in
    let i = c.loop-f.f-index in
    let a = g.S.Shelf.state c.args.shelf.now in
    let b = g.S.Shelf.state c.loop-f.shelf in
    let d = g.S.Shelf.state c.frame.new.shelf in
    let part = subst (λ (w : Writer). Changes b d (AppendsPart c.args.name.now (frame_form w.kind sample (slice_index walk i)))) c.loop-f.invariant.writer
    (subst (λ n. Changes b d (AppendsPart c.args.name.now (frame_form c.loop-f.writer.kind sample n))) c.from.ensures c.in_err-frame.ensures.err) in
    on_err _ _
    (frame_in_part c.args.name.now writer.line (λ i. frame_form writer.kind sample (slice_index walk i)) a b d (length walk) i c.loop-f-test.true c.loop-f.invariant.holds part)

pub loop-f-init : goal.loop-f-init
loop-f-init g c = record {
  writer = c.start.ensures.same;
  ready = subst (λ w. CanWriteFrames w c.args.sample.now c.args.walk.now) (sym c.start.ensures.same) c.requires;
  writes = c.start.ensures.writes;
  holds = subst (λ text. Changes (g.S.Shelf.state c.args.shelf.now) (g.S.Shelf.state c.start.new.shelf) (HoldsText c.args.name.now text)) (sym (append-nil c.args.writer.now.line)) c.in_ok-start.ensures.ok;
}

pub loop-f-preserved : goal.loop-f-preserved
loop-f-preserved g c =
    let writer = c.args.writer.now in
    let sample = c.args.sample.now in
    let walk = c.args.walk.now in
    let i = c.loop-f.f-index in
    let a = g.S.Shelf.state c.args.shelf.now in
    let b = g.S.Shelf.state c.loop-f.shelf in
    let d = g.S.Shelf.state c.frame.new.shelf in
    let step = subst (λ (w : Writer). Changes b d (Appends c.args.name.now (frame_form w.kind sample (slice_index walk i)))) c.loop-f.invariant.writer
    (subst (λ n. Changes b d (Appends c.args.name.now (frame_form c.loop-f.writer.kind sample n))) c.from.ensures c.in_ok-frame.ensures.ok) in
    record {
      writer = c.frame.ensures.same ∙ c.loop-f.invariant.writer;
      ready = subst (λ w. CanWriteFrames w sample walk) (sym c.frame.ensures.same) c.loop-f.invariant.ready;
      writes = only_writes_then a b d c.loop-f.invariant.writes c.frame.ensures.writes;
      holds = frame_added c.args.name.now writer.line (λ i. frame_form writer.kind sample (slice_index walk i)) a b d (length walk) i c.loop-f-test.true c.loop-f.invariant.holds step;
    }
