use Rattle.std.proofs.Common.{◌∙◌, ap, subst, sym, arith}
use Rattle.std.proofs.lemmas.List.{append-nil}
use Rattle.shelf_traits.specs.Files.{Changes, Appends, AppendsPart}
use Rattle.shelf_traits.specs.Written.{HoldsText}
use Rattle.shelf_traits.proofs.FileLaws.{only_writes_then}
use Rattle.y4m_clip.specs.Spaces.{joined_to, samples_of}
use Rattle.y4m_clip.specs.Writing.{Writer, frame_form}
use Rattle.y4m_clip.proofs.Writes.{on_err}
use Rattle.command_files.proofs.Clips.{frame_added, frame_in_part, line_in_part}
use Rattle.command_files.proofs.out.write_clip.Goals as goal

pub returns-in_err-start-clause-err : goal.returns-in_err-start-clause-err
returns-in_err-start-clause-err g c =
    let writer = c.args.writer.now in
    on_err _ _
    (line_in_part c.args.name.now writer.line (joined_to c.args.volume.now.size.f (frame_form writer.kind c.args.volume.now))
    (g.S.Shelf.state c.args.shelf.now) (g.S.Shelf.state c.start.new.shelf) c.in_err-start.ensures.err)

pub returns-in_err-frame-clause-err : goal.returns-in_err-frame-clause-err
returns-in_err-frame-clause-err g c =
    let writer = c.args.writer.now in
    let volume = c.args.volume.now in
    let a = g.S.Shelf.state c.args.shelf.now in
    let b = g.S.Shelf.state c.loop-f.shelf in
    let d = g.S.Shelf.state c.frame.new.shelf in
    let part = subst (λ (w : Writer). Changes b d (AppendsPart c.args.name.now (frame_form w.kind volume c.loop-f.f))) c.loop-f.invariant.writer c.in_err-frame.ensures.err in
    on_err _ _
    (frame_in_part c.args.name.now writer.line (frame_form writer.kind volume) a b d volume.size.f c.loop-f.f (omega (arith, c.loop-f-test.true, ap (λ size. size.f) c.size-frames.ensures.size)) c.loop-f.invariant.holds part)

pub loop-f-init : goal.loop-f-init
loop-f-init g c =
    let same = sym c.start.ensures.same in
    record {
      writer = c.start.ensures.same;
      width = c.requires.width ∙ ap (λ (w : Writer). w.w) same;
      height = c.requires.height ∙ ap (λ (w : Writer). w.h) same;
      samples = c.requires.samples ∙ ap (λ (w : Writer). samples_of w.kind) same;
      writes = c.start.ensures.writes;
      holds = subst (λ text. Changes (g.S.Shelf.state c.args.shelf.now) (g.S.Shelf.state c.start.new.shelf) (HoldsText c.args.name.now text)) (sym (append-nil c.args.writer.now.line)) c.in_ok-start.ensures.ok;
    }

pub loop-f-preserved : goal.loop-f-preserved
loop-f-preserved g c =
    let writer = c.args.writer.now in
    let volume = c.args.volume.now in
    let a = g.S.Shelf.state c.args.shelf.now in
    let b = g.S.Shelf.state c.loop-f.shelf in
    let d = g.S.Shelf.state c.frame.new.shelf in
    let same = sym c.frame.ensures.same in
    let step = subst (λ (w : Writer). Changes b d (Appends c.args.name.now (frame_form w.kind volume c.loop-f.f))) c.loop-f.invariant.writer c.in_ok-frame.ensures.ok in
    record {
      writer = c.frame.ensures.same ∙ c.loop-f.invariant.writer;
      width = c.loop-f.invariant.width ∙ ap (λ (w : Writer). w.w) same;
      height = c.loop-f.invariant.height ∙ ap (λ (w : Writer). w.h) same;
      samples = c.loop-f.invariant.samples ∙ ap (λ (w : Writer). samples_of w.kind) same;
      writes = only_writes_then a b d c.loop-f.invariant.writes c.frame.ensures.writes;
      holds = frame_added c.args.name.now writer.line (frame_form writer.kind volume) a b d volume.size.f c.loop-f.f (omega (arith, c.loop-f-test.true, ap (λ size. size.f) c.size-frames.ensures.size)) c.loop-f.invariant.holds step;
    }
