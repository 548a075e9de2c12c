use Rattle.std.proofs.Common.{◌≡◌, ℕ, ◌*◌, arith, refl, ap, sym, ◌∙◌}
use Rattle.std.proofs.lemmas.Grind.{common_steps}
use Rattle.std.proofs.Math.Nat.{mul_assoc}
use Rattle.std.proofs.lemmas.Result.{err_from_is_err_and}
use Rattle.shelf_traits.proofs.FileLaws.{only_reads_then}
use Rattle.cells.specs.Cells.{volume_of}
use Rattle.y4m_clip.specs.Frames.{frames_size}
use Rattle.y4m_clip.proofs.FrontLaws.{front_as, sound_front}
use Rattle.y4m_clip.proofs.ClipLaws.{fronts_seen, frames_as, read_as}
use Rattle.y4m_clip.proofs.read.read_clip.Goals as goal

regroup : (s w h f : ℕ) → s * w * h * f ≡ s * (w * (h * f))
regroup s w h f = mul_assoc (s * w) h f ∙ mul_assoc s w (h * f)

pub returns-in_err-front-clause-answer : goal.returns-in_err-front-clause-answer
returns-in_err-front-clause-answer g c =
    let p = err_from_is_err_and c.from_residual-in_err-front.result c.from_residual-in_err-front.ensures.1 in
    rw (p.1, p.2)
    (front_as c.args.name.now c.in_ok-line.line c.args.most c.in_err-front.field-0.0 (g.S.Shelf.state c.args.shelf.now) (g.S.Shelf.state c.read_line.new.shelf) c.in_ok-line.ensures.line c.in_err-front.ensures)

pub read_frames-requires : goal.read_frames-requires
read_frames-requires g c = sound_front c.in_ok-line.line c.args.most c.in_ok-front.front c.requires c.in_ok-line.ensures.short c.in_ok-line.ensures.tags c.in_ok-front.ensures

pub returns-in_err-filled-clause-answer : goal.returns-in_err-filled-clause-answer
returns-in_err-filled-clause-answer g c =
    let p = err_from_is_err_and c.from_residual-in_err-filled.result c.from_residual-in_err-filled.ensures.1 in
    rw (p.1, p.2)
    (frames_as c.args.name.now c.in_ok-front.front c.args.most c.in_err-filled.field-0.0 (g.S.Shelf.state c.args.shelf.now) (g.S.Shelf.state c.read_line.new.shelf) (g.S.Shelf.state c.read_frames.new.shelf)
    c.in_ok-line.ensures.reads c.in_err-filled.ensures.reads
    (fronts_seen c.args.name.now c.in_ok-line.line c.args.most c.in_ok-front.front (g.S.Shelf.state c.args.shelf.now) (g.S.Shelf.state c.read_line.new.shelf) c.in_ok-line.ensures.line c.in_ok-front.ensures) c.in_err-filled.ensures.frames)

pub returns-clause-answer : goal.returns-clause-answer
returns-clause-answer g c =
    read_as c.args.name.now c.args.most c.in_ok-front.front c.in_ok-filled.filled (record { form = c.in_ok-front.front.form; volume = c.from_bytes-volume.result }) (g.S.Shelf.state c.args.shelf.now) (g.S.Shelf.state c.read_line.new.shelf) (g.S.Shelf.state c.read_frames.new.shelf)
    c.in_ok-line.ensures.reads c.in_ok-filled.ensures.reads
    (fronts_seen c.args.name.now c.in_ok-line.line c.args.most c.in_ok-front.front (g.S.Shelf.state c.args.shelf.now) (g.S.Shelf.state c.read_line.new.shelf) c.in_ok-line.ensures.line c.in_ok-front.ensures)
    c.in_ok-filled.ensures.frames c.in_ok-filled.ensures.filled refl
    (c.from_bytes-volume.ensures.volume ∙ ap (λ k. volume_of (frames_size c.in_ok-front.front c.in_ok-filled.filled) k c.in_ok-filled.filled.bytes.items) c.samples.ensures)

pub returns-clause-reads : goal.returns-clause-reads
returns-clause-reads g c =
    only_reads_then (g.S.Shelf.state c.args.shelf.now) (g.S.Shelf.state c.read_line.new.shelf) (g.S.Shelf.state c.read_frames.new.shelf) c.in_ok-line.ensures.reads c.in_ok-filled.ensures.reads

pub returns-in_err-filled-clause-reads : goal.returns-in_err-filled-clause-reads
returns-in_err-filled-clause-reads g c =
    only_reads_then (g.S.Shelf.state c.args.shelf.now) (g.S.Shelf.state c.read_line.new.shelf) (g.S.Shelf.state c.read_frames.new.shelf) c.in_ok-line.ensures.reads c.in_err-filled.ensures.reads

pub from_bytes-volume-requires-clause-whole : goal.from_bytes-volume-requires-clause-whole
from_bytes-volume-requires-clause-whole g c =
    let front = c.in_ok-front.front in
    let filled = c.in_ok-filled.filled in
    c.in_ok-filled.ensures.filled.whole ∙ regroup _ front.w front.h filled.count ∙ ap (λ n. n * (front.w * (front.h * filled.count))) (sym c.samples.ensures)

pub from_bytes-volume-requires-clause-small : goal.from_bytes-volume-requires-clause-small
from_bytes-volume-requires-clause-small g c =
    let sound = sound_front c.in_ok-line.line c.args.most c.in_ok-front.front c.requires c.in_ok-line.ensures.short c.in_ok-line.ensures.tags c.in_ok-front.ensures in
    grind (arith, common_steps, sound, c.in_ok-filled.ensures.filled)

pub from_bytes-volume-requires-clause-samples : goal.from_bytes-volume-requires-clause-samples
from_bytes-volume-requires-clause-samples g c = grind (arith, common_steps)

pub returns-clause-clip : goal.returns-clause-clip
returns-clause-clip g c =
    let sound = sound_front c.in_ok-line.line c.args.most c.in_ok-front.front c.requires c.in_ok-line.ensures.short c.in_ok-line.ensures.tags c.in_ok-front.ensures in
    grind (arith, common_steps, sound, c.in_ok-filled.ensures.filled)
