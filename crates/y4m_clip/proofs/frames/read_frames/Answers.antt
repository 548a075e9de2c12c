use Rattle.std.proofs.lemmas.Grind.{common_steps}
use Rattle.std.proofs.Common.{◌≡◌, ◌≤◌, ◌<◌, ◌*◌, [], length, arith, sym, ap, ◌∙◌, subst}
use Rattle.std.proofs.lemmas.Result.{err_from_is_err_and}
use Rattle.shelf_traits.specs.Files.{content_of}
use Rattle.shelf_traits.proofs.FileLaws.{only_reads_same, only_reads_then}
use Rattle.limits.specs.declared.bounds.TheConstants.{GREATEST_AXIS}
use Rattle.y4m_clip.specs.Spaces.{samples_of}
use Rattle.y4m_clip.specs.Frames.{PassesFrames, FramesSeen}
use Rattle.shelf_traits.proofs.Sees.{Sees, fault_later}
use Rattle.y4m_clip.proofs.FramesLaws.{want_small}
use Rattle.y4m_clip.proofs.FramesEnd.{seen_none, seen_more, whole_more, frame_refused, frames_end, frames_full, frames_past, some_frames, most_few, filled_end, byte_stands, no_byte_stands}
use Rattle.y4m_clip.proofs.frames.read_frames.Goals as goal

pub loop-count-init : goal.loop-count-init
loop-count-init g c = record {
  reads = only_reads_same (g.S.Shelf.state c.args.shelf.now);
  seen = seen_none c.args.front.now.form.space c.args.front.now.w c.args.front.now.h c.args.front.now.start c.args.name.now c.new-bytes.result.items (g.S.Shelf.state c.args.shelf.now) (g.S.Shelf.state c.args.shelf.now) c.new-bytes.ensures.items
      (only_reads_same {names = []} (g.S.Shelf.state c.args.shelf.now));
  whole = omega (arith, ap length c.new-bytes.ensures.items);
  planes = c.in_ok-planes.ensures;
  place = omega (arith, c.requires.start);
}

pub returns-in_err-next-clause-frames : goal.returns-in_err-next-clause-frames
returns-in_err-next-clause-frames g c =
    let p = err_from_is_err_and c.from_residual-in_err-next.result c.from_residual-in_err-next.ensures.1 in
    rw (p.1, p.2)
    (frame_refused c.args.front.now.form.space c.args.front.now.w c.args.front.now.h c.args.front.now.start c.args.most c.args.name.now c.loop-count.count c.loop-count.at c.loop-count.bytes.items c.read_frame.new.planes.items c.in_err-next.field-0.0
    (g.S.Shelf.state c.args.shelf.now) (g.S.Shelf.state c.loop-count.shelf) (g.S.Shelf.state c.read_frame.new.shelf) c.loop-count.invariant.reads c.in_err-next.ensures.reads
    (subst (λ n. c.loop-count.count < n) c.bound_of-bound.ensures c.loop-count-test.true) c.in_err-next.ensures.planes c.loop-count.invariant.seen c.in_err-next.ensures.frame)

pub returns-in-None-clause-frames : goal.returns-in-None-clause-frames
returns-in-None-clause-frames g c =
    let frame = rw c.in-None.is at c.in_ok-next.ensures.frame in
    let cells = rw c.in-None.is at c.in_ok-next.ensures.cells in
    frames_end c.args.front.now.form.space c.args.front.now.w c.args.front.now.h c.args.front.now.start c.args.most c.args.name.now c.loop-count.count c.loop-count.at c.loop-count.bytes.items c.read_frame.new.cells c.finish.result
    (g.S.Shelf.state c.args.shelf.now) (g.S.Shelf.state c.loop-count.shelf) (g.S.Shelf.state c.read_frame.new.shelf) c.loop-count.invariant.reads c.in_ok-next.ensures.reads c.finish.ensures cells c.loop-count.invariant.seen frame

pub loop-count-preserved : goal.loop-count-preserved
loop-count-preserved g c =
    let frame = rw c.in-Some.is at c.in_ok-next.ensures.frame in
    let cells = rw c.in-Some.is at c.in_ok-next.ensures.cells in
    let next = rw c.in-Some.is at c.in_ok-next.ensures.next in
    let want = want_small c.args.front.now.form.space (c.args.front.now.w * c.args.front.now.h) (omega (arith, c.requires.cells, c.requires.most_fits)) in
    record {
      reads = only_reads_then (g.S.Shelf.state c.args.shelf.now) (g.S.Shelf.state c.loop-count.shelf) (g.S.Shelf.state c.read_frame.new.shelf) c.loop-count.invariant.reads c.in_ok-next.ensures.reads;
      seen = seen_more c.args.front.now.form.space c.args.front.now.w c.args.front.now.h c.args.front.now.start c.args.name.now c.loop-count.count c.loop-count.at c.in-Some.next c.loop-count.bytes.items c.read_frame.new.cells.items c.read_frame.new.planes.items
          (g.S.Shelf.state c.args.shelf.now) (g.S.Shelf.state c.loop-count.shelf) (g.S.Shelf.state c.read_frame.new.shelf) c.loop-count.invariant.reads c.in_ok-next.ensures.reads c.loop-count.invariant.seen frame cells;
      whole = whole_more c.args.front.now.form.space c.args.front.now.w c.args.front.now.h c.loop-count.count c.loop-count.bytes.items c.read_frame.new.cells.items c.read_frame.new.planes.items c.loop-count.invariant.whole cells;
      planes = c.in_ok-next.ensures.planes;
      place = omega (arith, next, want, c.in_ok-next.ensures.planes, c.loop-count.invariant.place);
    }

pub returns-then-more-gt0-clause-frames : goal.returns-then-more-gt0-clause-frames
returns-then-more-gt0-clause-frames g c =
    let all : c.bound_of-bound.result ≡ c.loop-count.count = omega (arith, c.loop-count-test.false, c.loop-count.auto.count-end) in
    frames_past c.args.front.now.form.space c.args.front.now.w c.args.front.now.h c.args.front.now.start c.args.most c.args.name.now c.loop-count.count c.loop-count.at c.loop-count.bytes.items c.past.result
    (g.S.Shelf.state c.args.shelf.now) (g.S.Shelf.state c.loop-count.shelf) (g.S.Shelf.state c.get.new.self) c.loop-count.invariant.reads c.in_ok-more.ensures.reads (sym all ∙ c.bound_of-bound.ensures) c.loop-count.invariant.seen
    (byte_stands c.args.name.now c.get.new.into c.loop-count.at c.in_ok-more.more (g.S.Shelf.state c.loop-count.shelf) (g.S.Shelf.state c.get.new.self) c.in_ok-more.ensures.read c.if-more-gt0.true)
    (subst (λ n. PassesFrames c.args.front.now.w c.args.front.now.h c.args.most n c.past.result) all c.past.ensures)

pub returns-clause-frames : goal.returns-clause-frames
returns-clause-frames g c =
    let all : c.bound_of-bound.result ≡ c.loop-count.count = omega (arith, c.loop-count-test.false, c.loop-count.auto.count-end) in
    frames_full c.args.front.now.form.space c.args.front.now.w c.args.front.now.h c.args.front.now.start c.args.most c.args.name.now c.bound_of-bound.result c.loop-count.at c.loop-count.bytes
    (g.S.Shelf.state c.args.shelf.now) (g.S.Shelf.state c.loop-count.shelf) (g.S.Shelf.state c.get.new.self) c.loop-count.invariant.reads c.in_ok-more.ensures.reads
    (subst (λ n. Sees (g.S.Shelf.state c.args.shelf.now) (g.S.Shelf.state c.loop-count.shelf) (λ files. FramesSeen c.args.front.now.form.space c.args.front.now.w c.args.front.now.h c.args.front.now.start (content_of files c.args.name.now) n c.loop-count.at c.loop-count.bytes.items)) (sym all) c.loop-count.invariant.seen)
    (no_byte_stands c.args.name.now c.get.new.into c.loop-count.at c.in_ok-more.more (g.S.Shelf.state c.loop-count.shelf) (g.S.Shelf.state c.get.new.self) (omega arith) c.in_ok-more.ensures.read c.if-more-gt0.false)

pub returns-clause-filled : goal.returns-clause-filled
returns-clause-filled g c =
    let all : c.bound_of-bound.result ≡ c.loop-count.count = omega (arith, c.loop-count-test.false, c.loop-count.auto.count-end) in
    record {
      some = subst (λ n. 1 ≤ n) (sym c.bound_of-bound.ensures) (some_frames c.args.front.now.w c.args.front.now.h c.args.most c.requires.w_some c.requires.h_some c.requires.cells);
      few = omega (arith, c.bound_of-bound.ensures);
      whole = subst (λ n. length c.loop-count.bytes.items ≡ samples_of c.args.front.now.form.space * c.args.front.now.w * c.args.front.now.h * n) (sym all) c.loop-count.invariant.whole;
    }

pub overflow_mul-n : goal.overflow_mul-n
overflow_mul-n g c = omega (arith, c.requires.cells, c.requires.most_fits)

pub bound_of-bound-requires-clause-w : goal.bound_of-bound-requires-clause-w
bound_of-bound-requires-clause-w g c = (c.requires.w_some, c.requires.w_fits)

pub bound_of-bound-requires-clause-h : goal.bound_of-bound-requires-clause-h
bound_of-bound-requires-clause-h g c = (c.requires.h_some, c.requires.h_fits)

pub read_frame-requires-clause-at : goal.read_frame-requires-clause-at
read_frame-requires-clause-at g c =
    let few : c.bound_of-bound.result ≤ GREATEST_AXIS = subst (λ n. n ≤ GREATEST_AXIS) (sym c.bound_of-bound.ensures) (most_few c.args.front.now.w c.args.front.now.h c.args.most) in
    omega (arith, few, c.loop-count-test.true, c.loop-count.invariant.place)

pub read_frame-requires-clause-planes : goal.read_frame-requires-clause-planes
read_frame-requires-clause-planes g c = c.loop-count.invariant.planes

pub read_frame-requires-clause-few : goal.read_frame-requires-clause-few
read_frame-requires-clause-few g c = omega (arith, c.requires.cells, c.requires.most_fits)

pub past-requires-clause-cells : goal.past-requires-clause-cells
past-requires-clause-cells g c = omega (arith, c.requires.cells, c.requires.most_fits)

pub past-requires-clause-count : goal.past-requires-clause-count
past-requires-clause-count g c = subst (λ n. n ≤ GREATEST_AXIS) (sym c.bound_of-bound.ensures) (most_few c.args.front.now.w c.args.front.now.h c.args.most)

pub overflow_cast-count : goal.overflow_cast-count
overflow_cast-count g c =
    let few : c.bound_of-bound.result ≤ GREATEST_AXIS = subst (λ n. n ≤ GREATEST_AXIS) (sym c.bound_of-bound.ensures) (most_few c.args.front.now.w c.args.front.now.h c.args.most) in
    omega (arith, few, c.loop-count-test.true)

pub returns-in-None-clause-filled : goal.returns-in-None-clause-filled
returns-in-None-clause-filled g c =
    let cells = rw c.in-None.is at c.in_ok-next.ensures.cells in
    filled_end c.args.front.now c.args.most c.loop-count.count c.read_frame.new.cells c.finish.result c.finish.ensures
    (subst (λ n. c.loop-count.count ≤ n) c.bound_of-bound.ensures (omega (arith, c.loop-count-test.true))) (ap length cells ∙ c.loop-count.invariant.whole)

pub returns-in-None-clause-reads : goal.returns-in-None-clause-reads
returns-in-None-clause-reads g c = only_reads_then (g.S.Shelf.state c.args.shelf.now) (g.S.Shelf.state c.loop-count.shelf) (g.S.Shelf.state c.read_frame.new.shelf) c.loop-count.invariant.reads c.in_ok-next.ensures.reads

pub returns-in_err-next-clause-reads : goal.returns-in_err-next-clause-reads
returns-in_err-next-clause-reads g c = only_reads_then (g.S.Shelf.state c.args.shelf.now) (g.S.Shelf.state c.loop-count.shelf) (g.S.Shelf.state c.read_frame.new.shelf) c.loop-count.invariant.reads c.in_err-next.ensures.reads

pub returns-clause-reads : goal.returns-clause-reads
returns-clause-reads g c = only_reads_then (g.S.Shelf.state c.args.shelf.now) (g.S.Shelf.state c.loop-count.shelf) (g.S.Shelf.state c.get.new.self) c.loop-count.invariant.reads c.in_ok-more.ensures.reads

pub returns-then-more-gt0-clause-reads : goal.returns-then-more-gt0-clause-reads
returns-then-more-gt0-clause-reads g c = only_reads_then (g.S.Shelf.state c.args.shelf.now) (g.S.Shelf.state c.loop-count.shelf) (g.S.Shelf.state c.get.new.self) c.loop-count.invariant.reads c.in_ok-more.ensures.reads

pub returns-in_err-more-clause-reads : goal.returns-in_err-more-clause-reads
returns-in_err-more-clause-reads g c = only_reads_then (g.S.Shelf.state c.args.shelf.now) (g.S.Shelf.state c.loop-count.shelf) (g.S.Shelf.state c.get.new.self) c.loop-count.invariant.reads c.in_err-more.ensures.reads

pub overflow_cast-result : goal.overflow_cast-result
overflow_cast-result g c = grind (arith, common_steps)

pub returns-in_err-more-clause-frames : goal.returns-in_err-more-clause-frames
returns-in_err-more-clause-frames g c =
    let p = err_from_is_err_and c.from_residual-in_err-more.result c.from_residual-in_err-more.ensures.1 in
    let rose = fault_later c.args.name.now (g.S.Shelf.state c.args.shelf.now) (g.S.Shelf.state c.loop-count.shelf) (g.S.Shelf.state c.get.new.self) c.loop-count.invariant.reads c.in_err-more.ensures.failed in
    rw (p.1, p.2) rose
