use Rattle.std.proofs.lemmas.Grind.{common_steps}
use Rattle.std.proofs.Common.{◌≡◌, ◌+◌, ◌*◌, ◌∙◌, ◌++◌, length, ap, arith, sym, subst}
use Rattle.std.specs.Prelude.{Ok, Err, Some}
use Rattle.std.proofs.lemmas.List.{with_items_is}
use Rattle.std.proofs.lemmas.Result.{err_from_is_err_and}
use Rattle.shelf_traits.proofs.FileLaws.{only_reads_then}
use Rattle.y4m_clip.specs.Spaces.{samples_of}
use Rattle.y4m_clip.specs.Clips.{frame_cells}
use Rattle.y4m_clip.specs.Frames.{FindsFrameAs, ReadsFrameAs}
use Rattle.y4m_clip.proofs.FramesLaws.{want_small}
use Rattle.y4m_clip.proofs.FrameLines.{finds_frame_as}
use Rattle.y4m_clip.proofs.FrameSteps.{line_refused, planes_refused, frame_read}
use Rattle.y4m_clip.proofs.frame.read_frame.Goals as goal

pub returns-in_err-length-clause-frame : goal.returns-in_err-length-clause-frame
returns-in_err-length-clause-frame g c =
    let p = err_from_is_err_and c.from_residual-in_err-length.result c.from_residual-in_err-length.ensures.1 in
    let found = subst (FindsFrameAs c.args.name.now c.args.at (g.S.Shelf.state c.args.shelf.now) (g.S.Shelf.state c.get.new.self)) (sym c.judge.ensures.judged ∙ c.in_err-length.was {u = tt})
    (finds_frame_as c.args.name.now c.get.new.into c.args.at c.in_ok-count.count c.scan_frame.result (g.S.Shelf.state c.args.shelf.now) (g.S.Shelf.state c.get.new.self) (omega arith) c.in_ok-count.ensures.read c.scan_frame.ensures.scanned c.scan_frame.ensures.early) in
    rw (p.1, p.2)
    (line_refused c.args.front.now.form.space c.args.front.now.w c.args.front.now.h c.args.name.now c.args.at c.args.planes.now.items c.in_err-length.field-0.0 (g.S.Shelf.state c.args.shelf.now) (g.S.Shelf.state c.get.new.self) found)

pub returns-in_err-fill_planes-clause-frame : goal.returns-in_err-fill_planes-clause-frame
returns-in_err-fill_planes-clause-frame g c =
    let p = err_from_is_err_and c.from_residual-in_err-fill_planes.result c.from_residual-in_err-fill_planes.ensures.1 in
    let found = subst (FindsFrameAs c.args.name.now c.args.at (g.S.Shelf.state c.args.shelf.now) (g.S.Shelf.state c.get.new.self)) (sym c.judge.ensures.judged ∙ c.in_ok-length.was {u = tt} ∙ ap (λ it. Ok it) c.in-Some.is)
    (finds_frame_as c.args.name.now c.get.new.into c.args.at c.in_ok-count.count c.scan_frame.result (g.S.Shelf.state c.args.shelf.now) (g.S.Shelf.state c.get.new.self) (omega arith) c.in_ok-count.ensures.read c.scan_frame.ensures.scanned c.scan_frame.ensures.early) in
    let items = with_items_is c.args.planes.now c.fill_planes.new.planes (c.fill_planes.auto.planes ∙ c.deref_mut.ensures.len) in
    rw (p.1, p.2)
    (subst (λ planes. ReadsFrameAs c.args.front.now.form.space c.args.front.now.w c.args.front.now.h c.args.name.now c.args.at planes (g.S.Shelf.state c.args.shelf.now) (g.S.Shelf.state c.fill_planes.new.shelf) (Err c.in_err-fill_planes.field-0.0)) (sym items)
    (planes_refused c.args.front.now.form.space c.args.front.now.w c.args.front.now.h c.args.name.now c.args.at c.in-Some.length c.fill_planes.new.planes c.in_err-fill_planes.field-0.0
    (g.S.Shelf.state c.args.shelf.now) (g.S.Shelf.state c.get.new.self) (g.S.Shelf.state c.fill_planes.new.shelf) c.in_ok-count.ensures.reads c.in_err-fill_planes.ensures.reads found c.in_err-fill_planes.ensures.fills))

pub returns-clause-frame : goal.returns-clause-frame
returns-clause-frame g c =
    let found = subst (FindsFrameAs c.args.name.now c.args.at (g.S.Shelf.state c.args.shelf.now) (g.S.Shelf.state c.get.new.self)) (sym c.judge.ensures.judged ∙ c.in_ok-length.was {u = tt} ∙ ap (λ it. Ok it) c.in-Some.is)
    (finds_frame_as c.args.name.now c.get.new.into c.args.at c.in_ok-count.count c.scan_frame.result (g.S.Shelf.state c.args.shelf.now) (g.S.Shelf.state c.get.new.self) (omega arith) c.in_ok-count.ensures.read c.scan_frame.ensures.scanned c.scan_frame.ensures.early) in
    let whole : length c.fill_planes.new.planes ≡ samples_of c.args.front.now.form.space * (c.args.front.now.w * c.args.front.now.h) = c.fill_planes.auto.planes ∙ c.deref_mut.ensures.len ∙ c.args.planes.now.ok.0 ∙ c.requires.planes in
    let items = with_items_is c.args.planes.now c.fill_planes.new.planes (c.fill_planes.auto.planes ∙ c.deref_mut.ensures.len) in
    subst (λ planes. ReadsFrameAs c.args.front.now.form.space c.args.front.now.w c.args.front.now.h c.args.name.now c.args.at planes (g.S.Shelf.state c.args.shelf.now) (g.S.Shelf.state c.fill_planes.new.shelf) (Ok (Some (c.args.at + c.in-Some.length + c.len-2.result)))) (sym items)
    (frame_read c.args.front.now.form.space c.args.front.now.w c.args.front.now.h c.args.name.now c.args.at c.in-Some.length (c.args.at + c.in-Some.length + c.len-2.result) c.fill_planes.new.planes
    (g.S.Shelf.state c.args.shelf.now) (g.S.Shelf.state c.get.new.self) (g.S.Shelf.state c.fill_planes.new.shelf) whole (omega (arith, c.len-2.ensures, ap length items)) c.in_ok-count.ensures.reads c.in_ok-fill_planes.ensures.reads found c.in_ok-fill_planes.ensures.fills)

pub judge-requires-clause-at : goal.judge-requires-clause-at
judge-requires-clause-at g c = omega (arith, c.requires.at)

pub overflow_add-start : goal.overflow_add-start
overflow_add-start g c =
    let short = rw c.in-Some.is at c.in_ok-length.ensures.short in
    omega (arith, c.requires.at, short)

pub fill_planes-requires : goal.fill_planes-requires
fill_planes-requires g c =
    let short = rw c.in-Some.is at c.in_ok-length.ensures.short in
    let want = want_small c.args.front.now.form.space (c.args.front.now.w * c.args.front.now.h) c.requires.few in
    omega (arith, c.requires.at, c.requires.planes, short, want)

pub add_frame-requires-clause-planes : goal.add_frame-requires-clause-planes
add_frame-requires-clause-planes g c =
    let long = c.fill_planes.auto.planes ∙ c.deref_mut.ensures.len in
    ap length c.deref.ensures.value ∙ ap length (with_items_is c.args.planes.now c.fill_planes.new.planes long) ∙ long ∙ c.args.planes.now.ok.0 ∙ c.requires.planes

pub add_frame-requires-clause-few : goal.add_frame-requires-clause-few
add_frame-requires-clause-few g c = c.requires.few

pub overflow_add-result : goal.overflow_add-result
overflow_add-result g c =
    let short = rw c.in-Some.is at c.in_ok-length.ensures.short in
    let want = want_small c.args.front.now.form.space (c.args.front.now.w * c.args.front.now.h) c.requires.few in
    let items = with_items_is c.args.planes.now c.fill_planes.new.planes (c.fill_planes.auto.planes ∙ c.deref_mut.ensures.len) in
    omega (arith, c.requires.at, c.requires.planes, short, want, ap length items)

pub returns-clause-cells : goal.returns-clause-cells
returns-clause-cells g c =
    c.in_ok-add_frame.ensures {u = tt} ∙ (λ i. c.make_room.ensures i ++ frame_cells c.args.front.now.form.space c.args.front.now.w c.args.front.now.h (c.deref.ensures.value i))

pub returns-clause-next : goal.returns-clause-next
returns-clause-next g c =
    let short = rw c.in-Some.is at c.in_ok-length.ensures.short in
    let items = with_items_is c.args.planes.now c.fill_planes.new.planes (c.fill_planes.auto.planes ∙ c.deref_mut.ensures.len) in
    omega (arith, short, ap length items)

pub returns-clause-reads : goal.returns-clause-reads
returns-clause-reads g c = only_reads_then (g.S.Shelf.state c.args.shelf.now) (g.S.Shelf.state c.get.new.self) (g.S.Shelf.state c.fill_planes.new.shelf) c.in_ok-count.ensures.reads c.in_ok-fill_planes.ensures.reads

pub returns-in_err-add_frame-clause-reads : goal.returns-in_err-add_frame-clause-reads
returns-in_err-add_frame-clause-reads g c =
    only_reads_then (g.S.Shelf.state c.args.shelf.now) (g.S.Shelf.state c.get.new.self) (g.S.Shelf.state c.fill_planes.new.shelf) c.in_ok-count.ensures.reads c.in_ok-fill_planes.ensures.reads

pub returns-in_err-make_room-clause-reads : goal.returns-in_err-make_room-clause-reads
returns-in_err-make_room-clause-reads g c =
    only_reads_then (g.S.Shelf.state c.args.shelf.now) (g.S.Shelf.state c.get.new.self) (g.S.Shelf.state c.fill_planes.new.shelf) c.in_ok-count.ensures.reads c.in_ok-fill_planes.ensures.reads

pub returns-in_err-fill_planes-clause-reads : goal.returns-in_err-fill_planes-clause-reads
returns-in_err-fill_planes-clause-reads g c =
    only_reads_then (g.S.Shelf.state c.args.shelf.now) (g.S.Shelf.state c.get.new.self) (g.S.Shelf.state c.fill_planes.new.shelf) c.in_ok-count.ensures.reads c.in_err-fill_planes.ensures.reads

pub returns-in_default-clause-frame : goal.returns-in_default-clause-frame
returns-in_default-clause-frame g c =
    let found = subst (FindsFrameAs c.args.name.now c.args.at (g.S.Shelf.state c.args.shelf.now) (g.S.Shelf.state c.get.new.self)) (sym c.judge.ensures.judged ∙ c.in_ok-length.was {u = tt})
    (finds_frame_as c.args.name.now c.get.new.into c.args.at c.in_ok-count.count c.scan_frame.result (g.S.Shelf.state c.args.shelf.now) (g.S.Shelf.state c.get.new.self) (omega arith) c.in_ok-count.ensures.read c.scan_frame.ensures.scanned c.scan_frame.ensures.early) in
    grind (arith, common_steps, found)

pub returns-in_err-make_room-clause-planes : goal.returns-in_err-make_room-clause-planes
returns-in_err-make_room-clause-planes g c =
    let long = c.fill_planes.auto.planes ∙ c.deref_mut.ensures.len in
    ap length (with_items_is c.args.planes.now c.fill_planes.new.planes long) ∙ long ∙ c.args.planes.now.ok.0 ∙ c.requires.planes

pub returns-in_err-fill_planes-clause-planes : goal.returns-in_err-fill_planes-clause-planes
returns-in_err-fill_planes-clause-planes g c =
    let long = c.fill_planes.auto.planes ∙ c.deref_mut.ensures.len in
    ap length (with_items_is c.args.planes.now c.fill_planes.new.planes long) ∙ long ∙ c.args.planes.now.ok.0 ∙ c.requires.planes

pub returns-clause-planes : goal.returns-clause-planes
returns-clause-planes g c =
    let long = c.fill_planes.auto.planes ∙ c.deref_mut.ensures.len in
    ap length (with_items_is c.args.planes.now c.fill_planes.new.planes long) ∙ long ∙ c.args.planes.now.ok.0 ∙ c.requires.planes

pub returns-in_err-add_frame-clause-planes : goal.returns-in_err-add_frame-clause-planes
returns-in_err-add_frame-clause-planes g c =
    let long = c.fill_planes.auto.planes ∙ c.deref_mut.ensures.len in
    ap length (with_items_is c.args.planes.now c.fill_planes.new.planes long) ∙ long ∙ c.args.planes.now.ok.0 ∙ c.requires.planes
