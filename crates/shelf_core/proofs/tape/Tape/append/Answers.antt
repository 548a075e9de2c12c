use Rattle.std.proofs.lemmas.Grind.{common_steps}
use Rattle.std.proofs.Common.{ap, ◌∙◌, refl, arith, ◌<◌, ◌+◌, List, [], ◌++◌, length, take, get_or}
use Rattle.std.proofs.Math.ListN.{set}
use Rattle.shelf_core.specs.declared.tape.TapeSpan.{TapeSpan}
use Rattle.shelf_core.specs.Tapes.{TapeState, no_span, spanned, spent}
use Rattle.shelf_core.proofs.TapeLaws.{length_cut, spent_cut, appended, laid_set, length_put_in, own_span, spanned_part}
use Rattle.shelf_core.proofs.tape.Tape.append.Goals as goal

pub place_of-own-requires-clause-within : goal.place_of-own-requires-clause-within
place_of-own-requires-clause-within c =
    omega (arith, ap (λ (t : TapeState). length t.files) c.self.view_is, length_cut c.self.inside.spans.items c.self.inside.bytes.items, ap length c.deref.ensures.value)

pub index_mut-requires : goal.index_mut-requires
index_mut-requires c = omega (arith, ap (λ (t : TapeState). length t.files) c.self.view_is, length_cut c.self.inside.spans.items c.self.inside.bytes.items)

pub put_in-requires-clause-room : goal.put_in-requires-clause-room
put_in-requires-clause-room c = omega (arith, c.requires.fits, ap (λ (t : TapeState). spent t.files) c.self.view_is, ap (λ (t : TapeState). t.room) c.self.view_is, spent_cut c.self.inside.spans.items c.self.inside.bytes.items c.self.invariant.covered, c.self.invariant.has_space)

pub overflow_add-index_mut : goal.overflow_add-index_mut
overflow_add-index_mut c =
    let lt : c.args.i < length c.self.inside.spans.items = omega (arith, c.requires.within, ap (λ (t : TapeState). length t.files) c.self.view_is, length_cut c.self.inside.spans.items c.self.inside.bytes.items) in
    let own = own_span c.args.i c.self.inside.spans.items c.index_mut.result.now lt c.index_mut.ensures.value in
    omega (arith, c.requires.fits, ap (λ (t : TapeState). spent t.files) c.self.view_is, ap (λ (t : TapeState). t.room) c.self.view_is, spent_cut c.self.inside.spans.items c.self.inside.bytes.items c.self.invariant.covered, c.self.ranges, spanned_part c.args.i c.self.inside.spans.items c.index_mut.result.now lt own, c.self.invariant.covered)

pub invariant_of-self : goal.invariant_of-self
invariant_of-self c =
    let lt : c.args.i < length c.self.inside.spans.items = omega (arith, c.requires.within, ap (λ (t : TapeState). length t.files) c.self.view_is, length_cut c.self.inside.spans.items c.self.inside.bytes.items) in
    let longer = ap length c.put_in.ensures.items in
    let put = length_put_in (c.place_of-own.result.start + c.place_of-own.result.len) c.self.inside.bytes.items c.args.piece.now
    (omega (arith, c.place_of-own.ensures.within, ap spanned c.deref.ensures.value, c.self.invariant.covered)) in
    laid_set c.self.inside.room _ _ _ c.args.i c.self.inside.spans.items c.self.inside.bytes.items c.put_in.new.bytes.items c.index_mut.result.now _ c.self.invariant lt c.index_mut.ensures.value refl
    (omega (arith, longer, put)) (omega (arith, longer, put, c.requires.fits, ap (λ (t : TapeState). spent t.files) c.self.view_is, ap (λ (t : TapeState). t.room) c.self.view_is, spent_cut c.self.inside.spans.items c.self.inside.bytes.items c.self.invariant.covered)) (omega (arith, c.put_in.ensures.capacity))

pub returns : goal.returns
returns c =
    let lt : c.args.i < length c.self.inside.spans.items = omega (arith, c.requires.within, ap (λ (t : TapeState). length t.files) c.self.view_is, length_cut c.self.inside.spans.items c.self.inside.bytes.items) in
    (λ j. record {
      room = c.self.inside.room;
      files = (appended c.args.i c.place_of-own.result.start c.place_of-own.result.len c.self.inside.spans.items c.self.inside.bytes.items c.args.piece.now c.put_in.new.bytes.items c.index_mut.result.now
          c.self.invariant.covered lt c.index_mut.ensures.value
          (c.place_of-own.ensures.start ∙ ap (λ (l : List TapeSpan). spanned (take c.args.i l) + (get_or l c.args.i no_span).name) c.deref.ensures.value)
          (c.place_of-own.ensures.len ∙ ap (λ (l : List TapeSpan). (get_or l c.args.i no_span).bytes) c.deref.ensures.value)
          c.put_in.ensures.items) j;
    })
    ∙ ap (λ (t : TapeState). record { room = t.room; files = set t.files c.args.i ((get_or t.files c.args.i ([], [])).0, (get_or t.files c.args.i ([], [])).1 ++ c.args.piece.now) }) c.self.view_is

pub put_in-requires-clause-within : goal.put_in-requires-clause-within
put_in-requires-clause-within c = grind (arith, common_steps)

pub overflow_add-own : goal.overflow_add-own
overflow_add-own c = grind (arith, common_steps)

pub place_of-own-requires-clause-fits : goal.place_of-own-requires-clause-fits
place_of-own-requires-clause-fits c = grind (arith, common_steps)
