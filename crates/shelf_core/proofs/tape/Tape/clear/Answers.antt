use Rattle.std.proofs.lemmas.Grind.{common_steps}
use Rattle.std.proofs.Common.{ap, ◌∙◌, refl, arith, ◌<◌, ◌+◌, List, [], length, take, get_or}
use Rattle.std.proofs.Math.ListN.{set}
use Rattle.shelf_core.specs.declared.tape.TapeSpan.{TapeSpan}
use Rattle.shelf_core.specs.Tapes.{TapeState, no_span, spanned}
use Rattle.shelf_core.proofs.TapeLaws.{length_cut, cleared, laid_set, length_taken_out, own_span}
use Rattle.shelf_core.proofs.tape.Tape.clear.Goals as goal

pub place_of-own-requires-clause-within : goal.place_of-own-requires-clause-within
place_of-own-requires-clause-within c =
    omega (arith, ap (λ (t : TapeState). length t.files) c.self.view_is, length_cut c.self.inside.spans.items c.self.inside.bytes.items, ap length c.deref.ensures.value)

pub index_mut-requires : goal.index_mut-requires
index_mut-requires c = omega (arith, ap (λ (t : TapeState). length t.files) c.self.view_is, length_cut c.self.inside.spans.items c.self.inside.bytes.items)

pub invariant_of-self : goal.invariant_of-self
invariant_of-self c =
    let lt : c.args.i < length c.self.inside.spans.items = omega (arith, ap (λ (t : TapeState). length t.files) c.self.view_is, length_cut c.self.inside.spans.items c.self.inside.bytes.items) in
    let own = ap (λ (s : TapeSpan). s.bytes) (own_span c.args.i c.self.inside.spans.items c.index_mut.result.now lt c.index_mut.ensures.value) in
    let len = c.place_of-own.ensures.len ∙ ap (λ (l : List TapeSpan). (get_or l c.args.i no_span).bytes) c.deref.ensures.value in
    let cut_short = ap length c.take_out.ensures.items in
    let taken = length_taken_out c.place_of-own.result.start c.place_of-own.result.len c.self.inside.bytes.items
    (omega (arith, c.place_of-own.ensures.within, ap spanned c.deref.ensures.value, c.self.invariant.covered)) in
    laid_set c.self.inside.room _ _ _ c.args.i c.self.inside.spans.items c.self.inside.bytes.items c.take_out.new.bytes.items c.index_mut.result.now _ c.self.invariant lt c.index_mut.ensures.value refl
    (omega (arith, own, len, cut_short, taken)) (omega (arith, cut_short, taken, c.self.invariant.within)) (omega (arith, c.take_out.ensures.capacity))

pub returns : goal.returns
returns c =
    let lt : c.args.i < length c.self.inside.spans.items = omega (arith, ap (λ (t : TapeState). length t.files) c.self.view_is, length_cut c.self.inside.spans.items c.self.inside.bytes.items) in
    (λ j. record {
      room = c.self.inside.room;
      files = (cleared c.args.i c.place_of-own.result.start c.place_of-own.result.len c.self.inside.spans.items c.self.inside.bytes.items c.take_out.new.bytes.items c.index_mut.result.now
          c.self.invariant.covered lt c.index_mut.ensures.value
          (c.place_of-own.ensures.start ∙ ap (λ (l : List TapeSpan). spanned (take c.args.i l) + (get_or l c.args.i no_span).name) c.deref.ensures.value)
          (c.place_of-own.ensures.len ∙ ap (λ (l : List TapeSpan). (get_or l c.args.i no_span).bytes) c.deref.ensures.value)
          c.take_out.ensures.items) j;
    })
    ∙ ap (λ (t : TapeState). record { room = t.room; files = set t.files c.args.i ((get_or t.files c.args.i ([], [])).0, []) }) c.self.view_is

pub take_out-requires : goal.take_out-requires
take_out-requires c = grind (arith, common_steps)

pub place_of-own-requires-clause-fits : goal.place_of-own-requires-clause-fits
place_of-own-requires-clause-fits c = grind (arith, common_steps)
