use Rattle.std.proofs.Common.{ap, ◌∙◌, arith, ◌<◌, ◌+◌, ◌-◌, ℕ, drop, List, [], length, take, get_or}
use Rattle.shelf_core.specs.declared.tape.TapeSpan.{TapeSpan}
use Rattle.shelf_core.specs.Tapes.{TapeState, no_span, spanned}
use Rattle.shelf_core.proofs.TapeLaws.{length_cut, content_at}
use Rattle.shelf_core.proofs.tape.Tape.content.Goals as goal

pub place_of-own-requires-clause-within : goal.place_of-own-requires-clause-within
place_of-own-requires-clause-within c =
    omega (arith, ap (λ (t : TapeState). length t.files) c.self.view_is, length_cut c.self.inside.spans.items c.self.inside.bytes.items, ap length c.deref.ensures.value)

pub returns : goal.returns
returns c =
    let lt : c.args.i < length c.self.inside.spans.items = omega (arith, ap (λ (t : TapeState). length t.files) c.self.view_is, length_cut c.self.inside.spans.items c.self.inside.bytes.items) in
    ap (λ (l : List ℕ). take ((c.place_of-own.result.start + c.place_of-own.result.len) - c.place_of-own.result.start) (drop c.place_of-own.result.start l)) c.deref-2.ensures.value
    ∙ content_at c.args.i c.place_of-own.result.start c.place_of-own.result.len c.self.inside.spans.items c.self.inside.bytes.items lt
    (c.place_of-own.ensures.start ∙ ap (λ (l : List TapeSpan). spanned (take c.args.i l) + (get_or l c.args.i no_span).name) c.deref.ensures.value)
    (c.place_of-own.ensures.len ∙ ap (λ (l : List TapeSpan). (get_or l c.args.i no_span).bytes) c.deref.ensures.value)
    ∙ ap (λ (t : TapeState). (get_or t.files c.args.i ([], [])).1) c.self.view_is
