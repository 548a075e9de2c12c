use Rattle.std.proofs.Common.{ap, ◌∙◌, refl, arith, ◌≡◌, ◌<◌, List, [], ◌∷◌, ◌++◌, length, vec_capacity}
use Rattle.std.specs.Prelude.{position, None}
use Rattle.shelf_core.specs.declared.tape.TapeSpan.{TapeSpan}
use Rattle.shelf_core.specs.Tapes.{TapeState, spent, cut, has_name}
use Rattle.shelf_core.proofs.TapeLaws.{length_cut, spent_cut, cut_pushed, laid_push, mark_left}
use Rattle.shelf_core.proofs.tape.Tape.push.Goals as goal

pub put_behind-requires : goal.put_behind-requires
put_behind-requires c = omega (arith, c.requires.fits, ap (λ (t : TapeState). spent t.files) c.self.view_is, ap (λ (t : TapeState). t.room) c.self.view_is, spent_cut c.self.inside.spans.items c.self.inside.bytes.items c.self.invariant.covered, c.self.invariant.has_space)

pub push_reserved-requires : goal.push_reserved-requires
push_reserved-requires c =
    let missing : position (has_name c.args.name.now) (cut c.self.inside.spans.items c.self.inside.bytes.items) ≡ None = ap (λ (t : TapeState). position (has_name c.args.name.now) t.files) c.self.view_is ∙ c.requires.new in
    let left : length c.self.inside.spans.items < vec_capacity c.self.inside.spans = mark_left c.self.inside.room _ _ c.self.inside.spans.items c.self.inside.bytes.items c.args.name.now c.self.invariant missing (omega (arith, c.requires.fits, ap (λ (t : TapeState). spent t.files) c.self.view_is, ap (λ (t : TapeState). t.room) c.self.view_is, spent_cut c.self.inside.spans.items c.self.inside.bytes.items c.self.invariant.covered)) in
    omega (arith, left)

pub invariant_of-self : goal.invariant_of-self
invariant_of-self c =
    let missing : position (has_name c.args.name.now) (cut c.self.inside.spans.items c.self.inside.bytes.items) ≡ None = ap (λ (t : TapeState). position (has_name c.args.name.now) t.files) c.self.view_is ∙ c.requires.new in
    rw (c.put_behind.ensures.items, c.push_reserved.ensures.items) (laid_push c.self.inside.room _ _ _ _ c.self.inside.spans.items c.self.inside.bytes.items c.args.name.now _ c.self.invariant missing
    (omega (arith, c.requires.fits, ap (λ (t : TapeState). spent t.files) c.self.view_is, ap (λ (t : TapeState). t.room) c.self.view_is, spent_cut c.self.inside.spans.items c.self.inside.bytes.items c.self.invariant.covered)) refl refl c.put_behind.ensures.capacity (omega (arith, c.push_reserved.ensures.capacity)))

pub returns-clause-place : goal.returns-clause-place
returns-clause-place c = omega (arith, ap (λ (t : TapeState). length t.files) c.self.view_is, length_cut c.self.inside.spans.items c.self.inside.bytes.items)

pub returns-clause-files : goal.returns-clause-files
returns-clause-files c =
    (λ j. record {
      room = c.self.inside.room;
      files = (ap (λ (l : List TapeSpan). cut l c.put_behind.new.bytes.items) c.push_reserved.ensures.items
          ∙ ap (cut (c.self.inside.spans.items ++ record { name = length c.args.name.now; bytes = 0 } ∷ [])) c.put_behind.ensures.items
          ∙ cut_pushed c.self.inside.spans.items c.self.inside.bytes.items c.args.name.now (record { name = length c.args.name.now; bytes = 0 }) c.self.invariant.covered refl refl) j;
    })
    ∙ ap (λ (t : TapeState). record { room = t.room; files = t.files ++ (c.args.name.now, []) ∷ [] }) c.self.view_is
