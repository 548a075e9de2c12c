use Rattle.std.proofs.lemmas.Grind.{common_steps}
-- The room for a field is as wide as it.
use Rattle.std.proofs.Common.{◌≡◌, ◌≤◌, ◌+◌, ℕ, List, ◌∷◌, [], ◌∙◌, length, take, subst, sym, arith}
use Rattle.std.proofs.lemmas.List.{length-take-le, take_at}
use Rattle.file_bytes.specs.Reading.{StopsShort, Took}
use Rattle.file_bytes.proofs.reader.FileReader.number.Goals as goal

abbrev room : List ℕ
room = 0 ∷ 0 ∷ 0 ∷ 0 ∷ 0 ∷ 0 ∷ 0 ∷ 0 ∷ []

field_room : (given width : ℕ) → given ≡ width → width ≤ 8 → length (take given room) ≡ width
field_room given width is few = length-take-le given room (omega arith) ∙ is

pub take-requires-clause-room : goal.take-requires-clause-room
take-requires-clause-room g c = omega (arith, c.requires.room, field_room c.WIDTH.result g.T.Field.WIDTH c.WIDTH.ensures g.met.T.Field.few)

pub returns-in-Err-clause-stops : goal.returns-in-Err-clause-stops
returns-in-Err-clause-stops g c =
    let state = g.S.Shelf.state in
    subst (λ (n : ℕ). StopsShort c.args.name.now (c.args.self.now.at + n) (state c.args.shelf.now) (state c.take.new.shelf) c.in-Err.error)
    (field_room c.WIDTH.result g.T.Field.WIDTH c.WIDTH.ensures g.met.T.Field.few) (c.in-Err.ensures {u = tt}).stops

pub returns-in-Ok-clause-took : goal.returns-in-Ok-clause-took
returns-in-Ok-clause-took g c =
    let width : length c.take.new.into ≡ c.WIDTH-in-Ok.result =
    c.take.auto.into ∙ field_room c.WIDTH.result g.T.Field.WIDTH c.WIDTH.ensures g.met.T.Field.few ∙ sym c.WIDTH-in-Ok.ensures in
    subst (λ piece. Took c.args.name.now c.args.self.now.at piece (g.S.Shelf.state c.take.new.shelf) c.take.new.self)
    (sym (c.of.ensures ∙ take_at c.take.new.into _ c.WIDTH-in-Ok.result width)) (c.in-Ok.ensures {u = tt}).took

pub slice_bounds-of-end : goal.slice_bounds-of-end
slice_bounds-of-end g c = grind (arith, common_steps)

pub of-requires : goal.of-requires
of-requires g c = grind (arith, common_steps)

pub slice_bounds-field-end-in-Ok : goal.slice_bounds-field-end-in-Ok
slice_bounds-field-end-in-Ok g c = grind (arith, common_steps)
