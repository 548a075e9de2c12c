use Rattle.std.proofs.lemmas.Grind.{common_steps}
use Rattle.std.proofs.Common.{◌≡◌, ◌∙◌, List, [], ◌∷◌, ap, arith, length, refl}
use Rattle.cells.specs.declared.place.Size.{Size}
use Rattle.cells.specs.Cells.{Cells}
use Rattle.turned.specs.Copies.{numbered_part, turns_from, with_parts}
use Rattle.turned.proofs.Copying.{turned_one, turned_two}
use Rattle.turned.proofs.copies.turn_all.Goals as goal

none_of : (xs : List Size) → length xs ≡ 0 → xs ≡ []
none_of [] e = refl
none_of (x ∷ xs) e = absurd (omega (arith, e))

pub returns-then-len-eq1 : goal.returns-then-len-eq1
returns-then-len-eq1 c =
    let samples = c.args.samples.now in
    let count : length samples.more ≡ 0 = omega (arith, c.len.ensures.len, ap length c.sizes-sizes.ensures, c.if-len-eq1.true) in
    (c.in_ok-add_turns.ensures {u = tt}).parts
    ∙ ap (λ (v : Cells). with_parts v (turns_from (numbered_part samples 1) 1 7)) (c.in_ok-all.ensures {u = tt}).turned
    ∙ turned_one samples (none_of samples.more count)

pub returns : goal.returns
returns c =
    let samples = c.args.samples.now in
    let count : length samples.more ≡ 1 = omega (arith, c.len.ensures.len, ap length c.sizes-sizes.ensures, c.if-len-eq1.false, c.requires.few) in
    (c.in_ok-add_turns-2.ensures {u = tt}).parts
    ∙ ap (λ (v : Cells). with_parts v (turns_from (numbered_part samples 2) 0 8))
    ((c.in_ok-add_turns.ensures {u = tt}).parts
    ∙ ap (λ (v : Cells). with_parts v (turns_from (numbered_part samples 1) 1 7)) (c.in_ok-all.ensures {u = tt}).turned)
    ∙ turned_two samples count

pub add_turns-requires-2-clause-room : goal.add_turns-requires-2-clause-room
add_turns-requires-2-clause-room c = grind (arith, common_steps)

pub add_turns-requires-2-clause-few : goal.add_turns-requires-2-clause-few
add_turns-requires-2-clause-few c = grind (arith, common_steps)

pub add_turns-requires-clause-room : goal.add_turns-requires-clause-room
add_turns-requires-clause-room c = grind (arith, common_steps)
