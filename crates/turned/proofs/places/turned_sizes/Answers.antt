use Rattle.std.proofs.Common.{◌≤◌, ◌++◌, ◌∙◌, ap, arith, length, map}
use Rattle.std.specs.List.{range_with_len}
use Rattle.turned.specs.Turns.{turn_size}
use Rattle.turned.proofs.TurnedLists.{sizes_of_one, sizes_of_two}
use Rattle.turned.proofs.places.turned_sizes.Goals as goal

pub returns-then-count-eq1 : goal.returns-then-count-eq1
returns-then-count-eq1 c =
    let few : length c.args.samples.now ≤ 1 = omega (arith, c.len-count.ensures.len, c.if-count-eq1.true) in
    c.add_turns.ensures ∙ ap (λ xs. xs ++ map (λ t. turn_size t c.at-first.result) (range_with_len 1 7)) c.one-sizes.ensures
    ∙ sizes_of_one c.args.samples.now c.at-first.result c.at-first.ensures.size few

pub returns : goal.returns
returns c =
    c.add_turns-2.ensures
    ∙ ap (λ xs. xs ++ map (λ t. turn_size t c.at-second.result) (range_with_len 0 8))
    (c.add_turns.ensures ∙ ap (λ xs. xs ++ map (λ t. turn_size t c.at-first.result) (range_with_len 1 7)) c.one-sizes.ensures)
    ∙ sizes_of_two c.args.samples.now c.at-first.result c.at-second.result c.at-first.ensures.size c.at-second.ensures.size c.requires
