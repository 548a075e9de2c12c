use Rattle.std.proofs.Common.{◌≡◌, ◌-◌, ◌++◌, ◌∷◌, [], ◌∙◌, ap, arith, length, map, subst, sym}
use Rattle.std.proofs.lemmas.List.{append-nil, append_assoc, length-append}
use Rattle.std.proofs.lemmas.List.FromFn.{length-map-range_with_len}
use Rattle.std.specs.List.{range_with_len}
use Rattle.turned.specs.Turns.{turn_size}
use Rattle.cells.specs.Places.{HasAxes}
use Rattle.turned.proofs.Turns.{turn_axes}
use Rattle.turned.proofs.TurnedLists.{sizes_more}
use Rattle.turned.proofs.places.add_turns.Goals as goal

pub loop-turn-init : goal.loop-turn-init
loop-turn-init c = let none : c.args.first - c.args.first ≡ 0 = omega arith in rw none (sym (append-nil c.args.sizes.now))

pub add-requires-clause-few : goal.add-requires-clause-few
add-requires-clause-few c =
    let size = c.args.size in
    let before = map (λ t. turn_size t size) (range_with_len c.args.first (c.loop-turn.turn - c.args.first)) in
    omega (arith, ap length c.loop-turn.invariant, length-append c.args.sizes.now before, length-map-range_with_len (λ t. turn_size t size) c.args.first (c.loop-turn.turn - c.args.first), c.requires.few)

pub loop-turn-preserved : goal.loop-turn-preserved
loop-turn-preserved c =
    let size = c.args.size in
    let before = map (λ t. turn_size t size) (range_with_len c.args.first (c.loop-turn.turn - c.args.first)) in
    c.add.ensures ∙ (λ k. c.loop-turn.invariant k ++ c.turned_size.ensures k ∷ []) ∙ append_assoc c.args.sizes.now before (turn_size c.loop-turn.turn size ∷ [])
    ∙ ap (λ xs. c.args.sizes.now ++ xs) (sym (sizes_more size c.args.first c.loop-turn.turn (omega arith)))

pub add-requires-clause-axes : goal.add-requires-clause-axes
add-requires-clause-axes c = subst HasAxes (sym c.turned_size.ensures) (turn_axes c.loop-turn.turn c.args.size c.requires.axes)
