use Rattle.std.proofs.Common.{◌≡◌, ◌-◌, ◌++◌, map}
use Rattle.std.specs.List.{range_with_len}
use Rattle.turned.specs.Turns.{turn_size}
use Rattle.turned.proofs.places.add_turns.Given as goal

abbrev pub invariant-loop-turn : goal.invariant-loop-turn
invariant-loop-turn l = l.sizes ≡ l.fn.sizes ++ map (λ t. turn_size t l.size) (range_with_len l.first (l.turn - l.first))
