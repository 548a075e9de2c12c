use Rattle.std.proofs.Common.{◌≡◌, ◌+◌, ◌-◌, ◌*◌, length}
use Rattle.cells.specs.Places.{cell_count}
use Rattle.cells.specs.Cells.{count_of, sizes_of}
use Rattle.turned.specs.TurnedPlaces.{sample_size}
use Rattle.turned.specs.Copies.{numbered_part, turns_from, with_parts}
use Rattle.turned.proofs.copies.add_turns.Given as goal

abbrev pub invariant-loop-turn : goal.invariant-loop-turn
invariant-loop-turn l = record {
  all : l.all ≡ with_parts l.fn.all (turns_from (numbered_part l.samples l.number) l.first (l.turn - l.first));
  samples : l.all.k ≡ l.fn.all.k;
  few : length (sizes_of l.all) ≡ length (sizes_of l.fn.all) + (l.turn - l.first);
  room : count_of l.all ≡ count_of l.fn.all + (l.turn - l.first) * cell_count (sample_size l.sizes l.number);
}
