use Rattle.std.proofs.Common.{◌≡◌, ◌*◌, map}
use Rattle.std.specs.List.{concat, range_with_len}
use Rattle.cells.specs.Places.{place_of}
use Rattle.turned.specs.TurnedParts.{turned_cell}
use Rattle.turned.specs.Copies.{numbered_part}
use Rattle.turned.proofs.copies.turned_bytes.Given as goal

abbrev pub invariant-loop-row : goal.invariant-loop-row
invariant-loop-row l = l.bytes.items ≡ concat (map (turned_cell l.it.turn (numbered_part l.samples l.it.number)) (map (place_of l.it.size) (range_with_len 0 (l.it.size.w * l.row))))
