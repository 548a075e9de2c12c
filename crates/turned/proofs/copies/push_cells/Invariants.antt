use Rattle.std.proofs.Common.{◌≡◌, ◌++◌}
use Rattle.std.specs.List.{concat}
use Rattle.turned.specs.Copies.{numbered_part, turned_row}
use Rattle.turned.proofs.copies.push_cells.Given as goal

abbrev pub invariant-loop-x : goal.invariant-loop-x
invariant-loop-x l = l.bytes.items ≡ l.fn.bytes.items ++ concat (turned_row l.it.turn (numbered_part l.samples l.it.number) l.y l.f l.x)
