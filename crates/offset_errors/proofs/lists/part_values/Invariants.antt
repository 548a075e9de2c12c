use Rattle.std.proofs.Common.{◌≡◌, map}
use Rattle.std.specs.List.{range_with_len}
use Rattle.boxes.specs.Pairs.{at_index}
use Rattle.boxes.specs.Walks.{IsAtIndex}
use Rattle.offset_errors.specs.Numbers.{part_number}
use Rattle.offset_errors.specs.Padded.{moved}
use Rattle.offset_errors.proofs.lists.part_values.Given as goal

-- the entries before an index, and the walk is there
abbrev pub invariant-cells : goal.invariant-cells
invariant-cells l =
    (l.values.items ≡ map (at_index l.fn.pad (moved l.lead l.part.size (part_number l.sample l.part.corner l.j))) (range_with_len 0 l.i))
    × IsAtIndex l.fn.pad l.i l.at.x l.at.y l.at.f
