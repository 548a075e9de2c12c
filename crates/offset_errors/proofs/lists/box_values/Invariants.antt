use Rattle.std.proofs.Common.{◌≡◌, ◌-◌, map}
use Rattle.std.specs.Prelude.{reverse}
use Rattle.std.specs.List.{range_with_len}
use Rattle.boxes.specs.Pairs.{at_index}
use Rattle.boxes.specs.Walks.{IsAtIndex}
use Rattle.offset_errors.specs.Numbers.{box_number}
use Rattle.offset_errors.specs.Padded.{in_box}
use Rattle.offset_errors.proofs.lists.box_values.Given as goal

-- the last entries, and the walk is at the first of them
abbrev pub invariant-cells : goal.invariant-cells
invariant-cells l =
    (l.values.items ≡ reverse (map (at_index l.pad (in_box l.rect.size (box_number l.map l.sample l.rect l.j))) (range_with_len (l.n - l.i) l.i)))
    × IsAtIndex l.pad (l.n - l.i) l.at.x l.at.y l.at.f
