use Rattle.std.proofs.Common.{◌≡◌, map}
use Rattle.std.specs.List.{range_with_len}
use Rattle.cells.specs.Places.{place_of}
use Rattle.photo_merge.specs.Marks.{is_earlier, mark_at}
use Rattle.photo_merge.proofs.marks.earlier_marks.Given as goal

abbrev pub invariant-loop-i : goal.invariant-loop-i
invariant-loop-i l = l.held.items ≡ map (λ i. is_earlier l.number (mark_at l.marks (place_of l.size i))) (range_with_len 0 l.i)
