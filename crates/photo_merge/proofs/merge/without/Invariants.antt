use Rattle.std.proofs.Common.{◌≡◌, map}
use Rattle.std.specs.List.{range_with_len}
use Rattle.cells.specs.Places.{place_of}
use Rattle.photo_merge.specs.Merges.{source_without}
use Rattle.photo_merge.proofs.merge.without.Given as goal

abbrev pub invariant-loop-i : goal.invariant-loop-i
invariant-loop-i l = l.sources.items ≡ map (λ i. source_without l.map l.marks l.number (place_of l.map.size i)) (range_with_len 0 l.i)
