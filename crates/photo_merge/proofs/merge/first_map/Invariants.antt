use Rattle.std.proofs.Common.{◌≡◌, map}
use Rattle.std.specs.Prelude.{Some}
use Rattle.std.specs.List.{range_with_len}
use Rattle.cells.specs.Places.{place_of}
use Rattle.photo_merge.specs.Merges.{same_place}
use Rattle.photo_merge.proofs.merge.first_map.Given as goal

abbrev pub invariant-loop-i : goal.invariant-loop-i
invariant-loop-i l = l.sources.items ≡ map (λ i. Some (same_place l.pictures 1 (place_of l.pictures.size i))) (range_with_len 0 l.i)
