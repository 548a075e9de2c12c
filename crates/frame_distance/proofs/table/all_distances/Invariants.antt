use Rattle.std.proofs.Common.{◌≡◌, ◌<◌, ◌^◌}
use Rattle.std.specs.Prelude.{All}
use Rattle.frame_distance.specs.Frames.{distance_in}
use Rattle.frame_distance.specs.Tables.{entries_of}
use Rattle.frame_distance.proofs.table.all_distances.Given as goal

abbrev pub invariant-loop-k : goal.invariant-loop-k
invariant-loop-k l = record {
  so_far : l.numbers.items ≡ entries_of l.n (distance_in l.bytes l.len) l._k;
  small : All (λ number. number < 2 ^ 43) l.numbers.items;
}
