use Rattle.std.proofs.Common.{ℕ, ◌<◌, ◌≤◌, get_or}
use Rattle.netpbm_p6.proofs.raster.is_within.Given as goal

abbrev pub invariant-loop-byte : goal.invariant-loop-byte
invariant-loop-byte l = record {
  bound : (k : ℕ) → k < l.byte-index → get_or l.bytes k 0 ≤ l.greatest;
  least : (m : ℕ) → ((k : ℕ) → k < l.byte-index → get_or l.bytes k 0 ≤ m) → l.greatest ≤ m;
}
