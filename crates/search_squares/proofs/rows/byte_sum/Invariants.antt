use Rattle.std.proofs.Common.{◌≡◌, ◌≤◌, ◌*◌, take}
use Rattle.std.specs.Prelude.{sum}
use Rattle.search_squares.proofs.rows.byte_sum.Given as goal

abbrev pub invariant-loop-byte : goal.invariant-loop-byte
invariant-loop-byte l = record {
  sum_is : l.sum ≡ sum (take l.byte-index l.bytes);
  small : l.sum ≤ 255 * l.byte-index;
}
