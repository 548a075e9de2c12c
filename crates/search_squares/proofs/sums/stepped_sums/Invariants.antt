use Rattle.std.proofs.Common.{◌≡◌, ℕ, ◌+◌, ◌<◌, length, get_or}
use Rattle.search_squares.specs.declared.sums.TheConstants.{LANES}
use Rattle.search_squares.specs.Sums.{stepped_sum}
use Rattle.search_squares.proofs.sums.stepped_sums.Given as goal

abbrev pub invariant-loop-j : goal.invariant-loop-j
invariant-loop-j l = record {
  sums : (i : ℕ) → i < LANES → get_or l.sums i 0 ≡ stepped_sum l.entries l.step l.j (l.first + i);
  long : length l.sums ≡ LANES;
}
