use Rattle.std.proofs.Common.{◌≡◌, ℕ, ◌<◌, ◌≤◌, get_or}
use Rattle.cost_windows.specs.Tops.{row_top}
use Rattle.cost_windows.proofs.tops.fill_tops.Given as goal

abbrev pub invariant-loop-r : goal.invariant-loop-r
invariant-loop-r l = record {
  made : (q : ℕ) → l.from ≤ q → q < l.r → get_or l.tops q 0 ≡ row_top l.w l.sums q;
  before : (q : ℕ) → q < l.from → get_or l.tops q 0 ≡ get_or l.initial.tops q 0;
  after : (q : ℕ) → l.r ≤ q → get_or l.tops q 0 ≡ get_or l.initial.tops q 0;
}
