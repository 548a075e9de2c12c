use Rattle.std.proofs.Common.{arith, ℕ, ◌+◌, ◌*◌, ◌<◌, ◌≤◌, get_or, sym, subst, below_more}
use Rattle.std.proofs.lemmas.Grind.{common_steps}
use Rattle.loop_walk.proofs.record.first_frame.Goals.{then-table-i, else-table-i}
use Rattle.loop_walk.proofs.record.first_frame.Goals as goal

-- what is less than one of the least is less than each
at_most : (a b x : ℕ) → a < b → b ≤ x → a ≤ x
at_most a b x less least = omega arith

below : (a b x : ℕ) → a < b → b ≤ x → a < x
below a b x less least = omega arith

same : (x : ℕ) → x ≤ x
same x = omega arith

pub loop-i-preserved : goal.loop-i-preserved
loop-i-preserved c =
    let d : ℕ → ℕ = λ k. get_or c.args.table.now (k * c.args.n + k) 0 in
    let i = c.loop-i.i in
    let first = c.loop-i.first in
    let so = c.loop-i.invariant in
    elim c.if-table-i.branch [
      | then-table-i w ↦ record {
        below = omega (arith, w.first-is);
        least = subst (λ b. (k : ℕ) → k < i + 1 → d b ≤ d k) (sym w.first-is)
            (below_more (λ k. d i ≤ d k) i (λ k lt. at_most (d i) (d first) (d k) w.if-table-i.true (so.least k lt)) (same (d i)));
        first = subst (λ b. (k : ℕ) → k < b → d b < d k) (sym w.first-is) (λ k lt. below (d i) (d first) (d k) w.if-table-i.true (so.least k lt));
      }
      | else-table-i w ↦ record {
        below = omega (arith, w.first-is, so.below);
        least = subst (λ b. (k : ℕ) → k < i + 1 → d b ≤ d k) (sym w.first-is) (below_more (λ k. d first ≤ d k) i so.least w.if-table-i.false);
        first = subst (λ b. (k : ℕ) → k < b → d b < d k) (sym w.first-is) so.first;
      }
    ]

pub bounds-table-first : goal.bounds-table-first
bounds-table-first c = grind (arith, common_steps)

pub returns-clause-first : goal.returns-clause-first
returns-clause-first c = grind (arith, common_steps)
