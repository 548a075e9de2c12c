use Rattle.std.proofs.Common.{◌≡◌, ℕ, ◌+◌, ◌<◌, ◌≤◌, sym, subst, arith, below_more}
use Rattle.std.proofs.lemmas.Grind.{common_steps}
use Rattle.loop_walk.specs.Products.{sum_through}
use Rattle.loop_walk.proofs.trace.middle.Goals as goal
use Rattle.loop_walk.proofs.trace.middle.Goals.{then-sum_through, else-sum_through}

pub returns-clause-least : goal.returns-clause-least
returns-clause-least c = grind (arith, common_steps)

-- how a sum stands to another, by what the code holds of both
lower : (a b x y s : ℕ) → a ≡ x → b ≡ y → a < b → y ≤ s → x ≤ s
lower a b x y s is_a is_b less below = omega arith

stays : (a b x y : ℕ) → a ≡ x → b ≡ y → b ≤ a → y ≤ x
stays a b x y is_a is_b le = omega arith

same : (x : ℕ) → x ≤ x
same x = omega arith

higher : (a b x y s : ℕ) → a ≡ x → b ≡ y → a < b → y ≤ s → x < s
higher a b x y s is_a is_b less below = omega arith

pub returns-clause-first : goal.returns-clause-first
returns-clause-first c = grind (arith, common_steps)

pub loop-v-preserved : goal.loop-v-preserved
loop-v-preserved c =
    let sum : ℕ → ℕ = λ u. sum_through c.args.n c.args.left.now c.args.right.now c.args.i c.args.j u in
    let v = c.loop-v.v in
    let best = c.loop-v.best in
    let least = c.loop-v.invariant.least in
    elim c.if-sum_through.branch [
      | then-sum_through w ↦ record {
        below = omega (arith, w.best-is);
        least = subst (λ b. (u : ℕ) → u < v + 1 → sum b ≤ sum u) (sym w.best-is)
            (below_more (λ u. sum v ≤ sum u) v
            (λ u lt. lower c.sum_through.result c.sum_through-in-loop-v.result (sum v) (sum best) (sum u) c.sum_through.ensures c.sum_through-in-loop-v.ensures w.if-sum_through.true (least u lt))
            (same (sum v)));
        first = subst (λ b. (u : ℕ) → u < b → sum b < sum u) (sym w.best-is)
            (λ u lt. higher c.sum_through.result c.sum_through-in-loop-v.result (sum v) (sum best) (sum u) c.sum_through.ensures c.sum_through-in-loop-v.ensures w.if-sum_through.true (least u lt));
      }
      | else-sum_through w ↦ record {
        below = omega (arith, w.best-is, c.loop-v.invariant.below);
        least = subst (λ b. (u : ℕ) → u < v + 1 → sum b ≤ sum u) (sym w.best-is)
            (below_more (λ u. sum best ≤ sum u) v least
            (stays c.sum_through.result c.sum_through-in-loop-v.result (sum v) (sum best) c.sum_through.ensures c.sum_through-in-loop-v.ensures w.if-sum_through.false));
        first = subst (λ b. (u : ℕ) → u < b → sum b < sum u) (sym w.best-is) c.loop-v.invariant.first;
      }
    ]

pub loop-v-init : goal.loop-v-init
loop-v-init c =
    let sum : ℕ → ℕ = λ u. sum_through c.args.n c.args.left.now c.args.right.now c.args.i c.args.j u in
    record {
      below = omega arith;
      least = λ u lt.
          let first : 0 ≡ u = omega arith in
          subst (λ k. sum 0 ≤ sum k) first (same (sum 0));
      first = λ u lt. absurd (omega (arith, lt));
    }
