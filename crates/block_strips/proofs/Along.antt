-- Blocks along one axis: how far the first of them reach, and where the next one begins.
use Rattle.std.proofs.Common.{◌≡◌, ℕ, zero, suc, ◌+◌, ◌-◌, ◌*◌, ◌/◌, ◌≤◌, Bool, true, false, refl, ap, sym, ◌∙◌, arith, eqb-true}
use Rattle.std.proofs.lemmas.Bool.{eqb-false}
use Rattle.std.proofs.lemmas.Nat.{div-mul-add}
use Rattle.std.specs.Prelude.{nat_eq, if◌then◌else◌}

-- k blocks, one every s cells, reach so far, where the next one overlaps them by O; none reaches 0
pub record Reaches (s O k reach : ℕ) : Type 0 where
  pub from : k * s ≤ reach
  pub to : reach ≤ k * s + O
  pub none : k ≡ 0 → reach ≡ 0
  pub some : 1 ≤ k → reach ≡ k * s + O

pub reach_none : (s O : ℕ) → Reaches s O 0 0
reach_none s O = record { from = omega arith; to = omega arith; none = λ e. refl; some = λ le. omega arith }

pub reach_more : (s O k : ℕ) → Reaches s O (k + 1) (k * s + (s + O))
reach_more s O k = record { from = omega arith; to = omega arith; none = λ e. omega arith; some = λ le. omega arith }

back_to : (B s k reach : ℕ) → 1 ≤ s → s ≤ B → Reaches s (B - s) k reach → reach + s - B ≡ k * s + 0
back_to B s zero reach one le at = let none : reach ≡ 0 = at.none refl in omega arith
back_to B s (suc k) reach one le at = let some : reach ≡ suc k * s + (B - s) = at.some (omega arith) in omega arith

-- the block that has the first cell that they don't reach begins after k steps
pub corner_of : (B s k reach : ℕ) → 1 ≤ s → s ≤ B → Reaches s (B - s) k reach → (reach + s - B) / s * s ≡ k * s
corner_of B s k reach one le at = ap (λ n. n / s * s) (back_to B s k reach one le at) ∙ ap (λ n. n * s) (div-mul-add k s 0 one)

-- and shares with them what lies from there on
pub shared_of : (s O k reach : ℕ) → 1 ≤ s → Reaches s O k reach → k * s + (if nat_eq (k * s) 0 then 0 else O) ≡ reach
shared_of s O zero reach one at = at_first (0 * s) (omega arith) (nat_eq (0 * s) 0) refl
  where
    at_first : (c : ℕ) → c ≡ 0 → (b : Bool) → nat_eq c 0 ≡ b → c + (if b then 0 else O) ≡ reach
    at_first c e true t = let none : reach ≡ 0 = at.none refl in omega arith
    at_first c e false t = absurd (eqb-false c 0 t e)
shared_of s O (suc k) reach one at = behind (suc k * s) (omega arith) (at.some (omega arith)) (nat_eq (suc k * s) 0) refl
  where
    behind : (c : ℕ) → 1 ≤ c → reach ≡ c + O → (b : Bool) → nat_eq c 0 ≡ b → c + (if b then 0 else O) ≡ reach
    behind c some is true t = let none : c ≡ 0 = eqb-true c 0 t in absurd (omega arith)
    behind c some is false t = sym is
