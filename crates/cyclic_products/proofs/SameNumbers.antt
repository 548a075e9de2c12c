-- Numbers modulo q + 1: sums and products of numbers that are the same are the same.
use Rattle.std.proofs.Common.{◌≡◌, ℕ, ◌+◌, ◌*◌, ◌%◌, refl, sym, ◌∙◌, ap}
use Rattle.std.proofs.Math.Nat.{add-mul-mod_self_right, add-mod-mod, mod-add-mod, mod-mod}
use Rattle.std.proofs.lemmas.Nat.{mul-mod_first, mul-mod_second}
use Rattle.cyclic_products.specs.Residues.{IsCongruent, mixed}

pub same_refl : (q a : ℕ) → IsCongruent q a a
same_refl q a = record { same = refl }

pub same_sym : (q a b : ℕ) → IsCongruent q a b → IsCongruent q b a
same_sym q a b e = record { same = sym e.same }

pub same_trans : (q a b c : ℕ) → IsCongruent q a b → IsCongruent q b c → IsCongruent q a c
same_trans q a b c e f = record { same = e.same ∙ f.same }

pub same_equal : (q a b : ℕ) → a ≡ b → IsCongruent q a b
same_equal q a b e = record { same = ap (λ n. n % (q + 1)) e }

-- by how many times q + 1 is to be added on each side
pub same_by : (q a b s t : ℕ) → a + s * (q + 1) ≡ b + t * (q + 1) → IsCongruent q a b
same_by q a b s t e = record {
  same = sym (add-mul-mod_self_right a s (q + 1)) ∙ ap (λ n. n % (q + 1)) e ∙ add-mul-mod_self_right b t (q + 1);
}

pub same_mod : (q a : ℕ) → IsCongruent q (a % (q + 1)) a
same_mod q a = record { same = mod-mod a (q + 1) }

pub same_plus : (q a b c d : ℕ) → IsCongruent q a b → IsCongruent q c d → IsCongruent q (a + c) (b + d)
same_plus q a b c d e f = record {
  same =
      sym (add-mod-mod a c (q + 1)) ∙ ap (λ n. (a + n) % (q + 1)) f.same ∙ add-mod-mod a d (q + 1)
      ∙ sym (mod-add-mod a (q + 1) d) ∙ ap (λ n. (n + d) % (q + 1)) e.same ∙ mod-add-mod b (q + 1) d;
}

pub same_times : (q a b c d : ℕ) → IsCongruent q a b → IsCongruent q c d → IsCongruent q (a * c) (b * d)
same_times q a b c d e f = record {
  same =
      sym (mul-mod_second a c (q + 1)) ∙ ap (λ n. (a * n) % (q + 1)) f.same ∙ mul-mod_second a d (q + 1)
      ∙ sym (mul-mod_first a d (q + 1)) ∙ ap (λ n. (n * d) % (q + 1)) e.same ∙ mul-mod_first b d (q + 1);
}

-- a sum of products by fixed numbers
pub same_mixed : (q a b x y x' y' : ℕ) → IsCongruent q x x' → IsCongruent q y y' → IsCongruent q (mixed q a b x y) (a * x' + b * y')
same_mixed q a b x y x' y' e f =
    same_trans q _ (a * x + b * y) _ (same_mod q (a * x + b * y))
    (same_plus q (a * x) (a * x') (b * y) (b * y') (same_times q a a x x' (same_refl q a) e) (same_times q b b y y' (same_refl q b) f))

-- what is below q + 1, of a number that is the same as another
pub same_reduced : (q r a b : ℕ) → r ≡ a % (q + 1) → a % (q + 1) ≡ b % (q + 1) → IsCongruent q r b
same_reduced q r a b e f = record { same = ap (λ n. n % (q + 1)) (e ∙ f) ∙ mod-mod b (q + 1) }
