-- A walk over two lists in step, which puts what an operation makes of each pair into a list, or what is
-- in a relation to that.
use Rattle.std.proofs.Common.{◌≡◌, ◌≢◌, ℕ, ◌+◌, ◌≤◌, ◌<◌, List, length, get_or, set, refl, sym, ◌∙◌, ap, subst, arith, inl, inr}
use Rattle.std.specs.List.{AllZip}
use Rattle.std.proofs.lemmas.Bool.{cases_lt}
use Rattle.std.proofs.lemmas.List.{get_or-set_other, length-set}
use Rattle.std.proofs.lemmas.Grind.{get_or-set_at}
use Rattle.cyclic_products.specs.Residues.{zip_with}
use Rattle.cyclic_products.proofs.Lists.{all_zip_by_index}

pub record IsWalked (R : ℕ → ℕ → Type 0) (op : ℕ → ℕ → ℕ) (xs ys was now : List ℕ) (i : ℕ) : Type 0 where
  pub done : (k : ℕ) → k < i → R (get_or now k 0) (op (get_or xs k 0) (get_or ys k 0))
  pub rest : (k : ℕ) → i ≤ k → get_or now k 0 ≡ get_or was k 0
  pub size : length now ≡ length was

pub walked_none : (R : ℕ → ℕ → Type 0) (op : ℕ → ℕ → ℕ) (xs ys was : List ℕ) → IsWalked R op xs ys was was 0
walked_none R op xs ys was = record {
  done = λ k below. absurd (omega (arith, below));
  rest = λ k above. refl;
  size = refl;
}

pub walked_more : (R : ℕ → ℕ → Type 0) (op : ℕ → ℕ → ℕ) (xs ys was now : List ℕ) (i v x y : ℕ) → IsWalked R op xs ys was now i → i < length was → x ≡ get_or xs i 0 → y ≡ get_or ys i 0 → R v (op x y) → IsWalked R op xs ys was (set now i v) (i + 1)
walked_more R op xs ys was now i v x y w less first second is = record {
  done = λ k below. elim (cases_lt k i) [
    | inl low ↦
        let apart : k ≢ i = omega (arith, low) in
        subst (λ n. R n (op (get_or xs k 0) (get_or ys k 0))) (sym (get_or-set_other now i k v 0 apart)) (w.done k low)
    | inr high ↦
        let here : k ≡ i = omega (arith, high, below) in
        let value : get_or (set now i v) k 0 ≡ v = get_or-set_at now i k v 0 here (omega (arith, w.size, less)) in
        let pair : op x y ≡ op (get_or xs k 0) (get_or ys k 0) =
        ap (λ n. op n y) first ∙ ap (λ n. op (get_or xs i 0) n) second ∙ ap (λ j. op (get_or xs j 0) (get_or ys j 0)) (sym here) in
        subst (λ n. R n (op (get_or xs k 0) (get_or ys k 0))) (sym value) (subst (λ n. R v n) pair is)
  ];
  rest = λ k above.
      let apart : k ≢ i = omega (arith, above) in
      get_or-set_other now i k v 0 apart ∙ w.rest k (omega (arith, above));
  size = length-set now i v ∙ w.size;
}

pub walked_all : (R : ℕ → ℕ → Type 0) (op : ℕ → ℕ → ℕ) (xs ys was now : List ℕ) (i : ℕ) → IsWalked R op xs ys was now i → length was ≤ i → length xs ≡ length was → length ys ≡ length was → AllZip R now (zip_with op xs ys)
walked_all R op xs ys was now i w whole first second =
    all_zip_by_index R op xs ys now (second ∙ sym first) (w.size ∙ sym first) (λ k below. w.done k (omega (arith, below, first, whole)))
