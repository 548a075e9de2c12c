-- How far a list is filled from the first entry on.
use Rattle.std.proofs.Common.{◌≡◌, ℕ, ◌+◌, ◌<◌, ◌≤◌, List, length, get_or, sym, ap, ◌∙◌, arith, ⊎_elim, Bool, true, false}
use Rattle.std.specs.Prelude.{not}
use Rattle.std.specs.List.{position_or_len}
use Rattle.std.proofs.lemmas.Bool.{cases_lt}
use Rattle.std.proofs.lemmas.List.Sums.{prefix_len_passes, prefix_len_stops, prefix_len-le-length}
use mathlib.Core.Bool.{true≢false}

module _ {X : Type 0} (p : X → Bool) (xs : List X) where
  pub front_in : position_or_len p xs ≤ length xs
  front_in = prefix_len-le-length (λ x. not (p x)) xs

  -- an element within the front does not pass
  pub front_passes : (i : ℕ) (d : X) → i < position_or_len p xs → p (get_or xs i d) ≡ false
  front_passes i d lt = negated (p (get_or xs i d)) (prefix_len_passes (λ x. not (p x)) xs i d lt)
    where
      negated : (b : Bool) → not b ≡ true → b ≡ false
      negated true e = cc
      negated false e = cc

  -- the element after the front passes
  pub front_stops : (d : X) → position_or_len p xs < length xs → p (get_or xs (position_or_len p xs) d) ≡ true
  front_stops d lt = negated (p (get_or xs (position_or_len p xs) d)) (prefix_len_stops (λ x. not (p x)) xs d lt)
    where
      negated : (b : Bool) → not b ≡ false → b ≡ true
      negated true e = cc
      negated false e = cc

  pub front_more : (i : ℕ) (d : X) → i ≤ position_or_len p xs → i < length xs → p (get_or xs i d) ≡ false → i + 1 ≤ position_or_len p xs
  front_more i d le lt fails = ⊎_elim (λ less. omega arith)
      (λ ge. let here : position_or_len p xs ≡ i = omega arith in absurd (true≢false (sym (front_stops d (omega arith)) ∙ ap (λ k. p (get_or xs k d)) here ∙ fails)))
      (cases_lt i (position_or_len p xs))

  pub front_here : (i : ℕ) (d : X) → i ≤ position_or_len p xs → p (get_or xs i d) ≡ true → i ≡ position_or_len p xs
  front_here i d le passes = ⊎_elim (λ less. absurd (true≢false (sym passes ∙ front_passes i d less))) (λ ge. omega arith) (cases_lt i (position_or_len p xs))

  -- elements that don't pass belong to the front
  pub front_reaches : (n : ℕ) (d : X) → n ≤ length xs → ((k : ℕ) → k < n → p (get_or xs k d) ≡ false) → n ≤ position_or_len p xs
  front_reaches n d le fails = ⊎_elim
      (λ less. absurd (true≢false (sym (front_stops d (omega arith)) ∙ fails (position_or_len p xs) less)))
      (λ ge. ge) (cases_lt (position_or_len p xs) n)
