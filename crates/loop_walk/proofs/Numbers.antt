-- Entries as numbers: none is the greatest, and a sum that stops there is the sum of what is there.
use Rattle.std.proofs.Common.{◌≡◌, ℕ, ◌+◌, ◌<◌, ◌≤◌, refl, ap, sym, ◌∙◌, subst, arith, ⊎_elim, inl, inr}
use Rattle.std.specs.Prelude.{Option, Some, None, IfSome, if◌then◌else◌}
use Rattle.std.proofs.lemmas.Bool.{cases_eq, eq-eqb, ne_eqb}
use Rattle.loop_walk.specs.Walks.{sum_if_both, AtMost}
use Rattle.loop_walk.specs.Tables.{table_entry}
use Rattle.loop_walk.specs.Products.{IsNoneOrAtMost, step_number, stopped_sum}

abbrev none : ℕ
none = 18446744073709551615

pub entry_of-none : (x : ℕ) → x ≡ none → table_entry x ≡ None
entry_of-none x is = ap (λ b. if b then None else Some x) (eq-eqb x none is)

pub entry_of-some : (x : ℕ) → (x ≡ none → ⊥) → table_entry x ≡ Some x
entry_of-some x is = ap (λ b. if b then None else Some x) (ne_eqb x none is)

pub entry_not : (x : ℕ) (y : ℕ) → table_entry x ≡ Some y → (x ≡ none → ⊥)
entry_not x y is top = let e : None ≡ Some y = sym (entry_of-none x top) ∙ is in cc

-- a number that is there is the entry
pub entry_is : (x y : ℕ) → table_entry x ≡ Some y → x ≡ y
entry_is x y is = let e : Some x ≡ Some y = sym (entry_of-some x (entry_not x y is)) ∙ is in cc

pub entry_of-number_of : (o : Option ℕ) → IfSome o (λ x. x < none) → table_entry (step_number o) ≡ o
entry_of-number_of None small = entry_of-none none refl
entry_of-number_of (Some x) small = entry_of-some x (λ e. absurd (omega arith))

pub small-number_of : (o : Option ℕ) (bound : ℕ) → IfSome o (λ x. x < bound) → IsNoneOrAtMost bound (step_number o)
small-number_of None bound small = inl refl
small-number_of (Some x) bound small = inr (omega arith)

-- order of numbers is order of entries
pub at_most : (x y : ℕ) → x ≤ y → y ≤ none → AtMost (table_entry x) (table_entry y)
at_most x y le top = ⊎_elim
    (λ is. subst (AtMost (table_entry x)) (sym (entry_of-none y is)) tt)
    (λ apart.
    let some : x ≡ none → ⊥ = λ e. apart (omega arith) in
    subst (λ o. AtMost o (table_entry y)) (sym (entry_of-some x some)) (subst (AtMost (Some x)) (sym (entry_of-some y apart)) le))
    (cases_eq y none)

pub plus-none : (a : Option ℕ) → sum_if_both a None ≡ None
plus-none None = refl
plus-none (Some a) = refl

module _ (bound bound' a b : ℕ) (room : bound + bound' < none) (sa : IsNoneOrAtMost bound a) (sb : IsNoneOrAtMost bound' b) where
  -- a sum that stops at none
  pub entry_of-stopped_sum : table_entry (stopped_sum a b) ≡ sum_if_both (table_entry a) (table_entry b)
  entry_of-stopped_sum = ⊎_elim
      (λ is. entry_of-none (stopped_sum a b) (omega arith) ∙ (λ i. sum_if_both (sym (entry_of-none a is) i) (table_entry b)))
      (λ le. ⊎_elim
      (λ is. entry_of-none (stopped_sum a b) (omega arith) ∙ sym (plus-none (table_entry a)) ∙ (λ i. sum_if_both (table_entry a) (sym (entry_of-none b is) i)))
      (λ le'.
      let sum : stopped_sum a b ≡ a + b = omega arith in
      entry_of-some (stopped_sum a b) (λ e. absurd (omega arith)) ∙ ap Some sum
      ∙ (λ i. sum_if_both (sym (entry_of-some a (λ e. absurd (omega arith))) i) (sym (entry_of-some b (λ e. absurd (omega arith))) i)))
      sb) sa

  pub small-stopped_sum : IsNoneOrAtMost (bound + bound') (stopped_sum a b)
  small-stopped_sum = ⊎_elim (λ is. inl (omega arith)) (λ le. ⊎_elim (λ is. inl (omega arith)) (λ le'. inr (omega arith)) sb) sa

pub small-more : (bound bound' x : ℕ) → bound ≤ bound' → IsNoneOrAtMost bound x → IsNoneOrAtMost bound' x
small-more bound bound' x le small = ⊎_elim (λ is. inl is) (λ below. inr (omega arith)) small
