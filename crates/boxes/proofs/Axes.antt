-- Laws of sums along one axis.
use Rattle.std.proofs.Common.{◌≡◌, ℕ, zero, suc, ◌+◌, ◌-◌, ◌*◌, ◌<◌, ◌≤◌, refl, ap, sym, ◌∙◌, arith}
use Rattle.std.proofs.Math.Numerals.{add-one}
use Rattle.boxes.proofs.Additions.{Addition, sum_of}

-- a relation that two additions keep holds of two sums if it holds of their terms
pub sum_related : {A B : Type 0} (add : Addition A) (add' : Addition B) (Related : A → B → Type 0)
    → Related add.none add'.none → ((a c : A) (b d : B) → Related a b → Related c d → Related (add.plus a c) (add'.plus b d))
    → (n : ℕ) (g : ℕ → A) (h : ℕ → B) → ((i : ℕ) → i < n → Related (g i) (h i)) → Related (sum_of add n g) (sum_of add' n h)
sum_related add add' Related none plus zero g h terms = none
sum_related add add' Related none plus (suc n) g h terms =
    plus _ _ _ _ (sum_related add add' Related none plus n g h (λ i lt. terms i (omega arith))) (terms n (omega arith))

module _ {A : Type 0} (add : Addition A) where
  -- equal terms give equal sums
  pub sum_equal : (n : ℕ) (g h : ℕ → A) → ((i : ℕ) → i < n → g i ≡ h i) → sum_of add n g ≡ sum_of add n h
  sum_equal = sum_related add add (λ a b. a ≡ b) refl (λ a c b d p q. λ k. add.plus (p k) (q k))

  -- a sum of nothing but none is none
  pub sum_none : (n : ℕ) (g : ℕ → A) → ((i : ℕ) → i < n → g i ≡ add.none) → sum_of add n g ≡ add.none
  sum_none zero g none = refl
  sum_none (suc n) g none = (λ k. add.plus (sum_none n g (λ i lt. none i (omega arith)) k) (none n (omega arith) k)) ∙ add.plus_none add.none

  -- the sum of sums is the sum of both
  pub sum_plus : (n : ℕ) (g h : ℕ → A) → sum_of add n (λ i. add.plus (g i) (h i)) ≡ add.plus (sum_of add n g) (sum_of add n h)
  sum_plus zero g h = sym (add.none_plus add.none)
  sum_plus (suc n) g h = ap (λ s. add.plus s (add.plus (g n) (h n))) (sum_plus n g h) ∙ add.interchange _ _ _ _

  -- one more term, as a loop counts them
  pub sum_more : (n : ℕ) (g : ℕ → A) → sum_of add (n + 1) g ≡ add.plus (sum_of add n g) (g n)
  sum_more n g = ap (λ m. sum_of add m g) (add-one n)

  -- the first a terms, and the b after them
  pub sum_split : (a b : ℕ) (g : ℕ → A) → sum_of add (a + b) g ≡ add.plus (sum_of add a g) (sum_of add b (λ i. g (a + i)))
  sum_split a zero g = ap (λ n. sum_of add n g) none ∙ sym (add.plus_none _)
    where
      none : a + 0 ≡ a
      none = omega arith
  sum_split a (suc b) g = ap (λ n. sum_of add n g) more ∙ ap (λ s. add.plus s (g (a + b))) (sum_split a b g) ∙ add.assoc _ _ _
    where
      more : a + suc b ≡ suc (a + b)
      more = omega arith

  -- the first term, and those after it
  pub sum_first : (n : ℕ) (g : ℕ → A) → sum_of add (suc n) g ≡ add.plus (g 0) (sum_of add n (λ i. g (suc i)))
  sum_first zero g = add.none_plus _ ∙ sym (add.plus_none _)
  sum_first (suc n) g = ap (λ s. add.plus s (g (suc n))) (sum_first n g) ∙ add.assoc _ _ _

  -- a run of terms moved one further: the first term goes out, and one comes in at the end
  pub sum_slide : (len : ℕ) (g : ℕ → A) → add.plus (g 0) (sum_of add len (λ i. g (suc i))) ≡ add.plus (sum_of add len g) (g len)
  sum_slide len g = sym (sum_first len g)

  -- where nothing is outside a part, the sum is that of the part
  pub sum_part : (a len n : ℕ) (g : ℕ → A) → a + len ≤ n → ((i : ℕ) → i < a → g i ≡ add.none) → ((i : ℕ) → a + len ≤ i → i < n → g i ≡ add.none)
      → sum_of add n g ≡ sum_of add len (λ i. g (a + i))
  sum_part a len n g fits before behind =
      ap (λ m. sum_of add m g) whole ∙ sum_split (a + len) (n - (a + len)) g
      ∙ ap (add.plus (sum_of add (a + len) g)) (sum_none _ _ (λ i lt. behind ((a + len) + i) (omega arith) (omega arith))) ∙ add.plus_none _
      ∙ sum_split a len g ∙ ap (λ s. add.plus s (sum_of add len (λ i. g (a + i)))) (sum_none a g before) ∙ add.none_plus _
    where
      whole : n ≡ (a + len) + (n - (a + len))
      whole = omega arith

  -- where only one term is there, the sum is that term
  pub sum_single : (a n : ℕ) (g : ℕ → A) → a < n → ((i : ℕ) → i < n → (i ≡ a → ⊥) → g i ≡ add.none) → sum_of add n g ≡ g a
  sum_single a n g lt none =
      sum_part a 1 n g (omega arith) (λ i less. none i (omega arith) (λ e. absurd (omega arith))) (λ i more less. none i less (λ e. absurd (omega arith)))
      ∙ add.none_plus _ ∙ ap g here
    where
      here : a + 0 ≡ a
      here = omega arith

  -- what comes in at each place went out at the one before: the sums are equal where nothing comes in at
  -- the first place and nothing goes out at the last
  pub sum_moved : (n : ℕ) (come gone : ℕ → A) → come 0 ≡ add.none → ((i : ℕ) → suc i < n → come (suc i) ≡ gone i) → ((i : ℕ) → suc i ≡ n → gone i ≡ add.none)
      → sum_of add n come ≡ sum_of add n gone
  sum_moved zero come gone first step last = refl
  sum_moved (suc n) come gone first step last =
      sum_first n come ∙ ap (λ a. add.plus a (sum_of add n (λ i. come (suc i)))) first ∙ add.none_plus _ ∙ sum_equal n _ gone (λ i lt. step i (omega arith))
      ∙ sym (ap (add.plus (sum_of add n gone)) (last n refl) ∙ add.plus_none _)

  -- two axes in either order
  pub sum_exchange : (n m : ℕ) (g : ℕ → ℕ → A) → sum_of add n (λ i. sum_of add m (λ j. g i j)) ≡ sum_of add m (λ j. sum_of add n (λ i. g i j))
  sum_exchange zero m g = sym (sum_none m _ (λ j lt. refl))
  sum_exchange (suc n) m g = ap (λ s. add.plus s (sum_of add m (g n))) (sum_exchange n m g) ∙ sym (sum_plus m _ _)

  -- n rows of w terms, one after another
  pub sum_rows : (w n : ℕ) (g : ℕ → A) → sum_of add (w * n) g ≡ sum_of add n (λ y. sum_of add w (λ x. g (x + w * y)))
  sum_rows w zero g = ap (λ m. sum_of add m g) none
    where
      none : w * 0 ≡ 0
      none = omega arith
  sum_rows w (suc n) g =
      ap (λ m. sum_of add m g) more ∙ sum_split (w * n) w g
      ∙ (λ k. add.plus (sum_rows w n g k) (sum_equal w (λ x. g (w * n + x)) (λ x. g (x + w * n)) (λ x lt. ap g (turned x)) k))
    where
      more : w * suc n ≡ w * n + w
      more = omega arith

      turned : (x : ℕ) → w * n + x ≡ x + w * n
      turned x = omega arith
