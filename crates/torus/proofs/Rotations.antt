-- Sums over whole axes may begin anywhere, where the terms begin again after a turn.
use Rattle.std.proofs.Common.{◌≡◌, ℕ, ◌+◌, ◌-◌, ◌<◌, ◌≤◌, ap, sym, ◌∙◌, arith}
use Rattle.cells.specs.declared.place.Size.{Size}
use Rattle.boxes.specs.Sums.{sum_box, sum_to}
use Rattle.boxes.proofs.Additions.{counts}
use Rattle.boxes.proofs.Axes.{sum_equal, sum_split}

pub rotate : (n k : ℕ) (g : ℕ → ℕ) → k ≤ n → ((i : ℕ) → i < k → g (n + i) ≡ g i) → sum_to n g ≡ sum_to n (λ i. g (k + i))
rotate n k g le turn =
    ap (λ j. sum_to j g) first ∙ sum_split counts k (n - k) g ∙ swap (sum_to k g) (sum_to (n - k) (λ i. g (k + i)))
    ∙ ap (λ s. sum_to (n - k) (λ i. g (k + i)) + s) (sym (sum_equal counts k (λ i. g (k + ((n - k) + i))) g (λ i lt. ap g (past i) ∙ turn i lt)))
    ∙ sym (sum_split counts (n - k) k (λ i. g (k + i))) ∙ ap (λ j. sum_to j (λ i. g (k + i))) second
  where
    first : n ≡ k + (n - k)
    first = omega arith

    second : (n - k) + k ≡ n
    second = omega arith

    past : (i : ℕ) → k + ((n - k) + i) ≡ n + i
    past i = omega arith

    swap : (a b : ℕ) → a + b ≡ b + a
    swap a b = omega arith

pub rotate_box : (size : Size) (a b c : ℕ) (g : ℕ → ℕ → ℕ → ℕ) → a ≤ size.w → b ≤ size.h → c ≤ size.f
    → ((i y f : ℕ) → i < a → g (size.w + i) y f ≡ g i y f)
    → ((x i f : ℕ) → i < b → g x (size.h + i) f ≡ g x i f)
    → ((x y i : ℕ) → i < c → g x y (size.f + i) ≡ g x y i)
    → sum_box size g ≡ sum_box size (λ x y f. g (a + x) (b + y) (c + f))
rotate_box size a b c g la lb lc turn_x turn_y turn_f =
    rotate size.f c (λ f. sum_to size.h (λ y. sum_to size.w (λ x. g x y f))) lc
    (λ i lt. sum_equal counts size.h _ _ (λ y ly. sum_equal counts size.w _ _ (λ x lx. turn_f x y i lt)))
    ∙ sum_equal counts size.f _ _ (λ f lf.
    rotate size.h b (λ y. sum_to size.w (λ x. g x y (c + f))) lb (λ i lt. sum_equal counts size.w _ _ (λ x lx. turn_y x i (c + f) lt))
    ∙ sum_equal counts size.h _ _ (λ y ly. rotate size.w a (λ x. g x (b + y) (c + f)) la (λ i lt. turn_x i (b + y) (c + f) lt)))
