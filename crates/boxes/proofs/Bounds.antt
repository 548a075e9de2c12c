-- Sums of numbers in order, and signed sums of numbers and of differences.
use Rattle.std.proofs.Common.{◌≡◌, ℕ, zero, suc, ◌+◌, ◌-◌, ◌*◌, ◌<◌, ◌≤◌, refl, ap, sym, ◌∙◌, arith, ⊎_elim}
use Rattle.std.proofs.lemmas.Bool.{cases_eq}
use Rattle.std.proofs.lemmas.Int.{ints}
use Rattle.std.specs.Prelude.{ℤ, pos, ◌+ℤ◌, ◌-ℤ◌, ◌≤ℤ◌}
use Rattle.cells.specs.declared.place.Size.{Size}
use Rattle.cells.specs.Places.{cell_count}
use Rattle.boxes.specs.Sums.{sum_to, sum_box, signed_sum_to, signed_sum_box}
use Rattle.boxes.proofs.Additions.{counts, integers}
use Rattle.boxes.proofs.Axes.{sum_related, sum_equal, sum_plus, sum_split}
use Rattle.boxes.proofs.Boxes.{box_related, box_equal, box_plus, box_raster}

-- greater terms give no smaller a sum
pub sum_at_most : (n : ℕ) (g h : ℕ → ℕ) → ((i : ℕ) → i < n → g i ≤ h i) → sum_to n g ≤ sum_to n h
sum_at_most = sum_related counts counts (λ a b. a ≤ b) (omega arith) (λ a c b d p q. omega arith)

pub box_at_most : (size : Size) (g h : ℕ → ℕ → ℕ → ℕ) → ((x y f : ℕ) → x < size.w → y < size.h → f < size.f → g x y f ≤ h x y f) → sum_box size g ≤ sum_box size h
box_at_most = box_related counts counts (λ a b. a ≤ b) (omega arith) (λ a c b d p q. omega arith)

pub signed_sum_at_most : (n : ℕ) (g h : ℕ → ℤ) → ((i : ℕ) → i < n → g i ≤ℤ h i) → signed_sum_to n g ≤ℤ signed_sum_to n h
signed_sum_at_most = sum_related integers integers (λ a b. a ≤ℤ b) (omega (arith, ints)) (λ a c b d p q. omega (arith, ints))

pub signed_box_at_most : (size : Size) (g h : ℕ → ℕ → ℕ → ℤ) → ((x y f : ℕ) → x < size.w → y < size.h → f < size.f → g x y f ≤ℤ h x y f) → signed_sum_box size g ≤ℤ signed_sum_box size h
signed_box_at_most = box_related integers integers (λ a b. a ≤ℤ b) (omega (arith, ints)) (λ a c b d p q. omega (arith, ints))

-- a sum of one number many times
sum_constant : (n b : ℕ) → sum_to n (λ _. b) ≡ n * b
sum_constant zero b = omega arith
sum_constant (suc n) b = omega (arith, sum_constant n b)

-- a sum is at most the count of its terms times a bound of them
pub sum_bound : (n b : ℕ) (g : ℕ → ℕ) → ((i : ℕ) → i < n → g i ≤ b) → sum_to n g ≤ n * b
sum_bound n b g bound = omega (arith, sum_at_most n g (λ _. b) bound, sum_constant n b)

pub box_bound : (size : Size) (b : ℕ) (g : ℕ → ℕ → ℕ → ℕ) → ((x y f : ℕ) → x < size.w → y < size.h → f < size.f → g x y f ≤ b) → sum_box size g ≤ cell_count size * b
box_bound size b g bound = omega (arith, box_at_most size g (λ _ _ _. b) bound, box_raster counts size (λ _. b), sum_constant (cell_count size) b)

-- the sum of fewer terms is at most that of more
pub sum_of_more : (n m : ℕ) (g : ℕ → ℕ) → n ≤ m → sum_to n g ≤ sum_to m g
sum_of_more n m g le = omega (arith, sum_split counts n (m - n) g, ap (λ k. sum_to k g) whole)
  where
    whole : m ≡ n + (m - n)
    whole = omega arith

-- a term is at most its sum
pub term_at_most : (n i : ℕ) (g : ℕ → ℕ) → i < n → g i ≤ sum_to n g
term_at_most n i g lt = omega (arith, sum_of_more (suc i) n g (omega arith))

-- where no term is greater than the other sum's, and the sum isn't smaller, each two terms are equal
pub terms_equal : (n : ℕ) (g h : ℕ → ℕ) → ((i : ℕ) → i < n → g i ≤ h i) → sum_to n h ≤ sum_to n g → (i : ℕ) → i < n → g i ≡ h i
terms_equal zero g h le total i lt = absurd (omega arith)
terms_equal (suc n) g h le total i lt =
    let before : sum_to n g ≤ sum_to n h = sum_at_most n g h (λ j less. le j (omega arith)) in
    let last : g n ≤ h n = le n (omega arith) in
    ⊎_elim (λ same. ap g same ∙ (let both : g n ≡ h n = omega arith in both) ∙ ap h (sym same))
    (λ other. terms_equal n g h (λ j less. le j (omega arith)) (omega arith) i (omega (arith, other))) (cases_eq i n)

pub box_terms_equal : (size : Size) (g h : ℕ → ℕ → ℕ → ℕ) → ((x y f : ℕ) → x < size.w → y < size.h → f < size.f → g x y f ≤ h x y f) → sum_box size h ≤ sum_box size g
    → (x y f : ℕ) → x < size.w → y < size.h → f < size.f → g x y f ≡ h x y f
box_terms_equal size g h le total x y f lx ly lf =
    terms_equal size.w (λ x. g x y f) (λ x. h x y f) (λ x lx. le x y f lx ly lf) (no_more (sym row)) x lx
  where
    no_more : {a b : ℕ} → a ≡ b → a ≤ b
    no_more {a} {b} e = omega (arith, e)

    rows : (f : ℕ) → f < size.f → (y : ℕ) → y < size.h → sum_to size.w (λ x. g x y f) ≤ sum_to size.w (λ x. h x y f)
    rows f lf y ly = sum_at_most size.w _ _ (λ x lx. le x y f lx ly lf)

    frame : sum_to size.h (λ y. sum_to size.w (λ x. g x y f)) ≡ sum_to size.h (λ y. sum_to size.w (λ x. h x y f))
    frame = terms_equal size.f (λ f. sum_to size.h (λ y. sum_to size.w (λ x. g x y f))) (λ f. sum_to size.h (λ y. sum_to size.w (λ x. h x y f)))
        (λ f lf. sum_at_most size.h _ _ (rows f lf)) total f lf

    row : sum_to size.w (λ x. g x y f) ≡ sum_to size.w (λ x. h x y f)
    row = terms_equal size.h (λ y. sum_to size.w (λ x. g x y f)) (λ y. sum_to size.w (λ x. h x y f)) (rows f lf) (no_more (sym frame)) y ly

-- the signed sum of numbers is their sum
pub signed_sum_pos : (n : ℕ) (g : ℕ → ℕ) → signed_sum_to n (λ i. pos (g i)) ≡ pos (sum_to n g)
signed_sum_pos n g = sum_related integers counts (λ z a. z ≡ pos a) refl (λ a c b d p q. omega (arith, ints)) n (λ i. pos (g i)) g (λ i lt. refl)

pub signed_box_pos : (size : Size) (g : ℕ → ℕ → ℕ → ℕ) → signed_sum_box size (λ x y f. pos (g x y f)) ≡ pos (sum_box size g)
signed_box_pos size g = box_related integers counts (λ z a. z ≡ pos a) refl (λ a c b d p q. omega (arith, ints)) size (λ x y f. pos (g x y f)) g (λ x y f lx ly lf. refl)

-- a sum of differences is the difference of the sums
pub signed_sum_minus : (n : ℕ) (g h : ℕ → ℤ) → signed_sum_to n (λ i. g i -ℤ h i) ≡ signed_sum_to n g -ℤ signed_sum_to n h
signed_sum_minus n g h = omega (arith, ints, sum_plus integers n (λ i. g i -ℤ h i) h, sum_equal integers n (λ i. (g i -ℤ h i) +ℤ h i) g (λ i lt. omega (arith, ints)))

pub signed_box_minus : (size : Size) (g h : ℕ → ℕ → ℕ → ℤ) → signed_sum_box size (λ x y f. g x y f -ℤ h x y f) ≡ signed_sum_box size g -ℤ signed_sum_box size h
signed_box_minus size g h =
    omega (arith, ints, box_plus integers size (λ x y f. g x y f -ℤ h x y f) h, box_equal integers size (λ x y f. (g x y f -ℤ h x y f) +ℤ h x y f) g (λ x y f lx ly lf. omega (arith, ints)))
