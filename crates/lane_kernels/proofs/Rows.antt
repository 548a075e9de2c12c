-- A sum over rows that are read in step: part by part, and how large it gets.
use Rattle.std.proofs.Common.{◌≡◌, ◌∙◌, ℕ, zero, suc, ◌+◌, ◌-◌, ◌*◌, ◌<◌, ◌≤◌, List, [], ◌∷◌, length, take, drop, refl, ap, sym, w8, Fits, get_or, arith, take-add, length-drop}
use Rattle.std.specs.List.{sum_by, zip}
use Rattle.std.specs.Simd.Lanes.{Each1}
use Rattle.std.proofs.lemmas.List.{take_all}
use Rattle.std.proofs.lemmas.List.Sums.{sum_by-cons, sum_by-append, sum_by-take-drop}
use Rattle.std.proofs.lemmas.Simd.{Each1-from_get_or, below_from_Fits}

-- a row from `at` on, as the code borrows it
pub row_from : {A : Type 0} (xs : List A) (at : ℕ) → take (length xs - at) (drop at xs) ≡ drop at xs
row_from xs at = take_all (length xs - at) (drop at xs) (omega (arith, length-drop at xs))

-- a row is a row of bytes
pub bytes_of_row : (xs : List ℕ) → ((i : ℕ) → Fits w8 (get_or xs i 0)) → Each1 (λ x. x < 256) xs
bytes_of_row xs fits = below_from_Fits w8 xs (Each1-from_get_or (Fits w8) xs 0 (λ i lt. fits i))

module _ {X Y : Type 0} where
  pub take-zip : (n : ℕ) (xs : List X) (ys : List Y) → take n (zip xs ys) ≡ zip (take n xs) (take n ys)
  take-zip zero xs ys = refl
  take-zip (suc n) [] ys = refl
  take-zip (suc n) (x ∷ xs) [] = refl
  take-zip (suc n) (x ∷ xs) (y ∷ ys) = ap (λ l. (x, y) ∷ l) (take-zip n xs ys)

  zip-none : (xs : List X) → zip xs (let none : List Y = [] in none) ≡ []
  zip-none [] = refl
  zip-none (x ∷ xs) = refl

  pub drop-zip : (n : ℕ) (xs : List X) (ys : List Y) → drop n (zip xs ys) ≡ zip (drop n xs) (drop n ys)
  drop-zip zero xs ys = refl
  drop-zip (suc n) [] ys = refl
  drop-zip (suc n) (x ∷ xs) [] = sym (zip-none (drop n xs))
  drop-zip (suc n) (x ∷ xs) (y ∷ ys) = drop-zip n xs ys

  pub length-zip-le : (xs : List X) (ys : List Y) → length (zip xs ys) ≤ length xs
  length-zip-le [] ys = omega arith
  length-zip-le (x ∷ xs) [] = omega arith
  length-zip-le (x ∷ xs) (y ∷ ys) = omega (arith, length-zip-le xs ys)

  module _ (f : X × Y → ℕ) (xs : List X) (ys : List Y) (at : ℕ) where
    -- the first `at` places, and the n after them
    pub sum_by-zip_more : (n : ℕ) → sum_by f (zip (take (at + n) xs) (take (at + n) ys)) ≡ sum_by f (zip (take at xs) (take at ys)) + sum_by f (zip (take n (drop at xs)) (take n (drop at ys)))
    sum_by-zip_more n =
        ap (sum_by f) (sym (take-zip (at + n) xs ys) ∙ take-add at n (zip xs ys)) ∙ sum_by-append f (take at (zip xs ys)) (take n (drop at (zip xs ys)))
        ∙ (λ i. sum_by f (take-zip at xs ys i) + sum_by f ((ap (take n) (drop-zip at xs ys) ∙ take-zip n (drop at xs) (drop at ys)) i))

    -- the first `at` places, and all after them
    pub sum_by-zip_split : sum_by f (zip (take at xs) (take at ys)) + sum_by f (zip (drop at xs) (drop at ys)) ≡ sum_by f (zip xs ys)
    sum_by-zip_split = (λ i. sum_by f (sym (take-zip at xs ys) i) + sum_by f (sym (drop-zip at xs ys) i)) ∙ sum_by-take-drop f (zip xs ys) at

    -- a total over the first `at` places, and the sum of the n after them, in the rows as the code borrows them
    pub total_more : (n total next : ℕ) → total ≡ sum_by f (zip (take at xs) (take at ys))
        → next ≡ sum_by f (zip (take n (take (length xs - at) (drop at xs))) (take n (take (length ys - at) (drop at ys))))
        → total + next ≡ sum_by f (zip (take (at + n) xs) (take (at + n) ys))
    total_more n total next so_far after =
        (λ i. so_far i + (after ∙ (λ j. sum_by f (zip (take n (row_from xs at j)) (take n (row_from ys at j))))) i) ∙ sym (sum_by-zip_more n)

    -- the same total, and the sum of all after those places
    pub total_whole : (total next : ℕ) → total ≡ sum_by f (zip (take at xs) (take at ys))
        → next ≡ sum_by f (zip (take (length xs - at) (drop at xs)) (take (length ys - at) (drop at ys)))
        → total + next ≡ sum_by f (zip xs ys)
    total_whole total next so_far after =
        (λ i. so_far i + (after ∙ (λ j. sum_by f (zip (row_from xs at j) (row_from ys at j)))) i) ∙ sum_by-zip_split

    -- it is at most the whole sum
    pub total_within : (total : ℕ) → total ≡ sum_by f (zip (take at xs) (take at ys)) → total ≤ sum_by f (zip xs ys)
    total_within total so_far = omega (arith, sum_by-zip_split)

  -- what holds of each pair of a P and a Q holds of each pair of the rows
  pub Each1-zip : (P : X → Type 0) (Q : Y → Type 0) (R : X × Y → Type 0) → ((x : X) (y : Y) → P x → Q y → R (x, y)) → (xs : List X) (ys : List Y) → Each1 P xs → Each1 Q ys → Each1 R (zip xs ys)
  Each1-zip P Q R pair [] ys p q = tt
  Each1-zip P Q R pair (x ∷ xs) [] p q = tt
  Each1-zip P Q R pair (x ∷ xs) (y ∷ ys) p q = (pair x y p.0 q.0, Each1-zip P Q R pair xs ys p.1 q.1)

pub sum_by-bound : {X : Type 0} (f : X → ℕ) (most : ℕ) (xs : List X) → Each1 (λ x. f x ≤ most) xs → sum_by f xs ≤ most * length xs
sum_by-bound f most [] p = omega arith
sum_by-bound f most (x ∷ xs) p = let head : f x ≤ most = p.0 in omega (arith, head, sum_by-cons f x xs, sum_by-bound f most xs p.1)
