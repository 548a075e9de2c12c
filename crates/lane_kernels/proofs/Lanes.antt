-- What the vectors of one block hold, as lists of lanes.
use Rattle.std.proofs.Common.{◌≡◌, ◌∙◌, ℕ, zero, suc, ◌+◌, ◌-◌, ◌*◌, ◌%◌, ◌<◌, ◌≤◌, ◌^◌, Bool, true, false, if◌then◌else◌, ◌==◌, nat_lt, nat_eq, List, [], ◌∷◌, length, replicate, refl, ap, sym, arith}
use Rattle.std.specs.Int.{abs_diff}
use Rattle.std.specs.List.{sum_by, zip}
use Rattle.std.specs.Simd.Lanes.{zip2, Each1, sel_l, sum_l}
use Rattle.std.proofs.lemmas.List.Sums.{sum_by-cons}
use Rattle.std.proofs.lemmas.Simd.{Each2-of, Each1-zip2, sum_bound, length-zip2}
use Rattle.lane_kernels.specs.declared.block.TheConstants.{LANES}
use borrow.Author.Tests.{ltb-true, ltb-false}

-- the larger lane less the smaller one, as the processor subtracts, is their absolute difference
pub differences_of_lanes : (xs ys : List ℕ) → Each1 (λ x. x < 256) xs → Each1 (λ y. y < 256) ys
    → zip2 (λ a b. (a + (256 - b)) % 256) (sel_l (zip2 nat_lt xs ys) ys xs) (sel_l (zip2 nat_lt xs ys) xs ys) ≡ zip2 abs_diff xs ys
differences_of_lanes [] [] p q = refl
differences_of_lanes [] (y ∷ ys) p q = refl
differences_of_lanes (x ∷ xs) [] p q = refl
differences_of_lanes (x ∷ xs) (y ∷ ys) p q = λ i. head (nat_lt x y) refl p.0 q.0 i ∷ differences_of_lanes xs ys p.1 q.1 i
  where
    head : (b : Bool) → nat_lt x y ≡ b → x < 256 → y < 256 → ((if b then y else x) + (256 - (if b then x else y))) % 256 ≡ abs_diff x y
    head true e small_x small_y = let less : x < y = ltb-true x y e in omega arith
    head false e small_x small_y = let no_less : y ≤ x = ltb-false x y e in omega arith

-- a lane where the mask's byte isn't 0, and 0 where it is
abbrev pub kept_lane : ℕ → ℕ → ℕ
kept_lane lane m = if m == 0 then 0 else lane

pub kept_lanes : (n : ℕ) (lanes ms : List ℕ) → length lanes ≡ n → length ms ≡ n
    → sel_l (zip2 nat_eq ms (replicate n 0)) (replicate n 0) lanes ≡ zip2 kept_lane lanes ms
kept_lanes zero [] [] d e = refl
kept_lanes zero [] (m ∷ ms) d e = absurd (omega arith)
kept_lanes zero (lane ∷ lanes) ms d e = absurd (omega arith)
kept_lanes (suc n) [] ms d e = absurd (omega arith)
kept_lanes (suc n) (lane ∷ lanes) [] d e = absurd (omega arith)
kept_lanes (suc n) (lane ∷ lanes) (m ∷ ms) d e = λ i. kept_lane lane m ∷ kept_lanes n lanes ms (omega arith) (omega arith) i

-- a sum over the lanes of an operation is a sum over the pairs that it reads
pub sum_by-zip2 : {X Y : Type 0} (g : ℕ → ℕ) (f : X → Y → ℕ) (xs : List X) (ys : List Y) → sum_by g (zip2 f xs ys) ≡ sum_by (λ p. g (f p.0 p.1)) (zip xs ys)
sum_by-zip2 g f [] ys = refl
sum_by-zip2 g f (x ∷ xs) [] = refl
sum_by-zip2 g f (x ∷ xs) (y ∷ ys) =
    sum_by-cons g (f x y) (zip2 f xs ys) ∙ ap (λ n. g (f x y) + n) (sum_by-zip2 g f xs ys) ∙ sym (sum_by-cons (λ p. g (f p.0 p.1)) (x, y) (zip xs ys))

-- an operation on what another gave is one operation on the pairs that this one read
pub zip2-zip2 : {X Y Z : Type 0} (k : ℕ → Z → ℕ) (f : X → Y → ℕ) (xs : List X) (ys : List Y) (zs : List Z) → zip2 k (zip2 f xs ys) zs ≡ zip2 (λ p z. k (f p.0 p.1) z) (zip xs ys) zs
zip2-zip2 k f [] ys zs = refl
zip2-zip2 k f (x ∷ xs) [] zs = refl
zip2-zip2 k f (x ∷ xs) (y ∷ ys) [] = refl
zip2-zip2 k f (x ∷ xs) (y ∷ ys) (z ∷ zs) = ap (λ l. k (f x y) z ∷ l) (zip2-zip2 k f xs ys zs)

-- sums of lanes, as std's words have them
pub sum_l-squares : (xs : List ℕ) → sum_l (zip2 (λ a b. a * b) xs xs) ≡ sum_by (λ x. x * x) xs
sum_l-squares [] = refl
sum_l-squares (x ∷ xs) = ap (λ n. x * x + n) (sum_l-squares xs) ∙ sym (sum_by-cons (λ x. x * x) x xs)

pub byte_product : (a b : ℕ) → a < 256 → b < 256 → a * b ≤ 65025
byte_product a b p q = grind arith

-- squares of bytes, at most as many as a long block has, add up to less than a lane holds
pub sum_of_squares_fits : (xs : List ℕ) → length xs ≤ LANES → Each1 (λ x. x < 256) xs → 0 + sum_l (zip2 (λ a b. a * b) xs xs) < 2 ^ 32
sum_of_squares_fits xs few bytes =
    let small = Each1-zip2 (λ a b. a * b) (λ n. n ≤ 65025) xs xs (Each2-of (λ x. x < 256) (λ x. x < 256) (λ a b. a * b ≤ 65025) byte_product xs xs bytes bytes) in
    omega (arith, sum_bound 65025 (zip2 (λ a b. a * b) xs xs) small, length-zip2 (λ (a b : ℕ). a * b) xs xs refl)
