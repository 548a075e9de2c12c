-- What the vectors of a run hold, as lists of lanes.
use Rattle.std.proofs.Common.{◌≡◌, ℕ, zero, suc, ◌+◌, ◌*◌, ◌%◌, ◌^◌, ◌<◌, ◌≤◌, Bool, true, false, if◌then◌else◌, nat_lt, List, [], ◌∷◌, length, map, get_or, take, cond, replicate, refl, sym, subst, arith, w16, Fits}
use Rattle.std.proofs.Math.Nat.{mul-le-mul}
use Rattle.std.specs.Simd.Lanes.{zip2, Each2, sel_l, top}
use Rattle.std.proofs.lemmas.List.{get_or-take}
use Rattle.std.proofs.lemmas.Simd.{tops_compared}
use Rattle.search_squares.specs.declared.sums.TheConstants.{LANES}
use borrow.Author.Tests.{ltb-false}

-- a sum that is cut off is at most the sum: whatever the second lane is cut off at
cut_off : (xs ys zs : List ℕ) (j : ℕ) → get_or (zip2 (λ a b. (a + b) % 65536) xs (sel_l (zip2 nat_lt ys zs) ys zs)) j 0 ≤ get_or xs j 0 + get_or ys j 0
cut_off [] ys zs j = omega arith
cut_off (x ∷ xs) [] zs j = omega arith
cut_off (x ∷ xs) (y ∷ ys) [] j = omega arith
cut_off (x ∷ xs) (y ∷ ys) (z ∷ zs) zero = here (nat_lt y z) refl
  where
    here : (b : Bool) → nat_lt y z ≡ b → (x + (if b then y else z)) % 65536 ≤ x + y
    here true e = omega arith
    here false e = let no_less : z ≤ y = ltb-false y z e in omega arith
cut_off (x ∷ xs) (y ∷ ys) (z ∷ zs) (suc j) = cut_off xs ys zs j

pub sum_at_most : (xs ys zs : List ℕ) (j : ℕ)
    → get_or (zip2 (λ a b. (a + b) % 65536) xs (sel_l (map (top 15) (zip2 (λ a b. cond (nat_lt a b) 65535 0) ys zs)) ys zs)) j 0 ≤ get_or xs j 0 + get_or ys j 0
sum_at_most xs ys zs j = rw (tops_compared w16 nat_lt ys zs) (cut_off xs ys zs j)

-- one term more of a total in units of 2^16, from a difference that is taken so many times
pub term_more : (factor difference lane term was now : ℕ) → lane ≤ factor * difference → 65536 * term ≤ lane * lane → now ≤ was + term → 65536 * now ≤ 65536 * was + factor * factor * (difference * difference)
term_more factor difference lane term was now times high sum = omega (arith, high, sum, mul-le-mul times times)

-- sums that fit in each lane
each_fits : (xs ys : List ℕ) → ((j : ℕ) → j < length xs → get_or xs j 0 + get_or ys j 0 < 65536) → Each2 (λ a b. Fits w16 (a + b)) xs ys
each_fits [] ys small = tt
each_fits (x ∷ xs) [] small = tt
each_fits (x ∷ xs) (y ∷ ys) small = (let first : x + y < 65536 = small 0 (omega arith) in record { fits = omega arith }, each_fits xs ys (λ j lt. small (suc j) (omega arith)))

pub lanes_fit : (sums run : List ℕ) → length sums ≡ LANES → LANES ≤ length run → ((j : ℕ) → j < LANES → get_or sums j 0 + get_or run j 0 < 2 ^ 16) → Each2 (λ a b. Fits w16 (a + b)) sums (take LANES run)
lanes_fit sums run long enough small =
    each_fits sums (take LANES run)
    (λ j lt. let below : j < LANES = omega (arith, long, lt) in subst (λ n. get_or sums j 0 + n < 65536) (sym (get_or-take LANES run j 0 below)) (small j below))

-- products and sums by their low 32 bits are at most those
pub taken_at_most : (n times : ℕ) (xs : List ℕ) (j : ℕ) → get_or (zip2 (λ a b. (a * b) % 4294967296) (replicate n times) xs) j 0 ≤ times * get_or xs j 0
taken_at_most zero times xs j = omega arith
taken_at_most (suc n) times [] j = omega arith
taken_at_most (suc n) times (x ∷ xs) zero = omega arith
taken_at_most (suc n) times (x ∷ xs) (suc j) = taken_at_most n times xs j

pub added_at_most : (xs ys : List ℕ) (j : ℕ) → get_or (zip2 (λ a b. (a + b) % 4294967296) xs ys) j 0 ≤ get_or xs j 0 + get_or ys j 0
added_at_most [] ys j = omega arith
added_at_most (x ∷ xs) [] j = omega arith
added_at_most (x ∷ xs) (y ∷ ys) zero = omega arith
added_at_most (x ∷ xs) (y ∷ ys) (suc j) = added_at_most xs ys j

-- lanes of which each is at most what it was are so at each place
pub mapped_at_most : (f : ℕ → ℕ) → ((a : ℕ) → f a ≤ a) → (xs : List ℕ) (j : ℕ) → get_or (map f xs) j 0 ≤ get_or xs j 0
mapped_at_most f le [] j = omega arith
mapped_at_most f le (x ∷ xs) zero = le x
mapped_at_most f le (x ∷ xs) (suc j) = mapped_at_most f le xs j
