-- The number of decimal digits, one digit after another.
use Rattle.std.proofs.Common.{◌≡◌, ℕ, zero, suc, ◌+◌, ◌*◌, ◌-◌, ◌<◌, ◌≤◌, List, [], ◌∷◌, ◌++◌, length, get_or, take, drop, refl, sym, ap, ◌∙◌, arith, true}
use Rattle.std.specs.List.{list_all}
use Rattle.std.specs.Char.{is_ascii_digit, digit_value}
use Rattle.std.specs.Str.Parse.{digits_value, digits_value_after}
use Rattle.std.proofs.lemmas.List.{take-append-drop}
use Rattle.std.proofs.lemmas.Bool.Decides.{nat_tests}

-- a byte of a numeral is a digit
pub digit_at : (xs : List ℕ) (i : ℕ) → list_all is_ascii_digit xs ≡ true → i < length xs → is_ascii_digit (get_or xs i 0) ≡ true
digit_at [] i all lt = absurd (omega arith)
digit_at (x ∷ xs) zero all lt = grind arith
digit_at (x ∷ xs) (suc i) all lt = digit_at xs i (grind arith) (omega arith)

pub value_of_digit : (c : ℕ) → is_ascii_digit c ≡ true → (48 ≤ c) × (c ≤ 57) × (digit_value c ≡ c - 48)
value_of_digit c digit = grind (arith, nat_tests)

after_append : (n : ℕ) (xs ys : List ℕ) → digits_value_after 10 n (xs ++ ys) ≡ digits_value_after 10 (digits_value_after 10 n xs) ys
after_append n [] ys = refl
after_append n (x ∷ xs) ys = after_append (n * 10 + digit_value x) xs ys

after_ge : (n : ℕ) (xs : List ℕ) → n ≤ digits_value_after 10 n xs
after_ge n [] = omega arith
after_ge n (x ∷ xs) = omega (arith, after_ge (n * 10 + digit_value x) xs)

-- digits in front write no greater number
pub value_grows : (xs : List ℕ) (i : ℕ) → digits_value 10 (take i xs) ≤ digits_value 10 xs
value_grows xs i =
    let whole : digits_value 10 xs ≡ digits_value_after 10 (digits_value 10 (take i xs)) (drop i xs) =
    ap (digits_value 10) (sym (take-append-drop i xs)) ∙ after_append 0 (take i xs) (drop i xs) in
    omega (arith, whole, after_ge (digits_value 10 (take i xs)) (drop i xs))
