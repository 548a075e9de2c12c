-- The bits of the bytes of a choice are the choice, and none after it is set.
use Rattle.std.proofs.Common.{◌≡◌, true, false, Bool, ℕ, zero, suc, ◌+◌, ◌-◌, ◌*◌, ◌/◌, ◌%◌, ◌≤◌, ◌<◌, List, [], ◌∷◌, ◌++◌, length, take, drop, map, get_or, refl, sym, ap, ◌∙◌, arith}
use Rattle.std.proofs.lemmas.List.{append-nil, append_assoc, get_or_past}
use Rattle.std.proofs.lemmas.List.Concat.{flat_map-append}
use Rattle.std.proofs.lemmas.List.FromFn.{fill_by_all, map-range_with_len_more, take-map-range_with_len}
use Rattle.std.proofs.lemmas.Nat.{div-mul-add}
use Rattle.std.specs.Bool.{nat_eq}
use Rattle.std.specs.List.{range_with_len}
use Rattle.boxes.specs.Pairs.{one_if}
use Rattle.cert_file.specs.CutForms.{choice_byte, choice_bytes, choice_field}
use Rattle.cert_file.specs.CutReading.{bits_of, byte_bits, none_set}

-- the bit that is worth so much, of a number of which more and less is known
bit_is : (m hi lo n : ℕ) (b : Bool) → lo < m → n ≡ (2 * hi + one_if b) * m + lo → nat_eq (n / m % 2) 1 ≡ b
bit_is m hi lo n b lt is = by b (ap (λ k. k / m) is ∙ div-mul-add (2 * hi + one_if b) m lo lt)
  where
    odd : (q : ℕ) → q ≡ 2 * hi + 1 → q % 2 ≡ 1
    odd q e = omega arith

    even : (q : ℕ) → q ≡ 2 * hi + 0 → q % 2 ≡ 0
    even q e = omega arith

    by : (b : Bool) → n / m ≡ 2 * hi + one_if b → nat_eq (n / m % 2) 1 ≡ b
    by true e = ap (λ k. nat_eq k 1) (odd (n / m) e)
    by false e = ap (λ k. nat_eq k 1) (even (n / m) e)

small : (b : Bool) → one_if b ≤ 1
small true = omega arith
small false = omega arith

eight_bits : (a b c d e f g h : Bool)
    → byte_bits (128 * one_if a + 64 * one_if b + 32 * one_if c + 16 * one_if d + 8 * one_if e + 4 * one_if f + 2 * one_if g + one_if h)
    ≡ a ∷ b ∷ c ∷ d ∷ e ∷ f ∷ g ∷ h ∷ []
eight_bits a b c d e f g h = by (one_if a) (one_if b) (one_if c) (one_if d) (one_if e) (one_if f) (one_if g) (one_if h) refl refl refl refl refl refl refl refl
    (small a) (small b) (small c) (small d) (small e) (small f) (small g) (small h)
  where
    by : (p q r s t u v w : ℕ) → p ≡ one_if a → q ≡ one_if b → r ≡ one_if c → s ≡ one_if d → t ≡ one_if e → u ≡ one_if f → v ≡ one_if g → w ≡ one_if h
        → p ≤ 1 → q ≤ 1 → r ≤ 1 → s ≤ 1 → t ≤ 1 → u ≤ 1 → v ≤ 1 → w ≤ 1
        → byte_bits (128 * p + 64 * q + 32 * r + 16 * s + 8 * t + 4 * u + 2 * v + w) ≡ a ∷ b ∷ c ∷ d ∷ e ∷ f ∷ g ∷ h ∷ []
    by p q r s t u v w ep eq er es et eu ev ew lp lq lr ls lt lu lv lw =
        let n = 128 * p + 64 * q + 32 * r + 16 * s + 8 * t + 4 * u + 2 * v + w in
        let i7 : nat_eq (n / 128 % 2) 1 ≡ a = bit_is 128 0 (64 * q + 32 * r + 16 * s + 8 * t + 4 * u + 2 * v + w) n a (omega arith) (rw (sym ep) (omega arith)) in
        let i6 : nat_eq (n / 64 % 2) 1 ≡ b = bit_is 64 p (32 * r + 16 * s + 8 * t + 4 * u + 2 * v + w) n b (omega arith) (rw (sym eq) (omega arith)) in
        let i5 : nat_eq (n / 32 % 2) 1 ≡ c = bit_is 32 (2 * p + q) (16 * s + 8 * t + 4 * u + 2 * v + w) n c (omega arith) (rw (sym er) (omega arith)) in
        let i4 : nat_eq (n / 16 % 2) 1 ≡ d = bit_is 16 (4 * p + 2 * q + r) (8 * t + 4 * u + 2 * v + w) n d (omega arith) (rw (sym es) (omega arith)) in
        let i3 : nat_eq (n / 8 % 2) 1 ≡ e = bit_is 8 (8 * p + 4 * q + 2 * r + s) (4 * u + 2 * v + w) n e (omega arith) (rw (sym et) (omega arith)) in
        let i2 : nat_eq (n / 4 % 2) 1 ≡ f = bit_is 4 (16 * p + 8 * q + 4 * r + 2 * s + t) (2 * v + w) n f (omega arith) (rw (sym eu) (omega arith)) in
        let i1 : nat_eq (n / 2 % 2) 1 ≡ g = bit_is 2 (32 * p + 16 * q + 8 * r + 4 * s + 2 * t + u) w n g (omega arith) (rw (sym ev) (omega arith)) in
        let i0 : nat_eq (n / 1 % 2) 1 ≡ h = bit_is 1 (64 * p + 32 * q + 16 * r + 8 * s + 4 * t + 2 * u + v) 0 n h (omega arith) (rw (sym ew) (omega arith)) in
        let one : n / 1 ≡ n = omega arith in
        let last : nat_eq (n % 2) 1 ≡ h = ap (λ k. nat_eq (k % 2) 1) (sym one) ∙ i0 in
        λ k. i7 k ∷ i6 k ∷ i5 k ∷ i4 k ∷ i3 k ∷ i2 k ∷ i1 k ∷ last k ∷ []

-- cell i of a choice, and nothing past its end
cell_of : List Bool → ℕ → Bool
cell_of choice i = get_or choice i false

abbrev cells_to : List Bool → ℕ → List Bool
cells_to choice n = map (λ i. get_or choice i false) (range_with_len 0 n)

one_more : (choice : List Bool) (n : ℕ) → cells_to choice (n + 1) ≡ cells_to choice n ++ get_or choice n false ∷ []
one_more choice n = map-range_with_len_more (λ i. get_or choice i false) 0 n n (omega arith)

eight_more : (choice : List Bool) (n : ℕ)
    → cells_to choice (n + 8) ≡ cells_to choice n ++ get_or choice n false ∷ get_or choice (n + 1) false ∷ get_or choice (n + 2) false ∷ get_or choice (n + 3) false
    ∷ get_or choice (n + 4) false ∷ get_or choice (n + 5) false ∷ get_or choice (n + 6) false ∷ get_or choice (n + 7) false ∷ []
eight_more choice n =
    let step : (i j : ℕ) → i + 1 ≡ j → cells_to choice j ≡ cells_to choice i ++ get_or choice i false ∷ [] = λ i j e. ap (cells_to choice) (sym e) ∙ one_more choice i in
    let at : (i : ℕ) → Bool = λ i. get_or choice i false in
    let join : (j : ℕ) (xs : List Bool) (ys : List Bool) → cells_to choice (n + j) ≡ cells_to choice n ++ xs → xs ++ at (n + j) ∷ [] ≡ ys → cells_to choice (n + (j + 1)) ≡ cells_to choice n ++ ys =
    λ j xs ys so e. step (n + j) (n + (j + 1)) (omega arith) ∙ ap (λ l. l ++ at (n + j) ∷ []) so ∙ append_assoc (cells_to choice n) xs (at (n + j) ∷ []) ∙ ap (λ l. cells_to choice n ++ l) e in
    let a0 : at n ∷ [] ≡ at n ∷ [] = refl in
    let c1 : cells_to choice (n + 1) ≡ cells_to choice n ++ at n ∷ [] = one_more choice n in
    let c2 = join 1 (at n ∷ []) (at n ∷ at (n + 1) ∷ []) c1 refl in
    let c3 = join 2 (at n ∷ at (n + 1) ∷ []) (at n ∷ at (n + 1) ∷ at (n + 2) ∷ []) c2 refl in
    let c4 = join 3 (at n ∷ at (n + 1) ∷ at (n + 2) ∷ []) (at n ∷ at (n + 1) ∷ at (n + 2) ∷ at (n + 3) ∷ []) c3 refl in
    let c5 = join 4 (at n ∷ at (n + 1) ∷ at (n + 2) ∷ at (n + 3) ∷ []) (at n ∷ at (n + 1) ∷ at (n + 2) ∷ at (n + 3) ∷ at (n + 4) ∷ []) c4 refl in
    let c6 = join 5 (at n ∷ at (n + 1) ∷ at (n + 2) ∷ at (n + 3) ∷ at (n + 4) ∷ []) (at n ∷ at (n + 1) ∷ at (n + 2) ∷ at (n + 3) ∷ at (n + 4) ∷ at (n + 5) ∷ []) c5 refl in
    let c7 = join 6 (at n ∷ at (n + 1) ∷ at (n + 2) ∷ at (n + 3) ∷ at (n + 4) ∷ at (n + 5) ∷ []) (at n ∷ at (n + 1) ∷ at (n + 2) ∷ at (n + 3) ∷ at (n + 4) ∷ at (n + 5) ∷ at (n + 6) ∷ []) c6 refl in
    join 7 (at n ∷ at (n + 1) ∷ at (n + 2) ∷ at (n + 3) ∷ at (n + 4) ∷ at (n + 5) ∷ at (n + 6) ∷ []) (at n ∷ at (n + 1) ∷ at (n + 2) ∷ at (n + 3) ∷ at (n + 4) ∷ at (n + 5) ∷ at (n + 6) ∷ at (n + 7) ∷ []) c7 refl

byte_is : (choice : List Bool) (j : ℕ)
    → byte_bits (choice_byte choice j) ≡ get_or choice (8 * j) false ∷ get_or choice (8 * j + 1) false ∷ get_or choice (8 * j + 2) false ∷ get_or choice (8 * j + 3) false
    ∷ get_or choice (8 * j + 4) false ∷ get_or choice (8 * j + 5) false ∷ get_or choice (8 * j + 6) false ∷ get_or choice (8 * j + 7) false ∷ []
byte_is choice j =
    let at : (i : ℕ) → Bool = λ i. get_or choice i false in
    eight_bits (at (8 * j)) (at (8 * j + 1)) (at (8 * j + 2)) (at (8 * j + 3)) (at (8 * j + 4)) (at (8 * j + 5)) (at (8 * j + 6)) (at (8 * j + 7))

-- the bits of the first bytes are the first cells
first_bits : (choice : List Bool) (k : ℕ) → bits_of (map (choice_byte choice) (range_with_len 0 k)) ≡ cells_to choice (8 * k)
first_bits choice zero = refl
first_bits choice (suc k) =
    let byte = choice_byte choice in
    let next : suc k ≡ k + 1 = omega arith in
    let count : 8 * k + 8 ≡ 8 * suc k = omega arith in
    ap (λ n. bits_of (map byte (range_with_len 0 n))) next
    ∙ ap bits_of (map-range_with_len_more byte 0 k k (omega arith))
    ∙ flat_map-append byte_bits (map byte (range_with_len 0 k)) (byte k ∷ [])
    ∙ ap (λ l. l ++ bits_of (byte k ∷ [])) (first_bits choice k)
    ∙ ap (λ l. cells_to choice (8 * k) ++ l) (append-nil (byte_bits (byte k)) ∙ byte_is choice k)
    ∙ sym (eight_more choice (8 * k))
    ∙ ap (cells_to choice) count

whole_choice : (choice : List Bool) → choice ≡ cells_to choice (length choice)
whole_choice choice = fill_by_all (λ i. get_or choice i false) choice (length choice) false refl (λ k lt. refl)

-- past its end a choice has no cell that is set
none_past : (choice : List Bool) (a n : ℕ) → length choice ≤ a → none_set (map (λ i. get_or choice i false) (range_with_len a n)) ≡ true
none_past choice a zero le = refl
none_past choice a (suc n) le = rw (get_or_past choice a false le) (none_past choice (a + 1) n (omega arith))

drop_cells : (f : ℕ → Bool) (a k n : ℕ) → drop k (map f (range_with_len a (k + n))) ≡ map f (range_with_len (a + k) n)
drop_cells f a zero n = λ i. map f (range_with_len (same i) (same' i))
  where
    same : a ≡ a + 0
    same = omega arith

    same' : 0 + n ≡ n
    same' = omega arith
drop_cells f a (suc k) n =
    let on : suc k + n ≡ suc (k + n) = omega arith in
    let there : a + 1 + k ≡ a + suc k = omega arith in
    ap (λ m. drop (suc k) (map f (range_with_len a m))) on ∙ drop_cells f (a + 1) k n ∙ ap (λ b. map f (range_with_len b n)) there

-- there are bytes enough
enough : (n : ℕ) → n ≤ 8 * choice_bytes n
enough n = omega arith

pub bits_taken : (choice : List Bool) → take (length choice) (bits_of (choice_field choice)) ≡ choice
bits_taken choice =
    let n = length choice in
    ap (take n) (first_bits choice (choice_bytes n)) ∙ take-map-range_with_len (λ i. get_or choice i false) 0 (8 * choice_bytes n) n (enough n) ∙ sym (whole_choice choice)

pub bits_unused : (choice : List Bool) → none_set (drop (length choice) (bits_of (choice_field choice))) ≡ true
bits_unused choice =
    let n = length choice in
    let m = 8 * choice_bytes n in
    let rest : m ≡ n + (m - n) = omega (arith, enough n) in
    let from : n ≤ 0 + n = omega arith in
    ap (λ l. none_set (drop n l)) (first_bits choice (choice_bytes n) ∙ ap (cells_to choice) rest) ∙ ap none_set (drop_cells (λ i. get_or choice i false) 0 n (m - n)) ∙ none_past choice (0 + n) (m - n) from
