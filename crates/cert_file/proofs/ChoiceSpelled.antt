-- A choice that was read is spelled by its bytes.
use Rattle.std.proofs.Common.{◌≡◌, true, false, Bool, ℕ, zero, suc, ◌+◌, ◌-◌, ◌*◌, ◌/◌, ◌%◌, ◌≤◌, ◌<◌, List, [], ◌∷◌, length, take, drop, get_or, refl, sym, ap, ◌∙◌, subst, arith}
use Rattle.std.proofs.Math.Nat.{div-div-eq-div-mul}
use Rattle.std.proofs.lemmas.Bool.{ltb-false, ltb-true}
use Rattle.std.proofs.lemmas.List.{get_or-drop, get_or-take, get_or_past, length-take-le}
use Rattle.std.proofs.lemmas.List.FromFn.{fill_by_all}
use Rattle.std.proofs.lemmas.Nat.{div-add-mod'}
use Rattle.std.specs.Bool.{nat_eq}
use Rattle.std.specs.Prelude.{nat_lt}
use mathlib.Core.Bool.{false≢true}
use Rattle.boxes.specs.Pairs.{one_if}
use Rattle.cert_file.specs.CutForms.{choice_byte, choice_bytes, choice_field}
use Rattle.cert_file.specs.CutReading.{bits_of, byte_bits, none_set}
use Rattle.cert_file.proofs.Bits.{length-bits_of}

-- a bit as a number
bit_value : (q : ℕ) → one_if (nat_eq (q % 2) 1) ≡ q % 2
bit_value q = by (q % 2) (omega arith)
  where
    by : (n : ℕ) → n < 2 → one_if (nat_eq n 1) ≡ n
    by zero lt = refl
    by (suc zero) lt = refl
    by (suc (suc n)) lt = absurd (omega arith)

-- a byte is what its bits are worth
byte_value : (b : ℕ) → b < 256
    → 128 * one_if (nat_eq (b / 128 % 2) 1) + 64 * one_if (nat_eq (b / 64 % 2) 1) + 32 * one_if (nat_eq (b / 32 % 2) 1) + 16 * one_if (nat_eq (b / 16 % 2) 1)
    + 8 * one_if (nat_eq (b / 8 % 2) 1) + 4 * one_if (nat_eq (b / 4 % 2) 1) + 2 * one_if (nat_eq (b / 2 % 2) 1) + one_if (nat_eq (b % 2) 1) ≡ b
byte_value b small =
    (λ i. 128 * bit_value (b / 128) i + 64 * bit_value (b / 64) i + 32 * bit_value (b / 32) i + 16 * bit_value (b / 16) i
    + 8 * bit_value (b / 8) i + 4 * bit_value (b / 4) i + 2 * bit_value (b / 2) i + bit_value b i)
    ∙ sum (b / 128 % 2) (b / 64 % 2) (b / 32 % 2) (b / 16 % 2) (b / 8 % 2) (b / 4 % 2) (b / 2 % 2) (b % 2) (b / 128) (b / 64) (b / 32) (b / 16) (b / 8) (b / 4) (b / 2)
    (half b (b / 2) refl) (half (b / 2) (b / 4) (div-div-eq-div-mul b 2 2)) (half (b / 4) (b / 8) (div-div-eq-div-mul b 4 2)) (half (b / 8) (b / 16) (div-div-eq-div-mul b 8 2))
    (half (b / 16) (b / 32) (div-div-eq-div-mul b 16 2)) (half (b / 32) (b / 64) (div-div-eq-div-mul b 32 2)) (half (b / 64) (b / 128) (div-div-eq-div-mul b 64 2))
    (let lt : b / 128 < 2 = omega arith in rest (b / 128) lt)
  where
    half : (n q : ℕ) → n / 2 ≡ q → n ≡ 2 * q + n % 2
    half n q e = omega (arith, div-add-mod' n 2, e)

    rest : (n : ℕ) → n < 2 → n ≡ n % 2
    rest n lt = omega arith

    sum : (r7 r6 r5 r4 r3 r2 r1 r0 q7 q6 q5 q4 q3 q2 q1 : ℕ) → b ≡ 2 * q1 + r0 → q1 ≡ 2 * q2 + r1 → q2 ≡ 2 * q3 + r2 → q3 ≡ 2 * q4 + r3 → q4 ≡ 2 * q5 + r4 → q5 ≡ 2 * q6 + r5 → q6 ≡ 2 * q7 + r6 → q7 ≡ r7
        → 128 * r7 + 64 * r6 + 32 * r5 + 16 * r4 + 8 * r3 + 4 * r2 + 2 * r1 + r0 ≡ b
    sum r7 r6 r5 r4 r3 r2 r1 r0 q7 q6 q5 q4 q3 q2 q1 e0 e1 e2 e3 e4 e5 e6 e7 = omega arith

-- bit r of byte k
bit_of_byte : (piece : List ℕ) (k r i : ℕ) → k < length piece → r < 8 → i ≡ 8 * k + r → get_or (bits_of piece) i false ≡ get_or (byte_bits (get_or piece k 0)) r false
bit_of_byte [] k r i lt small e = absurd (omega arith)
bit_of_byte (b ∷ piece) zero r i lt small e =
    let here : i ≡ r = omega arith in
    ap (λ n. get_or (bits_of (b ∷ piece)) n false) here ∙ first r small
  where
    first : (r : ℕ) → r < 8 → get_or (bits_of (b ∷ piece)) r false ≡ get_or (byte_bits b) r false
    first zero lt = refl
    first (suc zero) lt = refl
    first (suc (suc zero)) lt = refl
    first (suc (suc (suc zero))) lt = refl
    first (suc (suc (suc (suc zero)))) lt = refl
    first (suc (suc (suc (suc (suc zero))))) lt = refl
    first (suc (suc (suc (suc (suc (suc zero)))))) lt = refl
    first (suc (suc (suc (suc (suc (suc (suc zero))))))) lt = refl
    first (suc (suc (suc (suc (suc (suc (suc (suc r)))))))) lt = absurd (omega arith)
bit_of_byte (b ∷ piece) (suc k) r i lt small e =
    let on : i ≡ suc (suc (suc (suc (suc (suc (suc (suc (8 * k + r)))))))) = omega arith in
    ap (λ n. get_or (bits_of (b ∷ piece)) n false) on ∙ bit_of_byte piece k r (8 * k + r) (omega arith) small refl

-- no bit that isn't used is set
none_at : (bits : List Bool) → none_set bits ≡ true → (i : ℕ) → get_or bits i false ≡ false
none_at [] none i = refl
none_at (true ∷ bits) none i = absurd (false≢true none)
none_at (false ∷ bits) none zero = refl
none_at (false ∷ bits) none (suc i) = none_at bits none i

-- the choice and the bits agree everywhere
same_bit : (choice bits : List Bool) (n : ℕ) → n ≤ length bits → take n bits ≡ choice → none_set (drop n bits) ≡ true → (i : ℕ) → get_or choice i false ≡ get_or bits i false
same_bit choice bits n le is none i = by (nat_lt i n) refl
  where
    long : length choice ≡ n
    long = ap length (sym is) ∙ length-take-le n bits le

    by : (t : Bool) → nat_lt i n ≡ t → get_or choice i false ≡ get_or bits i false
    by true e = ap (λ l. get_or l i false) (sym is) ∙ get_or-take n bits i false (ltb-true i n e)
    by false e =
        let past : n ≤ i = ltb-false i n e in
        let there : n + (i - n) ≡ i = omega arith in
        get_or_past choice i false (omega (arith, long, past))
        ∙ sym (none_at (drop n bits) none (i - n)) ∙ get_or-drop n bits (i - n) false ∙ ap (λ k. get_or bits k false) there

pub choice_spelled : (cells : ℕ) (piece : List ℕ) (choice : List Bool) → length piece ≡ choice_bytes cells → ((i : ℕ) → get_or piece i 0 < 256)
    → none_set (drop cells (bits_of piece)) ≡ true → take cells (bits_of piece) ≡ choice → piece ≡ choice_field choice
choice_spelled cells piece choice long small none is =
    fill_by_all (choice_byte choice) piece (choice_bytes (length choice)) 0 (long ∙ ap choice_bytes (sym count)) byte
  where
    enough : cells ≤ length (bits_of piece)
    enough = omega (arith, length-bits_of piece (bits_of piece) refl, long)

    count : length choice ≡ cells
    count = ap length (sym is) ∙ length-take-le cells (bits_of piece) enough

    byte : (k : ℕ) → k < choice_bytes (length choice) → get_or piece k 0 ≡ choice_byte choice k
    byte k lt =
        let b = get_or piece k 0 in
        let inside : k < length piece = subst (λ n. k < n) (ap choice_bytes count ∙ sym long) lt in
        let at = λ (r i : ℕ) (low : r < 8) (e : i ≡ 8 * k + r). same_bit choice (bits_of piece) cells enough is none i ∙ bit_of_byte piece k r i inside low e in
        sym ((λ j.
        128 * one_if (at 0 (8 * k) (omega arith) (omega arith) j) + 64 * one_if (at 1 (8 * k + 1) (omega arith) refl j) + 32 * one_if (at 2 (8 * k + 2) (omega arith) refl j)
        + 16 * one_if (at 3 (8 * k + 3) (omega arith) refl j) + 8 * one_if (at 4 (8 * k + 4) (omega arith) refl j) + 4 * one_if (at 5 (8 * k + 5) (omega arith) refl j)
        + 2 * one_if (at 6 (8 * k + 6) (omega arith) refl j) + one_if (at 7 (8 * k + 7) (omega arith) refl j))
        ∙ byte_value b (small k))
