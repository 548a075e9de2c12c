-- The tables have the squares and the inverses that the transform is made for.
use Rattle.std.proofs.Common.{◌≡◌, ℕ, ◌+◌, ◌-◌, ◌*◌, ◌^◌, ◌%◌, ◌≤◌, ◌<◌, zero, suc, List, [], ◌∷◌, ◌++◌, length, get_or, map, inl, inr, refl, sym, ◌∙◌, ap, arith, length-append}
use Rattle.std.specs.Prelude.{⊤}
use Rattle.std.proofs.Math.Nat.{two-pow-succ}
use Rattle.std.proofs.lemmas.Nat.{pow_pos}
use Rattle.std.proofs.lemmas.Bool.{cases_lt}
use Rattle.std.proofs.lemmas.List.{get_or_append_left, get_or-append-add, get_or-map, length-map}
use Rattle.cyclic_products.specs.Residues.{IsCongruent}
use Rattle.cyclic_products.specs.Splits.{HasHalves, HasSquares, at, table_of}
use Rattle.cyclic_products.proofs.SameNumbers.{same_equal, same_mod, same_refl, same_sym, same_times, same_trans}

-- each number of a ladder has the one before for its square, and the first of them -1
pub record IsLadder (q : ℕ) (ladder : List ℕ) : Type 0 where
  pub square : (t : ℕ) → t < length ladder → IsCongruent q (at ladder t * at ladder t) (at (q ∷ ladder) t)

pub record AreInverse (q : ℕ) (ladder inverses : List ℕ) : Type 0 where
  pub product : (t : ℕ) → t < length ladder → IsCongruent q (at ladder t * at inverses t) 1

-- the same of each number in turn
abbrev pub Climbs : ℕ → ℕ → List ℕ → Type 0
Climbs q c [] = ⊤
Climbs q c (s ∷ ladder) = (s * s % (q + 1) ≡ c % (q + 1)) × Climbs q s ladder

abbrev pub Cancel : ℕ → List ℕ → List ℕ → Type 0
Cancel q [] inverses = ⊤
Cancel q (s ∷ ladder) [] = ⊥
Cancel q (s ∷ ladder) (i ∷ inverses) = (s * i % (q + 1) ≡ 1 % (q + 1)) × Cancel q ladder inverses

climbs_at : (q c : ℕ) (ladder : List ℕ) → Climbs q c ladder → (t : ℕ) → t < length ladder → IsCongruent q (at ladder t * at ladder t) (at (c ∷ ladder) t)
climbs_at q c [] climbs t less = absurd (omega (arith, less))
climbs_at q c (s ∷ ladder) climbs zero less = record { same = climbs.0 }
climbs_at q c (s ∷ ladder) climbs (suc t) less = climbs_at q s ladder climbs.1 t (omega (arith, less))

cancel_at : (q : ℕ) (ladder inverses : List ℕ) → Cancel q ladder inverses → (t : ℕ) → t < length ladder → IsCongruent q (at ladder t * at inverses t) 1
cancel_at q [] inverses cancel t less = absurd (omega (arith, less))
cancel_at q (s ∷ ladder) [] cancel t less = absurd cancel
cancel_at q (s ∷ ladder) (i ∷ inverses) cancel zero less = record { same = cancel.0 }
cancel_at q (s ∷ ladder) (i ∷ inverses) cancel (suc t) less = cancel_at q ladder inverses cancel.1 t (omega (arith, less))

pub is_ladder : (q : ℕ) (ladder : List ℕ) → Climbs q q ladder → IsLadder q ladder
is_ladder q ladder climbs = record { square = climbs_at q q ladder climbs }

pub are_inverse : (q : ℕ) (ladder inverses : List ℕ) → Cancel q ladder inverses → AreInverse q ladder inverses
are_inverse q ladder inverses cancel = record { product = cancel_at q ladder inverses cancel }

pub length-table_of : (q first : ℕ) (ladder : List ℕ) (k : ℕ) → length (table_of q first ladder k) ≡ 2 ^ k
unfolding table_of
length-table_of q first ladder zero = refl
length-table_of q first ladder (suc k) =
    let t = table_of q first ladder k in
    let size = length-table_of q first ladder k in
    let step = λ (x : ℕ). (x * at ladder k) % (q + 1) in
    omega (arith, length-append t (map step t), length-map t step, size, two-pow-succ k)

-- an entry of the first half, and one of the second
low_entry : (q first : ℕ) (ladder : List ℕ) (k i : ℕ) → i < 2 ^ k → at (table_of q first ladder (suc k)) i ≡ at (table_of q first ladder k) i
unfolding table_of
low_entry q first ladder k i less =
    let t = table_of q first ladder k in
    get_or_append_left t (map (λ x. (x * at ladder k) % (q + 1)) t) 0 i (omega (arith, length-table_of q first ladder k, less))

high_entry : (q first : ℕ) (ladder : List ℕ) (k i : ℕ) → i < 2 ^ k → IsCongruent q (at (table_of q first ladder (suc k)) (2 ^ k + i)) (at (table_of q first ladder k) i * at ladder k)
unfolding table_of
high_entry q first ladder k i less =
    let t = table_of q first ladder k in
    let step = λ (x : ℕ). (x * at ladder k) % (q + 1) in
    let size : length t ≡ 2 ^ k = length-table_of q first ladder k in
    let after : get_or (t ++ map step t) (2 ^ k + i) 0 ≡ get_or (map step t) i 0 =
    ap (λ n. get_or (t ++ map step t) (n + i) 0) (sym size) ∙ get_or-append-add t (map step t) i 0 in
    let entry : get_or (map step t) i 0 ≡ step (get_or t i 0) = get_or-map step t i 0 0 (omega (arith, size, less)) in
    same_trans q _ _ _ (same_equal q _ _ (after ∙ entry)) (same_mod q _)

-- the square of a product
square_of : (q x s a b t : ℕ) → IsCongruent q x (a * s) → IsCongruent q (a * a) b → IsCongruent q (s * s) t → IsCongruent q (x * x) (b * t)
square_of q x s a b t is first second =
    same_trans q _ _ _ (same_times q _ _ _ _ is is)
    (same_trans q _ _ _ (same_equal q _ ((a * a) * (s * s)) (omega arith)) (same_times q _ _ _ _ first second))

record AreSquares (q k : ℕ) (table : List ℕ) : Type 0 where
  even : (j : ℕ) → 2 * j < 2 ^ k → IsCongruent q (at table (2 * j) * at table (2 * j)) (at table j)
  odd : (j : ℕ) → 2 * j + 1 < 2 ^ k → IsCongruent q (at table (2 * j + 1) * at table (2 * j + 1)) (q * at table j)

more_squares : (q : ℕ) (ladder : List ℕ) → IsLadder q ladder → (k : ℕ) → suc (suc k) ≤ length ladder → AreSquares q (suc k) (table_of q 1 ladder (suc k)) → AreSquares q (suc (suc k)) (table_of q 1 ladder (suc (suc k)))
more_squares q ladder climbs k fits before = record { even = even; odd = odd }
  where
    half : List ℕ
    half = table_of q 1 ladder (suc k)

    t : List ℕ
    t = table_of q 1 ladder (suc (suc k))

    twice : 2 ^ suc k ≡ 2 ^ k + 2 ^ k
    twice = two-pow-succ k

    whole : 2 ^ suc (suc k) ≡ 2 ^ suc k + 2 ^ suc k
    whole = two-pow-succ (suc k)

    step : ℕ
    step = at ladder (suc k)

    stepped : IsCongruent q (step * step) (at ladder k)
    stepped = climbs.square (suc k) (omega (arith, fits))

    -- number j, in the second half of its level
    parent : (i : ℕ) → i < 2 ^ k → IsCongruent q (at half i * at ladder k) (at t (2 ^ k + i))
    parent i less =
        let here : at t (2 ^ k + i) ≡ at half (2 ^ k + i) = low_entry q 1 ladder (suc k) (2 ^ k + i) (omega (arith, twice, less)) in
        let there : at half i ≡ at (table_of q 1 ladder k) i = low_entry q 1 ladder k i less in
        same_trans q _ _ _ (same_equal q _ _ (ap (λ n. n * at ladder k) there))
        (same_trans q _ _ _ (same_sym q _ _ (high_entry q 1 ladder k i less)) (same_equal q _ _ (sym here)))

    even : (j : ℕ) → 2 * j < 2 ^ suc (suc k) → IsCongruent q (at t (2 * j) * at t (2 * j)) (at t j)
    even j less = elim (cases_lt (2 * j) (2 ^ suc k)) [
      | inl low ↦
          let here : at t (2 * j) ≡ at half (2 * j) = low_entry q 1 ladder (suc k) (2 * j) low in
          let there : at t j ≡ at half j = low_entry q 1 ladder (suc k) j (omega (arith, low)) in
          same_trans q _ _ _ (same_equal q _ _ (ap (λ n. n * n) here)) (same_trans q _ _ _ (before.even j low) (same_equal q _ _ (sym there)))
      | inr high ↦
          let i = j - 2 ^ k in
          let below : i < 2 ^ k = omega (arith, twice, whole, less, high) in
          let index : 2 ^ suc k + 2 * i ≡ 2 * j = omega (arith, twice, high) in
          let parent_index : 2 ^ k + i ≡ j = omega (arith, twice, high) in
          let child : IsCongruent q (at t (2 * j)) (at half (2 * i) * step) =
          same_trans q _ _ _ (same_equal q _ _ (ap (at t) (sym index))) (high_entry q 1 ladder (suc k) (2 * i) (omega (arith, twice, below))) in
          same_trans q _ _ _ (square_of q (at t (2 * j)) step (at half (2 * i)) (at half i) (at ladder k) child (before.even i (omega (arith, twice, below))) stepped)
          (same_trans q _ _ _ (parent i below) (same_equal q _ _ (ap (at t) parent_index)))
    ]

    odd : (j : ℕ) → 2 * j + 1 < 2 ^ suc (suc k) → IsCongruent q (at t (2 * j + 1) * at t (2 * j + 1)) (q * at t j)
    odd j less = elim (cases_lt (2 * j + 1) (2 ^ suc k)) [
      | inl low ↦
          let here : at t (2 * j + 1) ≡ at half (2 * j + 1) = low_entry q 1 ladder (suc k) (2 * j + 1) low in
          let there : at t j ≡ at half j = low_entry q 1 ladder (suc k) j (omega (arith, low)) in
          same_trans q _ _ _ (same_equal q _ _ (ap (λ n. n * n) here)) (same_trans q _ _ _ (before.odd j low) (same_equal q _ _ (ap (λ n. q * n) (sym there))))
      | inr high ↦
          let i = j - 2 ^ k in
          let below : i < 2 ^ k = omega (arith, twice, whole, less, high) in
          let index : 2 ^ suc k + (2 * i + 1) ≡ 2 * j + 1 = omega (arith, twice, high) in
          let parent_index : 2 ^ k + i ≡ j = omega (arith, twice, high) in
          let child : IsCongruent q (at t (2 * j + 1)) (at half (2 * i + 1) * step) =
          same_trans q _ _ _ (same_equal q _ _ (ap (at t) (sym index))) (high_entry q 1 ladder (suc k) (2 * i + 1) (omega (arith, twice, below))) in
          let above : IsCongruent q (q * (at half i * at ladder k)) (q * at t j) =
          same_times q _ _ _ _ (same_refl q q) (same_trans q _ _ _ (parent i below) (same_equal q _ _ (ap (at t) parent_index))) in
          same_trans q _ _ _ (square_of q (at t (2 * j + 1)) step (at half (2 * i + 1)) (q * at half i) (at ladder k) child (before.odd i (omega (arith, twice, below))) stepped)
          (same_trans q _ _ _ (same_equal q _ (q * (at half i * at ladder k)) (omega arith)) above)
    ]

are_squares : (q : ℕ) (ladder : List ℕ) → IsLadder q ladder → (k : ℕ) → k ≤ length ladder → AreSquares q k (table_of q 1 ladder k)
unfolding table_of
are_squares q ladder climbs zero fits = record { even = even; odd = odd }
  where
    t : List ℕ
    t = table_of q 1 ladder 0

    even : (j : ℕ) → 2 * j < 1 → IsCongruent q (at t (2 * j) * at t (2 * j)) (at t j)
    even zero less = same_refl q 1
    even (suc j) less = absurd (omega (arith, less))

    odd : (j : ℕ) → 2 * j + 1 < 1 → IsCongruent q (at t (2 * j + 1) * at t (2 * j + 1)) (q * at t j)
    odd j less = absurd (omega (arith, less))
are_squares q ladder climbs (suc zero) fits = record { even = even; odd = odd }
  where
    t : List ℕ
    t = table_of q 1 ladder 1

    even : (j : ℕ) → 2 * j < 2 → IsCongruent q (at t (2 * j) * at t (2 * j)) (at t j)
    even zero less = same_refl q 1
    even (suc j) less = absurd (omega (arith, less))

    odd : (j : ℕ) → 2 * j + 1 < 2 → IsCongruent q (at t (2 * j + 1) * at t (2 * j + 1)) (q * at t j)
    odd zero less =
        let is : IsCongruent q (at t 1) (1 * at ladder 0) = same_mod q (1 * at ladder 0) in
        same_trans q _ _ _ (square_of q (at t 1) (at ladder 0) 1 1 q is (same_refl q 1) (climbs.square 0 (omega (arith, fits)))) (same_equal q _ _ (omega arith))
    odd (suc j) less = absurd (omega (arith, less))
are_squares q ladder climbs (suc (suc k)) fits = more_squares q ladder climbs k fits (are_squares q ladder climbs (suc k) (omega (arith, fits)))

first_entry : (q first : ℕ) (ladder : List ℕ) (k : ℕ) → at (table_of q first ladder k) 0 ≡ first
unfolding table_of
first_entry q first ladder zero = refl
first_entry q first ladder (suc k) = low_entry q first ladder k 0 (pow_pos k) ∙ first_entry q first ladder k

pub has_squares : (q : ℕ) (ladder : List ℕ) → IsLadder q ladder → (k : ℕ) → k ≤ length ladder → HasSquares q (table_of q 1 ladder k)
has_squares q ladder climbs k fits =
    let squares = are_squares q ladder climbs k fits in
    let size = length-table_of q 1 ladder k in
    record {
      first = same_equal q _ _ (first_entry q 1 ladder k);
      even = λ j less. squares.even j (omega (arith, size, less));
      odd = λ j less. squares.odd j (omega (arith, size, less));
    }

halves_at : (q half : ℕ) (ladder inverses : List ℕ) → IsCongruent q (2 * half) 1 → AreInverse q ladder inverses → (k : ℕ) → k ≤ length ladder → (j : ℕ) → j < 2 ^ k → IsCongruent q (2 * (at (table_of q 1 ladder k) j * at (table_of q half inverses k) j)) 1
unfolding table_of
halves_at q half ladder inverses halved inverse zero fits zero less = same_trans q _ _ _ (same_equal q _ (2 * half) (omega arith)) halved
halves_at q half ladder inverses halved inverse zero fits (suc j) less = absurd (omega (arith, less))
halves_at q half ladder inverses halved inverse (suc k) fits j less = elim (cases_lt j (2 ^ k)) [
  | inl low ↦
      let here : at t j ≡ at t' j = low_entry q 1 ladder k j low in
      let there : at u j ≡ at u' j = low_entry q half inverses k j low in
      same_trans q _ _ _ (same_equal q _ (2 * (at t' j * at u' j)) (ap (λ n. 2 * (n * at u j)) here ∙ ap (λ n. 2 * (at t' j * n)) there))
      (halves_at q half ladder inverses halved inverse k (omega (arith, fits)) j low)
  | inr high ↦
      let i = j - 2 ^ k in
      let below : i < 2 ^ k = omega (arith, two-pow-succ k, less, high) in
      let index : 2 ^ k + i ≡ j = omega (arith, high) in
      let here : IsCongruent q (at t j) (at t' i * at ladder k) = same_trans q _ _ _ (same_equal q _ _ (ap (at t) (sym index))) (high_entry q 1 ladder k i below) in
      let there : IsCongruent q (at u j) (at u' i * at inverses k) = same_trans q _ _ _ (same_equal q _ _ (ap (at u) (sym index))) (high_entry q half inverses k i below) in
      let both : IsCongruent q (2 * (at t j * at u j)) (2 * ((at t' i * at ladder k) * (at u' i * at inverses k))) = same_times q _ _ _ _ (same_refl q 2) (same_times q _ _ _ _ here there) in
      let rest : IsCongruent q ((2 * (at t' i * at u' i)) * (at ladder k * at inverses k)) (1 * 1) =
      same_times q _ _ _ _ (halves_at q half ladder inverses halved inverse k (omega (arith, fits)) i below) (inverse.product k (omega (arith, fits))) in
      same_trans q _ _ _ both (same_trans q _ _ _ (same_equal q _ _ (omega arith)) rest)
]
  where
    t : List ℕ
    t = table_of q 1 ladder (suc k)

    t' : List ℕ
    t' = table_of q 1 ladder k

    u : List ℕ
    u = table_of q half inverses (suc k)

    u' : List ℕ
    u' = table_of q half inverses k

pub has_halves : (q half : ℕ) (ladder inverses : List ℕ) → IsCongruent q (2 * half) 1 → AreInverse q ladder inverses → (k : ℕ) → k ≤ length ladder → HasHalves q (table_of q 1 ladder k) (table_of q half inverses k)
has_halves q half ladder inverses halved inverse k fits = record {
  inverse = λ j less. halves_at q half ladder inverses halved inverse k fits j (omega (arith, length-table_of q 1 ladder k, less));
}
