-- The products of the numbers of two cells add up to their squared difference, modulo the prime.
use Rattle.std.proofs.Common.{◌≡◌, ℕ, zero, suc, ◌+◌, ◌-◌, ◌*◌, ◌<◌, ◌≤◌, List, [], ◌∷◌, length, get_or, sym, ap, ◌∙◌, arith, ⊎_elim}
use Rattle.std.specs.Prelude.{Option, Some, None, unwrap_or, IsSome, IfSome}
use Rattle.std.specs.Int.{abs_diff}
use Rattle.std.specs.List.{zip}
use Rattle.std.proofs.lemmas.Bool.{cases_lt}
use Rattle.std.proofs.lemmas.List.Sums.{sum_by-cons}
use mathlib.Core.Bool.{false≢true}
use Rattle.cells.specs.declared.place.At.{At}
use Rattle.cells.specs.Cells.{Cells, IsVolume, HasCell, cell_at}
use Rattle.cells.proofs.CellLaws.{IfCell, cell_is_cell}
use Rattle.boxes.specs.Sums.{sum_to}
use Rattle.boxes.proofs.Additions.{counts}
use Rattle.boxes.proofs.Axes.{sum_first, sum_none}
use Rattle.cyclic_products.specs.declared.residues.TheConstants.{LAST, PRIME}
use Rattle.cyclic_products.specs.Residues.{IsCongruent}
use Rattle.cyclic_products.proofs.SameNumbers.{same_by, same_equal}
use Rattle.lane_kernels.specs.Sums.{squared_difference, sum_of_squared_differences}
use Rattle.map_canvas.specs.CellErrors.{cell_error}
use Rattle.map_canvas.specs.Maps.{sample_cell}
use Rattle.offset_errors.specs.Numbers.{new_number, old_number, source_number, squares}

upward : (q x d : ℕ) → x * x + (x + d) * (x + d) + q * (x + d) ≡ d * d + (q + 2 * x) * (x + d)
upward q x d = omega arith

downward : (q y d : ℕ) → (y + d) * (y + d) + y * y + q * y ≡ d * d + (q + 2 * (y + d)) * y
downward q y d = omega arith

squared : (p x y : ℕ) → 2 * x ≤ p → x * x + y * y + (p - 2 * x) * y ≡ abs_diff x y * abs_diff x y + p * y
squared p x y less = ⊎_elim up down (cases_lt x y)
  where
    up : x < y → x * x + y * y + (p - 2 * x) * y ≡ abs_diff x y * abs_diff x y + p * y
    up lt =
        let more : x + abs_diff x y ≡ y = omega (arith, lt) in
        let whole : (p - 2 * x) + 2 * x ≡ p = omega (arith, less) in
        (λ k. x * x + sym more k * sym more k + (p - 2 * x) * sym more k) ∙ upward (p - 2 * x) x (abs_diff x y)
        ∙ (λ k. abs_diff x y * abs_diff x y + whole k * more k)

    down : y ≤ x → x * x + y * y + (p - 2 * x) * y ≡ abs_diff x y * abs_diff x y + p * y
    down le =
        let more : y + abs_diff x y ≡ x = omega (arith, le) in
        let whole : (p - 2 * x) + 2 * (y + abs_diff x y) ≡ p = omega (arith, less, more) in
        (λ k. sym more k * sym more k + y * y + (p - 2 * x) * y) ∙ downward (p - 2 * x) y (abs_diff x y)
        ∙ (λ k. abs_diff x y * abs_diff x y + whole k * y)

-- all bytes of two cells
bytes_sum : (p k : ℕ) (a b : List ℕ) → length a ≡ k → length b ≡ k → ((i : ℕ) → i < k → 2 * get_or a i 0 ≤ p)
    → squares a + squares b + sum_to k (λ c. (p - 2 * get_or a c 0) * get_or b c 0) ≡ sum_of_squared_differences a b + p * sum_to k (λ c. get_or b c 0)
bytes_sum p k (x ∷ xs) [] long same less = absurd (omega (arith, long, same))
bytes_sum p k [] (y ∷ ys) long same less = absurd (omega (arith, long, same))
bytes_sum p zero [] [] long same less = omega arith
bytes_sum p (suc k) [] [] long same less = absurd (omega (arith, long))
bytes_sum p zero (x ∷ xs) (y ∷ ys) long same less = absurd (omega (arith, long))
bytes_sum p (suc k) (x ∷ xs) (y ∷ ys) long same less =
    let first = squared p x y (less 0 (omega arith)) in
    let rest = bytes_sum p k xs ys (omega (arith, long)) (omega (arith, same)) (λ i lt. less (suc i) (omega (arith, lt))) in
    let old = sum_by-cons (λ b. b * b) x xs in
    let new = sum_by-cons (λ b. b * b) y ys in
    let both = sum_by-cons squared_difference (x, y) (zip xs ys) in
    let off = sum_first counts k (λ c. (p - 2 * get_or (x ∷ xs) c 0) * get_or (y ∷ ys) c 0) in
    let own = sum_first counts k (λ c. get_or (y ∷ ys) c 0) in
    let times : p * sum_to (suc k) (λ c. get_or (y ∷ ys) c 0) ≡ p * (y + sum_to k (λ c. get_or ys c 0)) = ap (λ s. p * s) own in
    omega (arith, first, rest, old, new, both, off, times)

-- a cell of the sample
record IsBytes (k : ℕ) (cell : List ℕ) : Type 0 where
  pub samples : length cell ≡ k
  pub bytes : (i : ℕ) → i < k → get_or cell i 0 < 256

bytes_at : (v : Cells) → IsVolume v → (p : At) → HasCell v p → IsBytes v.k (sample_cell v (Some p))
bytes_at v is p has = by (cell_at v p) (cell_is_cell v is p) has
  where
    by : (o : Option (List ℕ)) → IfCell v.k o → IsSome o → IsBytes v.k (unwrap_or o [])
    by None is_cell has = absurd (false≢true has)
    by (Some cell) is_cell has = record { samples = is_cell.samples; bytes = λ i lt. is_cell.bytes i 0 (omega (arith, lt, is_cell.samples)) }

-- the products of all numbers of two cells add up to their squared difference
pub cell_sum : (v : Cells) → IsVolume v → (source : Option At) (new : At) → IfSome source (HasCell v) → HasCell v new
    → IsCongruent LAST (sum_to (suc (suc v.k)) (λ j. source_number v j source * new_number (sample_cell v (Some new)) j)) (cell_error v source new)
cell_sum v is None new over has =
    same_equal LAST _ 0 (sum_none counts (suc (suc v.k)) (λ j. 0 * new_number (sample_cell v (Some new)) j) (λ i less. omega arith))
cell_sum v is (Some from) new over has =
    let a = sample_cell v (Some from) in
    let b = sample_cell v (Some new) in
    let old = bytes_at v is from over in
    let fresh = bytes_at v is new has in
    let all = bytes_sum PRIME v.k a b old.samples fresh.samples (λ i lt. omega (arith, old.bytes i lt)) in
    let term = λ (j : ℕ). old_number a j * new_number b j in
    let one = sum_first counts (suc v.k) term in
    let two = sum_first counts v.k (λ j. term (suc j)) in
    same_by LAST (sum_to (suc (suc v.k)) term) (cell_error v (Some from) new) 0 (sum_to v.k (λ c. get_or b c 0)) (omega (arith, all, one, two))
