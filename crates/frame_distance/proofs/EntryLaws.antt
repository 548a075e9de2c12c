-- The entries of a square table: where they lie, and one more of them.
use Rattle.std.proofs.Common.{◌≡◌, ℕ, zero, suc, ◌+◌, ◌*◌, ◌/◌, ◌%◌, ◌<◌, ◌≤◌, [], ◌∷◌, ◌++◌, length, get_or, ap, sym, ◌∙◌, subst, arith}
use Rattle.std.proofs.Math.Nat.{mul-le-mul_right}
use Rattle.std.proofs.lemmas.Nat.{mul-add-lt, div-mul-add, mod-mul-add, div-add-mod', mod_below, div_below}
use Rattle.std.proofs.lemmas.List.{same_lists}
use Rattle.std.proofs.lemmas.List.FromFn.{length-map-range_with_len, get_or-map-range_with_len, map-range_with_len_more}
use Rattle.frame_distance.specs.Tables.{entries_of}

-- the row and the column of an entry
some_rows : (n k : ℕ) → k < n * n → 0 < n
some_rows zero k lt = absurd (omega arith)
some_rows (suc n) k lt = omega arith

pub row_below : (n k : ℕ) → k < n * n → k / n < n
row_below n k lt = div_below k n n (some_rows n k lt) lt

pub column_below : (n k : ℕ) → k < n * n → k % n < n
column_below n k lt = mod_below k n (some_rows n k lt)

module _ {X : Type 0} (n : ℕ) (f : ℕ → ℕ → X) where
  pub entries_of-at : (count i j : ℕ) (d : X) → j < n → i * n + j < count → get_or (entries_of n f count) (i * n + j) d ≡ f i j
  entries_of-at count i j d lt below =
      get_or-map-range_with_len (λ k. f (k / n) (k % n)) 0 count (i * n + j) (i * n + j) d below (omega arith)
      ∙ (λ t. f (div-mul-add i n j lt t) (mod-mul-add i n j lt t))

  pub entries_of-inside : (i j : ℕ) (d : X) → i < n → j < n → get_or (entries_of n f (n * n)) (i * n + j) d ≡ f i j
  entries_of-inside i j d row column = entries_of-at (n * n) i j d column (mul-add-lt i n j n row column)

  pub length-entries_of : (count : ℕ) → length (entries_of n f count) ≡ count
  length-entries_of count = length-map-range_with_len (λ k. f (k / n) (k % n)) 0 count

  pub entries_of_more : (count : ℕ) → entries_of n f (count + 1) ≡ entries_of n f count ++ f (count / n) (count % n) ∷ []
  entries_of_more count = map-range_with_len_more (λ k. f (k / n) (k % n)) 0 count count (omega arith)

-- two functions that agree on the rows and columns have the same entries
pub entries_of-same : {X : Type 0} (n : ℕ) (f g : ℕ → ℕ → X) → ((i j : ℕ) → i < n → j < n → f i j ≡ g i j) → entries_of n f (n * n) ≡ entries_of n g (n * n)
entries_of-same {X = X} n f g same =
    same_lists (entries_of n f (n * n)) (entries_of n g (n * n)) (length-entries_of n f (n * n) ∙ sym (length-entries_of n g (n * n)))
    (λ k d lt. each k d (subst (λ m. k < m) (length-entries_of n f (n * n)) lt))
  where
    each : (k : ℕ) (d : X) → k < n * n → get_or (entries_of n f (n * n)) k d ≡ get_or (entries_of n g (n * n)) k d
    each k d lt =
        get_or-map-range_with_len (λ k. f (k / n) (k % n)) 0 (n * n) k k d lt (omega arith)
        ∙ same (k / n) (k % n) (row_below n k lt) (column_below n k lt)
        ∙ sym (get_or-map-range_with_len (λ k. g (k / n) (k % n)) 0 (n * n) k k d lt (omega arith))

-- the entry across the diagonal comes before one below it
pub across_before : (n k i j : ℕ) → i ≡ k / n → j ≡ k % n → i < n → j < i → j * n + i < k
across_before n k i j row column below lt =
    omega (arith, div-add-mod' k n, ap (λ m. m * n) row, mul-le-mul_right n (let le : j + 1 ≤ i = omega arith in le))
