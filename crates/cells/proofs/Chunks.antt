-- The cells of a buffer: what is at an index, in a run, and after a write.
use Rattle.std.proofs.Common.{◌≡◌, ℕ, zero, suc, ◌+◌, ◌*◌, ◌-◌, ◌<◌, ◌≤◌, List, ◌∷◌, ◌++◌, length, take, drop, refl, ap, sym, ◌∙◌, arith, append_assoc}
use Rattle.std.specs.Prelude.{Some, slice_get, slice_index, slice_set}
use Rattle.std.specs.List.{concat, AllByRecursion}
use Rattle.std.proofs.Math.Nat.{mul-le-mul_left}
use Rattle.std.proofs.lemmas.List.{length-take-le, length-drop, drop-drop, take-append-drop, take-append-le, drop-append-le, take_at, drop_at, take-take, take_all, get_or-take, get_or-drop, get_or_default, drop-take}
use Rattle.cells.specs.Cells.{IsCell, cells_of}

pub length-cells_of : (k n : ℕ) (bytes : List ℕ) → length (cells_of k n bytes) ≡ n
length-cells_of k zero bytes = refl
length-cells_of k (suc n) bytes = ap suc (length-cells_of k n (drop k bytes))

-- a cell by its index
pub cells_of-at : (k n i : ℕ) (bytes : List ℕ) → i < n → slice_get (cells_of k n bytes) i ≡ Some (take k (drop (k * i) bytes))
cells_of-at k zero i bytes lt = absurd (omega arith)
cells_of-at k (suc n) zero bytes lt = let none : k * 0 ≡ 0 = omega arith in rw none refl
cells_of-at k (suc n) (suc i) bytes lt =
    cells_of-at k n i (drop k bytes) (omega arith) ∙ ap (λ xs. Some (take k xs)) (drop-drop (k * i) k bytes ∙ ap (λ j. drop j bytes) (let e : k + k * i ≡ k * suc i = omega arith in e))

-- the cells from an index on are those of the rest of the bytes
pub drop-cells_of : (k n i : ℕ) (bytes : List ℕ) → i ≤ n → drop i (cells_of k n bytes) ≡ cells_of k (n - i) (drop (k * i) bytes)
drop-cells_of k n zero bytes le = let none : k * 0 ≡ 0 = omega arith in let all : n - 0 ≡ n = omega arith in rw (none, all) refl
drop-cells_of k zero (suc i) bytes le = absurd (omega arith)
drop-cells_of k (suc n) (suc i) bytes le =
    drop-cells_of k n i (drop k bytes) (omega arith)
    ∙ ap (λ xs. cells_of k (n - i) xs) (drop-drop (k * i) k bytes ∙ ap (λ j. drop j bytes) (let e : k + k * i ≡ k * suc i = omega arith in e))
    ∙ ap (λ m. cells_of k m (drop (k * suc i) bytes)) (let e : n - i ≡ suc n - suc i = omega arith in e)

pub take-cells_of : (k n w : ℕ) (bytes : List ℕ) → w ≤ n → take w (cells_of k n bytes) ≡ cells_of k w bytes
take-cells_of k n zero bytes le = refl
take-cells_of k zero (suc w) bytes le = absurd (omega arith)
take-cells_of k (suc n) (suc w) bytes le = ap (λ xs. take k bytes ∷ xs) (take-cells_of k n w (drop k bytes) (omega arith))

-- joined, the cells are the bytes again
pub concat-cells_of : (k n : ℕ) (bytes : List ℕ) → k * n ≤ length bytes → concat (cells_of k n bytes) ≡ take (k * n) bytes
concat-cells_of k zero bytes le = let none : k * 0 ≡ 0 = omega arith in rw none refl
concat-cells_of k (suc n) bytes le =
    ap (λ xs. take k bytes ++ xs) (concat-cells_of k n (drop k bytes) (omega (arith, length-drop k bytes)))
    ∙ ap (λ xs. take k bytes ++ xs) (sym (drop-take k (k * n) bytes))
    ∙ ap (λ xs. xs ++ drop k (take (k + k * n) bytes)) (sym (take-take k (k + k * n) bytes (omega arith)))
    ∙ take-append-drop k (take (k + k * n) bytes)
    ∙ ap (λ m. take m bytes) (let e : k + k * n ≡ k * suc n = omega arith in e)

pub concat-cells_of_all : (k n : ℕ) (bytes : List ℕ) → length bytes ≡ k * n → concat (cells_of k n bytes) ≡ bytes
concat-cells_of_all k n bytes e = concat-cells_of k n bytes (omega arith) ∙ take_all (k * n) bytes (omega arith)

-- a run of cells
pub run-cells_of : (k n i w : ℕ) (bytes : List ℕ) → i + w ≤ n → length bytes ≡ k * n → concat (take w (drop i (cells_of k n bytes))) ≡ take (k * w) (drop (k * i) bytes)
run-cells_of k n i w bytes fits whole =
    ap (λ xs. concat (take w xs)) (drop-cells_of k n i bytes (omega arith))
    ∙ ap concat (take-cells_of k (n - i) w (drop (k * i) bytes) (omega arith))
    ∙ concat-cells_of k w (drop (k * i) bytes) (omega (arith, length-drop (k * i) bytes, mul-le-mul_left k fits))

-- a write over one cell
pub set-cells_of : (k n i : ℕ) (bytes cell : List ℕ) → i < n → length cell ≡ k → length bytes ≡ k * n
    → cells_of k n (take (k * i) bytes ++ cell ++ drop (k * i + length cell) bytes) ≡ slice_set (cells_of k n bytes) i cell
set-cells_of k zero i bytes cell lt long whole = absurd (omega arith)
set-cells_of k (suc n) zero bytes cell lt long whole =
    let none : k * 0 ≡ 0 = omega arith in
    rw none (λ j. take_at cell (drop (0 + length cell) bytes) k long j ∷ cells_of k n ((drop_at cell (drop (0 + length cell) bytes) k long ∙ ap (λ m. drop m bytes) (let e : 0 + length cell ≡ k = omega arith in e)) j))
set-cells_of k (suc n) (suc i) bytes cell lt long whole =
    (λ j. first j ∷ cells_of k n (rest j)) ∙ ap (λ xs. take k bytes ∷ xs) (set-cells_of k n i (drop k bytes) cell (omega arith) long (omega (arith, length-drop k bytes)))
  where
    tail : List ℕ
    tail = drop (k * suc i + length cell) bytes

    split : take (k * suc i) bytes ++ cell ++ tail ≡ take (k + k * i) bytes ++ (cell ++ tail)
    split = append_assoc (take (k * suc i) bytes) cell tail ∙ ap (λ m. take m bytes ++ (cell ++ tail)) (omega arith)

    front : k ≤ length (take (k + k * i) bytes)
    front = omega (arith, length-take-le (k + k * i) bytes (omega (arith, mul-le-mul_left k (let le : i ≤ n = omega arith in le))))

    first : take k (take (k * suc i) bytes ++ cell ++ tail) ≡ take k bytes
    first = ap (take k) split ∙ take-append-le k (take (k + k * i) bytes) (cell ++ tail) front ∙ take-take k (k + k * i) bytes (omega arith)

    rest : drop k (take (k * suc i) bytes ++ cell ++ tail) ≡ take (k * i) (drop k bytes) ++ cell ++ drop (k * i + length cell) (drop k bytes)
    rest =
        ap (drop k) split ∙ drop-append-le k (take (k + k * i) bytes) (cell ++ tail) front
        ∙ ap (λ xs. xs ++ (cell ++ tail)) (drop-take k (k * i) bytes)
        ∙ sym (append_assoc (take (k * i) (drop k bytes)) cell tail)
        ∙ ap (λ xs. take (k * i) (drop k bytes) ++ cell ++ xs) (ap (λ m. drop m bytes) (omega arith) ∙ sym (drop-drop (k * i + length cell) k bytes))

-- each is a cell of k samples
pub cells_of-are : (k n : ℕ) (bytes : List ℕ) → length bytes ≡ k * n → ((i : ℕ) → slice_index bytes i < 256) → AllByRecursion (IsCell k) (cells_of k n bytes)
cells_of-are k zero bytes whole small = tt
cells_of-are k (suc n) bytes whole small = (
  record {
    samples = length-take-le k bytes (omega arith);
    bytes = λ i d lt. let below : i < k = omega (arith, length-take-le k bytes (omega arith)) in rw (get_or-take k bytes i d below, get_or_default bytes i d 0 (omega arith)) (small i);
  },
  cells_of-are k n (drop k bytes) (omega (arith, length-drop k bytes)) (λ i. rw (get_or-drop k bytes i 0) (small (k + i))),
)
