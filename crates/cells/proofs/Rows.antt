-- The cells of a buffer after a run of them is written.
use Rattle.std.proofs.Common.{◌≡◌, ℕ, zero, suc, ◌+◌, ◌*◌, ◌-◌, ◌≤◌, List, [], ◌∷◌, ◌++◌, length, take, drop, refl, ap, sym, ◌∙◌, arith, append_assoc}
use Rattle.std.specs.Prelude.{Some, All, replicate}
use Rattle.std.specs.List.{concat}
use Rattle.std.proofs.Math.Seq.{paste}
use Rattle.std.proofs.Math.Nat.{mul-le-mul_left}
use Rattle.std.proofs.lemmas.List.{append-nil, length-take-le, take-append-drop, take-replicate, drop-replicate, take_all, take_at, drop_at}
use Rattle.std.proofs.lemmas.List.Edits.{length-paste}
use Rattle.std.proofs.lemmas.List.Elements.{All-append, All-drop, All-head, All-tail, All-take}
use Rattle.cells.specs.declared.place.At.{At}
use Rattle.cells.specs.declared.place.Size.{Size}
use Rattle.cells.specs.Parts.{count_from, index_from}
use Rattle.cells.specs.Buffers.{IsBuffer}
use Rattle.cells.specs.Cells.{Cells, IsCell, cells_of, put_row, put_run, volume_over}
use Rattle.cells.proofs.Chunks.{drop-cells_of, length-cells_of, take-cells_of}
use Rattle.cells.proofs.Joining.{cells_of-append}

-- a run written whole, as a loop leaves it
pub paste-whole : {X : Type 0} (xs ys : List X) (i : ℕ) → paste xs i ys (length ys) ≡ put_run xs (Some i) ys
paste-whole xs ys i = ap (λ zs. take i xs ++ zs ++ drop (i + length ys) xs) (take_all (length ys) ys (omega arith))

pub length-put_run : {X : Type 0} (xs ys : List X) (i : ℕ) → i + length ys ≤ length xs → length (put_run xs (Some i) ys) ≡ length xs
length-put_run xs ys i fits = ap length (sym (paste-whole xs ys i)) ∙ length-paste xs i ys (length ys) fits (omega arith)

pub All-put_run : {X : Type 0} (P : X → Type 0) (xs ys : List X) (i : ℕ) → All P xs → All P ys → All P (put_run xs (Some i) ys)
All-put_run P xs ys i all more = All-append P (take i xs ++ ys) (drop (i + length ys) xs) (All-append P (take i xs) ys (All-take P i xs all) more) (All-drop P (i + length ys) xs all)

-- the cells of the bytes of some cells
pub cells_of-concat : (k : ℕ) (cells : List (List ℕ)) → All (IsCell k) cells → cells_of k (length cells) (concat cells) ≡ cells
cells_of-concat k [] all = refl
cells_of-concat k (cell ∷ cells) all =
    let long : length cell ≡ k = (All-head (IsCell k) cell cells all).samples in
    (λ j. take_at cell (concat cells) k long j ∷ cells_of k (length cells) (drop_at cell (concat cells) k long j))
    ∙ ap (λ rest. cell ∷ rest) (cells_of-concat k cells (All-tail (IsCell k) cell cells all))

-- the first cells need the first bytes alone
cells_of-take : (k i : ℕ) (bytes : List ℕ) → k * i ≤ length bytes → cells_of k i (take (k * i) bytes) ≡ cells_of k i bytes
cells_of-take k i bytes le =
    sym (append-nil (cells_of k i (take (k * i) bytes)))
    ∙ sym (cells_of-append k i 0 (take (k * i) bytes) (drop (k * i) bytes) (length-take-le (k * i) bytes le))
    ∙ ap (λ n. cells_of k n (take (k * i) bytes ++ drop (k * i) bytes)) (let e : i + 0 ≡ i = omega arith in e)
    ∙ ap (cells_of k i) (take-append-drop (k * i) bytes)

-- a write over a run of cells
pub run-set-cells_of : (k n i w : ℕ) (bytes piece : List ℕ) → i + w ≤ n → length piece ≡ k * w → length bytes ≡ k * n
    → cells_of k n (take (k * i) bytes ++ piece ++ drop (k * i + length piece) bytes) ≡ put_run (cells_of k n bytes) (Some i) (cells_of k w piece)
run-set-cells_of k n i w bytes piece fits long whole =
    ap (λ m. cells_of k m (before ++ piece ++ rest)) (let e : n ≡ i + (w + (n - (i + w))) = omega (arith, fits) in e)
    ∙ ap (cells_of k (i + (w + (n - (i + w))))) (append_assoc before piece rest)
    ∙ cells_of-append k i (w + (n - (i + w))) before (piece ++ rest) (length-take-le (k * i) bytes front)
    ∙ ap (λ cells. cells_of k i before ++ cells) (cells_of-append k w (n - (i + w)) piece rest long)
    ∙ (λ j. first j ++ (cells_of k w piece ++ last j))
    ∙ sym (append_assoc (take i (cells_of k n bytes)) (cells_of k w piece) (drop (i + length (cells_of k w piece)) (cells_of k n bytes)))
  where
    before : List ℕ
    before = take (k * i) bytes

    rest : List ℕ
    rest = drop (k * i + length piece) bytes

    front : k * i ≤ length bytes
    front = omega (arith, whole, mul-le-mul_left k (let le : i ≤ n = omega (arith, fits) in le))

    first : cells_of k i before ≡ take i (cells_of k n bytes)
    first = cells_of-take k i bytes front ∙ sym (take-cells_of k n i bytes (omega (arith, fits)))

    last : cells_of k (n - (i + w)) rest ≡ drop (i + length (cells_of k w piece)) (cells_of k n bytes)
    last =
        ap (λ m. cells_of k (n - (i + w)) (drop m bytes)) (let e : k * i + length piece ≡ k * (i + w) = omega (arith, long) in e)
        ∙ sym (drop-cells_of k n (i + w) bytes fits)
        ∙ ap (λ m. drop (i + m) (cells_of k n bytes)) (sym (length-cells_of k w piece))

-- cells whose bytes are all the same
pub cells_of-same : (k n m byte : ℕ) → k * n ≤ m → cells_of k n (replicate m byte) ≡ replicate n (replicate k byte)
cells_of-same k zero m byte le = refl
cells_of-same k (suc n) m byte le =
    ap (λ xs. xs ∷ cells_of k n (drop k (replicate m byte))) (take-replicate {X = ℕ} k m byte (omega arith))
    ∙ ap (λ xs. replicate k byte ∷ cells_of k n xs) (drop-replicate {X = ℕ} k m byte)
    ∙ ap (λ xs. replicate k byte ∷ xs) (cells_of-same k n (m - k) byte (omega arith))

-- and what the buffer tells of the volume then
pub put_row_of : (size : Size) (more : List Size) (k : ℕ) (bytes piece : List ℕ) (p : At) (i w : ℕ) → IsBuffer size more k bytes → index_from size more p ≡ Some i → i + w ≤ count_from size more → length piece ≡ k * w
    → volume_over size more k (take (k * i) bytes ++ piece ++ drop (k * i + length piece) bytes) ≡ put_row (volume_over size more k bytes) p (cells_of k w piece)
put_row_of size more k bytes piece p i w buffer at fits long =
    let volume : List (List ℕ) → Cells = λ cells. record { size = size; more = more; k = k; cells = cells } in
    ap volume (run-set-cells_of k (count_from size more) i w bytes piece fits long buffer.whole ∙ ap (λ o. put_run (cells_of k (count_from size more) bytes) o (cells_of k w piece)) (sym at))
