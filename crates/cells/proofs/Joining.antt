-- What a buffer tells once a part is put after the others.
use Rattle.std.proofs.Common.{◌≡◌, ℕ, zero, suc, ◌+◌, ◌*◌, ◌<◌, ◌≤◌, List, [], ◌∷◌, length, take, drop, ◌++◌, refl, ap, ◌∙◌, arith}
use Rattle.std.proofs.lemmas.List.{length-append, take-append-le, drop-append-le, length-drop}
use Rattle.std.specs.List.{AllByRecursion}
use Rattle.cells.specs.declared.place.Size.{Size}
use Rattle.limits.specs.declared.bounds.TheConstants.{MOST_CELLS, MOST_PARTS}
use Rattle.cells.specs.Places.{HasAxes, cell_count}
use Rattle.cells.specs.Parts.{AreParts, count_from}
use Rattle.cells.specs.Buffers.{IsBuffer}
use Rattle.cells.specs.Cells.{Cells, cells_of, volume_of, volume_over, with_part}

pub count_behind : (size : Size) (more : List Size) (last : Size) → count_from size (more ++ last ∷ []) ≡ count_from size more + cell_count last
count_behind size [] last = refl
count_behind size (next ∷ more) last = let tail = count_behind next more last in omega (arith, tail)

all_behind : (more : List Size) (last : Size) → AllByRecursion HasAxes more → HasAxes last → AllByRecursion HasAxes (more ++ last ∷ [])
all_behind [] last all here = (here, tt)
all_behind (next ∷ more) last all here = (all.0, all_behind more last all.1 here)

pub parts_joined : (size : Size) (more : List Size) (last : Size) → AreParts size more → HasAxes last → length more + 1 < MOST_PARTS → count_from size more + cell_count last ≤ MOST_CELLS → AreParts size (more ++ last ∷ [])
parts_joined size more last parts axes few room = record {
  few = omega (arith, few, length-append more (last ∷ []));
  first = parts.first;
  others = all_behind more last parts.others axes;
  cells = omega (arith, room, count_behind size more last);
}

-- the cells of a buffer and of another after it
pub cells_of-append : (k n m : ℕ) (bytes more : List ℕ) → length bytes ≡ k * n → cells_of k (n + m) (bytes ++ more) ≡ cells_of k n bytes ++ cells_of k m more
cells_of-append k zero m bytes more whole =
    let none : length bytes ≡ 0 = omega (arith, whole) in
    ap (λ i. cells_of k i (bytes ++ more)) (let e : 0 + m ≡ m = omega arith in e) ∙ ap (λ xs. cells_of k m (xs ++ more)) (empty bytes none)
  where
    empty : (xs : List ℕ) → length xs ≡ 0 → xs ≡ []
    empty [] e = refl
    empty (x ∷ xs) e = absurd (omega (arith, e))
cells_of-append k (suc n) m bytes more whole =
    let front : k ≤ length bytes = omega (arith, whole) in
    ap (λ i. cells_of k i (bytes ++ more)) (let e : suc n + m ≡ suc (n + m) = omega arith in e)
    ∙ (λ i. take-append-le k bytes more front i ∷ cells_of k (n + m) (drop-append-le k bytes more front i))
    ∙ ap (λ xs. take k bytes ∷ xs) (cells_of-append k n m (drop k bytes) more (omega (arith, whole, length-drop k bytes)))

pub buffer_joined : (size : Size) (more : List Size) (k : ℕ) (bytes : List ℕ) (last : Size) (other : List ℕ) → IsBuffer size more k bytes → IsBuffer last [] k other → length more + 1 < MOST_PARTS → count_from size more + cell_count last ≤ MOST_CELLS
    → IsBuffer size (more ++ last ∷ []) k (bytes ++ other)
buffer_joined size more k bytes last other buffer part few room = record {
  parts = parts_joined size more last buffer.parts part.parts.first few room;
  samples = buffer.samples;
  whole =
      let both : length other ≡ k * cell_count last = part.whole in
      omega (arith, buffer.whole, both, length-append bytes other, ap (λ n. k * n) (count_behind size more last));
}

pub volume_joined : (size : Size) (more : List Size) (k : ℕ) (bytes : List ℕ) (last : Size) (other : List ℕ) → length bytes ≡ k * count_from size more
    → volume_over size (more ++ last ∷ []) k (bytes ++ other) ≡ with_part (volume_over size more k bytes) (volume_of last k other)
volume_joined size more k bytes last other whole =
    let volume : List (List ℕ) → Cells = λ cells. record { size = size; more = more ++ last ∷ []; k = k; cells = cells } in
    ap volume (ap (λ n. cells_of k n (bytes ++ other)) (count_behind size more last) ∙ cells_of-append k (count_from size more) (cell_count last) bytes other whole)
