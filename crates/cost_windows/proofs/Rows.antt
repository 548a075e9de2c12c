-- Rows of a block: their counts, their places in raster order, and a row written into a list.
use Rattle.std.proofs.Common.{◌≡◌, ℕ, ◌+◌, ◌-◌, ◌*◌, ◌/◌, ◌%◌, ◌<◌, ◌≤◌, List, ◌++◌, length, get_or, set, take, drop, ap, sym, ◌∙◌, subst, arith, below_more, ⊎_elim, get_or-take, get_or-drop}
use Rattle.std.specs.Prelude.{Bool}
use Rattle.std.proofs.Math.Nat.{mul-le-mul_left}
use Rattle.std.proofs.lemmas.Bool.{cases_lt}
use Rattle.std.proofs.lemmas.List.{get_or_append_left, get_or-append-add, get_or-set_other, get_or-set_same, length-take-le}
use borrow.Rule.Slice.PartMut.{put_mid, post_of}
use Rattle.cells.specs.declared.place.Size.{Size}
use Rattle.cells.specs.Places.{cell_count}
use Rattle.cells.proofs.Raster.{in_rows, run_in_rows}
use Rattle.cost_windows.specs.declared.block.Block.{Block}
use Rattle.cost_windows.specs.Slides.{HoldsBlock, number_if, row_start, row_offset}

-- the counts of a row
pub row_below : (h n row : ℕ) → row < h * n → row % h < h
row_below h n row lt = ⊎_elim
    (λ some. omega arith)
    (λ none. let zero : h ≡ 0 = omega arith in absurd (omega (arith, ap (λ k. k * n) zero)))
    (cases_lt 0 h)

pub frame_below : (h n row : ℕ) → row < h * n → row / h < n
frame_below h n row lt = ⊎_elim
    (λ less. less)
    (λ from. let some = row_below h n row lt in absurd (omega (arith, mul-le-mul_left h from)))
    (cases_lt (row / h) n)

-- an entry of a list with a row written over a part of it: before the row, in it, and after it
pub before_row : (made row : List ℕ) (a k q : ℕ) → q < a → a ≤ length made → get_or (put_mid a k made row) q 0 ≡ get_or made q 0
before_row made row a k q lt fits =
    get_or_append_left (take a made) (row ++ post_of a k made) 0 q (omega (arith, length-take-le a made fits)) ∙ get_or-take a made q 0 lt

pub in_row : (made row : List ℕ) (a k q : ℕ) → q < length row → a ≤ length made → get_or (put_mid a k made row) (a + q) 0 ≡ get_or row q 0
in_row made row a k q lt fits =
    subst (λ p. get_or (put_mid a k made row) (p + q) 0 ≡ get_or (row ++ post_of a k made) q 0) (length-take-le a made fits) (get_or-append-add (take a made) (row ++ post_of a k made) q 0)
    ∙ get_or_append_left row (post_of a k made) 0 q lt

pub after_row : (made row : List ℕ) (a k q : ℕ) → a + k ≤ q → length row ≡ k → a + k ≤ length made → get_or (put_mid a k made row) q 0 ≡ get_or made q 0
after_row made row a k q le long fits =
    let r = q - (a + k) in
    let place : q ≡ a + (k + r) = omega arith in
    ap (λ p. get_or (put_mid a k made row) p 0) place
    ∙ subst (λ p. get_or (put_mid a k made row) (p + (k + r)) 0 ≡ get_or (row ++ post_of a k made) (k + r) 0) (length-take-le a made (omega arith)) (get_or-append-add (take a made) (row ++ post_of a k made) (k + r) 0)
    ∙ subst (λ p. get_or (row ++ post_of a k made) (p + r) 0 ≡ get_or (post_of a k made) r 0) long (get_or-append-add row (post_of a k made) r 0)
    ∙ get_or-drop k (drop a made) r 0 ∙ get_or-drop a made (k + r) 0 ∙ ap (λ p. get_or made p 0) (sym place)

-- what holds of each entry so far, and of one that is put in
pub set_more : (P : ℕ → ℕ → Type 0) (xs : List ℕ) (k x : ℕ) → k < length xs → ((i : ℕ) → i < k → P i (get_or xs i 0)) → P k x → (i : ℕ) → i < k + 1 → P i (get_or (set xs k x) i 0)
set_more P xs k x inside before here = below_more (λ i. P i (get_or (set xs k x) i 0)) k
    (λ i lt. subst (P i) (sym (get_or-set_other xs k i x 0 (apart i lt))) (before i lt))
    (subst (P k) (sym (get_or-set_same xs k x 0 inside)) here)
  where
    apart : (i : ℕ) → i < k → i ≡ k → ⊥
    apart i lt is = omega arith

-- an entry of a part of a list
pub in_part : (xs : List ℕ) (a w k : ℕ) → k < w → get_or (take (a + w - a) (drop a xs)) k 0 ≡ get_or xs (a + k) 0
in_part xs a w k lt = get_or-take (a + w - a) (drop a xs) k 0 (omega arith) ∙ get_or-drop a xs k 0

-- one more row of a list that is filled row by row
pub rows_filled : (w row : ℕ) (made more : List ℕ) (g : ℕ → ℕ → ℕ) → w * row + w ≤ length made → length more ≡ w
    → ((r k : ℕ) → r < row → k < w → get_or made (k + w * r) 0 ≡ g r k) → ((k : ℕ) → k < w → get_or more k 0 ≡ g row k)
    → (r k : ℕ) → r < row + 1 → k < w → get_or (put_mid (w * row) (w * row + w - w * row) made more) (k + w * r) 0 ≡ g r k
rows_filled w row made more g fits long rows here r k below lt = ⊎_elim
    (λ before.
    let place : k + w * r < w * row = omega (arith, mul-le-mul_left w (let next : r + 1 ≤ row = omega arith in next)) in
    before_row made more (w * row) (w * row + w - w * row) (k + w * r) place (omega arith) ∙ rows r k before lt)
    (λ from.
    let same : r ≡ row = omega arith in
    let place : k + w * r ≡ w * row + k = omega (arith, ap (λ n. w * n) same) in
    ap (λ p. get_or (put_mid (w * row) (w * row + w - w * row) made more) p 0) place
    ∙ in_row made more (w * row) (w * row + w - w * row) k (omega arith) (omega arith) ∙ here k lt ∙ ap (λ n. g n k) (sym same))
    (cases_lt r row)

pub rows_at_most : (w row b : ℕ) (made more : List ℕ) → w * row + w ≤ length made → length more ≡ w
    → ((i : ℕ) → i < w * row → get_or made i 0 ≤ b) → ((k : ℕ) → get_or more k 0 ≤ b)
    → (i : ℕ) → i < w * (row + 1) → get_or (put_mid (w * row) (w * row + w - w * row) made more) i 0 ≤ b
rows_at_most w row b made more fits long rows here i lt = ⊎_elim
    (λ before. omega (arith, before_row made more (w * row) (w * row + w - w * row) i before (omega arith), rows i before))
    (λ from.
    let place : w * row + (i - w * row) ≡ i = omega arith in
    omega (
      arith,
      in_row made more (w * row) (w * row + w - w * row) (i - w * row) (omega arith) (omega arith),
      here (i - w * row),
      ap (λ p. get_or (put_mid (w * row) (w * row + w - w * row) made more) p 0) place,
    ))
    (cases_lt i (w * row))

-- rows of one width are in order as their indices are
pub row_at_most : (w x r a s : ℕ) → a < w → x + w * r ≤ a + w * s → r ≤ s
row_at_most w x r a s lt le = ⊎_elim
    (λ more. absurd (omega (arith, mul-le-mul_left w (let next : s + 1 ≤ r = omega arith in next))))
    (λ is. is)
    (cases_lt s r)

pub one_row : (w x r a s : ℕ) → x < w → a < w → x + w * r ≡ a + w * s → r ≡ s
one_row w x r a s lx la e = omega (arith, row_at_most w x r a s la (omega arith), row_at_most w a s x r lx (omega arith))

-- each row of a block ends within a size that holds it
pub row_ends : (size : Size) (block : Block) (row : ℕ) → HoldsBlock size block → row < block.y.len * block.f.len → row_start size block row + block.x.len ≤ cell_count size
row_ends size block row holds lt =
    let y = row_below block.y.len block.f.len row lt in
    let f = frame_below block.y.len block.f.len row lt in
    run_in_rows size.w (size.h * size.f) (block.y.from + row % block.y.len + size.h * (block.f.from + row / block.y.len)) block.x.from block.x.len (omega (arith, holds.x))
    (in_rows size.h size.f (block.f.from + row / block.y.len) (block.y.from + row % block.y.len) (omega (arith, holds.y)) (omega (arith, holds.f)))

pub offset_ends : (size : Size) (block : Block) (row : ℕ) → block.x.len ≤ size.w → block.y.len ≤ size.h → block.f.len ≤ size.f → row < block.y.len * block.f.len
    → row_offset size block row + block.x.len ≤ cell_count size
offset_ends size block row lw lh lf lt =
    let y = row_below block.y.len block.f.len row lt in
    let f = frame_below block.y.len block.f.len row lt in
    omega (
      arith,
      run_in_rows size.w (size.h * size.f) (row % block.y.len + size.h * (row / block.y.len)) 0 block.x.len (omega arith)
          (in_rows size.h size.f (row / block.y.len) (row % block.y.len) (omega arith) (omega arith)),
    )

-- two rows of a block share no cell
pub rows_apart : (size : Size) (block : Block) (row r k i : ℕ) → HoldsBlock size block → row < block.y.len * block.f.len → r < row → k < block.x.len → i < block.x.len
    → row_start size block r + k ≡ row_start size block row + i → ⊥
rows_apart size block row r k i holds lt less lk li e =
    let y = row_below block.y.len block.f.len row lt in
    let z = row_below block.y.len block.f.len r (omega arith) in
    let rows = one_row size.w (block.x.from + k) (block.y.from + r % block.y.len + size.h * (block.f.from + r / block.y.len)) (block.x.from + i)
    (block.y.from + row % block.y.len + size.h * (block.f.from + row / block.y.len)) (omega (arith, holds.x)) (omega (arith, holds.x)) (omega (arith, e)) in
    let frames = one_row size.h (block.y.from + r % block.y.len) (block.f.from + r / block.y.len) (block.y.from + row % block.y.len) (block.f.from + row / block.y.len)
    (omega (arith, holds.y)) (omega (arith, holds.y)) rows in
    let frame : r / block.y.len ≡ row / block.y.len = omega (arith, frames) in
    let column : r % block.y.len ≡ row % block.y.len = omega (arith, rows, ap (λ n. size.h * n) frames) in
    omega (arith, column, ap (λ n. block.y.len * n) frame)

-- one more row put into sums
pub record RowsPut (w row : ℕ) (start offset : ℕ → ℕ) (keep : Bool) (old more sums : List ℕ) : Type 0 where
  pub put : (r k : ℕ) → r < row → k < w → get_or sums (start r + k) 0 ≡ number_if keep (get_or old (start r + k) 0) + get_or more (offset r + k) 0
  pub others : (i : ℕ) → ((r k : ℕ) → r < row → k < w → i ≡ start r + k → ⊥) → get_or sums i 0 ≡ get_or old i 0

-- what was there where the row comes, and what comes there
pub row_before : (w row to : ℕ) (start offset : ℕ → ℕ) (keep : Bool) (old more sums : List ℕ) → RowsPut w row start offset keep old more sums → to ≡ start row
    → ((r k i : ℕ) → r < row → k < w → i < w → start r + k ≡ start row + i → ⊥) → (k : ℕ) → k < w
    → get_or (take (to + w - to) (drop to sums)) k 0 ≡ get_or old (start row + k) 0
row_before w row to start offset keep old more sums put at apart k lt =
    in_part sums to w k lt ∙ ap (λ p. get_or sums (p + k) 0) at ∙ put.others (start row + k) (λ r i less li e. apart r i k less li lt (sym e))

pub row_more : (w from offset : ℕ) (more : List ℕ) → from ≡ offset → (k : ℕ) → k < w → get_or (take (from + w - from) (drop from more)) k 0 ≡ get_or more (offset + k) 0
row_more w from offset more at k lt = in_part more from w k lt ∙ ap (λ p. get_or more (p + k) 0) at

pub rows_put : (w row to from : ℕ) (start offset : ℕ → ℕ) (keep : Bool) (old more sums new : List ℕ) → RowsPut w row start offset keep old more sums
    → to ≡ start row → from ≡ offset row → to + w ≤ length sums → length new ≡ w
    → ((r k i : ℕ) → r < row → k < w → i < w → start r + k ≡ start row + i → ⊥)
    → ((k : ℕ) → k < w → get_or new k 0 ≡ number_if keep (get_or (take (to + w - to) (drop to sums)) k 0) + get_or (take (from + w - from) (drop from more)) k 0)
    → RowsPut w (row + 1) start offset keep old more (put_mid to (to + w - to) sums new)
rows_put w row to from start offset keep old more sums new put at off fits long apart here = record {
  put = λ r k below lt. ⊎_elim
      (λ before.
      let other : get_or written (start r + k) 0 ≡ get_or sums (start r + k) 0 = elsewhere (start r + k) (λ i li e. apart r k i before lt li e) in
      other ∙ put.put r k before lt)
      (λ from'.
      let same : r ≡ row = omega arith in
      let place : start r + k ≡ to + k = omega (arith, at, ap start same) in
      ap (λ p. get_or written p 0) place ∙ in_row sums new to (to + w - to) k (omega arith) (omega arith) ∙ here k lt
      ∙ (λ j. number_if keep (row_before w row to start offset keep old more sums put at apart k lt j) + row_more w from (offset row) more off k lt j)
      ∙ (λ j. number_if keep (get_or old (start (sym same j) + k) 0) + get_or more (offset (sym same j) + k) 0))
      (cases_lt r row);
  others = λ i none.
      elsewhere i (λ k lt e. none row k (omega arith) lt e) ∙ put.others i (λ r k less lt e. none r k (omega arith) lt e);
}
  where
    written : List ℕ
    written = put_mid to (to + w - to) sums new

    elsewhere : (q : ℕ) → ((i : ℕ) → i < w → q ≡ start row + i → ⊥) → get_or written q 0 ≡ get_or sums q 0
    elsewhere q out = ⊎_elim
        (λ before. before_row sums new to (to + w - to) q before (omega arith))
        (λ from'. ⊎_elim
        (λ inside. absurd (out (q - to) (omega arith) (omega (arith, at))))
        (λ past. after_row sums new to (to + w - to) q (omega arith) (omega arith) (omega arith))
        (cases_lt q (to + w)))
        (cases_lt q to)
