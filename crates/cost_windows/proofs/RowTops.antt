-- The greatest numbers of rows, and the greatest of all by them.
use Rattle.std.proofs.Common.{◌≡◌, ◌≤◌, ◌<◌, ◌+◌, ◌-◌, ◌*◌, ◌/◌, ◌%◌, ℕ, zero, suc, List, length, get_or, take, drop, refl, ap, sym, ◌∙◌, subst, arith, ⊎_elim, length-take, length-drop}
use Rattle.std.specs.Prelude.{max}
use Rattle.std.proofs.Math.Nat.{mul-le-mul_left}
use Rattle.std.proofs.lemmas.Bool.{cases_lt}
use Rattle.cells.specs.declared.place.Size.{Size}
use Rattle.cells.specs.Places.{cell_count, raster_index}
use Rattle.cost_windows.specs.declared.block.Block.{Block}
use Rattle.boxes.specs.Pairs.{AreCounts}
use Rattle.cost_windows.specs.Slides.{HoldsBlock, IsInBlock, IsOnRun}
use Rattle.cost_windows.specs.Tables.{IsGreatest}
use Rattle.cost_windows.specs.Tops.{AreTops, max_to, row_top}
use Rattle.cost_windows.proofs.Rows.{frame_below, in_part, one_row, row_below}

pub max_more : (n : ℕ) (g : ℕ → ℕ) → max_to (n + 1) g ≡ max (max_to n g) (g n)
max_more n g = ap (λ k. max_to k g) (let e : n + 1 ≡ suc n = omega arith in e)

pub max_same : (n : ℕ) (g h : ℕ → ℕ) → ((k : ℕ) → k < n → g k ≡ h k) → max_to n g ≡ max_to n h
max_same zero g h same = refl
max_same (suc n) g h same = λ i. max (max_same n g h (λ k lt. same k (omega arith)) i) (same n (omega arith) i)

pub max_at_least : (n k : ℕ) (g : ℕ → ℕ) → k < n → g k ≤ max_to n g
max_at_least zero k g lt = absurd (omega arith)
max_at_least (suc n) k g lt = ⊎_elim
    (λ before. let le = max_at_least n k g before in omega arith)
    (λ from. let e = ap g (let same : k ≡ n = omega arith in same) in omega arith)
    (cases_lt k n)

pub max_at_most : (n b : ℕ) (g : ℕ → ℕ) → ((k : ℕ) → k < n → g k ≤ b) → max_to n g ≤ b
max_at_most zero b g le = omega arith
max_at_most (suc n) b g le = let front = max_at_most n b g (λ k lt. le k (omega arith)) in let last = le n (omega arith) in omega arith

-- the greatest number of a part is that of its row
pub row_top_of : (sums : List ℕ) (w r : ℕ) → w * r + w ≤ length sums
    → max_to (length (take (w * r + w - w * r) (drop (w * r) sums))) (λ k. get_or (take (w * r + w - w * r) (drop (w * r) sums)) k 0) ≡ row_top w sums r
row_top_of sums w r fits =
    let part = take (w * r + w - w * r) (drop (w * r) sums) in
    let whole : length part ≡ w = omega (arith, length-take (w * r + w - w * r) (drop (w * r) sums), length-drop (w * r) sums) in
    ap (λ n. max_to n (λ k. get_or part k 0)) whole ∙ max_same w (λ k. get_or part k 0) (λ k. get_or sums (w * r + k) 0) (λ k lt. in_part sums (w * r) w k lt)

-- the greatest of a row that hasn't changed
pub row_top_same : (w r : ℕ) (old sums : List ℕ) → ((k : ℕ) → k < w → get_or sums (w * r + k) 0 ≡ get_or old (w * r + k) 0) → row_top w old r ≡ row_top w sums r
row_top_same w r old sums same = max_same w (λ k. get_or old (w * r + k) 0) (λ k. get_or sums (w * r + k) 0) (λ k lt. sym (same k lt))

-- a row of corners is no row of a block
abbrev pub IsRowBeside : Size → Block → ℕ → Type 0
IsRowBeside size block r = (y f : ℕ) → IsOnRun block.y y → IsOnRun block.f f → r ≡ y + size.h * f → ⊥

pub before_block : (size : Size) (block : Block) (r : ℕ) → r < block.y.from + size.h * block.f.from → IsRowBeside size block r
before_block size block r lt y f row frame e = absurd (omega (arith, lt, e, row.0, mul-le-mul_left size.h frame.0))

pub after_block : (size : Size) (block : Block) (r : ℕ) → block.y.from + block.y.len - 1 + size.h * (block.f.from + block.f.len - 1) + 1 ≤ r → IsRowBeside size block r
after_block size block r le y f row frame e =
    absurd (omega (arith, le, e, row.1, frame.1, mul-le-mul_left size.h (let last : f ≤ block.f.from + block.f.len - 1 = omega (arith, frame.1) in last)))

-- each row of corners is one of the block of all
pub no_row_beside_all : (size : Size) (block : Block) (r : ℕ) → ((x y f : ℕ) → AreCounts size x y f → IsInBlock block x y f) → 1 ≤ size.w → r < size.h * size.f → IsRowBeside size block r → ⊥
no_row_beside_all size block r all some lt beside =
    let y = r % size.h in
    let f = r / size.h in
    let inside = all 0 y f (record { column = some; row = row_below size.h size.f r lt; frame = frame_below size.h size.f r lt }) in
    beside y f inside.row inside.frame (omega arith)

-- the sums of a row beside a block are as they were
pub row_beside : (size : Size) (block : Block) (old sums : List ℕ) (r : ℕ) → HoldsBlock size block → IsRowBeside size block r
    → ((i : ℕ) → ((x y f : ℕ) → IsInBlock block x y f → i ≡ raster_index size x y f → ⊥) → get_or sums i 0 ≡ get_or old i 0)
    → row_top size.w old r ≡ row_top size.w sums r
row_beside size block old sums r holds beside others =
    row_top_same size.w r old sums
    (λ k lt. others (size.w * r + k) (λ x y f inside e.
    beside y f inside.row inside.frame (one_row size.w k r x (y + size.h * f) lt (omega (arith, inside.column, holds.x)) (omega (arith, e)))))

-- the greatest of a row beside a block, where the sums and the greatest are those that they were
pub tops_beside : (size : Size) (block : Block) (old sums old_tops : List ℕ) (now tops : List ℕ) → AreTops size old old_tops → HoldsBlock size block → tops ≡ old_tops → now ≡ sums
    → ((i : ℕ) → ((x y f : ℕ) → IsInBlock block x y f → i ≡ raster_index size x y f → ⊥) → get_or sums i 0 ≡ get_or old i 0)
    → (r : ℕ) → r < size.h * size.f → IsRowBeside size block r → get_or tops r 0 ≡ row_top size.w now r
tops_beside size block old sums old_tops now tops tight holds same_tops same_sums others r lt beside =
    ap (λ xs. get_or xs r 0) same_tops ∙ tight.each r lt ∙ row_beside size block old sums r holds beside others ∙ ap (λ xs. row_top size.w xs r) (sym same_sums)

-- the greatest of the first row whose greatest is the greatest of all
module _ (size : Size) (sums tops : List ℕ) (r k : ℕ) (whole : length sums ≡ cell_count size) (tight : AreTops size sums tops) (row : IsGreatest tops (length tops) r)
    (place : IsGreatest (take (size.w * r + size.w - size.w * r) (drop (size.w * r) sums)) (length (take (size.w * r + size.w - size.w * r) (drop (size.w * r) sums))) k) where
  row_in : r < size.h * size.f
  row_in = subst (λ n. r < n) tight.count row.below

  fits : size.w * r + size.w ≤ length sums
  fits = omega (arith, whole, mul-le-mul_left size.w (let le : r + 1 ≤ size.h * size.f = omega (arith, row_in) in le))

  long : length (take (size.w * r + size.w - size.w * r) (drop (size.w * r) sums)) ≡ size.w
  long = omega (arith, fits, length-take (size.w * r + size.w - size.w * r) (drop (size.w * r) sums), length-drop (size.w * r) sums)

  in_row : k < size.w
  in_row = omega (arith, place.below, long)

  here : get_or (take (size.w * r + size.w - size.w * r) (drop (size.w * r) sums)) k 0 ≡ get_or sums (size.w * r + k) 0
  here = in_part sums (size.w * r) size.w k in_row

  top_here : get_or tops r 0 ≤ get_or sums (size.w * r + k) 0
  top_here =
      let most = max_at_most size.w (get_or sums (size.w * r + k) 0) (λ m. get_or sums (size.w * r + m) 0)
      (λ m lt. omega (arith, place.most m (omega (arith, long, lt)), in_part sums (size.w * r) size.w m lt, here)) in
      omega (arith, tight.each r row_in, most)

  by_top : (q m : ℕ) → q < size.h * size.f → m < size.w → get_or sums (size.w * q + m) 0 ≤ get_or tops q 0
  by_top q m lt column = omega (arith, tight.each q lt, max_at_least size.w m (λ n. get_or sums (size.w * q + n) 0) column)

  by_best : (q m : ℕ) → q < size.h * size.f → m < size.w → get_or sums (size.w * q + m) 0 ≤ get_or sums (size.w * r + k) 0
  by_best q m lt column = omega (arith, by_top q m lt column, row.most q (subst (λ n. q < n) (sym tight.count) lt), top_here)

  not_before : (q m : ℕ) → q < size.h * size.f → m < size.w → get_or sums (size.w * q + m) 0 ≡ get_or sums (size.w * r + k) 0 → size.w * r + k ≤ size.w * q + m
  not_before q m lt column same =
      let tops_same : get_or tops q 0 ≡ get_or tops r 0 = omega (arith, same, by_top q m lt column, row.most q (subst (λ n. q < n) (sym tight.count) lt), top_here) in
      let from = row.first q (subst (λ n. q < n) (sym tight.count) lt) tops_same in
      ⊎_elim
      (λ later. omega (arith, in_row, mul-le-mul_left size.w (let more : r + 1 ≤ q = omega arith in more)))
      (λ le.
      let one : q ≡ r = omega (arith, from) in
      let index : size.w * q + m ≡ size.w * r + m = ap (λ n. size.w * n + m) one in
      let there = in_part sums (size.w * r) size.w m column ∙ ap (λ n. get_or sums n 0) (sym index) ∙ same ∙ sym here in
      omega (arith, index, place.first m (omega (arith, long, column)) there))
      (cases_lt r q)

  pub greatest_of_rows : IsGreatest sums (length sums) (size.w * r + k)
  greatest_of_rows = record {
    below = omega (arith, fits, in_row);
    most = λ i lt.
        let below : i < size.w * (size.h * size.f) = omega (arith, lt, whole) in
        let at : size.w * (i / size.w) + i % size.w ≡ i = omega arith in
        subst (λ n. get_or sums n 0 ≤ get_or sums (size.w * r + k) 0) at (by_best (i / size.w) (i % size.w) (frame_below size.w (size.h * size.f) i below) (row_below size.w (size.h * size.f) i below));
    first = λ i lt same.
        let below : i < size.w * (size.h * size.f) = omega (arith, lt, whole) in
        let at : size.w * (i / size.w) + i % size.w ≡ i = omega arith in
        subst (λ n. size.w * r + k ≤ n) at
        (not_before (i / size.w) (i % size.w) (frame_below size.w (size.h * size.f) i below) (row_below size.w (size.h * size.f) i below) (ap (λ n. get_or sums n 0) at ∙ same));
  }
