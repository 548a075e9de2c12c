-- The sums of a table of counts, and what their differences are.
use Rattle.std.proofs.Common.{◌≡◌, ℕ, zero, suc, ◌+◌, ◌^◌, ◌*◌, ◌/◌, ◌%◌, ◌<◌, ◌≤◌, List, length, get_or, ap, sym, ◌∙◌, arith, ⊎_elim}
use Rattle.std.proofs.Math.Nat.{mul-le-mul, mul-le-mul_left}
use Rattle.std.proofs.lemmas.Bool.{cases_eq}
use Rattle.std.proofs.lemmas.Int.{ints}
use Rattle.std.proofs.lemmas.List.{get_or-replicate}
use Rattle.std.proofs.lemmas.Nat.{mod-mul-add, div-mul-add}
use Rattle.std.specs.Prelude.{ℤ, pos, ◌+ℤ◌, replicate}
use Rattle.limits.specs.declared.bounds.TheConstants.{GREATEST_AXIS, MOST_CELLS}
use Rattle.cells.specs.declared.place.Box3.{Box3}
use Rattle.cells.specs.Boxes.{HoldsBox, cell_in}
use Rattle.cells.specs.Places.{IsSmall, cell_count}
use Rattle.cells.proofs.Raster.{below_of_div}
use Rattle.boxes.specs.Sums.{sum_to}
use Rattle.boxes.proofs.Additions.{counts}
use Rattle.boxes.proofs.Axes.{sum_equal, sum_more, sum_plus, sum_split}
use Rattle.boxes.proofs.Bounds.{box_bound, sum_bound}
use Rattle.boxes.proofs.Boxes.{box_equal}
use Rattle.map_canvas.specs.Maps.{SourceMap, map_at}
use Rattle.match_error.specs.Errors.{filled_cells, one_filled}
use Rattle.match_error.specs.Runs.{IsInRow}
use Rattle.match_error.specs.Tables.{AreEntries, AreMoreEntries, filled_before, one_in_row}
use Rattle.match_error.proofs.Filled.{box_cells, one_at_most}

-- where an entry is
pub in_entries : (w rows x row : ℕ) → x ≤ w → row ≤ rows → (w + 1) * row + x < (w + 1) * (rows + 1)
in_entries w rows x row lx lr = omega (arith, mul-le-mul_left (w + 1) lr)

-- the table has few rows
pub few_rows : (m : SourceMap) (rect : Box3) → IsSmall m.size → HoldsBox m.size rect.corner rect.size → rect.size.h * rect.size.f ≤ 16777216
few_rows m rect small inside =
    let h : rect.size.h ≤ GREATEST_AXIS = omega (arith, ints, inside.y.from, inside.y.to, small.axes.h.1) in
    let f : rect.size.f ≤ GREATEST_AXIS = omega (arith, ints, inside.f.from, inside.f.to, small.axes.f.1) in
    mul-le-mul h f

-- and few columns and entries
pub few_columns : (m : SourceMap) (rect : Box3) → IsSmall m.size → HoldsBox m.size rect.corner rect.size → rect.size.w ≤ GREATEST_AXIS
few_columns m rect small inside = omega (arith, ints, inside.x.from, inside.x.to, small.axes.w.1)

pub few_entries : (m : SourceMap) (rect : Box3) (x row : ℕ) → IsSmall m.size → HoldsBox m.size rect.corner rect.size → x ≤ rect.size.w → row ≤ rect.size.h * rect.size.f
    → (rect.size.w + 1) * row + x ≤ 2 ^ 37
few_entries m rect x row small inside lx lr =
    let across : rect.size.w + 1 ≤ 4097 = omega (arith, few_columns m rect small inside) in
    let down : row ≤ 16777216 = omega (arith, few_rows m rect small inside) in
    omega (arith, mul-le-mul across down)

-- a row that is counted on through all frames is a row of one of them
pub has_rows : (h f row : ℕ) → row < h * f → 0 < h
has_rows zero f row lt = absurd (omega arith)
has_rows (suc h) f row lt = omega arith

pub row_within : (rect : Box3) (row : ℕ) → row < rect.size.h * rect.size.f → IsInRow rect 0 (row % rect.size.h) (row / rect.size.h)
row_within rect row lt =
    let some = has_rows rect.size.h rect.size.f row lt in
    record { columns_in = omega arith; row_in = omega (arith, some); frame_in = below_of_div rect.size.h rect.size.f row some lt }

-- no count is greater than the output
pub before_small : (m : SourceMap) (rect : Box3) (x row : ℕ) → IsSmall m.size → HoldsBox m.size rect.corner rect.size → x ≤ rect.size.w → row ≤ rect.size.h * rect.size.f → filled_before m rect x row ≤ MOST_CELLS
before_small m rect x row small inside lx lr =
    let each = sum_bound row x (λ j. sum_to x (λ i. one_in_row m rect i j)) (λ j lj. omega (arith, sum_bound x 1 (λ i. one_in_row m rect i j) (λ i li. one_at_most _))) in
    let all : row * x ≤ (rect.size.h * rect.size.f) * rect.size.w = mul-le-mul lr lx in
    omega (arith, each, all, box_cells m.size rect inside, small.cells)

-- the entries of no row
pub no_rows : (m : SourceMap) (rect : Box3) → AreEntries m rect 0 (replicate (rect.size.w + 1) 0)
no_rows m rect x row lx lr =
    let none : row ≡ 0 = omega arith in
    get_or-replicate (rect.size.w + 1) ((rect.size.w + 1) * row + x) 0 0 (omega (arith, ap (λ r. (rect.size.w + 1) * r) none))
    ∙ ap (filled_before m rect x) (sym none)

-- those of one more
pub row_more : (m : SourceMap) (rect : Box3) (rows : ℕ) (was now : List ℕ) → length was ≡ (rect.size.w + 1) * (rows + 1) → AreEntries m rect rows was
    → AreMoreEntries m rect ((rect.size.w + 1) * rows) (rows % rect.size.h) (rows / rect.size.h) was now → AreEntries m rect (rows + 1) now
row_more m rect rows was now long are more x row lx lr =
    let w = rect.size.w in
    ⊎_elim
    (λ same.
    ap (λ r. get_or now ((w + 1) * r + x) 0) same
    ∙ ap (λ n. get_or now (n + x) 0) (sym long)
    ∙ more.more x lx
    ∙ ap (λ n. n + sum_to x (λ i. one_in_row m rect i rows)) (are x rows lx (omega arith))
    ∙ sym (sum_more counts rows (λ j. sum_to x (λ i. one_in_row m rect i j)))
    ∙ ap (filled_before m rect x) (sym same))
    (λ other.
    let le : row ≤ rows = omega (arith, other) in
    more.kept ((w + 1) * row + x) (omega (arith, long, in_entries w rows x row lx le)) ∙ are x row lx le)
    (cases_eq row (rows + 1))

-- the sum over a piece of the rows and columns: from the sums over those before its four corners
pub piece : (g : ℕ → ℕ → ℕ) (x w row h : ℕ)
    → sum_to (row + h) (λ j. sum_to (x + w) (λ i. g i j)) + sum_to row (λ j. sum_to x (λ i. g i j))
    ≡ (sum_to row (λ j. sum_to (x + w) (λ i. g i j)) + sum_to (row + h) (λ j. sum_to x (λ i. g i j))) + sum_to h (λ j. sum_to w (λ i. g (x + i) (row + j)))
piece g x w row h =
    let right : sum_to (row + h) (λ j. sum_to (x + w) (λ i. g i j)) ≡ sum_to row (λ j. sum_to (x + w) (λ i. g i j)) + sum_to h (λ j. sum_to (x + w) (λ i. g i (row + j)))
    = sum_split counts row h (λ j. sum_to (x + w) (λ i. g i j)) in
    let left : sum_to (row + h) (λ j. sum_to x (λ i. g i j)) ≡ sum_to row (λ j. sum_to x (λ i. g i j)) + sum_to h (λ j. sum_to x (λ i. g i (row + j)))
    = sum_split counts row h (λ j. sum_to x (λ i. g i j)) in
    let across : sum_to h (λ j. sum_to (x + w) (λ i. g i (row + j))) ≡ sum_to h (λ j. sum_to x (λ i. g i (row + j))) + sum_to h (λ j. sum_to w (λ i. g (x + i) (row + j)))
    = sum_equal counts h _ _ (λ j lj. sum_split counts x w (λ i. g i (row + j))) ∙ sum_plus counts h _ _ in
    omega (arith, right, left, across)

pub four : (m : SourceMap) (rect : Box3) (x w row h outer inner right below : ℕ)
    → outer ≡ filled_before m rect (x + w) (row + h) → inner ≡ filled_before m rect x row → right ≡ filled_before m rect (x + w) row → below ≡ filled_before m rect x (row + h)
    → outer + inner ≡ (right + below) + sum_to h (λ j. sum_to w (λ i. one_in_row m rect (x + i) (row + j)))
four m rect x w row h outer inner right below o i r b =
    (λ t. o t + i t) ∙ piece (one_in_row m rect) x w row h
    ∙ (λ t. (sym r t + sym b t) + sum_to h (λ j. sum_to w (λ i. one_in_row m rect (x + i) (row + j))))

-- a piece has no more filled cells than cells
pub piece_small : (m : SourceMap) (rect : Box3) (x w row h : ℕ) → sum_to h (λ j. sum_to w (λ i. one_in_row m rect (x + i) (row + j))) ≤ w * h
piece_small m rect x w row h =
    omega (arith, sum_bound h w (λ j. sum_to w (λ i. one_in_row m rect (x + i) (row + j))) (λ j lj. omega (arith, sum_bound w 1 (λ i. one_in_row m rect (x + i) (row + j)) (λ i li. one_at_most _))))

pub cells_small : (m : SourceMap) (rect : Box3) → filled_cells m rect ≤ cell_count rect.size
cells_small m rect = omega (arith, box_bound rect.size 1 (λ x y f. one_filled (map_at m (cell_in rect x y f))) (λ x y f lx ly lf. one_at_most _))

-- the rows of a frame of a box lie among those of the frame of the table's box
pub rows_in : (h n y len f k : ℕ) → y + len ≤ h → f + k < n → (y + h * (f + k)) + len ≤ h * n
rows_in h n y len f k lh lf = omega (arith, mul-le-mul_left h (let next : f + k + 1 ≤ n = omega arith in next))

-- where a cell of a box is among the rows of the table's box
module _ (outer rect : Box3) (x y f : ℕ) (is_x : rect.corner.x ≡ outer.corner.x +ℤ pos x) (is_y : rect.corner.y ≡ outer.corner.y +ℤ pos y) (is_f : rect.corner.f ≡ outer.corner.f +ℤ pos f) where
  turned : (k j : ℕ) → (y + outer.size.h * (f + k)) + j ≡ (f + k) * outer.size.h + (y + j)
  turned k j = omega arith

  row_is : (j k : ℕ) → y + j < outer.size.h → ((y + outer.size.h * (f + k)) + j) % outer.size.h ≡ y + j
  row_is j k lt = ap (λ n. n % outer.size.h) (turned k j) ∙ mod-mul-add (f + k) outer.size.h (y + j) lt

  frame_is : (j k : ℕ) → y + j < outer.size.h → ((y + outer.size.h * (f + k)) + j) / outer.size.h ≡ f + k
  frame_is j k lt = ap (λ n. n / outer.size.h) (turned k j) ∙ div-mul-add (f + k) outer.size.h (y + j) lt

  further : (z z' : ℤ) (n i : ℕ) → z' ≡ z +ℤ pos n → z +ℤ pos (n + i) ≡ z' +ℤ pos i
  further z z' n i is = omega (arith, ints, is)

  pub cell_in_rows : (i j k : ℕ) → y + j < outer.size.h
      → cell_in outer (x + i) (((y + outer.size.h * (f + k)) + j) % outer.size.h) (((y + outer.size.h * (f + k)) + j) / outer.size.h) ≡ cell_in rect i j k
  cell_in_rows i j k lt =
      (λ t. cell_in outer (x + i) (row_is j k lt t) (frame_is j k lt t))
      ∙ (λ t. record { x = further outer.corner.x rect.corner.x x i is_x t; y = further outer.corner.y rect.corner.y y j is_y t; f = further outer.corner.f rect.corner.f f k is_f t })

-- the pieces of all frames are the box
pub pieces : (m : SourceMap) (outer rect : Box3) (x y f : ℕ) → rect.corner.x ≡ outer.corner.x +ℤ pos x → rect.corner.y ≡ outer.corner.y +ℤ pos y → rect.corner.f ≡ outer.corner.f +ℤ pos f
    → y + rect.size.h ≤ outer.size.h
    → sum_to rect.size.f (λ k. sum_to rect.size.h (λ j. sum_to rect.size.w (λ i. one_in_row m outer (x + i) ((y + outer.size.h * (f + k)) + j)))) ≡ filled_cells m rect
pieces m outer rect x y f is_x is_y is_f room =
    box_equal counts rect.size (λ i j k. one_in_row m outer (x + i) ((y + outer.size.h * (f + k)) + j)) (λ i j k. one_filled (map_at m (cell_in rect i j k)))
    (λ i j k li lj lk. ap (λ p. one_filled (map_at m p)) (cell_in_rows outer rect x y f is_x is_y is_f i j k (omega arith)))
