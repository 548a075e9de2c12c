-- The cells of the planes of a frame are those of the frame.
use Rattle.std.proofs.Common.{◌≡◌, ℕ, zero, suc, ◌≤◌, ◌<◌, ◌+◌, ◌*◌, ◌-◌, ◌⊎◌, inl, inr, List, [], ◌∷◌, ◌++◌, length, take, drop, get_or, refl, sym, ap, ◌∙◌, arith, slice_index}
use Rattle.std.specs.Prelude.{unwrap_or, Some}
use Rattle.std.proofs.lemmas.Bool.{cases_lt}
use Rattle.std.specs.List.{concat}
use Rattle.std.proofs.Math.Seq.{take-add, drop-append-add}
use Rattle.std.proofs.lemmas.List.{length-append, length-drop, take_all, take-append-le, drop-append-le, drop-drop, append-nil, get_or-take, get_or-drop}
use Rattle.std.proofs.lemmas.List.Folds.{concat-append}
use Rattle.cells.specs.Places.{spot, index_in}
use Rattle.cells.specs.Parts.{count_from}
use Rattle.cells.specs.Cells.{Cells, IsOnePart, IsVolume, bytes_of}
use Rattle.cells.proofs.Raster.{index_of_spot}
use Rattle.cells.proofs.PartLaws.{index_front, index_from_below}
use Rattle.cells.proofs.CellLaws.{cell_is}
use Rattle.y4m_clip.specs.declared.form.SpaceKind.{SpaceKind}
use Rattle.y4m_clip.specs.declared.form.SpaceKind.TheVariants.{Mono, C444, C422, C411, C420}
use Rattle.y4m_clip.specs.Spaces.{cell_width, cell_height, samples_of, joined_to, cell_bytes}
use Rattle.y4m_clip.specs.Clips.{span, pixels_of, frame_row, frame_cells, plane_bytes}
use Rattle.y4m_clip.specs.Writing.{written_cell, row_samples, plane_of, planes_of}
use Rattle.y4m_clip.proofs.Laying.{length-joined_below, same_joined, length-span, in_runs}

-- Spans.

span_before : (a b : List ℕ) (start count : ℕ) → start + count ≤ length a → span (a ++ b) start count ≡ span a start count
span_before a b start count fits =
    ap (take count) (drop-append-le start a b (omega arith)) ∙ take-append-le count (drop start a) b (omega (arith, length-drop start a))

span_behind : (a b : List ℕ) (n start count : ℕ) → length a ≡ n → span (a ++ b) (n + start) count ≡ span b start count
span_behind a b n start count long = ap (λ m. take count (drop (m + start) (a ++ b))) (sym long) ∙ ap (take count) (drop-append-add a b start)

span_whole : (a : List ℕ) (count : ℕ) → length a ≡ count → span a 0 count ≡ a
span_whole a count long = take_all count a (omega arith)

get-span : (a : List ℕ) (start count i : ℕ) → i < count → slice_index (span a start count) i ≡ slice_index a (start + i)
get-span a start count i below = get_or-take count (drop start a) i 0 below ∙ get_or-drop start a i 0

-- a span in one of several parts of one length
pub span_of_part : (n m i start count : ℕ) (part : ℕ → List ℕ) → ((j : ℕ) → j < n → length (part j) ≡ m) → i < n → start + count ≤ m
    → span (joined_to n part) (m * i + start) count ≡ span (part i) start count
span_of_part zero m i start count part each below fits = absurd (omega arith)
span_of_part (suc n) m i start count part each below fits = split (cases_lt i n) (λ lt. span_of_part n m i start count part (λ j l. each j (omega arith)) lt fits)
  where
    long : length (joined_to n part) ≡ m * n
    long = length-joined_below n m part (λ j l. each j (omega arith))

    split : (i < n) ⊎ (n ≤ i) → ((i < n) → span (joined_to n part) (m * i + start) count ≡ span (part i) start count) → span (joined_to n part ++ part n) (m * i + start) count ≡ span (part i) start count
    split (inl lt) earlier = span_before (joined_to n part) (part n) (m * i + start) count (omega (arith, long, in_runs m i n (start + count) lt fits)) ∙ earlier lt
    split (inr ge) earlier =
        let last : i ≡ n = omega arith in
        ap (λ j. span (joined_to n part ++ part n) (m * j + start) count) last
        ∙ span_behind (joined_to n part) (part n) (m * n) start count long
        ∙ ap (λ j. span (part j) start count) (sym last)

get_of_part : (n m i j : ℕ) (part : ℕ → List ℕ) → ((l : ℕ) → l < n → length (part l) ≡ m) → i < n → j < m → slice_index (joined_to n part) (m * i + j) ≡ slice_index (part i) j
get_of_part n m i j part each below fits =
    let here : m * i + j + 0 ≡ m * i + j = omega arith in
    let there : j + 0 ≡ j = omega arith in
    ap (slice_index (joined_to n part)) (sym here)
    ∙ sym (get-span (joined_to n part) (m * i + j) 1 0 (omega arith))
    ∙ ap (λ t. slice_index t 0) (span_of_part n m i j 1 part each below (omega arith))
    ∙ get-span (part i) j 1 0 (omega arith)
    ∙ ap (slice_index (part i)) there

-- The cells of a volume.

-- where the cell at x, y of frame f is, and that it has k samples
record Stands (v : Cells) (f y x : ℕ) : Type 0 where
  here : written_cell v f y x ≡ get_or v.cells (x + v.size.w * (y + v.size.h * f)) []
  long : length (written_cell v f y x) ≡ v.k

cell_stands : (v : Cells) → IsVolume v → (f y x : ℕ) → f < v.size.f → y < v.size.h → x < v.size.w → Stands v f y x
cell_stands v is f y x lf ly lx =
    let i : ℕ = x + v.size.w * (y + v.size.h * f) in
    let at : index_in v.size (spot x y f) ≡ Some i = index_of_spot v.size x y f lx ly lf in
    let here : written_cell v f y x ≡ get_or v.cells i [] = ap (λ o. unwrap_or o []) (cell_is v is (spot x y f) i at) in
    let below : i < length v.cells = omega (arith, is.count, index_from_below v.size v.more (spot x y f) i (index_front v.size v.more (spot x y f) i at)) in
    record { here = here; long = ap length here ∙ (is.cells i [] below).samples }

length-row : (v : Cells) → IsVolume v → (f y start count : ℕ) → f < v.size.f → y < v.size.h → start + count ≤ v.k → length (row_samples v f y start count) ≡ count * v.size.w
length-row v is f y start count lf ly fits =
    length-joined_below v.size.w count (λ x. span (written_cell v f y x) start count) (λ x lx. length-span (written_cell v f y x) start count (omega (arith, (cell_stands v is f y x lf ly lx).long)))

length-plane_rows : (v : Cells) → IsVolume v → (f y start count rows : ℕ) → f < v.size.f → y < v.size.h → start + count * rows ≤ v.k
    → length (joined_to rows (λ j. row_samples v f y (start + count * j) count)) ≡ count * v.size.w * rows
length-plane_rows v is f y start count rows lf ly fits =
    length-joined_below rows (count * v.size.w) (λ j. row_samples v f y (start + count * j) count)
    (λ j lj. length-row v is f y (start + count * j) count lf ly (omega (arith, in_runs count j rows count lj (omega arith))))

pub length-plane : (v : Cells) → IsVolume v → (f start count rows : ℕ) → f < v.size.f → start + count * rows ≤ v.k → length (plane_of v f start count rows) ≡ count * v.size.w * rows * v.size.h
length-plane v is f start count rows lf fits =
    length-joined_below v.size.h (count * v.size.w * rows) (λ y. joined_to rows (λ j. row_samples v f y (start + count * j) count)) (λ y ly. length-plane_rows v is f y start count rows lf ly fits)

-- a row of a plane
plane_row : (v : Cells) → IsVolume v → (f y j start count rows : ℕ) → f < v.size.f → y < v.size.h → j < rows → start + count * rows ≤ v.k
    → span (plane_of v f start count rows) (count * v.size.w * rows * y + count * v.size.w * j) (count * v.size.w) ≡ row_samples v f y (start + count * j) count
plane_row v is f y j start count rows lf ly lj fits =
    let row : ℕ → List ℕ = λ (i : ℕ). row_samples v f y (start + count * i) count in
    let each : (i : ℕ) → i < rows → length (row i) ≡ count * v.size.w
    = λ i li. length-row v is f y (start + count * i) count lf ly (omega (arith, in_runs count i rows count li (omega arith))) in
    let here : count * v.size.w * j ≡ count * v.size.w * j + 0 = omega arith in
    span_of_part v.size.h (count * v.size.w * rows) y (count * v.size.w * j) (count * v.size.w) (λ i. joined_to rows (λ l. row_samples v f i (start + count * l) count))
    (λ i li. length-plane_rows v is f i start count rows lf li fits) ly (in_runs (count * v.size.w) j rows (count * v.size.w) lj (omega arith))
    ∙ ap (λ m. span (joined_to rows row) m (count * v.size.w)) here
    ∙ span_of_part rows (count * v.size.w) j 0 (count * v.size.w) row each lj (omega arith)
    ∙ span_whole (row j) (count * v.size.w) (each j lj)

-- a sample of a row
sample_of_row : (v : Cells) → IsVolume v → (f y x start count i n : ℕ) (row : List ℕ) → f < v.size.f → y < v.size.h → x < v.size.w → i < count → start + count ≤ v.k
    → row ≡ row_samples v f y start count → n ≡ count * x + i → slice_index row n ≡ slice_index (written_cell v f y x) (start + i)
sample_of_row v is f y x start count i n row lf ly lx li fits same at =
    (λ l. slice_index (same l) (at l))
    ∙ get_of_part v.size.w count x i (λ j. span (written_cell v f y j) start count) (λ j lj. length-span (written_cell v f y j) start count (omega (arith, (cell_stands v is f y j lf ly lj).long))) lx li
    ∙ get-span (written_cell v f y x) start count i li

-- The rows of three planes, one after another.

record Rows (v : Cells) (f y wide high blue red : ℕ) (planes : List ℕ) : Type 0 where
  upper : span planes (wide * high * (v.size.w * y)) (wide * v.size.w) ≡ row_samples v f y 0 wide
  lower : 1 < high → span planes (wide * high * (v.size.w * y) + wide * v.size.w * 1) (wide * v.size.w) ≡ row_samples v f y (0 + wide * 1) wide
  blue_row : span planes (wide * high * (v.size.w * v.size.h) + v.size.w * y) v.size.w ≡ row_samples v f y blue 1
  red_row : span planes (wide * high * (v.size.w * v.size.h) + v.size.w * v.size.h + v.size.w * y) v.size.w ≡ row_samples v f y red 1

rows_of : (v : Cells) → IsVolume v → (f y wide high blue red : ℕ) → f < v.size.f → y < v.size.h → 1 ≤ high → wide * high ≤ v.k → blue + 1 ≤ v.k → red + 1 ≤ v.k
    → Rows v f y wide high blue red (plane_of v f 0 wide high ++ plane_of v f blue 1 1 ++ plane_of v f red 1 1)
rows_of v is f y wide high blue red lf ly some fits fits' fits'' = record {
  upper = luma 0 (wide * high * (w * y)) (omega arith) (omega arith) ∙ ap (λ n. row_samples v f y n wide) none;
  lower = λ two. luma 1 (wide * high * (w * y) + wide * w * 1) two refl;
  blue_row = ap (λ n. span (planes) (n + w * y) w) (sym size)
      ∙ span_before (first ++ second) third (wide * w * high * h + w * y) w (omega (arith, length-append first second, long, long', in_runs w y h w ly (omega arith)))
      ∙ span_behind first second (wide * w * high * h) (w * y) w long
      ∙ chroma blue fits';
  red_row = ap (λ n. span (planes) (n + w * y) w) (sym (omega (arith, size)))
      ∙ span_behind (first ++ second) third (wide * w * high * h + w * h) (w * y) w (omega (arith, length-append first second, long, long'))
      ∙ chroma red fits'';
}
  where
    w : ℕ
    w = v.size.w

    h : ℕ
    h = v.size.h

    first : List ℕ
    first = plane_of v f 0 wide high

    second : List ℕ
    second = plane_of v f blue 1 1

    third : List ℕ
    third = plane_of v f red 1 1

    planes : List ℕ
    planes = first ++ second ++ third

    none : 0 + wide * 0 ≡ 0
    none = omega arith

    size : wide * w * high * h ≡ wide * high * (w * h)
    size = grind arith

    long : length first ≡ wide * w * high * h
    long = length-plane v is f 0 wide high lf (omega arith)

    long' : length second ≡ w * h
    long' = length-plane v is f blue 1 1 lf (omega arith) ∙ (let e : 1 * w * 1 * h ≡ w * h = grind arith in e)

    luma : (j start : ℕ) → j < high → start ≡ wide * high * (w * y) + wide * w * j → span planes start (wide * w) ≡ row_samples v f y (0 + wide * j) wide
    luma j start lj at =
        let turned : wide * high * (w * y) ≡ wide * w * high * y = grind arith in
        let room : wide * w * j + wide * w ≤ wide * w * high = in_runs (wide * w) j high (wide * w) lj (omega arith) in
        let whole : wide * w * high * y + (wide * w * j + wide * w) ≤ wide * w * high * h = in_runs (wide * w * high) y h (wide * w * j + wide * w) ly room in
        span_before (first ++ second) third start (wide * w) (omega (arith, length-append first second, long))
        ∙ span_before first second start (wide * w) (omega (arith, long))
        ∙ ap (λ n. span first n (wide * w)) (omega arith)
        ∙ plane_row v is f y j 0 wide high lf ly lj (omega arith)

    chroma : (place : ℕ) → place + 1 ≤ v.k → span (plane_of v f place 1 1) (w * y) w ≡ row_samples v f y place 1
    chroma place inside =
        let one : 1 * w ≡ w = omega arith in
        let at : w * y ≡ 1 * w * 1 * y + 1 * w * 0 = grind arith in
        let start : place + 1 * 0 ≡ place = omega arith in
        (λ i. span (plane_of v f place 1 1) (at i) (sym one i)) ∙ plane_row v is f y 0 place 1 1 lf ly (omega arith) (omega arith) ∙ ap (λ n. row_samples v f y n 1) start

-- The cells of a row.

one_sample : (xs : List ℕ) → length xs ≡ 1 → xs ≡ slice_index xs 0 ∷ []
one_sample [] long = absurd (omega arith)
one_sample (a ∷ []) long = refl
one_sample (a ∷ b ∷ xs) long = absurd (omega arith)

three_samples : (xs : List ℕ) → length xs ≡ 3 → xs ≡ slice_index xs 0 ∷ slice_index xs 1 ∷ slice_index xs 2 ∷ []
three_samples [] long = absurd (omega arith)
three_samples (a ∷ []) long = absurd (omega arith)
three_samples (a ∷ b ∷ []) long = absurd (omega arith)
three_samples (a ∷ b ∷ c ∷ xs) long = ap (λ t. a ∷ b ∷ c ∷ t) (none_left xs (omega arith))
  where
    none_left : (ys : List ℕ) → length ys ≡ 0 → ys ≡ []
    none_left [] e = refl
    none_left (y ∷ ys) e = absurd (omega arith)

four_samples : (xs : List ℕ) → length xs ≡ 4 → xs ≡ slice_index xs 0 ∷ slice_index xs 1 ∷ slice_index xs 2 ∷ slice_index xs 3 ∷ []
four_samples [] long = absurd (omega arith)
four_samples (a ∷ xs) long = ap (λ t. a ∷ t) (three_samples xs (omega arith))

six_samples : (xs : List ℕ) → length xs ≡ 6 → xs ≡ slice_index xs 0 ∷ slice_index xs 1 ∷ slice_index xs 2 ∷ slice_index xs 3 ∷ slice_index xs 4 ∷ slice_index xs 5 ∷ []
six_samples [] long = absurd (omega arith)
six_samples (a ∷ []) long = absurd (omega arith)
six_samples (a ∷ b ∷ xs) long = ap (λ t. a ∷ b ∷ t) (four_samples xs (omega arith))

-- the cells of a row of planes
unfoldable RowAgain : SpaceKind → Cells → ℕ → ℕ → Type 0
RowAgain kind v f y = (x : ℕ) → x < v.size.w → cell_bytes kind
    (span (planes_of kind v f) (pixels_of kind (v.size.w * y)) (cell_width kind * v.size.w))
    (span (planes_of kind v f) (pixels_of kind (v.size.w * y) + cell_width kind * v.size.w * (cell_height kind - 1)) (cell_width kind * v.size.w))
    (span (planes_of kind v f) (pixels_of kind (v.size.w * v.size.h) + v.size.w * y) v.size.w)
    (span (planes_of kind v f) (pixels_of kind (v.size.w * v.size.h) + v.size.w * v.size.h + v.size.w * y) v.size.w) x ≡ written_cell v f y x

cells_of_row : (kind : SpaceKind) (v : Cells) → IsVolume v → v.k ≡ samples_of kind → (f y : ℕ) → f < v.size.f → y < v.size.h → RowAgain kind v f y
unfolding RowAgain
cells_of_row Mono v is samples f y lf ly x lx =
    let w = v.size.w in
    let at : 1 * (w * y) ≡ 1 * w * 1 * y + 1 * w * 0 = grind arith in
    let upper : span (plane_of v f 0 1 1) (1 * (w * y)) (1 * w) ≡ row_samples v f y 0 1
    = ap (λ n. span (plane_of v f 0 1 1) n (1 * w)) at ∙ plane_row v is f y 0 0 1 1 lf ly (omega arith) (omega (arith, samples)) in
    let a = sample_of_row v is f y x 0 1 0 x _ lf ly lx (omega arith) (omega (arith, samples)) upper (omega arith) in
    (λ i. a i ∷ []) ∙ sym (one_sample (written_cell v f y x) ((cell_stands v is f y x lf ly lx).long ∙ samples))
cells_of_row C444 v is samples f y lf ly x lx =
    let rows = rows_of v is f y 1 1 1 2 lf ly (omega arith) (omega (arith, samples)) (omega (arith, samples)) (omega (arith, samples)) in
    let a = sample_of_row v is f y x 0 1 0 x _ lf ly lx (omega arith) (omega (arith, samples)) rows.upper (omega arith) in
    let b = sample_of_row v is f y x 1 1 0 x _ lf ly lx (omega arith) (omega (arith, samples)) rows.blue_row (omega arith) in
    let c = sample_of_row v is f y x 2 1 0 x _ lf ly lx (omega arith) (omega (arith, samples)) rows.red_row (omega arith) in
    (λ i. a i ∷ b i ∷ c i ∷ []) ∙ sym (three_samples (written_cell v f y x) ((cell_stands v is f y x lf ly lx).long ∙ samples))
cells_of_row C422 v is samples f y lf ly x lx =
    let rows = rows_of v is f y 2 1 2 3 lf ly (omega arith) (omega (arith, samples)) (omega (arith, samples)) (omega (arith, samples)) in
    let a = sample_of_row v is f y x 0 2 0 (2 * x) _ lf ly lx (omega arith) (omega (arith, samples)) rows.upper (omega arith) in
    let b = sample_of_row v is f y x 0 2 1 (2 * x + 1) _ lf ly lx (omega arith) (omega (arith, samples)) rows.upper (omega arith) in
    let c = sample_of_row v is f y x 2 1 0 x _ lf ly lx (omega arith) (omega (arith, samples)) rows.blue_row (omega arith) in
    let d = sample_of_row v is f y x 3 1 0 x _ lf ly lx (omega arith) (omega (arith, samples)) rows.red_row (omega arith) in
    (λ i. a i ∷ b i ∷ c i ∷ d i ∷ []) ∙ sym (four_samples (written_cell v f y x) ((cell_stands v is f y x lf ly lx).long ∙ samples))
cells_of_row C411 v is samples f y lf ly x lx =
    let rows = rows_of v is f y 4 1 4 5 lf ly (omega arith) (omega (arith, samples)) (omega (arith, samples)) (omega (arith, samples)) in
    let a = sample_of_row v is f y x 0 4 0 (4 * x) _ lf ly lx (omega arith) (omega (arith, samples)) rows.upper (omega arith) in
    let b = sample_of_row v is f y x 0 4 1 (4 * x + 1) _ lf ly lx (omega arith) (omega (arith, samples)) rows.upper (omega arith) in
    let c = sample_of_row v is f y x 0 4 2 (4 * x + 2) _ lf ly lx (omega arith) (omega (arith, samples)) rows.upper (omega arith) in
    let d = sample_of_row v is f y x 0 4 3 (4 * x + 3) _ lf ly lx (omega arith) (omega (arith, samples)) rows.upper (omega arith) in
    let e = sample_of_row v is f y x 4 1 0 x _ lf ly lx (omega arith) (omega (arith, samples)) rows.blue_row (omega arith) in
    let g = sample_of_row v is f y x 5 1 0 x _ lf ly lx (omega arith) (omega (arith, samples)) rows.red_row (omega arith) in
    (λ i. a i ∷ b i ∷ c i ∷ d i ∷ e i ∷ g i ∷ []) ∙ sym (six_samples (written_cell v f y x) ((cell_stands v is f y x lf ly lx).long ∙ samples))
cells_of_row C420 v is samples f y lf ly x lx =
    let rows = rows_of v is f y 2 2 4 5 lf ly (omega arith) (omega (arith, samples)) (omega (arith, samples)) (omega (arith, samples)) in
    let lower = rows.lower (omega arith) in
    let a = sample_of_row v is f y x 0 2 0 (2 * x) _ lf ly lx (omega arith) (omega (arith, samples)) rows.upper (omega arith) in
    let b = sample_of_row v is f y x 0 2 1 (2 * x + 1) _ lf ly lx (omega arith) (omega (arith, samples)) rows.upper (omega arith) in
    let c = sample_of_row v is f y x 2 2 0 (2 * x) _ lf ly lx (omega arith) (omega (arith, samples)) lower (omega arith) in
    let d = sample_of_row v is f y x 2 2 1 (2 * x + 1) _ lf ly lx (omega arith) (omega (arith, samples)) lower (omega arith) in
    let e = sample_of_row v is f y x 4 1 0 x _ lf ly lx (omega arith) (omega (arith, samples)) rows.blue_row (omega arith) in
    let g = sample_of_row v is f y x 5 1 0 x _ lf ly lx (omega arith) (omega (arith, samples)) rows.red_row (omega arith) in
    (λ i. a i ∷ b i ∷ c i ∷ d i ∷ e i ∷ g i ∷ []) ∙ sym (six_samples (written_cell v f y x) ((cell_stands v is f y x lf ly lx).long ∙ samples))

-- the cells of a frame, row by row
pub cells_of_frame : (kind : SpaceKind) (v : Cells) → IsVolume v → v.k ≡ samples_of kind → (f : ℕ) → f < v.size.f
    → frame_cells kind v.size.w v.size.h (planes_of kind v f) ≡ joined_to v.size.h (λ y. joined_to v.size.w (written_cell v f y))
unfolding RowAgain
cells_of_frame kind v is samples f lf = same_joined v.size.h (frame_row kind v.size.w v.size.h (planes_of kind v f)) _ (λ y ly. same_joined v.size.w _ _ (cells_of_row kind v is samples f y lf ly))

-- the planes of a frame have one byte for each sample
pub length-planes : (kind : SpaceKind) (v : Cells) → IsVolume v → v.k ≡ samples_of kind → (f : ℕ) → f < v.size.f → length (planes_of kind v f) ≡ plane_bytes kind v.size.w v.size.h
length-planes kind v is samples f lf = by kind samples
  where
    w : ℕ
    w = v.size.w

    h : ℕ
    h = v.size.h

    three : (wide high blue red n : ℕ) → wide * high ≤ v.k → blue + 1 ≤ v.k → red + 1 ≤ v.k → wide * w * high * h + 1 * w * 1 * h + 1 * w * 1 * h ≡ n
        → length (plane_of v f 0 wide high ++ plane_of v f blue 1 1 ++ plane_of v f red 1 1) ≡ n
    three wide high blue red n fits fits' fits'' total =
        omega (
          arith,
          total,
          length-append (plane_of v f 0 wide high ++ plane_of v f blue 1 1) (plane_of v f red 1 1),
          length-append (plane_of v f 0 wide high) (plane_of v f blue 1 1),
          length-plane v is f 0 wide high lf (omega arith),
          length-plane v is f blue 1 1 lf (omega arith),
          length-plane v is f red 1 1 lf (omega arith),
        )

    by : (kind' : SpaceKind) → v.k ≡ samples_of kind' → length (planes_of kind' v f) ≡ plane_bytes kind' w h
    by Mono k = length-plane v is f 0 1 1 lf (omega (arith, k)) ∙ grind arith
    by C444 k = three 1 1 1 2 (3 * (w * h)) (omega (arith, k)) (omega (arith, k)) (omega (arith, k)) (grind arith)
    by C422 k = three 2 1 2 3 (4 * (w * h)) (omega (arith, k)) (omega (arith, k)) (omega (arith, k)) (grind arith)
    by C411 k = three 4 1 4 5 (6 * (w * h)) (omega (arith, k)) (omega (arith, k)) (omega (arith, k)) (grind arith)
    by C420 k = three 2 2 4 5 (6 * (w * h)) (omega (arith, k)) (omega (arith, k)) (omega (arith, k)) (grind arith)

-- The bytes of a volume.

one_cell : (cells : List (List ℕ)) (i : ℕ) → get_or cells i [] ≡ concat (take 1 (drop i cells))
one_cell [] zero = refl
one_cell [] (suc i) = refl
one_cell (cell ∷ cells) zero = sym (append-nil cell)
one_cell (cell ∷ cells) (suc i) = one_cell cells i

-- runs of one length make a longer one
joined_runs : (n m start : ℕ) (cells : List (List ℕ)) → joined_to n (λ i. concat (take m (drop (start + m * i) cells))) ≡ concat (take (m * n) (drop start cells))
joined_runs zero m start cells = let none : m * 0 ≡ 0 = omega arith in ap (λ l. concat (take l (drop start cells))) (sym none)
joined_runs (suc n) m start cells =
    let more : m * suc n ≡ m * n + m = grind arith in
    ap (λ t. t ++ concat (take m (drop (start + m * n) cells))) (joined_runs n m start cells)
    ∙ ap (λ t. concat (take (m * n) (drop start cells)) ++ concat (take m t)) (sym (drop-drop (m * n) start cells))
    ∙ sym (concat-append (take (m * n) (drop start cells)) (take m (drop (m * n) (drop start cells))))
    ∙ ap concat (sym (take-add (m * n) m (drop start cells)) ∙ ap (λ l. take l (drop start cells)) (sym more))

pub bytes_again : (v : Cells) → IsVolume v → IsOnePart v → joined_to v.size.f (λ f. joined_to v.size.h (λ y. joined_to v.size.w (written_cell v f y))) ≡ bytes_of v
bytes_again v is one =
    same_joined f _ _ frame ∙ joined_runs f (w * h) 0 v.cells ∙ ap concat (take_all (w * h * f) v.cells (omega (arith, all)))
  where
    w : ℕ
    w = v.size.w

    h : ℕ
    h = v.size.h

    f : ℕ
    f = v.size.f

    all : length v.cells ≡ w * h * f
    all = is.count ∙ ap (count_from v.size) one ∙ (let e : w * (h * f) ≡ w * h * f = grind arith in e)

    row : (i : ℕ) → i < f → (y : ℕ) → y < h → joined_to w (written_cell v i y) ≡ concat (take w (drop (w * h * i + w * y) v.cells))
    row i li y ly =
        let at : w * (y + h * i) ≡ w * h * i + w * y = grind arith in
        let one' : 1 * w ≡ w = omega arith in
        same_joined w (written_cell v i y) (λ x. concat (take 1 (drop (w * h * i + w * y + 1 * x) v.cells)))
        (λ x lx. (cell_stands v is i y x li ly lx).here ∙ ap (λ n. get_or v.cells n []) (let e : x + w * (y + h * i) ≡ w * h * i + w * y + 1 * x = omega (arith, at) in e) ∙ one_cell v.cells (w * h * i + w * y + 1 * x))
        ∙ joined_runs w 1 (w * h * i + w * y) v.cells ∙ ap (λ n. concat (take n (drop (w * h * i + w * y) v.cells))) one'

    frame : (i : ℕ) → i < f → joined_to h (λ y. joined_to w (written_cell v i y)) ≡ concat (take (w * h) (drop (0 + w * h * i) v.cells))
    frame i li =
        let none : w * h * i ≡ 0 + w * h * i = omega arith in
        same_joined h _ _ (row i li) ∙ joined_runs h w (w * h * i) v.cells ∙ ap (λ n. concat (take (w * h) (drop n v.cells))) none
