-- A turned part row by row, and turned parts one after another.
use Rattle.std.proofs.Common.{◌≡◌, ◌⊎◌, ℕ, zero, suc, ◌+◌, ◌-◌, ◌*◌, ◌/◌, ◌%◌, ◌<◌, ◌≤◌, List, [], ◌∷◌, ◌++◌, length, map, take, drop, get_or, refl, ap, sym, ◌∙◌, subst, arith}
use Rattle.std.proofs.Math.Nat.{mul-le-mul_left}
use Rattle.std.proofs.lemmas.Int.{ints}
use Rattle.std.proofs.lemmas.List.{append-nil, append_assoc, get_or-drop, get_or-take, length-append, length-drop, length-take-le, map-append}
use Rattle.std.proofs.lemmas.List.Concat.{flat_map-append}
use Rattle.std.proofs.lemmas.List.Elements.{All-from_get_or, All-head, All-tail}
use Rattle.std.proofs.lemmas.List.Folds.{concat-append}
use Rattle.std.proofs.lemmas.List.FromFn.{fill_by_all, map-range_with_len_more}
use Rattle.std.proofs.lemmas.Option.{get_or_from_slice_get, slice_get-get_or}
use Rattle.std.proofs.lemmas.Simd.{map-map}
use Rattle.std.specs.Prelude.{ℤ, pos, ◌+ℤ◌, All, Some, IsSome, slice_get, unwrap_or}
use Rattle.std.specs.List.{concat, range_with_len}
use Rattle.cells.specs.declared.place.At.{At}
use Rattle.cells.specs.declared.place.Size.{Size}
use Rattle.cells.specs.Places.{IsInside, IsSmall, cell_count, index_in, place_of, places, plus, spot}
use Rattle.cells.specs.Parts.{count_from}
use Rattle.cells.specs.Cells.{Cells, HasCell, HasRun, IsCell, IsVolume, cell_at, cells_of, count_of, index_of, row_at, run_from, sizes_of, volume_of, with_part}
use Rattle.cells.specs.PartLists.{part_numbered, parts_of}
use Rattle.cells.specs.SizeLists.{frames_to_part, size_of_part, stock_place}
use Rattle.cells.proofs.CellLaws.{IfCell, cell_by_index, cell_has_index, cell_is_cell, inside_has_cell}
use Rattle.cells.proofs.Joining.{count_behind}
use Rattle.cells.proofs.PartBoxes.{run_cells, run_of_volume}
use Rattle.cells.proofs.PartLists.{is_part, stands_in}
use Rattle.cells.proofs.PlaceLists.{count_over, entry_over}
use Rattle.cells.proofs.Raster.{below_of_div, has_index, index_below, index_of_spot, one_place, place_at}
use Rattle.cells.proofs.Rows.{cells_of-concat}
use Rattle.turned.specs.declared.copies.PartTurn.{PartTurn}
use Rattle.turned.specs.Turns.{turn_from, turn_size}
use Rattle.turned.specs.TurnedParts.{cells_of_parts, turned, turned_cell, turned_of, turned_sizes_of, turns_of}
use Rattle.turned.specs.TurnedPlaces.{sample_size}
use Rattle.turned.specs.Copies.{IsPartTurn, numbered_part, turned_row, turns_from, with_parts}
use Rattle.turned.proofs.Turns.{rows_along, turn_inside, turn_small}
use Rattle.turned.proofs.TurnedCells.{part_sizes, samples_at, samples_from}
use Rattle.turned.proofs.TurnedPlaces.{HasPart, part_of_size}

some_same : {A : Type 0} (x y : A) → Some x ≡ Some y → x ≡ y
some_same x y e = cc

-- a list over numbers, and more of them
pub range_rows : {X : Type 0} (f g : ℕ → X) (a n : ℕ) → ((j : ℕ) → j < n → f (a + j) ≡ g j) → map f (range_with_len 0 (a + n)) ≡ map f (range_with_len 0 a) ++ map g (range_with_len 0 n)
range_rows f g a zero same = ap (λ m. map f (range_with_len 0 m)) (let e : a + 0 ≡ a = omega arith in e) ∙ sym (append-nil (map f (range_with_len 0 a)))
range_rows f g a (suc n) same =
    ap (λ m. map f (range_with_len 0 m)) (let e : a + suc n ≡ a + n + 1 = omega arith in e)
    ∙ map-range_with_len_more f 0 (a + n) (a + n) (omega arith)
    ∙ ap (λ xs. xs ++ f (a + n) ∷ []) (range_rows f g a n (λ j lt. same j (omega arith)))
    ∙ append_assoc (map f (range_with_len 0 a)) (map g (range_with_len 0 n)) (f (a + n) ∷ [])
    ∙ ap (λ xs. map f (range_with_len 0 a) ++ xs)
    (ap (λ x. map g (range_with_len 0 n) ++ x ∷ []) (same n (omega arith)) ∙ sym (map-range_with_len_more g 0 n n (omega arith)) ∙ ap (λ m. map g (range_with_len 0 m)) (let e : n + 1 ≡ suc n = omega arith in e))

-- the places of a row
pub place_in_row : (size : Size) (row x : ℕ) → 1 ≤ size.h → x < size.w → row < size.h * size.f → place_of size (size.w * row + x) ≡ spot x (row % size.h) (row / size.h)
place_in_row size row x some lx lr =
    one_place size (place_of size (size.w * row + x)) (spot x (row % size.h) (row / size.h)) (size.w * row + x) (place_at size (size.w * row + x) (omega arith) some below) at
  where
    y : row % size.h < size.h
    y = omega arith

    f : row / size.h < size.f
    f = below_of_div size.h size.f row some lr

    split : row % size.h + size.h * (row / size.h) ≡ row
    split = omega arith

    same : x + size.w * (row % size.h + size.h * (row / size.h)) ≡ size.w * row + x
    same = ap (λ n. x + size.w * n) split ∙ (let e : x + size.w * row ≡ size.w * row + x = omega arith in e)

    at : index_in size (spot x (row % size.h) (row / size.h)) ≡ Some (size.w * row + x)
    at = index_of_spot size x (row % size.h) (row / size.h) lx y f ∙ ap Some same

    below : size.w * row + x < cell_count size
    below = index_below size (spot x (row % size.h) (row / size.h)) (size.w * row + x) at

pub rows_more : (cell : At → List ℕ) (size : Size) (row : ℕ) → 1 ≤ size.h → row < size.h * size.f
    → concat (map cell (map (place_of size) (range_with_len 0 (size.w * (row + 1))))) ≡ concat (map cell (map (place_of size) (range_with_len 0 (size.w * row)))) ++ concat (map (λ x. cell (spot x (row % size.h) (row / size.h))) (range_with_len 0 size.w))
rows_more cell size row some lr =
    ap concat
    (map-map cell (place_of size) (range_with_len 0 (size.w * (row + 1)))
    ∙ ap (λ n. map at (range_with_len 0 n)) (let e : size.w * (row + 1) ≡ size.w * row + size.w = omega arith in e)
    ∙ range_rows at (λ x. cell (spot x (row % size.h) (row / size.h))) (size.w * row) size.w (λ x lx. ap cell (place_in_row size row x some lx lr))
    ∙ ap (λ xs. xs ++ map (λ x. cell (spot x (row % size.h) (row / size.h))) (range_with_len 0 size.w)) (sym (map-map cell (place_of size) (range_with_len 0 (size.w * row)))))
    ∙ concat-append (map cell (map (place_of size) (range_with_len 0 (size.w * row)))) (map (λ x. cell (spot x (row % size.h) (row / size.h))) (range_with_len 0 size.w))
  where
    at : ℕ → List ℕ
    at i = cell (place_of size i)

-- one cell more of a row
pub row_more : (t : ℕ) (part : Cells) (y f x : ℕ) → concat (turned_row t part y f (x + 1)) ≡ concat (turned_row t part y f x) ++ turned_cell t part (spot x y f)
row_more t part y f x =
    ap concat (map-range_with_len_more (λ i. turned_cell t part (spot i y f)) 0 x x (omega arith))
    ∙ concat-append (turned_row t part y f x) (turned_cell t part (spot x y f) ∷ [])
    ∙ ap (λ xs. concat (turned_row t part y f x) ++ xs) (append-nil (turned_cell t part (spot x y f)))

-- a part by its number
pub record IsNumbered (v : Cells) (number : ℕ) : Type 0 where
  pub is : part_numbered v number ≡ Some (numbered_part v number)
  pub sized : size_of_part (sizes_of v) number ≡ Some (sample_size (sizes_of v) number)
  pub size : (numbered_part v number).size ≡ sample_size (sizes_of v) number
  pub samples : (numbered_part v number).k ≡ v.k

pub numbered : (v : Cells) (number : ℕ) → 1 ≤ number → number ≤ length (sizes_of v) → IsNumbered v number
numbered v zero from to = absurd (omega (arith, from))
numbered v (suc n) from to = record {
  is = has.is ∙ ap Some (sym part);
  sized = at ∙ ap Some (sym its);
  size = ap (λ (p : Cells). p.size) part ∙ has.size_is ∙ sym its;
  samples = ap (λ (p : Cells). p.k) part ∙ samples_at v.k (parts_of v) (samples_from v.k v.size v.more v.cells) n has.part has.is;
}
  where
    size : Size
    size = get_or (sizes_of v) n v.size

    at : slice_get (sizes_of v) n ≡ Some size
    at = slice_get-get_or (sizes_of v) n v.size (omega (arith, to))

    has : HasPart v n size
    has = part_of_size v n size at

    part : numbered_part v (suc n) ≡ has.part
    part = ap (λ o. unwrap_or o v) has.is

    its : sample_size (sizes_of v) (suc n) ≡ size
    its = ap (λ o. unwrap_or o (record { w = 0; h = 0; f = 0 })) at

-- the cells of a turned part, in the volume that has the part
module _ (v : Cells) (volume : IsVolume v) (number t : ℕ) (from : 1 ≤ number) (to : number ≤ length (sizes_of v)) where
  numbers : IsNumbered v number
  numbers = numbered v number from to

  pub part_volume : IsVolume (numbered_part v number)
  part_volume = (is_part v number (numbered_part v number) volume numbers.is).volume

  pub turned_has : (p : At) → IsInside (turn_size t (sample_size (sizes_of v) number)) p → HasCell (numbered_part v number) (turn_from t (numbered_part v number).size p)
  turned_has p inside =
      inside_has_cell (numbered_part v number) part_volume (turn_from t (numbered_part v number).size p)
      (turn_inside t (numbered_part v number).size p (subst (λ s. IsInside (turn_size t s) p) (sym numbers.size) inside))

  pub cell_turned : (p : At) → IsInside (turn_size t (sample_size (sizes_of v) number)) p
      → cell_at v (stock_place (sizes_of v) number (turn_from t (sample_size (sizes_of v) number) p)) ≡ Some (turned_cell t (numbered_part v number) p)
  cell_turned p inside =
      ap (λ s. cell_at v (stock_place (sizes_of v) number (turn_from t s p))) (sym numbers.size)
      ∙ stands_in v number (numbered_part v number) numbers.is (turn_from t (numbered_part v number).size p)
      (turn_inside t (numbered_part v number).size p (subst (λ s. IsInside (turn_size t s) p) (sym numbers.size) inside))
      ∙ has_index (cell_at (numbered_part v number) (turn_from t (numbered_part v number).size p)) [] (turned_has p inside)

  -- each is a cell
  pub cells_are : (p : At) → IsInside (turn_size t (sample_size (sizes_of v) number)) p → IsCell v.k (turned_cell t (numbered_part v number) p)
  cells_are p inside = subst (IfCell v.k) (cell_turned p inside) (cell_is_cell v volume (stock_place (sizes_of v) number (turn_from t (sample_size (sizes_of v) number) p)))

-- places inside a turned part
pub spot_within : (size : Size) (x y f : ℕ) → x < size.w → y < size.h → f < size.f → IsInside size (spot x y f)
spot_within size x y f lx ly lf = subst IsSome (sym (index_of_spot size x y f lx ly lf)) refl

-- a row that the turn keeps
module _ (v : Cells) (volume : IsVolume v) (number t : ℕ) (from : 1 ≤ number) (to : number ≤ length (sizes_of v)) (keeps : (t ≡ 0) ⊎ (t ≡ 6)) (y f : ℕ) (ly : y < (turn_size t (sample_size (sizes_of v) number)).h) (lf : f < (turn_size t (sample_size (sizes_of v) number)).f) where
  abbrev pub first : At
  first = stock_place (sizes_of v) number (turn_from t (sample_size (sizes_of v) number) (spot 0 y f))

  stock_along : (n : ℕ) (q : At) (j : ℕ) → stock_place (sizes_of v) n (plus q (spot j 0 0)) ≡ plus (stock_place (sizes_of v) n q) (spot j 0 0)
  stock_along zero q j = refl
  stock_along (suc n) q j = λ k. record { x = q.x +ℤ pos j; y = q.y +ℤ pos 0; f = swap q.f (frames_to_part (sizes_of v) n) k }
    where
      swap : (z : ℤ) (m : ℕ) → (z +ℤ pos 0) +ℤ pos m ≡ (z +ℤ pos m) +ℤ pos 0
      swap z m = omega (arith, ints)

  along : (j : ℕ) → stock_place (sizes_of v) number (turn_from t (sample_size (sizes_of v) number) (spot j y f)) ≡ plus first (spot j 0 0)
  along j = ap (stock_place (sizes_of v) number) (rows_along t (sample_size (sizes_of v) number) j y f keeps) ∙ stock_along number (turn_from t (sample_size (sizes_of v) number) (spot 0 y f)) j

  cell_along : (j : ℕ) → j < (turn_size t (sample_size (sizes_of v) number)).w → cell_at v (plus first (spot j 0 0)) ≡ Some (turned_cell t (numbered_part v number) (spot j y f))
  cell_along j lt =
      ap (cell_at v) (sym (along j))
      ∙ cell_turned v volume number t from to (spot j y f) (spot_within (turn_size t (sample_size (sizes_of v) number)) j y f lt ly lf)

  some_along : (j : ℕ) → j < (turn_size t (sample_size (sizes_of v) number)).w → HasCell v (plus first (spot j 0 0))
  some_along j lt = subst IsSome (sym (cell_along j lt)) refl

  stays : plus first (spot 0 0 0) ≡ first
  stays = λ k. record { x = same first.x k; y = same first.y k; f = same first.f k }
    where
      same : (z : ℤ) → z +ℤ pos 0 ≡ z
      same z = omega (arith, ints)

  pub run_along : 0 < (turn_size t (sample_size (sizes_of v) number)).w → HasRun v first (turn_size t (sample_size (sizes_of v) number)).w
  run_along some = record {
    first = cell_has_index v first (subst (HasCell v) stays (some_along 0 some));
    each = λ j lt. cell_has_index v (plus first (spot j 0 0)) (some_along j lt);
  }

  pub row_turned : 0 < (turn_size t (sample_size (sizes_of v) number)).w
      → row_at v first (turn_size t (sample_size (sizes_of v) number)).w ≡ concat (turned_row t (numbered_part v number) y f (turn_size t (sample_size (sizes_of v) number)).w)
  row_turned some = ap (run_from v.cells w) at ∙ ap concat
      (fill_by_all (λ j. turned_cell t (numbered_part v number) (spot j y f)) (take w (drop i v.cells)) w [] (length-take-le w (drop i v.cells) (omega (arith, fits, length-drop i v.cells)))
      (λ j lt. get_or-take w (drop i v.cells) j [] lt ∙ get_or-drop i v.cells j []
      ∙ some_same _ _ (sym (cell_by_index v volume (plus first (spot j 0 0)) (i + j) (run_cells v first i w at run j lt)) ∙ cell_along j lt)))
    where
      w : ℕ
      w = (turn_size t (sample_size (sizes_of v) number)).w

      run : HasRun v first w
      run = run_along some

      i : ℕ
      i = unwrap_or (index_of v first) 0

      at : index_of v first ≡ Some i
      at = has_index (index_of v first) 0 run.first

      fits : i + w ≤ length v.cells
      fits = omega (arith, run_of_volume v first i w at run, volume.count)

-- what holds of each place holds of all
some_across : (w n i : ℕ) → i < w * n → 1 ≤ w
some_across zero n i lt = absurd (omega (arith, lt))
some_across (suc w) n i lt = omega arith

some_down : (w h f i : ℕ) → i < w * (h * f) → 1 ≤ h
some_down w zero f i lt = absurd (omega (arith, lt))
some_down w (suc h) f i lt = omega arith

all_of_places : (size : Size) (f : At → List ℕ) (P : List ℕ → Type 0) → ((p : At) → IsInside size p → P (f p)) → All P (map f (places size))
all_of_places size f P each =
    All-from_get_or P (map f (places size)) [] (λ i lt.
    let below : i < cell_count size = subst (λ n. i < n) (count_over f size) lt in
    let inside : IsInside size (place_of size i) = subst IsSome (sym (place_at size i (some_across size.w (size.h * size.f) i below) (some_down size.w size.h size.f i below) below)) refl in
    subst P (sym (get_or_from_slice_get (map f (places size)) i (f (place_of size i)) [] (entry_over f size i below))) (each (place_of size i) inside))

length-cells : (k : ℕ) (cells : List (List ℕ)) → All (IsCell k) cells → length (concat cells) ≡ k * length cells
length-cells k [] all = omega arith
length-cells k (cell ∷ cells) all =
    let here = (All-head (IsCell k) cell cells all).samples in
    let rest = length-cells k cells (All-tail (IsCell k) cell cells all) in
    omega (arith, length-append cell (concat cells), here, rest)

-- the volume of the bytes of all rows is the turned part
pub bytes_are_turned : (v : Cells) (number t : ℕ) (bytes : List ℕ) → IsVolume v → 1 ≤ number → number ≤ length (sizes_of v)
    → bytes ≡ concat (map (turned_cell t (numbered_part v number)) (places (turn_size t (sample_size (sizes_of v) number))))
    → volume_of (turn_size t (sample_size (sizes_of v) number)) v.k bytes ≡ turned t (numbered_part v number)
unfolding turned
bytes_are_turned v number t bytes volume from to is =
    (λ j. record {
      size = turn_size t (sample_size (sizes_of v) number);
      more = [];
      k = v.k;
      cells = same j;
    })
    ∙ (λ j. record {
      size = turn_size t (sym its.size j);
      more = [];
      k = sym its.samples j;
      cells = map (turned_cell t (numbered_part v number)) (places (turn_size t (sym its.size j)));
    })
  where
    its : IsNumbered v number
    its = numbered v number from to

    size : Size
    size = turn_size t (sample_size (sizes_of v) number)

    cells : List (List ℕ)
    cells = map (turned_cell t (numbered_part v number)) (places size)

    all : All (IsCell v.k) cells
    all = all_of_places size (turned_cell t (numbered_part v number)) (IsCell v.k) (λ p inside. cells_are v volume number t from to p inside)

    same : cells_of v.k (cell_count size) bytes ≡ cells
    same = ap (cells_of v.k (cell_count size)) is ∙ ap (λ n. cells_of v.k n (concat cells)) (sym (count_over (turned_cell t (numbered_part v number)) size)) ∙ cells_of-concat v.k cells all

-- turned parts one after another
pub parts_more : (v : Cells) (parts : List Cells) (part : Cells) → with_part (with_parts v parts) part ≡ with_parts v (parts ++ part ∷ [])
parts_more v parts part = λ j. record {
  size = v.size;
  more = more j;
  k = v.k;
  cells = cells j;
}
  where
    more : v.more ++ part_sizes parts ++ part.size ∷ [] ≡ v.more ++ part_sizes (parts ++ part ∷ [])
    more = append_assoc v.more (part_sizes parts) (part.size ∷ []) ∙ ap (λ xs. v.more ++ xs) (sym (map-append (λ (p : Cells). p.size) parts (part ∷ [])))

    cells : v.cells ++ cells_of_parts parts ++ part.cells ≡ v.cells ++ cells_of_parts (parts ++ part ∷ [])
    cells = append_assoc v.cells (cells_of_parts parts) part.cells
        ∙ ap (λ xs. v.cells ++ xs) (ap (λ xs. cells_of_parts parts ++ xs) (sym (append-nil part.cells)) ∙ sym (flat_map-append (λ (p : Cells). p.cells) parts (part ∷ [])))

pub with_none : (v : Cells) → v ≡ with_parts v []
with_none v = λ j. record { size = v.size; more = sym (append-nil v.more) j; k = v.k; cells = sym (append-nil v.cells) j }

pub room_left : (a n m c most : ℕ) → n + 1 ≤ m → a + m * c ≤ most → a + n * c + c ≤ most
room_left a n m c most le room = omega (arith, room, mul-le-mul_left c le)

pub turns_more : (part : Cells) (first turn : ℕ) → first ≤ turn → turns_from part first (turn + 1 - first) ≡ turns_from part first (turn - first) ++ turned turn part ∷ []
turns_more part first turn le =
    ap (turns_from part first) (let e : turn + 1 - first ≡ (turn - first) + 1 = omega (arith, le) in e)
    ∙ map-range_with_len_more (λ t. turned t part) first (turn - first) turn (omega (arith, le))

-- the counts of a volume with one part more
pub length_more : (v part : Cells) → length (sizes_of (with_part v part)) ≡ length (sizes_of v) + 1
length_more v part = omega (arith, length-append v.more (part.size ∷ []))

pub count_more : (v part : Cells) → count_of (with_part v part) ≡ count_of v + cell_count part.size
count_more v part = count_behind v.size v.more part.size

pub count_alone : (part : Cells) → part.more ≡ [] → count_of part ≡ cell_count part.size
count_alone part one = ap (count_from part.size) one

-- one sample, and two
all_one : (size : Size) (more : List Size) (k : ℕ) (cells : List (List ℕ)) → more ≡ []
    → with_parts (turned 0 (numbered_part (record { size = size; more = more; k = k; cells = cells }) 1)) (turns_from (numbered_part (record { size = size; more = more; k = k; cells = cells }) 1) 1 7)
    ≡ turned_of (record { size = size; more = more; k = k; cells = cells })
unfolding turned turned_of
all_one size [] k cells one = refl
all_one size (next ∷ more) k cells one = cc

pub turned_one : (v : Cells) → v.more ≡ [] → with_parts (turned 0 (numbered_part v 1)) (turns_from (numbered_part v 1) 1 7) ≡ turned_of v
turned_one v one = all_one v.size v.more v.k v.cells one

all_two : (size : Size) (more : List Size) (k : ℕ) (cells : List (List ℕ)) → length more ≡ 1
    → with_parts
    (with_parts (turned 0 (numbered_part (record { size = size; more = more; k = k; cells = cells }) 1)) (turns_from (numbered_part (record { size = size; more = more; k = k; cells = cells }) 1) 1 7))
    (turns_from (numbered_part (record { size = size; more = more; k = k; cells = cells }) 2) 0 8)
    ≡ turned_of (record { size = size; more = more; k = k; cells = cells })
unfolding turned turned_of
all_two size [] k cells two = absurd (omega (arith, two))
all_two size (next ∷ []) k cells two =
    (λ j. record {
      size = size;
      more = drop 1 (turned_sizes_of (size ∷ next ∷ []));
      k = k;
      cells = (sym (flat_map-append (λ (p : Cells). p.cells) (turns_of (numbered_part (record { size = size; more = next ∷ []; k = k; cells = cells }) 1)) (turns_of (numbered_part (record { size = size; more = next ∷ []; k = k; cells = cells }) 2)))) j;
    })
all_two size (next ∷ other ∷ more) k cells two = absurd (omega (arith, two))

pub turned_two : (v : Cells) → length v.more ≡ 1 → with_parts (with_parts (turned 0 (numbered_part v 1)) (turns_from (numbered_part v 1) 1 7)) (turns_from (numbered_part v 2) 0 8) ≡ turned_of v
turned_two v two = all_two v.size v.more v.k v.cells two

-- how many cells the samples have
pub count_first : (v : Cells) → cell_count (sample_size (sizes_of v) 1) ≤ count_of v
count_first v = by v.more
  where
    by : (more : List Size) → cell_count v.size ≤ count_from v.size more
    by [] = omega arith
    by (next ∷ more) = omega arith

pub count_both : (v : Cells) → 2 ≤ length (sizes_of v) → cell_count (sample_size (sizes_of v) 1) + cell_count (sample_size (sizes_of v) 2) ≤ count_of v
count_both v two = by v.more two
  where
    second : (size : Size) (more : List Size) → cell_count size ≤ count_from size more
    second size [] = omega arith
    second size (next ∷ more) = omega arith

    by : (more : List Size) → 2 ≤ length (v.size ∷ more) → cell_count v.size + cell_count (sample_size (v.size ∷ more) 2) ≤ count_from v.size more
    by [] lt = absurd (omega (arith, lt))
    by (next ∷ more) lt = omega (arith, second next more)

-- a turn of a part is small
pub part_turn_is : (v : Cells) (sizes : List Size) (number turn : ℕ) (size : Size) → IsVolume v → sizes ≡ sizes_of v → 1 ≤ number → number ≤ length sizes → turn < 8 → size ≡ turn_size turn (sample_size sizes number)
    → IsPartTurn v sizes (record { number = number; turn = turn; size = size })
part_turn_is v sizes number turn size volume same from to lt is = record {
  sizes_are = same;
  from = from;
  to = to;
  turn_is = lt;
  size_is = is;
  small = subst IsSmall (sym is) (turn_small turn (sample_size sizes number) before);
}
  where
    within : number ≤ length (sizes_of v)
    within = subst (λ (xs : List Size). number ≤ length xs) same to

    before : IsSmall (sample_size sizes number)
    before =
        subst (λ (xs : List Size). IsSmall (sample_size xs number)) (sym same)
        (subst IsSmall (numbered v number from within).size (part_volume v volume number turn from within).small)

-- and the cells of a turned part, said over the same sizes
module _ (v : Cells) (sizes : List Size) (it : PartTurn) (is : IsPartTurn v sizes it) (volume : IsVolume v) where
  within_it : it.number ≤ length (sizes_of v)
  within_it = subst (λ (xs : List Size). it.number ≤ length xs) is.sizes_are is.to

  size_of_it : it.size ≡ turn_size it.turn (sample_size (sizes_of v) it.number)
  size_of_it = is.size_is ∙ ap (λ (xs : List Size). turn_size it.turn (sample_size xs it.number)) is.sizes_are

  pub source_inside : (p : At) → IsInside it.size p → IsInside (turn_size it.turn (sample_size sizes it.number)) p
  source_inside p inside = subst (λ s. IsInside s p) is.size_is inside

  pub cell_it : (p : At) → IsInside it.size p → cell_at v (stock_place sizes it.number (turn_from it.turn (sample_size sizes it.number) p)) ≡ Some (turned_cell it.turn (numbered_part v it.number) p)
  cell_it p inside =
      ap (λ (xs : List Size). cell_at v (stock_place xs it.number (turn_from it.turn (sample_size xs it.number) p))) is.sizes_are
      ∙ cell_turned v volume it.number it.turn is.from within_it p (subst (λ s. IsInside s p) size_of_it inside)

  -- a row that the turn keeps
  module _ (keeps : (it.turn ≡ 0) ⊎ (it.turn ≡ 6)) (y f : ℕ) (ly : y < it.size.h) (lf : f < it.size.f) where
    row_h : y < (turn_size it.turn (sample_size (sizes_of v) it.number)).h
    row_h = subst (λ (s : Size). y < s.h) size_of_it ly

    row_f : f < (turn_size it.turn (sample_size (sizes_of v) it.number)).f
    row_f = subst (λ (s : Size). f < s.f) size_of_it lf

    row_w : 0 < (turn_size it.turn (sample_size (sizes_of v) it.number)).w
    row_w = subst (λ (s : Size). 0 < s.w) size_of_it (is.small.axes.w.0)

    row_place : stock_place sizes it.number (turn_from it.turn (sample_size sizes it.number) (spot 0 y f)) ≡ first v volume it.number it.turn is.from within_it keeps y f row_h row_f
    row_place = ap (λ (xs : List Size). stock_place xs it.number (turn_from it.turn (sample_size xs it.number) (spot 0 y f))) is.sizes_are

    pub run_it : HasRun v (stock_place sizes it.number (turn_from it.turn (sample_size sizes it.number) (spot 0 y f))) it.size.w
    run_it =
        subst (λ (p : At). HasRun v p it.size.w) (sym row_place)
        (subst (λ (s : Size). HasRun v (first v volume it.number it.turn is.from within_it keeps y f row_h row_f) s.w) (sym size_of_it)
        (run_along v volume it.number it.turn is.from within_it keeps y f row_h row_f row_w))

    pub row_it : row_at v (stock_place sizes it.number (turn_from it.turn (sample_size sizes it.number) (spot 0 y f))) it.size.w ≡ concat (turned_row it.turn (numbered_part v it.number) y f it.size.w)
    row_it =
        ap (λ (p : At). row_at v p it.size.w) row_place
        ∙ ap (λ (s : Size). row_at v (first v volume it.number it.turn is.from within_it keeps y f row_h row_f) s.w) size_of_it
        ∙ row_turned v volume it.number it.turn is.from within_it keeps y f row_h row_f row_w
        ∙ ap (λ (s : Size). concat (turned_row it.turn (numbered_part v it.number) y f s.w)) (sym size_of_it)

  -- the volume of its bytes
  pub bytes_it : (bytes : List ℕ) → bytes ≡ concat (map (turned_cell it.turn (numbered_part v it.number)) (places it.size)) → volume_of it.size v.k bytes ≡ turned it.turn (numbered_part v it.number)
  bytes_it bytes same =
      ap (λ (s : Size). volume_of s v.k bytes) size_of_it
      ∙ bytes_are_turned v it.number it.turn bytes volume is.from within_it
      (same ∙ ap (λ (s : Size). concat (map (turned_cell it.turn (numbered_part v it.number)) (places s))) size_of_it)

  pub whole_it : (bytes : List ℕ) → bytes ≡ concat (map (turned_cell it.turn (numbered_part v it.number)) (places it.size)) → length bytes ≡ v.k * cell_count it.size
  whole_it bytes same =
      ap length same
      ∙ length-cells v.k (map (turned_cell it.turn (numbered_part v it.number)) (places it.size))
      (all_of_places it.size (turned_cell it.turn (numbered_part v it.number)) (IsCell v.k)
      (λ p inside. cells_are v volume it.number it.turn is.from within_it p (subst (λ s. IsInside s p) size_of_it inside)))
      ∙ ap (λ n. v.k * n) (count_over (turned_cell it.turn (numbered_part v it.number)) it.size)
