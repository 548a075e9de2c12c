-- Numbers of pairs: each below the count belongs to one pair.
use Rattle.std.proofs.Common.{◌≡◌, ℕ, zero, suc, ◌+◌, ◌-◌, ◌*◌, ◌/◌, ◌%◌, ◌<◌, ◌≤◌, refl, sym, ap, ◌∙◌, subst, arith, Bool, true, false, ◌⊎◌, inl, inr, ⊎_elim, Fits, w64}
use Rattle.std.specs.Prelude.{if◌then◌else◌, nat_lt, ◌^◌}
use Rattle.std.proofs.Math.Nat.{mul-le-mul_left, mul-le-mul_right}
use Rattle.std.proofs.Math.Numerals.{add-one}
use Rattle.std.proofs.lemmas.Bool.{cases_lt, cases_order}
use borrow.Author.Tests.{le-ltb, lt-ltb}
use Rattle.cells.specs.declared.place.Size.{Size}
use Rattle.cells.specs.declared.place.Axis.{Axis}
use Rattle.cells.specs.declared.place.Axis.TheVariants.{X, Y, F}
use Rattle.cells.specs.Boxes.{HasCells}
use Rattle.cells.specs.Places.{IsSmall, cell_count, raster_index}
use Rattle.boxes.specs.Sums.{sum_to}
use Rattle.boxes.proofs.Bounds.{sum_bound, sum_of_more}
use Rattle.boxes.specs.declared.walk.Walk.{Walk}
use Rattle.boxes.specs.Pairs.{AreCounts, IsPair, at_index, has_next, one_if, pair_count, pair_number, pairs_before, pairs_from}
use Rattle.boxes.specs.Walks.{IsAtIndex, IsWalkAt, IsWalkIn, most_pairs}
use Rattle.boxes.proofs.Indices.{at_counts, at_index_is, counts_at, counts_below, index_below, same_counts}

-- the pairs up to the next cell
pub pairs_on : (size : Size) (i x y f : ℕ) → IsAtIndex size i x y f → pairs_before size (i + 1) ≡ pairs_before size i + pairs_from size x y f
pairs_on size i x y f at =
    ap (λ n. sum_to n (at_index size (pairs_from size))) (add-one i)
    ∙ ap (λ n. pairs_before size i + n) (at_index_is size (pairs_from size) i x y f at)

pub pairs_next : (size : Size) (x y f : ℕ) → AreCounts size x y f → pairs_before size (raster_index size x y f + 1) ≡ pairs_before size (raster_index size x y f) + pairs_from size x y f
pairs_next size x y f at =
    ap (λ n. sum_to n (at_index size (pairs_from size))) (add-one (raster_index size x y f))
    ∙ ap (λ n. pairs_before size (raster_index size x y f) + n) (at_counts size (pairs_from size) x y f at.column at.row)

one_most : (b : Bool) → one_if b ≤ 1
one_most true = omega arith
one_most false = omega arith

three_most : (size : Size) (x y f : ℕ) → pairs_from size x y f ≤ 3
three_most size x y f = omega (arith, one_most (has_next size X x y f), one_most (has_next size Y x y f), one_most (has_next size F x y f))

-- there are at most three for each cell
pub pairs_few : (size : Size) (i : ℕ) → pairs_before size i ≤ i * 3
pairs_few size i = sum_bound i 3 (at_index size (pairs_from size)) (λ k lt. three_most size (k % size.w) (k / size.w % size.h) (k / size.w / size.h))

-- a number is one of its cell's
pub number_low : (size : Size) (axis : Axis) (x y f : ℕ) → pairs_before size (raster_index size x y f) ≤ pair_number size axis x y f
number_low size X x y f = omega arith
number_low size Y x y f = omega arith
number_low size F x y f = omega arith

pub number_high : (size : Size) (axis : Axis) (x y f : ℕ) → IsPair size axis x y f → pair_number size axis x y f < pairs_before size (raster_index size x y f + 1)
number_high size X x y f is = omega (arith, pairs_next size x y f is.counts, ap one_if is.next)
number_high size Y x y f is = omega (arith, pairs_next size x y f is.counts, ap one_if is.next)
number_high size F x y f is = omega (arith, pairs_next size x y f is.counts, ap one_if is.next)

pub number_below : (size : Size) (axis : Axis) (x y f : ℕ) → IsPair size axis x y f → pair_number size axis x y f < pair_count size
number_below size axis x y f is =
    omega (arith, number_high size axis x y f is, sum_of_more (raster_index size x y f + 1) (cell_count size) (at_index size (pairs_from size)) (let le : raster_index size x y f + 1 ≤ cell_count size = omega (arith, index_below size x y f is.counts) in le))

-- two pairs of one number are one
pub record SamePair (axis : Axis) (x y f : ℕ) (other : Axis) (a b c : ℕ) : Type 0 where
  pub axis_same : axis ≡ other
  pub x_same : x ≡ a
  pub y_same : y ≡ b
  pub f_same : f ≡ c

axis_of : (size : Size) (axis other : Axis) (x y f : ℕ) → has_next size axis x y f ≡ true → has_next size other x y f ≡ true → pair_number size axis x y f ≡ pair_number size other x y f → axis ≡ other
axis_of size X X x y f is is' e = refl
axis_of size X Y x y f is is' e = absurd (omega (arith, e, ap one_if is))
axis_of size X F x y f is is' e = absurd (omega (arith, e, ap one_if is))
axis_of size Y X x y f is is' e = absurd (omega (arith, e, ap one_if is'))
axis_of size Y Y x y f is is' e = refl
axis_of size Y F x y f is is' e = absurd (omega (arith, e, ap one_if is))
axis_of size F X x y f is is' e = absurd (omega (arith, e, ap one_if is'))
axis_of size F Y x y f is is' e = absurd (omega (arith, e, ap one_if is'))
axis_of size F F x y f is is' e = refl

-- a pair of an earlier cell has an earlier number
pub earlier : (size : Size) (axis other : Axis) (x y f a b c : ℕ) → IsPair size axis x y f → raster_index size x y f < raster_index size a b c → pair_number size axis x y f < pair_number size other a b c
earlier size axis other x y f a b c is lt =
    omega (arith, number_high size axis x y f is, number_low size other a b c, sum_of_more (raster_index size x y f + 1) (raster_index size a b c) (at_index size (pairs_from size)) (let le : raster_index size x y f + 1 ≤ raster_index size a b c = omega arith in le))

pub number_apart : (size : Size) (axis other : Axis) (x y f a b c : ℕ) → IsPair size axis x y f → IsPair size other a b c → pair_number size axis x y f ≡ pair_number size other a b c → SamePair axis x y f other a b c
number_apart size axis other x y f a b c is is' e = by (cases_order (raster_index size x y f) (raster_index size a b c))
  where
    by : (raster_index size x y f ≡ raster_index size a b c) ⊎ ((raster_index size x y f < raster_index size a b c) ⊎ (raster_index size a b c < raster_index size x y f)) → SamePair axis x y f other a b c
    by (inl same) =
        let at = same_counts size x y f a b c is.counts is'.counts same in
        let next : has_next size other x y f ≡ true = (λ k. has_next size other (at.x_same k) (at.y_same k) (at.f_same k)) ∙ is'.next in
        let number : pair_number size axis x y f ≡ pair_number size other x y f = e ∙ (λ k. pair_number size other (sym at.x_same k) (sym at.y_same k) (sym at.f_same k)) in
        record { axis_same = axis_of size axis other x y f is.next next number; x_same = at.x_same; y_same = at.y_same; f_same = at.f_same }
    by (inr (inl before)) = absurd (omega (arith, e, earlier size axis other x y f a b c is before))
    by (inr (inr after)) = absurd (omega (arith, e, earlier size other axis a b c x y f is' after))

-- the pair of a number
pub record HasPair (size : Size) (n : ℕ) : Type 0 where
  pub axis : Axis
  pub x : ℕ
  pub y : ℕ
  pub f : ℕ
  pub is : IsPair size axis x y f
  pub number : pair_number size axis x y f ≡ n

-- the number is one of a cell's
found : (size : Size) (x y f n : ℕ) → AreCounts size x y f → pairs_before size (raster_index size x y f) ≤ n → n < pairs_before size (raster_index size x y f + 1) → HasPair size n
found size x y f n at low high =
    by (has_next size X x y f) (has_next size Y x y f) (has_next size F x y f) refl refl refl
  where
    pair : (axis : Axis) → has_next size axis x y f ≡ true → pair_number size axis x y f ≡ n → HasPair size n
    pair axis next number = record { axis = axis; x = x; y = y; f = f; is = record { counts = at; next = next }; number = number }

    third : (a b c : Bool) → has_next size X x y f ≡ a → has_next size Y x y f ≡ b → has_next size F x y f ≡ c
        → pairs_before size (raster_index size x y f) + one_if a + one_if b ≤ n → HasPair size n
    third a b true ea eb ec le = pair F ec (omega (arith, pairs_next size x y f at, ap one_if ea, ap one_if eb, ap one_if ec))
    third a b false ea eb ec le = absurd (omega (arith, pairs_next size x y f at, ap one_if ea, ap one_if eb, ap one_if ec))

    second : (a b c : Bool) → has_next size X x y f ≡ a → has_next size Y x y f ≡ b → has_next size F x y f ≡ c
        → pairs_before size (raster_index size x y f) + one_if a ≤ n → HasPair size n
    second a true c ea eb ec le =
        ⊎_elim (λ lt. pair Y eb (omega (arith, ap one_if ea))) (λ ge. third a true c ea eb ec (omega arith)) (cases_lt n (pairs_before size (raster_index size x y f) + one_if a + 1))
    second a false c ea eb ec le = third a false c ea eb ec (omega arith)

    by : (a b c : Bool) → has_next size X x y f ≡ a → has_next size Y x y f ≡ b → has_next size F x y f ≡ c → HasPair size n
    by true b c ea eb ec =
        ⊎_elim (λ lt. pair X ea (omega arith)) (λ ge. second true b c ea eb ec (omega arith)) (cases_lt n (pairs_before size (raster_index size x y f) + 1))
    by false b c ea eb ec = second false b c ea eb ec (omega arith)

pub find_pair : (size : Size) (i n : ℕ) → HasCells size → i ≤ cell_count size → n < pairs_before size i → HasPair size n
find_pair size zero n some le lt = absurd (omega arith)
find_pair size (suc i) n some le lt = ⊎_elim (λ under. find_pair size i n some (omega arith) under) here (cases_lt n (pairs_before size i))
  where
    here : pairs_before size i ≤ n → HasPair size n
    here ge =
        let at = counts_at size i some (omega arith) in
        let low : pairs_before size (raster_index size (i % size.w) (i / size.w % size.h) (i / size.w / size.h)) ≤ n = subst (λ k. pairs_before size k ≤ n) (sym at.index) ge in
        let high : n < pairs_before size (raster_index size (i % size.w) (i / size.w % size.h) (i / size.w / size.h) + 1) =
        subst (λ k. n < pairs_before size (k + 1)) (sym at.index) (subst (λ k. n < pairs_before size k) (sym (add-one i)) lt) in
        found size (i % size.w) (i / size.w % size.h) (i / size.w / size.h) n at.counts low high

-- and few in a small size
pub pairs_small : (size : Size) (x y f : ℕ) → IsSmall size → AreCounts size x y f → pairs_before size (raster_index size x y f) ≤ most_pairs
pairs_small size x y f small are = omega (arith, pairs_few size (raster_index size x y f), index_below size x y f are, small.cells)

pub walk_small : (size : Size) (walk : Walk) → IsSmall size → IsWalkIn size walk → walk.before ≤ most_pairs
walk_small size walk small is = omega (arith, is.before, pairs_small size walk.at.x walk.at.y walk.at.f small is.counts)

-- a walk that hasn't come to the end is at a cell
pub walk_in : (size : Size) (i : ℕ) (walk : Walk) → IsWalkAt size i walk → i < cell_count size → IsWalkIn size walk
walk_in size i walk is lt = record {
  counts = counts_below size i walk.at.x walk.at.y walk.at.f is.at lt;
  before = is.before ∙ ap (pairs_before size) (sym is.at.index);
}

-- the pairs of the cell before another in its row are the last before those of the other
pub pairs_back : (size : Size) (x y f : ℕ) → 1 ≤ x → AreCounts size x y f
    → pairs_before size (raster_index size x y f) ≡ pairs_before size (raster_index size (x - 1) y f) + pairs_from size (x - 1) y f
pairs_back size x y f some are =
    let here : raster_index size x y f ≡ raster_index size (x - 1) y f + 1 = omega arith in
    ap (pairs_before size) here ∙ pairs_next size (x - 1) y f (record { column = omega (arith, are.column); row = are.row; frame = are.frame })

-- no pair begins at the last cell
pub pairs_before_last : (size : Size) → HasCells size → pair_count size ≡ pairs_before size (raster_index size (size.w - 1) (size.h - 1) (size.f - 1))
pairs_before_last size some =
    let are : AreCounts size (size.w - 1) (size.h - 1) (size.f - 1) = record { column = omega (arith, some.w); row = omega (arith, some.h); frame = omega (arith, some.f) } in
    let end : raster_index size (size.w - 1) (size.h - 1) (size.f - 1) + 1 ≡ cell_count size = last size.w size.h size.f some.w some.h some.f in
    let none : pairs_from size (size.w - 1) (size.h - 1) (size.f - 1) ≡ 0 =
    (λ k. one_if (le-ltb (size.w - 1 + 1) size.w (omega (arith, some.w)) k) + one_if (le-ltb (size.h - 1 + 1) size.h (omega (arith, some.h)) k) + one_if (le-ltb (size.f - 1 + 1) size.f (omega (arith, some.f)) k)) in
    ap (pairs_before size) (sym end) ∙ pairs_next size (size.w - 1) (size.h - 1) (size.f - 1) are ∙ ap (λ n. pairs_before size (raster_index size (size.w - 1) (size.h - 1) (size.f - 1)) + n) none ∙ plain _
  where
    plain : (n : ℕ) → n + (0 + 0 + 0) ≡ n
    plain n = omega arith

    last : (w h f : ℕ) → 1 ≤ w → 1 ≤ h → 1 ≤ f → (w - 1) + w * ((h - 1) + h * (f - 1)) + 1 ≡ w * (h * f)
    last zero h f w1 h1 f1 = absurd (omega arith)
    last (suc w) zero f w1 h1 f1 = absurd (omega arith)
    last (suc w) (suc h) zero w1 h1 f1 = absurd (omega arith)
    last (suc w) (suc h) (suc f) w1 h1 f1 = by (suc w - 1) (suc h - 1) (suc f - 1) (omega arith) (omega arith) (omega arith)
      where
        by : (a b c : ℕ) → a ≡ w → b ≡ h → c ≡ f → a + suc w * (b + suc h * c) + 1 ≡ suc w * (suc h * suc f)
        by a b c ea eb ec = rw (ea, eb, ec) (omega arith)

pub pairs_of_last : (size : Size) → IsSmall size → pair_count size ≡ pairs_before size (raster_index size (size.w - 1) (size.h - 1) (size.f - 1))
pairs_of_last size small = pairs_before_last size (record { w = small.axes.w.0; h = small.axes.h.0; f = small.axes.f.0 })

-- the pairs along X and along Y before a cell are fewer than the cells
pub along_x : (size : Size) (x y f : ℕ) → IsSmall size → AreCounts size x y f → (size.w - 1) * (y + size.h * f) + x ≤ 33554432
along_x size x y f small are =
    let below : x + size.w * (y + size.h * f) < cell_count size = index_below size x y f are in
    let less : size.w - 1 ≤ size.w = omega arith in
    fewer x ((size.w - 1) * (y + size.h * f)) (size.w * (y + size.h * f)) (cell_count size) (mul-le-mul_right (y + size.h * f) less) below small.cells
  where
    fewer : (x a b n : ℕ) → a ≤ b → x + b < n → n ≤ 33554432 → a + x ≤ 33554432
    fewer x a b n le lt few = omega arith

pub along_y : (size : Size) (x y f b : ℕ) → IsSmall size → AreCounts size x y f → b ≤ x → size.w * (y + (size.h - 1) * f) + b ≤ 33554432
along_y size x y f b small are le =
    let below : x + size.w * (y + size.h * f) < cell_count size = index_below size x y f are in
    let less : size.h - 1 ≤ size.h = omega arith in
    let rows : y + (size.h - 1) * f ≤ y + size.h * f = more y ((size.h - 1) * f) (size.h * f) (mul-le-mul_right f less) in
    fewer x b (size.w * (y + (size.h - 1) * f)) (size.w * (y + size.h * f)) (cell_count size) le (mul-le-mul_left size.w rows) below small.cells
  where
    more : (y a b : ℕ) → a ≤ b → y + a ≤ y + b
    more y a b le = omega arith

    fewer : (x c a b n : ℕ) → c ≤ x → a ≤ b → x + b < n → n ≤ 33554432 → a + c ≤ 33554432
    fewer x c a b n some le lt few = omega arith

pub along_fits : (a b : ℕ) → a + b ≤ 33554432 → Fits w64 a × Fits w64 (a + b) × (a + b ≤ 2 ^ 37)
along_fits a b le = (omega arith, omega arith, omega arith)

pub if_at_most : (b : Bool) (x : ℕ) → (if b then x else 0) ≤ x
if_at_most true x = omega arith
if_at_most false x = omega arith

pub if_less : (a n x : ℕ) → a < n → (if nat_lt a n then x else 0) ≡ x
if_less a n x lt = ap (λ b. if b then x else 0) (lt-ltb a n lt)

pub if_not_less : (a n x : ℕ) → n ≤ a → (if nat_lt a n then x else 0) ≡ 0
if_not_less a n x le = ap (λ b. if b then x else 0) (le-ltb a n le)

pub two_fit : (a b : ℕ) → a ≤ 2 ^ 37 → b ≤ 2 ^ 37 → Fits w64 (a + b)
two_fit a b la lb = omega arith

pub three_fit : (a b c : ℕ) → a ≤ 2 ^ 37 → b ≤ 2 ^ 37 → c ≤ 2 ^ 37 → Fits w64 (a + b + c)
three_fit a b c la lb lc = omega arith
