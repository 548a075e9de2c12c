-- The number of pairs before a cell in closed form: it goes up by the pairs of each cell.
use Rattle.std.proofs.Common.{◌≡◌, ℕ, zero, suc, ◌+◌, ◌-◌, ◌*◌, ◌/◌, ◌%◌, ◌<◌, ◌≤◌, refl, ap, sym, ◌∙◌, subst, arith, ⊎_elim, Bool, true, false}
use Rattle.std.specs.Prelude.{if◌then◌else◌, nat_lt}
use Rattle.std.proofs.Math.Nat.{mul_comm, mul-le-mul_left}
use Rattle.std.proofs.Math.Numerals.{add-one}
use Rattle.std.proofs.lemmas.Bool.{cases_lt}
use Rattle.std.proofs.lemmas.Nat.{mod-mul-add, div-mul-add}
use mathlib.Core.Bool.{false≢true}
use borrow.Author.Tests.{lt-ltb, le-ltb, ltb-true, ltb-false}
use Rattle.cells.specs.declared.place.Size.{Size}
use Rattle.cells.specs.Boxes.{HasCells}
use Rattle.cells.specs.Places.{cell_count, raster_index}
use Rattle.boxes.specs.Pairs.{AreCounts, at_index, one_if, pairs_before, pairs_from}
use Rattle.boxes.proofs.Indices.{index_below, parts}

-- the pairs of the cells before a cell, axis by axis
abbrev pub pairs_closed : Size → ℕ → ℕ → ℕ → ℕ
pairs_closed size x y z =
    ((size.w - 1) * (y + size.h * z) + x)
    + (size.w * (y + (size.h - 1) * z) + (if nat_lt (y + 1) size.h then x else 0))
    + (if nat_lt (z + 1) size.f then x + size.w * (y + size.h * z) else size.w * (size.h * (size.f - 1)))

step_x : (size : Size) (x y z : ℕ) → x + 1 < size.w → pairs_closed size (x + 1) y z ≡ pairs_closed size x y z + pairs_from size x y z
step_x size x y z lt = by (nat_lt (y + 1) size.h) (nat_lt (z + 1) size.f) (nat_lt (x + 1) size.w) (lt-ltb (x + 1) size.w lt)
  where
    by : (b c d : Bool) → d ≡ true → ((size.w - 1) * (y + size.h * z) + (x + 1)) + (size.w * (y + (size.h - 1) * z) + (if b then x + 1 else 0)) + (if c then (x + 1) + size.w * (y + size.h * z) else size.w * (size.h * (size.f - 1)))
        ≡ ((size.w - 1) * (y + size.h * z) + x) + (size.w * (y + (size.h - 1) * z) + (if b then x else 0)) + (if c then x + size.w * (y + size.h * z) else size.w * (size.h * (size.f - 1))) + (one_if d + one_if b + one_if c)
    by b c false e = absurd (false≢true e)
    by true true true e = omega arith
    by true false true e = omega arith
    by false true true e = omega arith
    by false false true e = omega arith

-- the end of a row
step_y : (w h f y z : ℕ) → y + 1 < suc h → pairs_closed (record { w = suc w; h = suc h; f = f }) 0 (y + 1) z ≡ pairs_closed (record { w = suc w; h = suc h; f = f }) w y z + pairs_from (record { w = suc w; h = suc h; f = f }) w y z
step_y w h f y z lt = by (nat_lt ((y + 1) + 1) (suc h)) (nat_lt (y + 1) (suc h)) (nat_lt (z + 1) f) (nat_lt (w + 1) (suc w)) (lt-ltb (y + 1) (suc h) lt) (le-ltb (w + 1) (suc w) (omega arith))
  where
    by : (a b c d : Bool) → b ≡ true → d ≡ false
        → ((suc w - 1) * ((y + 1) + suc h * z) + 0) + (suc w * ((y + 1) + (suc h - 1) * z) + (if a then 0 else 0)) + (if c then 0 + suc w * ((y + 1) + suc h * z) else suc w * (suc h * (f - 1)))
        ≡ ((suc w - 1) * (y + suc h * z) + w) + (suc w * (y + (suc h - 1) * z) + (if b then w else 0)) + (if c then w + suc w * (y + suc h * z) else suc w * (suc h * (f - 1))) + (one_if d + one_if b + one_if c)
    by a false c d eb ed = absurd (false≢true eb)
    by a true c true eb ed = absurd (false≢true (sym ed))
    by true true true false eb ed = omega arith
    by true true false false eb ed = omega arith
    by false true true false eb ed = omega arith
    by false true false false eb ed = omega arith

plain : (w h z k : ℕ) → (w * (0 + suc h * (z + 1)) + 0) + (suc w * (0 + h * (z + 1)) + 0) + k ≡ (w * (h + suc h * z) + w) + (suc w * (h + h * z) + 0) + k + (0 + 0 + 0)
plain w h z k = omega arith

inner : (w h z : ℕ) → (w * (0 + suc h * (z + 1)) + 0) + (suc w * (0 + h * (z + 1)) + 0) + (0 + suc w * (0 + suc h * (z + 1))) ≡ (w * (h + suc h * z) + w) + (suc w * (h + h * z) + 0) + (w + suc w * (h + suc h * z)) + (0 + 0 + 1)
inner w h z = omega arith

ends : (w h z : ℕ) → (w * (0 + suc h * (z + 1)) + 0) + (suc w * (0 + h * (z + 1)) + 0) + suc w * (suc h * (z + 1)) ≡ (w * (h + suc h * z) + w) + (suc w * (h + h * z) + 0) + (w + suc w * (h + suc h * z)) + (0 + 0 + 1)
ends w h z = omega arith

-- the end of a frame
step_f : (w h f z : ℕ) → z < suc f → pairs_closed (record { w = suc w; h = suc h; f = suc f }) 0 0 (z + 1) ≡ pairs_closed (record { w = suc w; h = suc h; f = suc f }) w h z + pairs_from (record { w = suc w; h = suc h; f = suc f }) w h z
step_f w h f z lt = by (nat_lt (0 + 1) (suc h)) (nat_lt (h + 1) (suc h)) (nat_lt ((z + 1) + 1) (suc f)) (nat_lt (z + 1) (suc f)) (nat_lt (w + 1) (suc w)) refl refl (le-ltb (h + 1) (suc h) (omega arith)) (le-ltb (w + 1) (suc w) (omega arith))
  where
    by : (a b c c' d : Bool) → nat_lt ((z + 1) + 1) (suc f) ≡ c → nat_lt (z + 1) (suc f) ≡ c' → b ≡ false → d ≡ false
        → ((suc w - 1) * (0 + suc h * (z + 1)) + 0) + (suc w * (0 + (suc h - 1) * (z + 1)) + (if a then 0 else 0)) + (if c then 0 + suc w * (0 + suc h * (z + 1)) else suc w * (suc h * (suc f - 1)))
        ≡ ((suc w - 1) * (h + suc h * z) + w) + (suc w * (h + (suc h - 1) * z) + (if b then w else 0)) + (if c' then w + suc w * (h + suc h * z) else suc w * (suc h * (suc f - 1))) + (one_if d + one_if b + one_if c')
    by a b c c' true ec ec' eb ed = absurd (false≢true (sym ed))
    by a true c c' false ec ec' eb ed = absurd (false≢true (sym eb))
    by true false true true false ec ec' eb ed = sub (suc w - 1) (suc h - 1) (omega arith) (omega arith)
      where
        sub : (v g : ℕ) → v ≡ w → g ≡ h → (v * (0 + suc h * (z + 1)) + 0) + (suc w * (0 + g * (z + 1)) + 0) + (0 + suc w * (0 + suc h * (z + 1)))
            ≡ (v * (h + suc h * z) + w) + (suc w * (h + g * z) + 0) + (w + suc w * (h + suc h * z)) + (0 + 0 + 1)
        sub v g ev eg = rw (ev, eg) (inner w h z)
    by false false true true false ec ec' eb ed = sub (suc w - 1) (suc h - 1) (omega arith) (omega arith)
      where
        sub : (v g : ℕ) → v ≡ w → g ≡ h → (v * (0 + suc h * (z + 1)) + 0) + (suc w * (0 + g * (z + 1)) + 0) + (0 + suc w * (0 + suc h * (z + 1)))
            ≡ (v * (h + suc h * z) + w) + (suc w * (h + g * z) + 0) + (w + suc w * (h + suc h * z)) + (0 + 0 + 1)
        sub v g ev eg = rw (ev, eg) (inner w h z)
    by a false true false false ec ec' eb ed = absurd (omega (arith, ltb-true ((z + 1) + 1) (suc f) ec, ltb-false (z + 1) (suc f) ec'))
    by a false false true false ec ec' eb ed =
        let last : z + 1 ≡ f = omega (arith, ltb-false ((z + 1) + 1) (suc f) ec, ltb-true (z + 1) (suc f) ec') in
        subst (λ n. ((suc w - 1) * (0 + suc h * (z + 1)) + 0) + (suc w * (0 + (suc h - 1) * (z + 1)) + (if a then 0 else 0)) + suc w * (suc h * (suc n - 1))
        ≡ ((suc w - 1) * (h + suc h * z) + w) + (suc w * (h + (suc h - 1) * z) + 0) + (w + suc w * (h + suc h * z)) + (0 + 0 + 1)) last (flat a)
      where
        sub : (v g e : ℕ) → v ≡ w → g ≡ h → e ≡ z + 1 → (v * (0 + suc h * (z + 1)) + 0) + (suc w * (0 + g * (z + 1)) + 0) + suc w * (suc h * e)
            ≡ (v * (h + suc h * z) + w) + (suc w * (h + g * z) + 0) + (w + suc w * (h + suc h * z)) + (0 + 0 + 1)
        sub v g e ev eg ee = rw (ev, eg, ee) (ends w h z)

        flat : (a : Bool) → ((suc w - 1) * (0 + suc h * (z + 1)) + 0) + (suc w * (0 + (suc h - 1) * (z + 1)) + (if a then 0 else 0)) + suc w * (suc h * (suc (z + 1) - 1))
            ≡ ((suc w - 1) * (h + suc h * z) + w) + (suc w * (h + (suc h - 1) * z) + 0) + (w + suc w * (h + suc h * z)) + (0 + 0 + 1)
        flat true = sub (suc w - 1) (suc h - 1) (suc (z + 1) - 1) (omega arith) (omega arith) (omega arith)
        flat false = sub (suc w - 1) (suc h - 1) (suc (z + 1) - 1) (omega arith) (omega arith) (omega arith)
    by true false false false false ec ec' eb ed = flat (suc w - 1) (suc h - 1) (omega arith) (omega arith) (suc w * (suc h * (suc f - 1)))
      where
        flat : (v g : ℕ) → v ≡ w → g ≡ h → (k : ℕ) → (v * (0 + suc h * (z + 1)) + 0) + (suc w * (0 + g * (z + 1)) + 0) + k ≡ (v * (h + suc h * z) + w) + (suc w * (h + g * z) + 0) + k + (0 + 0 + 0)
        flat v g ev eg k = rw (ev, eg) (plain w h z k)
    by false false false false false ec ec' eb ed = flat (suc w - 1) (suc h - 1) (omega arith) (omega arith) (suc w * (suc h * (suc f - 1)))
      where
        flat : (v g : ℕ) → v ≡ w → g ≡ h → (k : ℕ) → (v * (0 + suc h * (z + 1)) + 0) + (suc w * (0 + g * (z + 1)) + 0) + k ≡ (v * (h + suc h * z) + w) + (suc w * (h + g * z) + 0) + k + (0 + 0 + 0)
        flat v g ev eg k = rw (ev, eg) (plain w h z k)

parts_of : (w i : ℕ) → 0 < w → i ≡ i / w * w + i % w
parts_of w i some = omega (arith, mul_comm w (i / w))

on_in_row : (w i : ℕ) → i % w + 1 < w → ((i + 1) % w ≡ i % w + 1) × ((i + 1) / w ≡ i / w)
on_in_row w i lt =
    let e : i + 1 ≡ i / w * w + (i % w + 1) = omega (arith, parts_of w i (omega arith)) in
    (ap (λ n. n % w) e ∙ mod-mul-add (i / w) w (i % w + 1) lt, ap (λ n. n / w) e ∙ div-mul-add (i / w) w (i % w + 1) lt)

on_in_next : (w i : ℕ) → 0 < w → w ≤ i % w + 1 → ((i + 1) % w ≡ 0) × ((i + 1) / w ≡ i / w + 1)
on_in_next w i some le =
    let last : i % w + 1 ≡ w = omega arith in
    let e : i + 1 ≡ (i / w + 1) * w + 0 = omega (arith, parts_of w i some, mul_comm w (i / w), last) in
    (ap (λ n. n % w) e ∙ mod-mul-add (i / w + 1) w 0 some, ap (λ n. n / w) e ∙ div-mul-add (i / w + 1) w 0 some)

abbrev rank : Size → ℕ → ℕ
rank size i = pairs_closed size (i % size.w) (i / size.w % size.h) (i / size.w / size.h)

row_end : (w h f x y z : ℕ) → suc x ≡ w → y + 1 < h → pairs_closed (record { w = w; h = h; f = f }) 0 (y + 1) z ≡ pairs_closed (record { w = w; h = h; f = f }) x y z + pairs_from (record { w = w; h = h; f = f }) x y z
row_end w zero f x y z e lt = absurd (omega arith)
row_end w (suc h) f x y z e lt = subst (λ w. pairs_closed (record { w = w; h = suc h; f = f }) 0 (y + 1) z ≡ pairs_closed (record { w = w; h = suc h; f = f }) x y z + pairs_from (record { w = w; h = suc h; f = f }) x y z) e (step_y x h f y z lt)

frame_end : (w h f x y z : ℕ) → suc x ≡ w → suc y ≡ h → z < f → pairs_closed (record { w = w; h = h; f = f }) 0 0 (z + 1) ≡ pairs_closed (record { w = w; h = h; f = f }) x y z + pairs_from (record { w = w; h = h; f = f }) x y z
frame_end w h zero x y z e d lt = absurd (omega arith)
frame_end w h (suc f) x y z e d lt =
    subst (λ w. pairs_closed (record { w = w; h = h; f = suc f }) 0 0 (z + 1) ≡ pairs_closed (record { w = w; h = h; f = suc f }) x y z + pairs_from (record { w = w; h = h; f = suc f }) x y z) e
    (subst (λ h. pairs_closed (record { w = suc x; h = h; f = suc f }) 0 0 (z + 1) ≡ pairs_closed (record { w = suc x; h = h; f = suc f }) x y z + pairs_from (record { w = suc x; h = h; f = suc f }) x y z) d (step_f x y f z lt))

below_of_div : (w n i : ℕ) → 0 < w → i < w * n → i / w < n
below_of_div w n i some lt = ⊎_elim (λ less. less) (λ ge. absurd (omega (arith, mul-le-mul_left w ge))) (cases_lt (i / w) n)

rank_more : (size : Size) (i : ℕ) → 0 < size.w → 0 < size.h → i < cell_count size → rank size (i + 1) ≡ rank size i + pairs_from size (i % size.w) (i / size.w % size.h) (i / size.w / size.h)
rank_more size i w h lt = ⊎_elim inside (λ end. ⊎_elim (row end) (frame end) (cases_lt (i / size.w % size.h + 1) size.h)) (cases_lt (i % size.w + 1) size.w)
  where
    x : ℕ
    x = i % size.w

    at : (a b c : ℕ) → (i + 1) % size.w ≡ a → (i + 1) / size.w % size.h ≡ b → (i + 1) / size.w / size.h ≡ c → rank size (i + 1) ≡ pairs_closed size a b c
    at a b c ea eb ec = λ k. pairs_closed size (ea k) (eb k) (ec k)

    inside : i % size.w + 1 < size.w → rank size (i + 1) ≡ rank size i + pairs_from size (i % size.w) (i / size.w % size.h) (i / size.w / size.h)
    inside less = let n = on_in_row size.w i less in
        at _ _ _ (n.0) (ap (λ j. j % size.h) n.1) (ap (λ j. j / size.h) n.1) ∙ step_x size (i % size.w) (i / size.w % size.h) (i / size.w / size.h) less

    row : size.w ≤ i % size.w + 1 → i / size.w % size.h + 1 < size.h → rank size (i + 1) ≡ rank size i + pairs_from size (i % size.w) (i / size.w % size.h) (i / size.w / size.h)
    row end less = let n = on_in_next size.w i w end in let m = on_in_row size.h (i / size.w) less in
        at _ _ _ n.0 (ap (λ j. j % size.h) n.1 ∙ m.0) (ap (λ j. j / size.h) n.1 ∙ m.1)
        ∙ row_end size.w size.h size.f (i % size.w) (i / size.w % size.h) (i / size.w / size.h) (omega arith) less

    frame : size.w ≤ i % size.w + 1 → size.h ≤ i / size.w % size.h + 1 → rank size (i + 1) ≡ rank size i + pairs_from size (i % size.w) (i / size.w % size.h) (i / size.w / size.h)
    frame end last = let n = on_in_next size.w i w end in let m = on_in_next size.h (i / size.w) h last in
        at _ _ _ n.0 (ap (λ j. j % size.h) n.1 ∙ m.0) (ap (λ j. j / size.h) n.1 ∙ m.1)
        ∙ frame_end size.w size.h size.f (i % size.w) (i / size.w % size.h) (i / size.w / size.h) (omega arith) (omega arith) (below_of_div size.h size.f (i / size.w) h (below_of_div size.w (size.h * size.f) i w lt))

-- the closed form counts the pairs of the cells before an index
closed_first : (size : Size) → HasCells size → pairs_closed size 0 0 0 ≡ 0
closed_first size some = by (nat_lt (0 + 1) size.h) (nat_lt (0 + 1) size.f) refl
  where
    empty : (w h f : ℕ) → f ≡ 0 → w * (h * f) ≡ 0
    empty w h f e = rw e (omega arith)

    by : (b c : Bool) → nat_lt (0 + 1) size.f ≡ c
        → ((size.w - 1) * (0 + size.h * 0) + 0) + (size.w * (0 + (size.h - 1) * 0) + (if b then 0 else 0)) + (if c then 0 + size.w * (0 + size.h * 0) else size.w * (size.h * (size.f - 1))) ≡ 0
    by true true e = omega arith
    by false true e = omega arith
    by true false e = omega (arith, empty size.w size.h (size.f - 1) (omega (arith, ltb-false (0 + 1) size.f e)))
    by false false e = omega (arith, empty size.w size.h (size.f - 1) (omega (arith, ltb-false (0 + 1) size.f e)))

rank_is : (size : Size) → HasCells size → (i : ℕ) → i ≤ cell_count size → pairs_before size i ≡ rank size i
rank_is size some zero le = sym ((λ k. pairs_closed size (x k) (y k) (f k)) ∙ closed_first size some)
  where
    x : 0 % size.w ≡ 0
    x = omega (arith, some.w)

    y : 0 / size.w % size.h ≡ 0
    y = omega (arith, some.w, some.h)

    f : 0 / size.w / size.h ≡ 0
    f = omega (arith, some.w, some.h)
rank_is size some (suc i) le =
    ap (λ n. n + at_index size (pairs_from size) i) (rank_is size some i (omega arith)) ∙ sym (rank_more size i some.w some.h (omega arith)) ∙ ap (rank size) (add-one i)

-- so it counts those before a cell
pub closed_is : (size : Size) → HasCells size → (x y f : ℕ) → AreCounts size x y f → pairs_before size (raster_index size x y f) ≡ pairs_closed size x y f
closed_is size some x y f are =
    let at = parts size x y f are.column are.row in
    let below = index_below size x y f are in
    rank_is size some (raster_index size x y f) (omega arith) ∙ (λ k. pairs_closed size (at.column k) (at.row k) (at.frame k))
