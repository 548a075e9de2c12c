-- The greatest of the numbers of a table, and the window that it belongs to.
use Rattle.std.proofs.Common.{◌≡◌, ◌≤◌, ◌<◌, ◌+◌, ◌*◌, ◌⊎◌, ℕ, List, length, get_or, ap, sym, ◌∙◌, subst, arith, ⊎_elim}
use Rattle.std.proofs.Math.Nat.{mul-le-mul_left}
use Rattle.std.proofs.lemmas.Bool.{cases_lt}
use Rattle.std.proofs.lemmas.Int.{ints}
use Rattle.std.specs.Prelude.{ℤ, pos, negsuc, Option, Some}
use Rattle.cells.specs.declared.place.At.{At}
use Rattle.cells.specs.declared.place.Size.{Size}
use Rattle.cells.specs.Places.{cell_count, index_in, place_of}
use Rattle.cells.specs.Boxes.{AxisHolds, HoldsBox}
use Rattle.cells.proofs.Raster.{index_below, index_of_spot, index_parts, place_at}
use Rattle.cost_windows.proofs.Rows.{row_at_most}
use Rattle.cost_windows.specs.Windows.{IsWorst, NotAfter, window_at}
use Rattle.cost_windows.specs.Tables.{IsGreatest, IsRight, IsSumTable, IsWindow, WindowSums, corners}

pub greatest_of_one : (xs : List ℕ) → IsGreatest xs 1 0
greatest_of_one xs = record {
  below = omega arith;
  most = λ i lt. let e = ap (λ k. get_or xs k 0) (let zero : i ≡ 0 = omega arith in zero) in omega arith;
  first = λ i lt same. omega arith;
}

pub greatest_more : (xs : List ℕ) (i best more : ℕ) → IsGreatest xs i best
    → ((get_or xs best 0 < get_or xs i 0) × (more ≡ i)) ⊎ ((get_or xs i 0 ≤ get_or xs best 0) × (more ≡ best)) → IsGreatest xs (i + 1) more
greatest_more xs i best more is = ⊎_elim
    (λ above.
    let here = ap (λ k. get_or xs k 0) above.1 in
    record {
      below = omega arith;
      most = λ k lt. ⊎_elim
          (λ before. let le = is.most k before in omega arith)
          (λ from. let e = ap (λ k. get_or xs k 0) (let same : k ≡ i = omega arith in same) in omega arith)
          (cases_lt k i);
      first = λ k lt same. ⊎_elim
          (λ before. let le = is.most k before in absurd (omega arith))
          (λ from. omega arith)
          (cases_lt k i);
    })
    (λ under.
    let here = ap (λ k. get_or xs k 0) under.1 in
    record {
      below = omega (arith, is.below);
      most = λ k lt. ⊎_elim
          (λ before. let le = is.most k before in omega arith)
          (λ from. let e = ap (λ k. get_or xs k 0) (let same : k ≡ i = omega arith in same) in omega arith)
          (cases_lt k i);
      first = λ k lt same. ⊎_elim
          (λ before. omega (arith, is.first k before (omega arith)))
          (λ from. omega (arith, is.below))
          (cases_lt k i);
    })

-- the order of rows doesn't depend on their width
wider : (w wide x r a s : ℕ) → x < w → a < w → w ≤ wide → x + w * r < a + w * s → x + wide * r < a + wide * s
wider w wide x r a s lx la le lt = ⊎_elim
    (λ less. omega (arith, mul-le-mul_left wide (let next : r + 1 ≤ s = omega arith in next)))
    (λ from.
    let same : r ≡ s = omega (arith, row_at_most w x r a s la (omega arith)) in
    omega (arith, ap (λ k. w * k) same, ap (λ k. wide * k) same))
    (cases_lt r s)

-- nor does the order of raster indices
not_after : (w h wide high x y f a b c : ℕ) → x < w → y < h → a < w → b < h → w ≤ wide → h ≤ high
    → x + w * (y + h * f) ≤ a + w * (b + h * c) → x + wide * (y + high * f) ≤ a + wide * (b + high * c)
not_after w h wide high x y f a b c lx ly la lb lw lh le = ⊎_elim
    (λ less.
    let more : y + high * f + 1 ≤ b + high * c = omega (arith, wider h high y f b c ly lb lh less) in
    omega (arith, mul-le-mul_left wide more))
    (λ from.
    let rows : y + h * f ≡ b + h * c = omega (arith, row_at_most w x (y + h * f) a (b + h * c) la le) in
    let frames : f ≡ c = omega (arith, row_at_most h y f b c lb (omega arith), row_at_most h b c y f ly (omega arith)) in
    let row : y ≡ b = omega (arith, rows, ap (λ k. h * k) frames) in
    let high_rows : y + high * f ≡ b + high * c = omega (arith, row, ap (λ k. high * k) frames) in
    omega (arith, le, ap (λ k. w * k) rows, ap (λ k. wide * k) high_rows))
    (cases_lt (y + h * f) (b + h * c))

-- a window's corner by its counts
count_of : (n : ℕ) (z : ℤ) (len : ℕ) → AxisHolds n z len → (c : ℕ) × (z ≡ pos c) × (c + len ≤ n)
count_of n (pos c) len holds = (c, λ k. pos c, omega (arith, ints, holds.to))
count_of n (negsuc c) len holds = absurd (omega (arith, ints, holds.from))

axis_holds : (n c len : ℕ) → c + len ≤ n → AxisHolds n (pos c) len
axis_holds n c len le = record { from = omega (arith, ints); to = omega (arith, ints) }

-- an output holds the windows at its corners
pub corner_holds : (output window : Size) (corner : At) (i : ℕ) → IsWindow output window → index_in (corners output window) corner ≡ Some i → HoldsBox output corner window
corner_holds output window corner i is at =
    let on = index_parts (corners output window) corner i at in
    record {
      x = subst (λ z. AxisHolds output.w z window.w) (sym on.x_on.is) (axis_holds output.w on.x window.w (omega (arith, on.x_on.below)));
      y = subst (λ z. AxisHolds output.h z window.h) (sym on.y_on.is) (axis_holds output.h on.y window.h (omega (arith, on.y_on.below)));
      f = subst (λ z. AxisHolds output.f z window.f) (sym on.f_on.is) (axis_holds output.f on.f window.f (omega (arith, on.f_on.below)));
    }

-- and a window that it holds has a corner's index
index_of_window : (output window : Size) (corner : At) → IsWindow output window → HoldsBox output corner window → (i : ℕ) × (index_in (corners output window) corner ≡ Some i)
index_of_window output window corner is holds =
    let x = count_of output.w corner.x window.w holds.x in
    let y = count_of output.h corner.y window.h holds.y in
    let f = count_of output.f corner.f window.f holds.f in
    let size = corners output window in (
      x.0 + size.w * (y.0 + size.h * f.0),
      ap (index_in size) (λ k. record { x = x.1 k; y = y.1 k; f = f.1 k })
          ∙ index_of_spot size x.0 y.0 f.0 (omega (arith, x.2, is.some.w)) (omega (arith, y.2, is.some.h)) (omega (arith, f.2, is.some.f)),
    )

-- raster order of corners is that of the output
corners_in_order : (output window : Size) (p q : At) (i j : ℕ) → IsWindow output window
    → index_in (corners output window) p ≡ Some i → index_in (corners output window) q ≡ Some j → i ≤ j → NotAfter output p q
corners_in_order output window p q i j is ep eq le = λ n m en em.
    let size = corners output window in
    let a = index_parts size p i ep in
    let b = index_parts size q j eq in
    let c = index_parts output p n en in
    let d = index_parts output q m em in
    let order = not_after size.w size.h output.w output.h a.x a.y a.f b.x b.y b.f a.x_on.below a.y_on.below b.x_on.below b.y_on.below (omega (arith, is.some.w)) (omega (arith, is.some.h)) (omega (arith, le, a.index, b.index)) in
    let first = same_index output a.x a.y a.f c.x c.y c.f (one_count p.x a.x c.x a.x_on.is c.x_on.is) (one_count p.y a.y c.y a.y_on.is c.y_on.is) (one_count p.f a.f c.f a.f_on.is c.f_on.is) in
    let second = same_index output b.x b.y b.f d.x d.y d.f (one_count q.x b.x d.x b.x_on.is d.x_on.is) (one_count q.y b.y d.y b.y_on.is d.y_on.is) (one_count q.f b.f d.f b.f_on.is d.f_on.is) in
    omega (arith, order, first, second, c.index, d.index)
  where
    one_count : (z : ℤ) (a c : ℕ) → z ≡ pos a → z ≡ pos c → a ≡ c
    one_count z a c ea ec = omega (arith, ints, ea, ec)

    same_index : (size : Size) (x y f a b c : ℕ) → x ≡ a → y ≡ b → f ≡ c → x + size.w * (y + size.h * f) ≡ a + size.w * (b + size.h * c)
    same_index size x y f a b c ex ey ef = λ k. ex k + size.w * (ey k + size.h * ef k)

-- the corner of the greatest sum of a table that is right, and that sum
pub record IsWorstAt (d : At → At → ℕ) (m : At → Option At) (table : WindowSums) (i : ℕ) : Type 0 where
  pub worst : IsWorst d table.output m table.window (place_of (corners table.output table.window) i)
  pub cost : get_or table.sums i 0 ≡ window_at d table.window m (place_of (corners table.output table.window) i)

pub worst_of_greatest : (d : At → At → ℕ) (m : At → Option At) (table : WindowSums) (i : ℕ) → IsSumTable table → IsGreatest table.sums (length table.sums) i
    → IsRight d m table → IsWorstAt d m table i
worst_of_greatest d m table i is greatest right =
    let size = corners table.output table.window in
    let corner = place_of size i in
    let below : i < cell_count size = omega (arith, greatest.below, is.count) in
    let here = place_at size i (omega (arith, is.window.w)) (omega (arith, is.window.h)) below in
    let cost = right corner i here in
    record {
      worst = record {
        inside = corner_holds table.output table.window corner i is.window here;
        greatest = λ other holds.
            let at = index_of_window table.output table.window other is.window holds in
            omega (arith, greatest.most at.0 (omega (arith, index_below size other at.0 at.1, is.count)), cost, right other at.0 at.1);
        first = λ other holds same.
            let at = index_of_window table.output table.window other is.window holds in
            corners_in_order table.output table.window corner other i at.0 is.window here at.1
            (greatest.first at.0 (omega (arith, index_below size other at.0 at.1, is.count)) (right other at.0 at.1 ∙ same ∙ sym cost));
      };
      cost = cost;
    }

-- the same for a corner and a cost as they were found
pub worst_found : (d : At → At → ℕ) (m : At → Option At) (table : WindowSums) (sums : List ℕ) (size : Size) (i : ℕ) (corner : At) → IsSumTable table
    → sums ≡ table.sums → size ≡ corners table.output table.window → IsGreatest sums (length sums) i → corner ≡ place_of size i → IsRight d m table
    → IsWorst d table.output m table.window corner × (get_or sums i 0 ≡ window_at d table.window m corner)
worst_found d m table sums size i corner is same shape greatest at right =
    let place : corner ≡ place_of (corners table.output table.window) i = at ∙ ap (λ s. place_of s i) shape in
    let found = worst_of_greatest d m table i is (subst (λ xs. IsGreatest xs (length xs) i) same greatest) right in
    (subst (IsWorst d table.output m table.window) (sym place) found.worst, ap (λ xs. get_or xs i 0) same ∙ found.cost ∙ ap (window_at d table.window m) (sym place))
