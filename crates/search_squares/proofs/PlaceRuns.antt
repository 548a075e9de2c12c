-- Runs of places along X.
use Rattle.std.proofs.Common.{◌≡◌, ℕ, ◌+◌, ◌*◌, ◌/◌, ◌<◌, ◌≤◌, ◌&&◌, int_eq, true, refl, sym, subst, arith}
use Rattle.std.proofs.Math.Nat.{mul-le-mul_left}
use Rattle.std.proofs.lemmas.Bool.Decides.{Decides-and, Decides-int_eq}
use Rattle.std.proofs.lemmas.Nat.{div-add-mod', mod_below}
use Rattle.std.proofs.lemmas.Int.{ints}
use Rattle.std.specs.Prelude.{ℤ, pos, ◌+ℤ◌, ◌-ℤ◌, IsSome}
use Rattle.std.proofs.lemmas.Nat.Bits.{bit_at-zero}
use Rattle.cells.specs.declared.place.At.{At}
use Rattle.cells.specs.declared.place.Box3.{Box3}
use Rattle.cells.specs.declared.place.Size.{Size}
use Rattle.cells.specs.Boxes.{AxisHolds}
use Rattle.cells.specs.Cells.{Cells, Holds}
use Rattle.cells.specs.Places.{HasAxes, IsInside, minus, spot}
use Rattle.cells.proofs.BoxTests.{each_of_axes, of_inside, on_axis_bounds}
use Rattle.cells.proofs.Raster.{index_of_spot}
use Rattle.search_squares.specs.declared.eliminated.Eliminated.{Eliminated}
use Rattle.search_squares.specs.Bounds.{IsBoxIn, IsMarked, place_along}
use Rattle.search_squares.specs.Eliminations.{IsInRun, run_box}

-- no place is marked by 0
pub none_marked : (j : ℕ) → IsMarked 0 j → ⊥
none_marked j marked = absurd (omega (arith, bit_at-zero j, marked))

-- the place of a run that is so many steps past its first
pub along : (run : Eliminated) (at : At) (j : ℕ) → IsInRun run at → at.x -ℤ run.from.x ≡ pos j → (j < run.n) × (at ≡ place_along run.from j)
along run at j inside steps =
    let on = of_inside (run_box run).size (minus at run.from) inside in
    let x = on_axis_bounds run.n (at.x -ℤ run.from.x) on.x in
    let y = on_axis_bounds 1 (at.y -ℤ run.from.y) on.y in
    let f = on_axis_bounds 1 (at.f -ℤ run.from.f) on.f in
    let x_is : at.x ≡ run.from.x +ℤ pos j = omega (arith, ints, steps) in
    let y_is : at.y ≡ run.from.y +ℤ pos 0 = omega (arith, ints, y) in
    let f_is : at.f ≡ run.from.f +ℤ pos 0 = omega (arith, ints, f) in
    (omega (arith, ints, x, steps), λ k. record { x = x_is k; y = y_is k; f = f_is k })

-- the first cell of a size with axes is inside
pub first_inside : (size : Size) → HasAxes size → IsInside size (spot 0 0 0)
first_inside size axes = subst IsSome (sym (index_of_spot size 0 0 0 axes.w.0 axes.h.0 axes.f.0)) refl

-- a box in another that is held is held
pub inner_held : (v : Cells) (outer : Box3) (corner : At) (inner : Size) → IsBoxIn outer corner inner → Holds v outer.corner outer.size → Holds v corner inner
inner_held v outer corner inner inside holds p has =
    holds p (each_of_axes outer.size (record { corner = minus corner outer.corner; size = inner }) inside (minus p outer.corner) (subst (IsInside inner) (sym same) has))
  where
    apart : (a b c : ℤ) → (a -ℤ b) -ℤ (c -ℤ b) ≡ a -ℤ c
    apart a b c = omega (arith, ints)

    same : minus (minus p outer.corner) (minus corner outer.corner) ≡ minus p corner
    same = λ k. record { x = apart p.x outer.corner.x corner.x k; y = apart p.y outer.corner.y corner.y k; f = apart p.f outer.corner.f corner.f k }

-- a box laid from each of some places along X lies in another
pub each_in : (outer : Box3) (inner : Size) (from : At) (n more : ℕ) → n ≤ more + 1 → AxisHolds outer.size.w (from.x -ℤ outer.corner.x) (inner.w + more) → AxisHolds outer.size.h (from.y -ℤ outer.corner.y) (inner.h + 0)
    → AxisHolds outer.size.f (from.f -ℤ outer.corner.f) (inner.f + 0) → (j : ℕ) → j < n → IsBoxIn outer (place_along from j) inner
each_in outer inner from n more few x y f j lj = record {
  x = record { from = omega (arith, ints, x.from); to = omega (arith, ints, x.to, few, lj) };
  y = record { from = omega (arith, ints, y.from); to = omega (arith, ints, y.to) };
  f = record { from = omega (arith, ints, f.from); to = omega (arith, ints, f.to) };
}

-- a place of a run, counted on from another
pub along_on : (from : At) (i j : ℕ) → place_along (place_along from i) j ≡ place_along from (i + j)
along_on from i j = λ k. record { x = further from.x i j k; y = stay from.y k; f = stay from.f k }
  where
    further : (z : ℤ) (n m : ℕ) → (z +ℤ pos n) +ℤ pos m ≡ z +ℤ pos (n + m)
    further z n m = omega (arith, ints)

    stay : (z : ℤ) → (z +ℤ pos 0) +ℤ pos 0 ≡ z +ℤ pos 0
    stay z = omega (arith, ints)

-- two places that compare as the same are
pub same_place : (p q : At) → (int_eq p.x q.x && (int_eq p.y q.y && int_eq p.f q.f)) ≡ true → p ≡ q
same_place p q equal =
    let parts = (Decides-and _ _ (Decides-int_eq p.x q.x) (Decides-and _ _ (Decides-int_eq p.y q.y) (Decides-int_eq p.f q.f))).0 equal in
    λ k. record { x = parts.0 k; y = parts.1.0 k; f = parts.1.1 k }

-- a sum above a limit, taken some times, is above a limit that is at most as many times as great
pub times_above : (n limit most sum other : ℕ) → 1 ≤ n → limit / n ≤ most → most < sum → n * sum ≤ other → limit < other
times_above n limit most sum other some le lt more =
    let far : limit / n + 1 ≤ sum = omega (arith, le, lt) in
    omega (arith, div-add-mod' limit n, mod_below limit n some, mul-le-mul_left n far, more)
