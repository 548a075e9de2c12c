-- Places of an output by their counts on three axes, and which of them the box of three spans has.
use Rattle.std.proofs.Common.{◌≡◌, ℕ, ◌+◌, ◌*◌, ◌<◌, ◌≤◌, arith}
use Rattle.std.proofs.lemmas.Int.{ints}
use Rattle.std.specs.Prelude.{pos, ◌-ℤ◌, Some}
use Rattle.cells.specs.declared.place.At.{At}
use Rattle.cells.specs.declared.place.Size.{Size}
use Rattle.cells.specs.Boxes.{IsInBox}
use Rattle.cells.specs.Places.{HasAxes, cell_count, index_in, minus, place_of, spot}
use Rattle.cells.proofs.BoxTests.{inside_of, of_inside, on_axis_bounds, on_axis_some}
use Rattle.cells.proofs.Raster.{index_parts, place_at}
use Rattle.boxes.specs.declared.spans.Span.{Span}
use Rattle.patch_picks.specs.Lists.{placed}

-- which places the box of three spans has
pub record IsAmong (x y f : Span) (a b c : ℕ) : Type 0 where
  pub left : x.corner ≤ a
  pub right : a < x.corner + x.len
  pub top : y.corner ≤ b
  pub bottom : b < y.corner + y.len
  pub front : f.corner ≤ c
  pub back : c < f.corner + f.len

pub in_box : (x y f : Span) (a b c : ℕ) → IsAmong x y f a b c → IsInBox (placed x y f).rect (spot a b c)
in_box x y f a b c is =
    inside_of (placed x y f).rect.size (minus (spot a b c) (placed x y f).rect.corner)
    (record {
      x = on_axis_some x.len (pos a -ℤ pos x.corner) (omega (arith, ints, is.left)) (omega (arith, ints, is.right));
      y = on_axis_some y.len (pos b -ℤ pos y.corner) (omega (arith, ints, is.top)) (omega (arith, ints, is.bottom));
      f = on_axis_some f.len (pos c -ℤ pos f.corner) (omega (arith, ints, is.front)) (omega (arith, ints, is.back));
    })

pub of_box : (x y f : Span) (a b c : ℕ) → IsInBox (placed x y f).rect (spot a b c) → IsAmong x y f a b c
of_box x y f a b c has =
    let on = of_inside (placed x y f).rect.size (minus (spot a b c) (placed x y f).rect.corner) has in
    let along = on_axis_bounds x.len (pos a -ℤ pos x.corner) on.x in
    let down = on_axis_bounds y.len (pos b -ℤ pos y.corner) on.y in
    let over = on_axis_bounds f.len (pos c -ℤ pos f.corner) on.f in
    record {
      left = omega (arith, ints, along.0);
      right = omega (arith, ints, along.1);
      top = omega (arith, ints, down.0);
      bottom = omega (arith, ints, down.1);
      front = omega (arith, ints, over.0);
      back = omega (arith, ints, over.1);
    }

-- a place of an output by its column, row and frame
pub record IsSpot (size : Size) (q : At) (i : ℕ) : Type 0 where
  pub x : ℕ
  pub y : ℕ
  pub f : ℕ
  pub place : q ≡ spot x y f
  pub column : x < size.w
  pub row : y < size.h
  pub frame : f < size.f
  pub index : i ≡ x + size.w * (y + size.h * f)

same_place : (p q : At) → p.x ≡ q.x → p.y ≡ q.y → p.f ≡ q.f → p ≡ q
same_place p q x y f = λ i. record { x = x i; y = y i; f = f i }

pub spot_in : (size : Size) (q : At) (i : ℕ) → index_in size q ≡ Some i → IsSpot size q i
spot_in size q i e =
    let at = index_parts size q i e in
    record {
      x = at.x;
      y = at.y;
      f = at.f;
      place = same_place q (spot at.x at.y at.f) at.x_on.is at.y_on.is at.f_on.is;
      column = at.x_on.below;
      row = at.y_on.below;
      frame = at.f_on.below;
      index = at.index;
    }

pub spot_at : (size : Size) → HasAxes size → (i : ℕ) → i < cell_count size → IsSpot size (place_of size i) i
spot_at size axes i lt = spot_in size (place_of size i) i (place_at size i axes.w.0 axes.h.0 lt)
