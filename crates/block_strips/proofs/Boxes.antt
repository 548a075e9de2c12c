-- Cells and boxes of one frame of a picture, by columns and rows: those of blocks.
use Rattle.std.proofs.Common.{◌≡◌, ℕ, ◌+◌, ◌*◌, ◌<◌, ◌≤◌, refl, ap, sym, ◌∙◌, subst, arith}
use Rattle.std.proofs.lemmas.Int.{ints}
use Rattle.std.specs.Prelude.{pos, ◌-ℤ◌, IsSome, Some}
use Rattle.cells.specs.declared.place.At.{At}
use Rattle.cells.specs.declared.place.Box3.{Box3}
use Rattle.cells.specs.declared.place.Size.{Size}
use Rattle.cells.specs.Boxes.{AxisHolds, HasCells, IsInBox}
use Rattle.cells.specs.Places.{IsInside, index_in, minus, spot}
use Rattle.cells.proofs.BoxTests.{inside_of, of_inside, on_axis_bounds, on_axis_some}
use Rattle.cells.proofs.Raster.{has_index, index_of_spot, index_parts}
use Rattle.boxes.specs.Spans.{SpanFits}
use Rattle.boxes.proofs.SpanLaws.{grid_fits}
use Rattle.boxes.specs.declared.spans.Span.{Span}
use Rattle.block_strips.specs.declared.plan.QuiltPlan.{QuiltPlan}
use Rattle.block_strips.specs.Blocks.{FitsBlock, block_at, block_len, block_on, box_of}

-- the box of one frame at a column and a row, with so many of both
abbrev pub grid_box : ℕ → ℕ → ℕ → ℕ → Box3
grid_box x y w h = record { corner = spot x y 0; size = record { w = w; h = h; f = 1 } }

-- which places it has
pub record IsAmong (x y w h a b : ℕ) : Type 0 where
  pub left : x ≤ a
  pub right : a < x + w
  pub top : y ≤ b
  pub bottom : b < y + h

pub in_box : (x y w h a b : ℕ) → IsAmong x y w h a b → IsInBox (grid_box x y w h) (spot a b 0)
in_box x y w h a b is =
    inside_of (record { w = w; h = h; f = 1 }) (minus (spot a b 0) (spot x y 0))
    (record {
      x = on_axis_some w (pos a -ℤ pos x) (omega (arith, ints, is.left)) (omega (arith, ints, is.right));
      y = on_axis_some h (pos b -ℤ pos y) (omega (arith, ints, is.top)) (omega (arith, ints, is.bottom));
      f = on_axis_some 1 (pos 0 -ℤ pos 0) (omega (arith, ints)) (omega (arith, ints));
    })

pub of_box : (x y w h a b : ℕ) → IsInBox (grid_box x y w h) (spot a b 0) → IsAmong x y w h a b
of_box x y w h a b has =
    let on = of_inside (record { w = w; h = h; f = 1 }) (minus (spot a b 0) (spot x y 0)) has in
    let along = on_axis_bounds w (pos a -ℤ pos x) on.x in
    let down = on_axis_bounds h (pos b -ℤ pos y) on.y in
    record {
      left = omega (arith, ints, along.0);
      right = omega (arith, ints, along.1);
      top = omega (arith, ints, down.0);
      bottom = omega (arith, ints, down.1);
    }

-- a place of a picture by its column and row
pub record IsSpot (size : Size) (q : At) (i : ℕ) : Type 0 where
  pub x : ℕ
  pub y : ℕ
  pub place : q ≡ spot x y 0
  pub column : x < size.w
  pub row : y < size.h
  pub index : i ≡ x + size.w * y

same_place : (p q : At) → p.x ≡ q.x → p.y ≡ q.y → p.f ≡ q.f → p ≡ q
same_place p q x y f = λ i. record { x = x i; y = y i; f = f i }

pub spot_of_index : (size : Size) (q : At) (i : ℕ) → size.f ≡ 1 → index_in size q ≡ Some i → IsSpot size q i
spot_of_index size q i one e =
    let at = index_parts size q i e in
    let first : at.f ≡ 0 = omega (arith, at.f_on.below, one) in
    let rows : at.y + size.h * at.f ≡ at.y = ap (λ f. at.y + size.h * f) first ∙ none at.y size.h in
    record {
      x = at.x;
      y = at.y;
      place = same_place q (spot at.x at.y 0) at.x_on.is at.y_on.is (at.f_on.is ∙ ap pos first);
      column = at.x_on.below;
      row = at.y_on.below;
      index = at.index ∙ ap (λ n. at.x + size.w * n) rows;
    }
  where
    none : (y h : ℕ) → y + h * 0 ≡ y
    none y h = omega arith

pub spot_inside : (size : Size) (x y : ℕ) → size.f ≡ 1 → x < size.w → y < size.h → IsInside size (spot x y 0)
spot_inside size x y one lx ly = subst IsSome (sym (index_of_spot size x y 0 lx ly (omega (arith, one)))) refl

-- a fact of each place of a picture by its column and row
pub each_spot : (P : At → Type 0) (size : Size) → size.f ≡ 1 → ((x y : ℕ) → x < size.w → y < size.h → P (spot x y 0)) → (q : At) → IsInside size q → P q
each_spot P size one each q inside =
    let at = spot_of_index size q _ one (has_index (index_in size q) 0 inside) in
    subst P (sym at.place) (each at.x at.y at.column at.row)

-- the block that has a cell of the output lies in it, and has a place in the sample
on_axis_held : (n a len : ℕ) → a + len ≤ n → AxisHolds n (pos a) len
on_axis_held n a len le = record { from = omega (arith, ints); to = omega (arith, ints) }

pub spans_fit : (output sample : Size) (B D a b : ℕ) (x y : Span) → SpanFits output.w B a x → SpanFits output.h D b y → B ≤ sample.w → D ≤ sample.h → 1 ≤ output.f → 1 ≤ sample.f → FitsBlock output sample (box_of x y)
spans_fit output sample B D a b x y along down most_w most_h frames some = record {
  some = record { w = along.some; h = down.some; f = omega arith };
  inside = record { x = on_axis_held _ _ _ along.inside; y = on_axis_held _ _ _ down.inside; f = on_axis_held _ _ _ frames };
  room = record { w = omega (arith, along.sources, most_w); h = omega (arith, down.sources, most_h); f = some };
  first_frame = refl;
  one_frame = refl;
}

pub block_fits : (plan : QuiltPlan) (output sample : Size) (x y : ℕ) → 1 ≤ plan.block → HasCells sample → 1 ≤ output.f → x < output.w → y < output.h → FitsBlock output sample (block_at plan output sample (spot x y 0))
block_fits plan output sample x y block some frames lx ly =
    spans_fit output sample (block_len output.w sample.w plan) (block_len output.h sample.h plan) x y
    (block_on output.w sample.w plan x) (block_on output.h sample.h plan y)
    (grid_fits output.w (block_len output.w sample.w plan) plan.overlap x (omega (arith, some.w)) lx)
    (grid_fits output.h (block_len output.h sample.h plan) plan.overlap y (omega (arith, some.h)) ly)
    (omega arith) (omega arith) frames some.f
