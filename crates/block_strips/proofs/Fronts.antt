-- How far the first blocks of a plan have come: whole rows at the top, and some columns of the next rows.
use Rattle.std.proofs.Common.{◌≡◌, ◌⊎◌, ℕ, ◌+◌, ◌-◌, ◌*◌, ◌<◌, ◌≤◌, min, ap, sym, ◌∙◌, subst, arith, inl, inr, ⊎_elim}
use Rattle.std.proofs.Math.Nat.{mul-le-mul_left}
use Rattle.std.proofs.lemmas.Bool.{cases_lt}
use Rattle.std.specs.Prelude.{◌↔◌, Some}
use Rattle.cells.specs.declared.place.At.{At}
use Rattle.cells.specs.declared.place.Box3.{Box3}
use Rattle.cells.specs.declared.place.Size.{Size}
use Rattle.cells.specs.Boxes.{IsInBox}
use Rattle.cells.specs.Firsts.{IsFirstWithout}
use Rattle.cells.specs.Places.{cell_count, index_in, place_of, spot}
use Rattle.cells.proofs.Raster.{in_rows, index_of_spot, one_place, place_at}
use Rattle.block_strips.proofs.Along.{Reaches, reach_more, reach_none}
use Rattle.block_strips.proofs.Boxes.{IsSpot, grid_box, in_box, of_box, spot_of_index}

-- the steps and lengths of blocks along X and Y
pub record Grid : Type 0 where
  pub B : ℕ
  pub s : ℕ
  pub D : ℕ
  pub t : ℕ

pub record IsGrid (g : Grid) : Type 0 where
  pub along : (1 ≤ g.s) × (g.s ≤ g.B)
  pub down : (1 ≤ g.t) × (g.t ≤ g.D)

-- the cell is in one of the whole rows, or in the columns of the rows after them
abbrev pub IsBehind : Grid → ℕ → ℕ → ℕ → ℕ → ℕ → Type 0
IsBehind g j left top x y = (y < top) ⊎ ((y < j * g.t + g.D) × (x < left))

pub record Front (size : Size) (g : Grid) (Holds : At → Type 0) : Type 0 where
  pub k : ℕ
  pub j : ℕ
  pub left : ℕ
  pub top : ℕ
  pub along : Reaches g.s (g.B - g.s) k left
  pub down : Reaches g.t (g.D - g.t) j top
  pub room : left < size.w
  pub held : (x y : ℕ) → x < size.w → y < size.h → IsBehind g j left top x y → Holds (spot x y 0)
  pub only : (x y : ℕ) → x < size.w → y < size.h → Holds (spot x y 0) → IsBehind g j left top x y

-- at first nothing is held
pub front_none : (size : Size) (g : Grid) (Holds : At → Type 0) → 1 ≤ size.w → ((p : At) → Holds p → ⊥) → Front size g Holds
front_none size g Holds some none = record {
  k = 0;
  j = 0;
  left = 0;
  top = 0;
  along = reach_none _ _;
  down = reach_none _ _;
  room = some;
  held = λ x y lx ly at. absurd (⊎_elim (λ (lt : y < 0). omega arith) (λ (both : (y < 0 * g.t + g.D) × (x < 0)). omega (arith, both.1)) at);
  only = λ x y lx ly holds. absurd (none _ holds);
}

-- the first place that isn't held
pub record IsNext (size : Size) (g : Grid) (Holds : At → Type 0) (front : Front size g Holds) (i : ℕ) : Type 0 where
  pub place : place_of size i ≡ spot front.left front.top 0
  pub room : front.top < size.h

pub first_is_next : (size : Size) (g : Grid) (Holds : At → Type 0) (front : Front size g Holds) (i : ℕ) → IsGrid g → size.f ≡ 1 → 1 ≤ size.w → 1 ≤ size.h → IsFirstWithout (cell_count size) (λ k. Holds (place_of size k)) i → IsNext size g Holds front i
first_is_next size g Holds front i grid one w h first = record {
  place = at.place ∙ (λ k. spot (column k) (row k) 0);
  room = room;
}
  where
    at : IsSpot size (place_of size i) i
    at = spot_of_index size (place_of size i) i one (place_at size i w h first.below)

    outside : Holds (spot at.x at.y 0) → ⊥
    outside = λ holds. first.here (subst Holds (sym at.place) holds)

    below : front.top ≤ at.y
    below = ⊎_elim (λ lt. absurd (outside (front.held at.x at.y at.column at.row (inl lt)))) (λ le. le) (cases_lt at.y front.top)

    room : front.top < size.h
    room = omega (arith, below, at.row)

    own : index_in size (spot front.left front.top 0) ≡ Some (front.left + size.w * (front.top + size.h * 0))
    own = index_of_spot size front.left front.top 0 front.room room (omega (arith, one))

    no_rows : front.left + size.w * (front.top + size.h * 0) ≡ front.left + size.w * front.top
    no_rows = ap (λ n. front.left + size.w * n) (let e : front.top + size.h * 0 ≡ front.top = omega arith in e)

    index : index_in size (spot front.left front.top 0) ≡ Some (front.left + size.w * front.top)
    index = own ∙ ap Some no_rows

    inside : front.left + size.w * front.top < cell_count size
    inside = subst (λ f. front.left + size.w * front.top < size.w * (size.h * f)) (sym one) (subst (λ n. front.left + size.w * front.top < size.w * n) (let e : size.h ≡ size.h * 1 = omega arith in e) (in_rows size.w size.h front.top front.left front.room room))

    not_before : front.left + size.w * front.top < i → ⊥
    not_before lt =
        let same : place_of size (front.left + size.w * front.top) ≡ spot front.left front.top 0 = one_place size _ _ _ (place_at size _ w h inside) index in
        let behind = front.only front.left front.top front.room room (subst Holds same (first.before (front.left + size.w * front.top) lt)) in
        ⊎_elim (λ (lt : front.top < front.top). omega arith) (λ (both : (front.top < front.j * g.t + g.D) × (front.left < front.left)). omega (arith, both.1)) behind

    at_most : at.x + size.w * at.y ≤ front.left + size.w * front.top
    at_most = ⊎_elim (λ lt. absurd (not_before (omega (arith, lt, at.index)))) (λ le. le) (cases_lt (front.left + size.w * front.top) (at.x + size.w * at.y))

    row : at.y ≡ front.top
    row = ⊎_elim
        (λ (lt : front.top < at.y). absurd (omega (arith, at_most, front.room, mul-le-mul_left size.w (let le : front.top + 1 ≤ at.y = omega arith in le))))
        (λ (le : at.y ≤ front.top). omega (arith, le, below)) (cases_lt front.top at.y)

    in_band : at.y < front.j * g.t + g.D
    in_band = omega (arith, row, front.down.to, grid.down)

    column : at.x ≡ front.left
    column =
        let right : front.left ≤ at.x = ⊎_elim (λ lt. absurd (outside (front.held at.x at.y at.column at.row (inr (in_band, lt))))) (λ le. le) (cases_lt at.x front.left) in
        let same : size.w * at.y ≡ size.w * front.top = ap (λ n. size.w * n) row in
        omega (arith, right, at_most, same)

-- the block that has it
abbrev pub front_box : (size : Size) (g : Grid) → ℕ → ℕ → Box3
front_box size g k j = grid_box (k * g.s) (j * g.t) (min g.B (size.w - k * g.s)) (min g.D (size.h - j * g.t))

-- takes the front on by one block
module _ (size : Size) (g : Grid) (Holds After : At → Type 0) (front : Front size g Holds) (grid : IsGrid g) (some : 1 ≤ size.w) (room : front.top < size.h)
    (after : (x y : ℕ) → x < size.w → y < size.h → After (spot x y 0) ↔ (IsInBox (front_box size g front.k front.j) (spot x y 0) ⊎ Holds (spot x y 0))) where
  in_block : (x y : ℕ) → x < size.w → y < size.h → front.left ≤ x → front.top ≤ y → x < front.k * g.s + g.B → y < front.j * g.t + g.D → IsInBox (front_box size g front.k front.j) (spot x y 0)
  in_block x y lx ly left top right bottom = in_box _ _ _ _ x y (record {
    left = omega (arith, left, front.along.from);
    right = omega (arith, right, lx);
    top = omega (arith, top, front.down.from);
    bottom = omega (arith, bottom, ly);
  })

  -- each cell of the rows of the block up to its last column
  reached : (x y : ℕ) → x < size.w → y < size.h → x < front.k * g.s + g.B → y < front.j * g.t + g.D → After (spot x y 0)
  reached x y lx ly right bottom =
      ⊎_elim (λ lt. (after x y lx ly).1 (inr (front.held x y lx ly (inl lt))))
      (λ top. ⊎_elim (λ lt. (after x y lx ly).1 (inr (front.held x y lx ly (inr (bottom, lt)))))
      (λ left. (after x y lx ly).1 (inl (in_block x y lx ly left top right bottom))) (cases_lt x front.left)) (cases_lt y front.top)

  bounded : (x y : ℕ) → x < size.w → y < size.h → After (spot x y 0) → (y < front.top) ⊎ ((y < front.j * g.t + g.D) × (x < front.k * g.s + g.B))
  bounded x y lx ly holds =
      ⊎_elim (λ has. let is = of_box _ _ _ _ x y has in inr (omega (arith, is.bottom), omega (arith, is.right)))
      (λ old. ⊎_elim (λ lt. inl lt) (λ (both : (y < front.j * g.t + g.D) × (x < front.left)). inr (both.0, omega (arith, both.1, front.along.to, grid.along))) (front.only x y lx ly old))
      ((after x y lx ly).0 holds)

  one_more_block : front.k * g.s + g.B < size.w → Front size g After
  one_more_block lt = record {
    k = front.k + 1;
    j = front.j;
    left = front.k * g.s + g.B;
    top = front.top;
    along = subst (Reaches g.s (g.B - g.s) (front.k + 1)) (let e : front.k * g.s + (g.s + (g.B - g.s)) ≡ front.k * g.s + g.B = omega (arith, grid.along) in e) (reach_more g.s (g.B - g.s) front.k);
    down = front.down;
    room = lt;
    held = λ x y lx ly at. ⊎_elim (λ top. (after x y lx ly).1 (inr (front.held x y lx ly (inl top)))) (λ (both : (y < front.j * g.t + g.D) × (x < front.k * g.s + g.B)). reached x y lx ly both.1 both.0) at;
    only = bounded;
  }

  next_rows : size.w ≤ front.k * g.s + g.B → Front size g After
  next_rows le = record {
    k = 0;
    j = front.j + 1;
    left = 0;
    top = front.j * g.t + g.D;
    along = reach_none _ _;
    down = subst (Reaches g.t (g.D - g.t) (front.j + 1)) (let e : front.j * g.t + (g.t + (g.D - g.t)) ≡ front.j * g.t + g.D = omega (arith, grid.down) in e) (reach_more g.t (g.D - g.t) front.j);
    room = some;
    held = λ x y lx ly at. ⊎_elim (λ (top : y < front.j * g.t + g.D). reached x y lx ly (omega (arith, le, lx)) top) (λ (both : (y < (front.j + 1) * g.t + g.D) × (x < 0)). absurd (omega (arith, both.1))) at;
    only = λ x y lx ly holds. inl (⊎_elim (λ (top : y < front.top). let b : y < front.j * g.t + g.D = omega (arith, top, front.down.to, grid.down) in b) (λ (both : (y < front.j * g.t + g.D) × (x < front.k * g.s + g.B)). both.0) (bounded x y lx ly holds));
  }

  pub front_more : Front size g After
  front_more = ⊎_elim one_more_block next_rows (cases_lt (front.k * g.s + g.B) size.w)
