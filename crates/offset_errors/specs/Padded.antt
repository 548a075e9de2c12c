-- What a reader has to trust: the cells of a box, and those of a part of the sample, as lists of n
-- numbers. Both are padded with zeros to one size, and are written in its raster order. (Padding keeps
-- a cyclic product from going round; the frames and rows of one list are own.)
use Rattle.std.specs.Prelude.{◌≡◌, ◌≤◌, ◌<◌, ◌⊎◌, ℕ, ◌+◌, ◌-◌, Bool, ◌&&◌, cond, nat_le, nat_lt, List}
use Rattle.std.proofs.Common.{map}
use Rattle.std.specs.List.{range_with_len}
use Rattle.cells.specs.declared.place.Size.{Size}
use Rattle.boxes.specs.Pairs.{at_index}

-- the numbers of the cells of a padded size in raster order, as a list of n; past its last frame the
-- count of frames goes on
abbrev pub numbers : ℕ → Size → (ℕ → ℕ → ℕ → ℕ) → List ℕ
numbers n pad g = map (at_index pad g) (range_with_len 0 n)

-- three counts are those of a cell
abbrev pub is_below : Size → ℕ → ℕ → ℕ → Bool
is_below size x y f = nat_lt x size.w && (nat_lt y size.h && nat_lt f size.f)

-- the numbers of the cells of a box, and 0 outside it
abbrev pub in_box : Size → (ℕ → ℕ → ℕ → ℕ) → ℕ → ℕ → ℕ → ℕ
in_box box g x y f = cond (is_below box x y f) (g x y f) 0

-- a count is of a cell of the part, where the part begins at the last of so many cells, its lead
abbrev pub is_along : ℕ → ℕ → ℕ → Bool
is_along lead s x = nat_le lead (x + 1) && nat_lt (x + 1) (lead + s)

abbrev pub is_moved : Size → Size → ℕ → ℕ → ℕ → Bool
is_moved lead part x y f =
    is_along lead.w part.w x && (is_along lead.h part.h y && is_along lead.f part.f f)

-- the numbers of the cells of a part, which begins at the last cell of its lead, and 0 outside it
abbrev pub moved : Size → Size → (ℕ → ℕ → ℕ → ℕ) → ℕ → ℕ → ℕ → ℕ
moved lead part g x y f =
    cond (is_moved lead part x y f) (g (x + 1 - lead.w) (y + 1 - lead.h) (f + 1 - lead.f)) 0

-- a padded axis of w cells holds a box of b cells, and a part of s cells after its lead
pub record HoldsOnAxis (w b lead s : ℕ) : Type 0 where
  pub box : b ≤ w
  pub part : lead + s ≤ w + 1

pub record HoldsBoth (pad box lead part : Size) : Type 0 where
  pub on_x : HoldsOnAxis pad.w box.w lead.w part.w
  pub on_y : HoldsOnAxis pad.h box.h lead.h part.h
  pub on_f : HoldsOnAxis pad.f box.f lead.f part.f

-- at an offset of three counts, the cells of the box that go past the end of a padded axis come to those
-- before the part: they meet none of its cells
pub record IsApart (pad box lead : Size) (x y f : ℕ) : Type 0 where
  pub on_x : box.w + x < pad.w + lead.w
  pub on_y : box.h + y < pad.h + lead.h
  pub on_f : box.f + f < pad.f + lead.f

-- along one axis, what a box of b cells and a part of s cells share at the offset d: l cells, from a on in
-- the box and from t on in the part. They begin with one of both, and end with one of both.
pub record IsShared (b lead s d a l t : ℕ) : Type 0 where
  pub box : a + l ≤ b
  pub part : t + l ≤ s
  pub offset : a + d + 1 ≡ lead + t
  pub first : (a ≡ 0) ⊎ (t ≡ 0)
  pub last : (a + l ≡ b) ⊎ (t + l ≡ s)
