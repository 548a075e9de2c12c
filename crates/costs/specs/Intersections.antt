-- A reader need not trust this file: it says what a step of the window sums makes. What a size has
-- of a box. (Own.)
use Rattle.std.specs.Prelude.{◌≡◌, ◌≤◌, ◌<◌, ◌⊎◌, ◌+◌, ℕ, ℤ, pos, ◌+ℤ◌, ◌≤ℤ◌, ◌<ℤ◌}
use Rattle.cells.specs.declared.place.Box3.{Box3}
use Rattle.cells.specs.declared.place.Size.{Size}
use Rattle.cells.specs.Boxes.{cell_in}

-- a coordinate on an axis of so many cells
abbrev pub IsOn : ℕ → ℤ → Type 0
IsOn n z = (pos 0 ≤ℤ z) × (z <ℤ pos n)

-- a coordinate before the axis or past it
abbrev pub IsOff : ℕ → ℤ → Type 0
IsOff n z = (z <ℤ pos 0) ⊎ (pos n ≤ℤ z)

-- of a run of cells from a corner on those that an axis has: so many are skipped, and so many taken
pub record IsRunOn (n : ℕ) (corner : ℤ) (len skipped taken : ℕ) : Type 0 where
  pub room : skipped + taken ≤ len
  pub inside : (c : ℕ) → skipped ≤ c → c < skipped + taken → IsOn n (corner +ℤ pos c)
  pub outside : (c : ℕ) → c < len → (c < skipped) ⊎ (skipped + taken ≤ c) →
      IsOff n (corner +ℤ pos c)

-- the cells of a box that a size has
pub record IsIntersection (size : Size) (rect inner : Box3) : Type 0 where
  pub x : ℕ
  pub y : ℕ
  pub f : ℕ
  pub columns : IsRunOn size.w rect.corner.x rect.size.w x inner.size.w
  pub rows : IsRunOn size.h rect.corner.y rect.size.h y inner.size.h
  pub frames : IsRunOn size.f rect.corner.f rect.size.f f inner.size.f
  pub corner : inner.corner ≡ cell_in rect x y f
