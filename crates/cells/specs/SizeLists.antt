-- What a reader has to trust: the sizes of the parts of a volume, numbered from 1, and places in a
-- part. (Own.)
use Rattle.std.specs.Prelude.{◌≡◌, ◌≤◌, ◌+◌, ℕ, zero, suc, pos, ◌+ℤ◌, List, [], ◌∷◌, length, Option, Some, None, slice_get}
use Rattle.std.specs.List.{AllByRecursion}
use Rattle.cells.specs.declared.place.At.{At}
use Rattle.cells.specs.declared.place.Size.{Size}
use Rattle.cells.specs.declared.sizes.PartPlace.{PartPlace}
use Rattle.limits.specs.declared.bounds.TheConstants.{MOST_PARTS}
use Rattle.cells.specs.Places.{HasAxes, IsInside}

-- the sizes of 1 to 16 parts
pub record AreSizes (sizes : List Size) : Type 0 where
  pub some : 1 ≤ length sizes
  pub few : length sizes ≤ MOST_PARTS
  pub axes : AllByRecursion HasAxes sizes

-- the size of a part
abbrev pub size_of_part : List Size → ℕ → Option Size
size_of_part sizes zero = None
size_of_part sizes (suc n) = slice_get sizes n

-- the frames of the first n parts, with the empty one after each
abbrev pub frames_to_part : List Size → ℕ → ℕ
frames_to_part [] n = 0
frames_to_part (size ∷ sizes) zero = 0
frames_to_part (size ∷ sizes) (suc n) = size.f + 1 + frames_to_part sizes n

-- a place so many frames on
abbrev pub frames_on : ℕ → At → At
frames_on n p = record { x = p.x; y = p.y; f = p.f +ℤ pos n }

-- a place of a part, as the joined volume counts it
abbrev pub stock_place : List Size → ℕ → At → At
stock_place sizes zero p = p
stock_place sizes (suc n) p = frames_on (frames_to_part sizes n) p

-- the place is inside one of the parts, of which the first has the number
pub record IsPartAlong (number : ℕ) (sizes : List Size) (p : At) (there : PartPlace) : Type 0 where
  pub before : ℕ
  pub part : there.part ≡ number + before
  pub size : Size
  pub is : slice_get sizes before ≡ Some size
  pub inside : IsInside size there.at
  pub stock : frames_on (frames_to_part sizes before) there.at ≡ p

-- the part has the place, which is that of the joined volume
abbrev pub IsPartPlace : List Size → At → PartPlace → Type 0
IsPartPlace sizes p there = IsPartAlong 1 sizes p there

-- the place is inside a part of this number
abbrev pub IsInPart : List Size → ℕ → At → Type 0
IsInPart sizes part p = (size : Size) → size_of_part sizes part ≡ Some size → IsInside size p

-- where the place is in one of the parts, if it is
abbrev pub IsPartFound : ℕ → List Size → At → Option PartPlace → Type 0
IsPartFound number sizes p None = (there : PartPlace) → IsPartAlong number sizes p there → ⊥
IsPartFound number sizes p (Some there) = IsPartAlong number sizes p there
