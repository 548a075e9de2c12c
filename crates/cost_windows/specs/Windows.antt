-- A reader has to trust this file. The windows of one size inside an output, and the worst of them.
-- (Kwatra et al. 2003 refine a texture where the error of a region is greatest.)
use Rattle.std.specs.Prelude.{◌≡◌, ◌≤◌, ℕ, Option, Some}
use Rattle.cells.specs.declared.place.At.{At}
use Rattle.cells.specs.declared.place.Size.{Size}
use Rattle.cells.specs.Boxes.{HoldsBox}
use Rattle.cells.specs.Places.{index_in}
use Rattle.costs.specs.Costs.{window_of}

-- the window sum at a corner, for windows of one size
abbrev pub window_at : (At → At → ℕ) → Size → (At → Option At) → At → ℕ
window_at d window m corner = window_of d (record { corner = corner; size = window }) m

-- one place doesn't come after another in raster order of a size that both are inside
abbrev pub NotAfter : Size → At → At → Type 0
NotAfter size p q = (i j : ℕ) → index_in size p ≡ Some i → index_in size q ≡ Some j → i ≤ j

-- of the windows of one size inside the output the one of greatest sum, and the first of those
pub record IsWorst (d : At → At → ℕ) (output : Size) (m : At → Option At) (window : Size)
    (corner : At) : Type 0 where
  pub inside : HoldsBox output corner window
  pub greatest : (other : At) → HoldsBox output other window
      → window_at d window m other ≤ window_at d window m corner
  pub first : (other : At) → HoldsBox output other window
      → window_at d window m other ≡ window_at d window m corner → NotAfter output corner other
