-- A reader need not trust this file: it says what the table keeps beside its sums. The greatest sum of
-- each row of corners. (Own.)
use Rattle.std.specs.Prelude.{◌≡◌, ◌<◌, ℕ, zero, suc, ◌+◌, ◌*◌, max, List, length, slice_index}
use Rattle.cells.specs.declared.place.Size.{Size}

-- the greatest of g 0, g 1, .. g (n - 1); 0 where n is 0
abbrev pub max_to : ℕ → (ℕ → ℕ) → ℕ
max_to zero g = 0
max_to (suc n) g = max (max_to n g) (g n)

-- the greatest number of row r, where each row has w
abbrev pub row_top : ℕ → List ℕ → ℕ → ℕ
row_top w sums r = max_to w (λ k. slice_index sums (w * r + k))

-- the greatest number of each row of a size
pub record AreTops (size : Size) (sums tops : List ℕ) : Type 0 where
  pub count : length tops ≡ size.h * size.f
  pub each : (r : ℕ) → r < size.h * size.f → slice_index tops r ≡ row_top size.w sums r
