-- What a reader has to trust: how far the cells of two places are apart. (Kwatra et al. 2003 weigh
-- a seam by such distances; the sum of absolute differences as the norm, and the value outside, are
-- own.)
use Rattle.std.specs.Prelude.{◌≡◌, ◌≤◌, ◌+◌, ◌*◌, ℕ, List, Option, Some, None}
use Rattle.std.specs.Int.{abs_diff}
use Rattle.std.specs.List.{sum_by, zip}
use Rattle.cells.specs.declared.place.At.{At}
use Rattle.cells.specs.Cells.{Cells, cell_at}

-- the sum over the samples of two cells of their absolute differences
abbrev pub difference : List ℕ → List ℕ → ℕ
difference a b = sum_by (λ pair. abs_diff pair.0 pair.1) (zip a b)

-- the distance of two cells; a place outside is as far as two cells of k samples can be from one
-- that has a cell, and at no distance from another outside
abbrev pub distance_of : ℕ → Option (List ℕ) → Option (List ℕ) → ℕ
distance_of k (Some a) (Some b) = difference a b
distance_of k (Some a) None = 255 * k
distance_of k None (Some b) = 255 * k
distance_of k None None = 0

-- the distance of two places of one volume
abbrev pub distance : Cells → At → At → ℕ
distance v a b = distance_of v.k (cell_at v a) (cell_at v b)

-- the laws of a distance: two places of distance 0 may still be two
pub record IsPseudometric (d : At → At → ℕ) : Type 0 where
  pub same : (a : At) → d a a ≡ 0
  pub symmetric : (a b : At) → d a b ≡ d b a
  pub triangle : (a b c : At) → d a c ≤ d a b + d b c
