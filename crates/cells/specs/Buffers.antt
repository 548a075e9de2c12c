-- The state of a volume's buffer, which no public contract names. (Own.)
use Rattle.std.specs.Prelude.{◌≡◌, ◌≤◌, ◌*◌, ℕ, List, length}
use Rattle.cells.specs.declared.place.Size.{Size}
use Rattle.limits.specs.declared.bounds.TheConstants.{MOST_CHANNELS}
use Rattle.cells.specs.Parts.{AreParts, count_from}

-- a buffer for the cells of all parts
pub record IsBuffer (size : Size) (more : List Size) (k : ℕ) (bytes : List ℕ) : Type 0 where
  pub parts : AreParts size more
  pub samples : (1 ≤ k) × (k ≤ MOST_CHANNELS)
  pub whole : length bytes ≡ k * count_from size more
