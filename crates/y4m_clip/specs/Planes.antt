-- The state of the reader: rows of planes that are long enough. (Own.)
use Rattle.std.specs.Prelude.{◌≤◌, ◌+◌, ◌*◌, ℕ}
use Rattle.y4m_clip.specs.declared.form.SpaceKind.{SpaceKind}
use Rattle.y4m_clip.specs.declared.form.SpaceKind.TheVariants.{Mono, C444, C422, C411, C420}

-- rows of these lengths have the samples of w cells
abbrev pub HasRow : SpaceKind → ℕ → ℕ → ℕ → ℕ → ℕ → Type 0
HasRow Mono w upper lower blue red = w ≤ upper
HasRow C444 w upper lower blue red = (w ≤ upper) × (w ≤ blue) × (w ≤ red)
HasRow C422 w upper lower blue red = (2 * w ≤ upper) × (w ≤ blue) × (w ≤ red)
HasRow C411 w upper lower blue red = (4 * w ≤ upper) × (w ≤ blue) × (w ≤ red)
HasRow C420 w upper lower blue red =
    (2 * w ≤ upper) × (2 * w ≤ lower) × (w ≤ blue) × (w ≤ red)

-- and so those of the cell at x
abbrev pub HasPlaneCell : SpaceKind → ℕ → ℕ → ℕ → ℕ → ℕ → Type 0
HasPlaneCell kind upper lower blue red x = HasRow kind (x + 1) upper lower blue red
