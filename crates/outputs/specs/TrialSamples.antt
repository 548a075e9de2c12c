-- The sample that is made of a number: a chequered ground of 8x8 cells, with a draw on each byte. To
-- be trusted: contracts cite these words. (Own.)
use Rattle.std.specs.Prelude.{◌+◌, ◌*◌, ◌/◌, ◌%◌, ℕ, zero, suc, List, [], ◌∷◌, ◌++◌}
use Rattle.cells.specs.Cells.{Cells, volume_of}
use Rattle.patch_picks.specs.Draws.{draw}
use Rattle.outputs.specs.declared.trial.TheConstants.{BYTES, CELL_BYTES, SIZE}

-- what is under the draws at the cell of an index
abbrev pub ground : ℕ → ℕ
ground i = 96 * ((i % SIZE.w / 8 + i / SIZE.w / 8) % 2)

-- byte j of the sample of a number: its ground, and draw number j of the number among 64
abbrev pub trial_byte : ℕ → ℕ → ℕ
trial_byte n j = ground (j / CELL_BYTES) + draw n j 64

-- the first bytes
unfoldable pub trial_bytes : ℕ → ℕ → List ℕ
trial_bytes n zero = []
trial_bytes n (suc j) = trial_bytes n j ++ trial_byte n j ∷ []

-- the sample of a number
abbrev pub trial_sample : ℕ → Cells
trial_sample n = volume_of SIZE CELL_BYTES (trial_bytes n BYTES)
