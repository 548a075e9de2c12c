-- A reader has to trust this file. Steps along an axis in raster order, and the largest box. (Own.)
use Rattle.std.specs.Prelude.{◌*◌, ℕ}
use Rattle.limits.specs.declared.bounds.TheConstants.{GREATEST_AXIS}
use Rattle.cells.specs.declared.place.Size.{Size}
use Rattle.cells.specs.declared.place.Axis.{Axis}
use Rattle.cells.specs.declared.place.Axis.TheVariants.{X, Y, F}

-- how many cells on in raster order the next one along an axis comes
abbrev pub stride : Size → Axis → ℕ
stride size X = 1
stride size Y = size.w
stride size F = size.w * size.h

-- the largest size by its axes
abbrev pub largest : Size
largest = record { w = GREATEST_AXIS; h = GREATEST_AXIS; f = GREATEST_AXIS }
