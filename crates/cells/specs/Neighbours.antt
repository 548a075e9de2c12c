-- What a reader has to trust: neighbours, two places that differ by 1 on exactly one axis. (Own.)
use Rattle.std.specs.Prelude.{◌≡◌, ◌⊎◌, pos}
use Rattle.cells.specs.declared.place.At.{At}
use Rattle.cells.specs.declared.place.Axis.{Axis}
use Rattle.cells.specs.declared.place.Axis.TheVariants.{X, Y, F}
use Rattle.cells.specs.Places.{plus}

-- one cell along an axis
abbrev pub unit_step : Axis → At
unit_step X = record { x = pos 1; y = pos 0; f = pos 0 }
unit_step Y = record { x = pos 0; y = pos 1; f = pos 0 }
unit_step F = record { x = pos 0; y = pos 0; f = pos 1 }

-- one of the two follows the other along an axis
pub record AreNeighbours (p q : At) : Type 0 where
  pub axis : Axis
  pub next : (q ≡ plus p (unit_step axis)) ⊎ (p ≡ plus q (unit_step axis))
