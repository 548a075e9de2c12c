-- To be trusted: whether a box of one size has a place in another. (Own.)
use Rattle.std.specs.Prelude.{◌≤◌}
use Rattle.cells.specs.declared.place.Size.{Size}

-- a box of this size has a place in an output or a part of the other
pub record HasRoom (outer inner : Size) : Type 0 where
  pub w : inner.w ≤ outer.w
  pub h : inner.h ≤ outer.h
  pub f : inner.f ≤ outer.f
