-- A reader has to trust this file. Outputs some of whose axes are wrapped: there the last cell
-- and the first are neighbours, and a map goes on past the edge as it began. (Own.)
use Rattle.std.specs.Prelude.{◌≤◌, ◌-◌, ℕ, ℤ, pos, negsuc, ◌+ℤ◌, nat_lt, Bool, true, false, Option, if◌then◌else◌}
use Rattle.cells.specs.declared.place.At.{At}
use Rattle.cells.specs.declared.place.Size.{Size}
use Rattle.costs.specs.Costs.{total_of}
use Rattle.job_words.specs.declared.tile.Wrap.{Wrap}

-- a coordinate up to one turn before or past an axis of n cells, taken back onto it
abbrev pub on_turn : ℕ → ℤ → ℤ
on_turn n (pos c) = if nat_lt c n then pos c else pos (c - n)
on_turn n (negsuc c) = negsuc c +ℤ pos n

abbrev pub around_axis : Bool → ℕ → ℤ → ℤ
around_axis true n z = on_turn n z
around_axis false n z = z

-- the same of a place, on the wrapped axes
abbrev pub around : Wrap → Size → At → At
around wrap size p = record {
  x = around_axis wrap.x size.w p.x;
  y = around_axis wrap.y size.h p.y;
  f = around_axis wrap.f size.f p.f;
}

-- the map that goes on past the edges of wrapped axes
abbrev pub map_around : Wrap → Size → (At → Option At) → At → Option At
map_around wrap size m p = m (around wrap size p)

-- the torus total: over all neighbours, those across the edge among them
abbrev pub torus_total_of : (At → At → ℕ) → Wrap → Size → (At → Option At) → ℕ
torus_total_of d wrap size m = total_of d size (map_around wrap size m)
