-- What a reader has to trust: the eight turns of a frame, each a mirror or none and then up to three
-- quarter turns, given by the cell that comes to each place. All frames of a part are turned alike. (Own;
-- the eight symmetries of a square.)
use Rattle.std.specs.Prelude.{◌/◌, ◌%◌, ℕ, zero, suc, ℤ, pos, ◌-ℤ◌}
use Rattle.cells.specs.declared.place.At.{At}
use Rattle.cells.specs.declared.place.Size.{Size}

-- a coordinate counted from the other end of its axis
abbrev pub from_end : ℕ → ℤ → ℤ
from_end n z = (pos n -ℤ pos 1) -ℤ z

-- the cell that a mirror along X moves to a place; the same mirror moves it back
abbrev pub mirror : Size → At → At
mirror size p = record { x = from_end size.w p.x; y = p.y; f = p.f }

-- the size after a quarter turn
abbrev pub quarter_size : Size → Size
quarter_size size = record { w = size.h; h = size.w; f = size.f }

-- the cell that a quarter turn clockwise moves to a place; the size is that before it
abbrev pub quarter_from : Size → At → At
quarter_from size p = record { x = p.y; y = from_end size.h p.x; f = p.f }

-- the place to which it moves a cell
abbrev pub quarter_to : Size → At → At
quarter_to size p = record { x = from_end size.h p.y; y = p.x; f = p.f }

-- so many mirrors, one after another
abbrev pub mirrors : ℕ → Size → At → At
mirrors zero size p = p
mirrors (suc m) size p = mirror size (mirrors m size p)

-- so many quarter turns, one after another
abbrev pub quarters_size : ℕ → Size → Size
quarters_size zero size = size
quarters_size (suc r) size = quarter_size (quarters_size r size)

abbrev pub quarters_from : ℕ → Size → At → At
quarters_from zero size p = p
quarters_from (suc r) size p = quarters_from r size (quarter_from (quarters_size r size) p)

abbrev pub quarters_to : ℕ → Size → At → At
quarters_to zero size p = p
quarters_to (suc r) size p = quarter_to (quarters_size r size) (quarters_to r size p)

-- turn t is t / 4 mirrors and then t % 4 quarter turns
abbrev pub turn_size : ℕ → Size → Size
turn_size t size = quarters_size (t % 4) size

-- the cell that a turn moves to a place
abbrev pub turn_from : ℕ → Size → At → At
turn_from t size p = mirrors (t / 4) size (quarters_from (t % 4) size p)

-- the place to which a turn moves a cell
abbrev pub turn_to : ℕ → Size → At → At
turn_to t size p = quarters_to (t % 4) size (mirrors (t / 4) size p)
