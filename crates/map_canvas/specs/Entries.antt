-- The numbers that entries of maps are kept as, which no public contract names. (Own.)
use Rattle.std.specs.Prelude.{◌≡◌, ◌+◌, ◌*◌, ◌/◌, ◌%◌, ℕ, nat_abs, nat_eq, Option, Some, None, if◌then◌else◌}
use Rattle.cells.specs.declared.place.At.{At}
use Rattle.cells.specs.Places.{spot}

-- what a coordinate is below
abbrev pub span : ℕ
span = 1048576

-- 0 for nothing; for a source its coordinates, and a 1 above them
abbrev pub code_of : Option At → ℕ
code_of None = 0
code_of (Some p) = nat_abs p.x + span * (nat_abs p.y + span * (nat_abs p.f + span))

-- the source of such a number
abbrev pub source_of : ℕ → Option At
source_of code =
    if nat_eq code 0 then None
    else Some (spot (code % span) (code / span % span) (code / span / span % span))

-- the number is that of its source
abbrev pub IsCode : ℕ → Type 0
IsCode code = code_of (source_of code) ≡ code
