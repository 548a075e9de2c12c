-- A whole file of a map, by a reader of so many versions, for the contracts within the crate. Nobody
-- has to trust this file. (Own.)
use Rattle.std.specs.Prelude.{ℕ, List, Result, Ok}
use Rattle.shelf_traits.specs.declared.fault.ReadError.{ReadError}
use Rattle.source_map.specs.declared.map_file.MapFile.{MapFile}
use Rattle.source_map.specs.Heads.{start_read}
use Rattle.source_map.specs.MapFiles.{body_read, end_read, map_magic}
use Rattle.source_map.specs.Readings.{◌>>=◌}

-- the versions up to one, and as many kinds of the first
abbrev pub most_read : ℕ → ℕ → List ℕ → Result (MapFile × ℕ) ReadError
most_read most at bytes =
    start_read map_magic most most at bytes >>= λ start. body_read start.0 start.1 bytes

abbrev pub whole_read : ℕ → List ℕ → Result MapFile ReadError
whole_read most bytes =
    most_read most 0 bytes >>= λ value. end_read value.1 bytes >>= λ end. Ok value.0
