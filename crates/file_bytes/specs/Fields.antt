-- A reader has to trust this file. The fields of a binary file, in the words of its contracts:
-- numbers with their most significant byte first. (Own.)
use Rattle.std.specs.Prelude.{ℕ, List}
use Rattle.std.specs.Int.{to_be_bytes, w16, w32, w64}
use Rattle.std.specs.List.{flat_map}

-- a number as 2, 4 or 8 bytes
abbrev pub field_16 : ℕ → List ℕ
field_16 n = to_be_bytes w16 n

abbrev pub field_32 : ℕ → List ℕ
field_32 n = to_be_bytes w32 n

abbrev pub field_64 : ℕ → List ℕ
field_64 n = to_be_bytes w64 n

-- numbers one after another
abbrev pub fields_16 : List ℕ → List ℕ
fields_16 numbers = flat_map field_16 numbers

abbrev pub fields_32 : List ℕ → List ℕ
fields_32 numbers = flat_map field_32 numbers

abbrev pub fields_64 : List ℕ → List ℕ
fields_64 numbers = flat_map field_64 numbers
