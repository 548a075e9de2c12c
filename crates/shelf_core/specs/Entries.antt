-- A reader has to trust this file for the stores in memory. A list of files as a map from names.
-- (Own.)
use Rattle.std.specs.Prelude.{ℕ, Bool, List, map, nat_eq}
use Rattle.std.specs.Cmp.Lexicographic.{pointwise}
use Rattle.std.specs.FinMap.{from_entries}
use Rattle.shelf_traits.specs.Files.{Files}
use Rattle.shelf_core.specs.declared.mem_shelf.MemFile.{MemFile}

-- a list of files, each a name and its bytes, as a map; of two files of one name it has the first
abbrev pub map_of : List (List ℕ × List ℕ) → Files
map_of entries = from_entries entries

abbrev pub file_entry : MemFile → List ℕ × List ℕ
file_entry f = (f.name, f.bytes)

abbrev pub files_of : List MemFile → Files
files_of files = map_of (map file_entry files)

-- the file has this name
abbrev pub is_named : List ℕ → MemFile → Bool
is_named name f = pointwise nat_eq f.name name
