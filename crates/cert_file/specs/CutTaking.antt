-- A reader need not trust this file: it says how the bits of a choice are taken. (Own.)
use Rattle.std.specs.Prelude.{◌≡◌, ℕ, List, Bool, length}
use Rattle.shelf_traits.specs.Files.{ShelfState}
use Rattle.file_bytes.specs.Reading.{Reading, Took}
use Rattle.cert_file.specs.CutReading.{bits_of}

-- the bits of so many bytes were read from a place on
pub record TookBits (name : List ℕ) (place count : ℕ) (bits : List Bool) (now : ShelfState)
    (r : Reading) : Type 0 where
  pub piece : List ℕ
  pub long : length piece ≡ count
  pub took : Took name place piece now r
  pub bits_are : bits ≡ bits_of piece
