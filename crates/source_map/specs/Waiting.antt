-- Sources that are read from bytes which wait in the reader, for the contracts within the crate.
-- Nobody has to trust this file. (Own.)
use Rattle.std.specs.Prelude.{◌≡◌, ◌+◌, ℕ, List, length, All, Option, IfSome, IsSomeAnd, Result, Ok}
use Rattle.shelf_traits.specs.Files.{ShelfState}
use Rattle.shelf_traits.specs.declared.fault.ReadError.{ReadError}
use Rattle.cells.specs.declared.place.At.{At}
use Rattle.cells.specs.declared.place.Size.{Size}
use Rattle.file_bytes.specs.Reading.{Reading, StandsAt}
use Rattle.map_canvas.specs.Maps.{IsSource}
use Rattle.source_map.specs.MapFiles.{IsInSamples, place_read}
use Rattle.source_map.specs.Readings.{Found, list_read}

-- the place whose bytes wait after so many others
abbrev pub PlaceWaits : Size → List ℕ → ℕ → At → Type 0
PlaceWaits size waiting i p =
    (at : ℕ) (bytes : List ℕ) → StandsAt at waiting bytes
    → place_read size (at + i) bytes ≡ Ok (p, at + i + 6)

-- a list of values that were read ends where the bytes that wait begin; with more values it ends so
-- many bytes later
abbrev pub ExtendsIn : {A : Type 0} → (ℕ → List ℕ → Result (A × ℕ) ReadError)
    → List ℕ → ℕ → List A → List A → Type 0
ExtendsIn read waiting n front longer =
    (start at : ℕ) (bytes : List ℕ) → StandsAt at waiting bytes
    → list_read read (length front) start bytes ≡ Ok (front, at)
    → list_read read (length longer) start bytes ≡ Ok (longer, at + n)

-- a reader that has read a list of values has read a longer one
abbrev pub Extends : {A : Type 0} → (ℕ → List ℕ → Result (A × ℕ) ReadError)
    → List ℕ → ShelfState → Reading → List A → ShelfState → Reading → List A → Type 0
Extends read name was r front now later longer =
    (start : ℕ) → Found name start was r (list_read read (length front)) front
    → Found name start now later (list_read read (length longer)) longer

-- what sources are, each by itself
abbrev pub AreSourcesIn : List Size → List (Option At) → Type 0
AreSourcesIn samples sources = All (λ source. IfSome source IsSource) sources
    × All (λ source. IsSomeAnd source (IsInSamples samples)) sources
