-- The state of the reader: what its parts make of a file. The public promise speaks of
-- Pictures.antt alone. (Own.)
use Rattle.std.specs.Prelude.{◌≡◌, ◌≤◌, ◌<◌, ◌⊎◌, ◌+◌, ◌*◌, ℕ, List, length, take, drop, All, slice_index, nat_lt, if◌then◌else◌, Some, None, Result, Ok, Err}
use Rattle.cells.specs.declared.place.Size.{Size}
use Rattle.cells.specs.Places.{cell_count}
use Rattle.cells.specs.Cells.{Cells, IsOnePart, bytes_of, volume_of}
use Rattle.shelf_traits.specs.Files.{ShelfState, InFile, ReadsRose}
use Rattle.shelf_traits.specs.declared.fault.ReadError.{ReadError}
use Rattle.shelf_traits.specs.declared.fault.ReadError.TheVariants.{ReadFault, Bad, Limit, NoMemory}
use Rattle.shelf_traits.specs.declared.fault.FormFault.TheVariants.{Form, Depth, Sample, Trailing}
use Rattle.shelf_traits.specs.declared.fault.What.TheVariants.{Axis, Cells as CellsLimit, Header as HeaderLimit}
use Rattle.netpbm_p6.specs.declared.scan.Scan.{Scan}
use Rattle.netpbm_p6.specs.declared.scan.Scan.TheVariants.{Start}
use Rattle.netpbm_p6.specs.declared.scan.Header.{Header}
use Rattle.netpbm_p6.specs.declared.scan.Scanned.{Scanned}
use Rattle.netpbm_p6.specs.declared.scan.Scanned.TheVariants.{Open, Broken, Ended}
use Rattle.shelf_traits.specs.Decimals.{capped}
use Rattle.netpbm_p6.specs.Pictures.{picture_size, CellsPass, ShortHeaded, Refuses, ReadsAs}
use Rattle.limits.specs.declared.bounds.TheConstants.{GREATEST_AXIS, MOST_HEADER_BYTES, MOST_SAMPLE_CELLS}
use Rattle.netpbm_p6.specs.Scanning.{run_of, RunsOn, EndsIn}

-- the scanner came to this place after so many bytes of the file
pub record Reached (bytes : List ℕ) (at : ℕ) (scan : Scan) : Type 0 where
  pub inside : at ≤ length bytes
  pub run : run_of capped Start (take at bytes) ≡ Some scan

-- a header that goes wrong after i bytes, or breaks off there
pub record BreaksOff (rest : List ℕ) (scan : Scan) (i : ℕ) : Type 0 where
  pub inside : i ≤ length rest
  pub before : RunsOn scan (take i rest)
  pub here : (length rest ≡ i)
      ⊎ ((i < length rest) × (run_of capped scan (take (i + 1) rest) ≡ None))

-- what the scanner makes of the bytes that are left, as far as the room goes
abbrev pub ScansOn : List ℕ → Scan → ℕ → Scanned → Type 0
ScansOn rest scan room (Open next) =
    (room ≤ length rest) × (run_of capped scan (take room rest) ≡ Some next)
ScansOn rest scan room (Broken i) = BreaksOff rest scan i
ScansOn rest scan room (Ended header) = EndsIn scan rest header

-- a header that is still open where the file ends breaks off there
abbrev pub cut_at : ℕ → ℕ → Scanned → Scanned
cut_at count room (Open next) = if nat_lt count room then Broken count else Open next
cut_at count room (Broken i) = Broken i
cut_at count room (Ended header) = Ended header

-- the file has this header, its numbers as far as a u64 goes
pub record HasHeader (bytes : List ℕ) (header : Header) : Type 0 where
  pub short : ShortHeaded bytes
  pub length_is : header.length ≡ length short.headed.header
  pub width_is : header.width ≡ capped short.headed.width
  pub height_is : header.height ≡ capped short.headed.height
  pub maxval_is : header.maxval ≡ capped short.headed.maxval

abbrev pub HeadsAs : List ℕ → ShelfState → ShelfState → Result Header ReadError → Type 0
HeadsAs name was now (Ok header) = InFile name was now (λ bytes. HasHeader bytes header)
HeadsAs name was now (Err error) = ReadsAs name was now (Err error)

-- the refusal of a header that is too long, by what the scanner makes of the byte past them
abbrev pub past_of : Scanned → ReadError
past_of (Open next) = Limit HeaderLimit (MOST_HEADER_BYTES + 1) MOST_HEADER_BYTES
past_of (Broken i) = Bad (Form MOST_HEADER_BYTES)
past_of (Ended header) = Limit HeaderLimit (MOST_HEADER_BYTES + 1) MOST_HEADER_BYTES

-- the refusal of a file in which the most bytes of a header lead to this place
abbrev pub PassesAs : List ℕ → Scan → ShelfState → ShelfState → ReadError → Type 0
PassesAs name scan was now ReadFault = ReadsRose name was now
PassesAs name scan was now error =
    InFile name was now (λ bytes. Reached bytes MOST_HEADER_BYTES scan → Refuses bytes error)

-- the refusal of a header's numbers
abbrev pub Exceeds : Header → ReadError → Type 0
Exceeds header (Bad Depth) = 255 < header.maxval
Exceeds header (Limit Axis number bound) =
    (header.maxval ≤ 255) × (((GREATEST_AXIS < header.width) × (number ≡ header.width))
    ⊎ ((header.width ≤ GREATEST_AXIS) × (GREATEST_AXIS < header.height) × (number ≡ header.height)))
    × (bound ≡ GREATEST_AXIS)
Exceeds header (Limit CellsLimit number bound) =
    (header.maxval ≤ 255) × CellsPass header.width header.height number × (bound ≡ MOST_SAMPLE_CELLS)
Exceeds header error = ⊥

-- numbers within the limits, as a size and a maxval
pub record HeaderFits (header : Header) (size : Size) (maxval : ℕ) : Type 0 where
  pub depth : header.maxval ≤ 255
  pub width_fits : header.width ≤ GREATEST_AXIS
  pub height_fits : header.height ≤ GREATEST_AXIS
  pub cells_fit : header.width * header.height ≤ MOST_SAMPLE_CELLS
  pub size_is : size ≡ picture_size header.width header.height
  pub maxval_is : maxval ≡ header.maxval

abbrev pub IsAllowed : Header → Result (Size × ℕ) ReadError → Type 0
IsAllowed header (Ok found) = HeaderFits header found.0 found.1
IsAllowed header (Err error) = Exceeds header error

-- the first byte above maxval
pub record IsFirstAbove (maxval : ℕ) (bytes : List ℕ) (i : ℕ) : Type 0 where
  pub inside : i < length bytes
  pub before : All (λ b. b ≤ maxval) (take i bytes)
  pub above : maxval < slice_index bytes i

-- the refusal of the bytes after a header, of which so many are wanted
pub record IsAboveIn (rest : List ℕ) (start maxval want place : ℕ) : Type 0 where
  pub index : ℕ
  pub early : index < want
  pub first : IsFirstAbove maxval rest index
  pub place_is : place ≡ start + index

pub record EndsShort (rest : List ℕ) (start maxval want place : ℕ) : Type 0 where
  pub short : length rest < want
  pub samples : All (λ b. b ≤ maxval) rest
  pub place_is : place ≡ start + length rest

pub record GoesPast (rest : List ℕ) (start maxval want place : ℕ) : Type 0 where
  pub longer : want < length rest
  pub samples : All (λ b. b ≤ maxval) (take want rest)
  pub place_is : place ≡ start + want

abbrev pub RasterRefuses : List ℕ → ℕ → ℕ → ℕ → ReadError → Type 0
RasterRefuses rest start maxval want (Bad (Sample place)) = IsAboveIn rest start maxval want place
RasterRefuses rest start maxval want (Bad (Form place)) = EndsShort rest start maxval want place
RasterRefuses rest start maxval want (Bad (Trailing place)) = GoesPast rest start maxval want place
RasterRefuses rest start maxval want error = ⊥

-- the bytes after the header begin with the raster
pub record BeginsWith (rest raster : List ℕ) (maxval : ℕ) : Type 0 where
  pub long : length raster ≤ length rest
  pub is : raster ≡ take (length raster) rest
  pub samples : All (λ b. b ≤ maxval) raster

-- a raster was filled from a place of the file
abbrev pub FillsAs : List ℕ → ℕ → ℕ → List ℕ → ShelfState → ShelfState
    → Result (Unit {0}) ReadError → Type 0
FillsAs name start maxval raster was now (Ok done) =
    InFile name was now (λ bytes. BeginsWith (drop start bytes) raster maxval)
FillsAs name start maxval raster was now (Err ReadFault) = ReadsRose name was now
FillsAs name start maxval raster was now (Err error) =
    InFile name was now (λ bytes. RasterRefuses (drop start bytes) start maxval
    (length raster) error)

-- the file was looked at after its raster
abbrev pub StopsAs : List ℕ → ℕ → ShelfState → ShelfState → Result (Unit {0}) ReadError → Type 0
StopsAs name end was now (Ok done) = InFile name was now (λ bytes. length bytes ≤ end)
StopsAs name end was now (Err ReadFault) = ReadsRose name was now
StopsAs name end was now (Err (Bad (Trailing place))) =
    (place ≡ end) × InFile name was now (λ bytes. end < length bytes)
StopsAs name end was now (Err error) = ⊥

-- the whole rest of the file is a raster of this size
pub record IsRaster (rest : List ℕ) (size : Size) (maxval : ℕ) (volume : Cells) : Type 0 where
  pub whole : length rest ≡ 3 * cell_count size
  pub samples : All (λ b. b ≤ maxval) rest
  pub volume_is : volume ≡ volume_of size 3 rest

-- a volume of this size with three samples a cell, none of them above maxval
pub record IsMadeOf (size : Size) (maxval : ℕ) (volume : Cells) : Type 0 where
  pub size_is : volume.size ≡ size
  pub one : IsOnePart volume
  pub colours : volume.k ≡ 3
  pub samples : All (λ b. b ≤ maxval) (bytes_of volume)

abbrev pub RastersAs : List ℕ → ℕ → ℕ → Size → ShelfState → ShelfState
    → Result Cells ReadError → Type 0
RastersAs name start maxval size was now (Ok volume) =
    InFile name was now (λ bytes. IsRaster (drop start bytes) size maxval volume)
RastersAs name start maxval size was now (Err ReadFault) = ReadsRose name was now
RastersAs name start maxval size was now (Err NoMemory) = Unit {0}
RastersAs name start maxval size was now (Err error) =
    InFile name was now (λ bytes. RasterRefuses (drop start bytes) start maxval
    (3 * cell_count size) error)
