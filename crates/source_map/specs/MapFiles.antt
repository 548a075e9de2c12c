-- What a reader has to trust: the files of maps of all kinds and versions, the one spelling of each,
-- and how a list of bytes is read. (Own.)
use Rattle.std.specs.Prelude.{◌≡◌, ◌≤◌, ◌<◌, ◌≤ℤ◌, ◌<ℤ◌, ◌+◌, ◌^◌, ◌==◌, ◌||◌, ℕ, ℤ, pos, negsuc, nat_lt, nat_le, if◌then◌else◌, List, [], ◌∷◌, ◌++◌, length, All, Option, Some, None, option_map, slice_get, unwrap_or, codes, Result, Ok, Err}
use Rattle.std.specs.Int.{w16, w32}
use Rattle.std.specs.List.{flat_map}
use Rattle.cells.specs.declared.place.At.{At}
use Rattle.cells.specs.declared.place.Size.{Size}
use Rattle.cells.specs.declared.sizes.PartPlace.{PartPlace}
use Rattle.cells.specs.Places.{HasAxes, cell_count, index_in, spot}
use Rattle.cells.specs.Parts.{past}
use Rattle.cells.specs.SizeLists.{IsPartPlace, size_of_part, stock_place}
use Rattle.file_bytes.specs.Fields.{field_16, fields_16}
use Rattle.map_canvas.specs.Maps.{SourceMap, IsFull, IsMap, map_at}
use Rattle.shelf_traits.specs.Files.{ShelfState, InFile, ReadsRose}
use Rattle.shelf_traits.specs.declared.fault.FormFault.TheVariants.{Form}
use Rattle.shelf_traits.specs.declared.fault.ReadError.{ReadError}
use Rattle.shelf_traits.specs.declared.fault.ReadError.TheVariants.{ReadFault, Bad, Limit, NoMemory}
use Rattle.shelf_traits.specs.declared.fault.What.TheVariants.{Cells as CellsLimit}
use Rattle.source_map.specs.declared.head.Version.{Version}
use Rattle.source_map.specs.declared.head.Version.TheVariants.{One, Two}
use Rattle.source_map.specs.declared.head_reading.Start.{Start}
use Rattle.source_map.specs.declared.map_file.MapFile.{MapFile}
use Rattle.source_map.specs.declared.map_file.MapFile.TheVariants.{Cells, Frames}
use Rattle.limits.specs.declared.bounds.TheConstants.{MOST_MAP_CELLS}
use Rattle.source_map.specs.Heads.{AreSamples, axis_rule, size_field, sizes_field, sizes_read, start_form, start_read}
use Rattle.source_map.specs.Readings.{◌>>=◌, list_read, number_read}

abbrev pub map_magic : List ℕ
map_magic = codes "WEAVEMAP"

-- a coordinate, two bytes
abbrev pub coordinate_field : ℤ → List ℕ
coordinate_field (pos n) = field_16 n
coordinate_field (negsuc n) = []

-- the coordinates of the place are numbers of 16 bits
abbrev pub IsShortCoordinate : ℤ → Type 0
IsShortCoordinate z = (pos 0 ≤ℤ z) × (z <ℤ pos (2 ^ 16))

pub record IsShort (from : At) : Type 0 where
  pub x : IsShortCoordinate from.x
  pub y : IsShortCoordinate from.y
  pub f : IsShortCoordinate from.f

-- a place: x, y, f
abbrev pub place_field : At → List ℕ
place_field p = coordinate_field p.x ++ coordinate_field p.y ++ coordinate_field p.f

-- the part that has a place of the joined samples, and the place in it
abbrev pub part_or : ℕ → At → Option ℕ → PartPlace → PartPlace
part_or number p (Some i) later = record { part = number; at = p }
part_or number p None later = later

abbrev pub part_from : ℕ → List Size → At → PartPlace
part_from number [] p = record { part = number; at = p }
part_from number (size ∷ more) p =
    part_or number p (index_in size p) (part_from (number + 1) more (past size p))

-- in version 2 a source is the number of its sample and the place in that sample
abbrev pub numbered_field : PartPlace → List ℕ
numbered_field there = field_16 there.part ++ place_field there.at

-- the source of one cell; in version 1 its place in the one sample
abbrev pub source_field : Version → List Size → Option At → List ℕ
source_field version samples None = []
source_field One samples (Some from) = place_field from
source_field Two samples (Some from) = numbered_field (part_from 1 samples from)

-- the one spelling of a map over samples of these sizes
abbrev pub cell_map_form : SourceMap → List Size → Version → List ℕ
cell_map_form m samples version =
    start_form map_magic 0 version m.size ++ sizes_field version samples
    ++ flat_map (source_field version samples) m.sources

-- the one spelling of a frame map
abbrev pub frame_map_form : Size → Size → List ℕ → List ℕ
frame_map_form size sample frames =
    start_form map_magic 1 One size ++ size_field sample ++ fields_16 frames

-- the frame of the sample that an output frame is
abbrev pub frame_entry : List ℕ → ℤ → Option ℕ
frame_entry frames (pos i) = slice_get frames i
frame_entry frames (negsuc i) = None

-- the source of a cell in a frame map: the same column and row, of the frame that the entry names
abbrev pub frame_source : List ℕ → At → Option At
frame_source frames p =
    option_map (λ e. record { x = p.x; y = p.y; f = pos e }) (frame_entry frames p.f)

-- the place is inside one of the samples
abbrev pub IsInSamples : List Size → At → Type 0
IsInSamples samples from = (there : PartPlace) × IsPartPlace samples from there

-- a map that can be written: full, of no more cells than a file may have, with sources inside the
-- samples
pub record IsWritable (m : SourceMap) (samples : List Size) (version : Version) : Type 0 where
  pub full : IsFull m
  pub cells : cell_count m.size ≤ MOST_MAP_CELLS
  pub samples_are : AreSamples version samples
  pub sources : (p from : At) → map_at m p ≡ Some from → IsInSamples samples from

-- a frame map: the output has the sample's columns and rows, and for each of its frames one of the
-- sample's
pub record IsFrameMap (size sample : Size) (frames : List ℕ) : Type 0 where
  pub size_axes : HasAxes size
  pub sample_axes : HasAxes sample
  pub w : sample.w ≡ size.w
  pub h : sample.h ≡ size.h
  pub count : length frames ≡ size.f
  pub entries : All (λ e. e < sample.f) frames

-- the spelling of a value, and what has one
abbrev pub map_form : MapFile → List ℕ
map_form (Cells m samples version) = cell_map_form m samples version
map_form (Frames size sample frames) = frame_map_form size sample frames

abbrev pub IsMapFile : MapFile → Type 0
IsMapFile (Cells m samples version) = IsMap m × IsWritable m samples version
IsMapFile (Frames size sample frames) = IsFrameMap size sample frames

-- the bytes are the spelling of the value
pub record IsMapOf (bytes : List ℕ) (value : MapFile) : Type 0 where
  pub lawful : IsMapFile value
  pub spelled : bytes ≡ map_form value

-- the rules of the fields
abbrev pub same_rule : ℕ → ℕ → ℕ → Result ℕ ReadError
same_rule n at m = if m == n then Ok m else Err (Bad (Form at))

abbrev pub below_rule : ℕ → ℕ → ℕ → Result ℕ ReadError
below_rule n at m = if nat_lt m n then Ok m else Err (Bad (Form at))

abbrev pub part_rule : ℕ → ℕ → ℕ → Result ℕ ReadError
part_rule n at m = if m == 0 || nat_lt n m then Err (Bad (Form at)) else Ok m

abbrev pub cells_rule : Size → Result (Unit {0}) ReadError
cells_rule size =
    if nat_le (cell_count size) MOST_MAP_CELLS then Ok tt
    else Err (Limit CellsLimit (cell_count size) MOST_MAP_CELLS)

-- a place inside a size
abbrev pub place_read : Size → ℕ → List ℕ → Result (At × ℕ) ReadError
place_read size at bytes =
    number_read w16 (below_rule size.w) at bytes >>= λ x.
    number_read w16 (below_rule size.h) x.1 bytes >>= λ y.
    number_read w16 (below_rule size.f) y.1 bytes >>= λ f.
    Ok (spot x.0 y.0 f.0, f.1)

abbrev pub no_size : Size
no_size = record { w = 0; h = 0; f = 0 }

-- the size of a sample, by its number
abbrev pub numbered_size : List Size → ℕ → Size
numbered_size samples part = unwrap_or (size_of_part samples part) no_size

abbrev pub source_read : Version → List Size → ℕ → List ℕ → Result (Option At × ℕ) ReadError
source_read One samples at bytes =
    place_read (numbered_size samples 1) at bytes >>= λ from. Ok (Some from.0, from.1)
source_read Two samples at bytes =
    number_read w16 (part_rule (length samples)) at bytes >>= λ part.
    place_read (numbered_size samples part.0) part.1 bytes >>= λ from.
    Ok (Some (stock_place samples part.0 from.0), from.1)

-- the samples' sizes, and then the limit on the output's cells
abbrev pub samples_read : Version → Size → ℕ → List ℕ → Result (List Size × ℕ) ReadError
samples_read version output at bytes =
    sizes_read version at bytes >>= λ samples. cells_rule output >>= λ few. Ok samples

-- the sources of all cells of an output
abbrev pub sources_read : Version → List Size → Size → ℕ → List ℕ
    → Result (SourceMap × ℕ) ReadError
sources_read version samples output at bytes =
    list_read (source_read version samples) (cell_count output) at bytes >>= λ sources.
    Ok (record { size = output; sources = sources.0 }, sources.1)

-- what follows the output's size
abbrev pub cells_read : Version → Size → ℕ → List ℕ → Result (MapFile × ℕ) ReadError
cells_read version output at bytes =
    samples_read version output at bytes >>= λ samples.
    sources_read version samples.0 output samples.1 bytes >>= λ m.
    Ok (Cells m.0 samples.0 version, m.1)

-- the sample's size, with the columns and rows of the output
abbrev pub sample_read : Size → ℕ → List ℕ → Result (Size × ℕ) ReadError
sample_read output at bytes =
    number_read w32 (same_rule output.w) at bytes >>= λ w.
    number_read w32 (same_rule output.h) w.1 bytes >>= λ h.
    number_read w32 axis_rule h.1 bytes >>= λ f.
    Ok (record { w = w.0; h = h.0; f = f.0 }, f.1)

abbrev pub frames_read : Size → ℕ → List ℕ → Result (MapFile × ℕ) ReadError
frames_read output at bytes =
    sample_read output at bytes >>= λ sample.
    list_read (number_read w16 (below_rule sample.0.f)) output.f sample.1 bytes >>= λ frames.
    Ok (Frames output sample.0 frames.0, frames.1)

abbrev pub body_read : Start → ℕ → List ℕ → Result (MapFile × ℕ) ReadError
body_read start at bytes =
    if start.kind == 1 then frames_read start.output at bytes
    else cells_read start.version start.output at bytes

-- the file ends here; a byte that is here is refused at its place
abbrev pub end_read : ℕ → List ℕ → Result (Unit {0} × ℕ) ReadError
end_read at bytes = if length bytes == at then Ok (tt, at) else Err (Bad (Form at))

abbrev pub value_read : ℕ → List ℕ → Result (MapFile × ℕ) ReadError
value_read at bytes =
    start_read map_magic 2 2 at bytes >>= λ start. body_read start.0 start.1 bytes

-- the value of a whole list of bytes, or its first refusal
abbrev pub map_read : List ℕ → Result MapFile ReadError
map_read bytes =
    value_read 0 bytes >>= λ value. end_read value.1 bytes >>= λ end. Ok value.0

-- the same for a reader that takes version 1 and kind 0 alone: other versions and other kinds are
-- refused at their fields, and all else is as above
abbrev pub version_one_value_read : ℕ → List ℕ → Result (MapFile × ℕ) ReadError
version_one_value_read at bytes =
    start_read map_magic 1 1 at bytes >>= λ start. cells_read One start.0.output start.1 bytes

abbrev pub version_one_map_read : List ℕ → Result MapFile ReadError
version_one_map_read bytes =
    version_one_value_read 0 bytes >>= λ value. end_read value.1 bytes >>= λ end. Ok value.0

-- the sources of cells, in version 1
abbrev pub IsVersionOneMap : MapFile → Type 0
IsVersionOneMap (Cells m samples version) = version ≡ One
IsVersionOneMap (Frames size sample frames) = ⊥

-- what a reader of the named file leaves and answers, by what its bytes are read as. A read fault has
-- its cause, and out of memory is free
abbrev pub MapReadsBy : (List ℕ → Result MapFile ReadError) → List ℕ → ShelfState → ShelfState
    → Result MapFile ReadError → Type 0
MapReadsBy read name was now (Err ReadFault) = ReadsRose name was now
MapReadsBy read name was now (Err NoMemory) = Unit {0}
MapReadsBy read name was now (Err refusal) = InFile name was now (λ bytes. read bytes ≡ Err refusal)
MapReadsBy read name was now (Ok value) = InFile name was now (λ bytes. read bytes ≡ Ok value)

abbrev pub MapReadsAs : List ℕ → ShelfState → ShelfState → Result MapFile ReadError → Type 0
MapReadsAs = MapReadsBy map_read
