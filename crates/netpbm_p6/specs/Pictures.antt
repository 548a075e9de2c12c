-- A reader has to trust this file. P6 pictures: which bytes stand for which picture, and which
-- refusal comes at which place. (Netpbm's
-- PPM, binary form, with a maxval of at most 255; the bounds are this project's own.)
use Rattle.std.specs.Prelude.{◌≡◌, ◌≤◌, ◌<◌, ◌⊎◌, ◌+◌, ◌*◌, ℕ, List, ◌++◌, length, take, slice_index, All, codes, decimal, Result, Ok, Err}
use Rattle.shelf_traits.specs.Decimals.{capped}
use Rattle.cells.specs.declared.place.Size.{Size}
use Rattle.cells.specs.Cells.{Cells, IsOnePart, IsVolume, volume_of, bytes_of, count_of}
use Rattle.shelf_traits.specs.Files.{ShelfState, InFile, ReadsRose}
use Rattle.shelf_traits.specs.declared.fault.ReadError.{ReadError}
use Rattle.shelf_traits.specs.declared.fault.ReadError.TheVariants.{ReadFault, Bad, Limit, NoMemory}
use Rattle.shelf_traits.specs.declared.fault.FormFault.TheVariants.{Form, Depth, Sample, Trailing}
use Rattle.shelf_traits.specs.declared.fault.What.TheVariants.{Axis, Cells as CellsLimit, Header}
use Rattle.netpbm_p6.specs.declared.picture.Picture.{Picture}
use Rattle.limits.specs.declared.bounds.TheConstants.{GREATEST_AXIS, MOST_HEADER_BYTES, MOST_SAMPLE_CELLS}
use Rattle.netpbm_p6.specs.Header.{IsHeader, IsPrefix, IsProperPrefix}

-- the size of a picture
abbrev pub picture_size : ℕ → ℕ → Size
picture_size width height = record { w = width; h = height; f = 1 }

-- a header, and what follows it
pub record Headed (bytes : List ℕ) : Type 0 where
  pub header : List ℕ
  pub raster : List ℕ
  pub width : ℕ
  pub height : ℕ
  pub maxval : ℕ
  pub is_header : IsHeader header width height maxval
  pub is : bytes ≡ header ++ raster

-- the number of bytes that the raster is to have
abbrev pub raster_length : {bytes : List ℕ} → Headed bytes → ℕ
raster_length headed = 3 * (headed.width * headed.height)

-- the bytes are a header with a maxval of at most 255, a raster with no byte above maxval, and
-- nothing more; the picture is that raster
pub record IsPictureOf (bytes : List ℕ) (picture : Picture) : Type 0 where
  pub headed : Headed bytes
  pub depth : headed.maxval ≤ 255
  pub whole : length headed.raster ≡ raster_length headed
  pub samples : All (λ b. b ≤ headed.maxval) headed.raster
  pub maxval : picture.maxval ≡ headed.maxval
  pub volume : picture.volume ≡ volume_of (picture_size headed.width headed.height) 3 headed.raster

-- the bounds on a header's length, on the axes and on the cells
pub record IsWithinLimits (header : List ℕ) (width height : ℕ) : Type 0 where
  pub header_fits : length header ≤ MOST_HEADER_BYTES
  pub width_fits : width ≤ GREATEST_AXIS
  pub height_fits : height ≤ GREATEST_AXIS
  pub cells_fit : width * height ≤ MOST_SAMPLE_CELLS

-- the bytes stand for the picture, within the limits
pub record IsRead (bytes : List ℕ) (picture : Picture) : Type 0 where
  pub stands : IsPictureOf bytes picture
  pub limits : IsWithinLimits stands.headed.header stands.headed.width stands.headed.height

-- a header that isn't too long
pub record ShortHeaded (bytes : List ℕ) : Type 0 where
  pub headed : Headed bytes
  pub short : length headed.header ≤ MOST_HEADER_BYTES

-- a header with a maxval of at most 255, within the limits
pub record Within (bytes : List ℕ) : Type 0 where
  pub headed : Headed bytes
  pub depth : headed.maxval ≤ 255
  pub limits : IsWithinLimits headed.header headed.width headed.height

-- the header breaks off or goes wrong at a place before it is too long
pub record BreaksAt (bytes : List ℕ) (at : ℕ) : Type 0 where
  pub early : at ≤ MOST_HEADER_BYTES
  pub inside : at ≤ length bytes
  pub before : IsProperPrefix (take at bytes)
  pub here : (length bytes ≡ at) ⊎ ((at < length bytes) × (IsPrefix (take (at + 1) bytes) → ⊥))

-- the header is too long: the most bytes of one are a proper prefix of one, and the byte that
-- follows could still be one of it
pub record HeaderTooLong (bytes : List ℕ) : Type 0 where
  pub longer : MOST_HEADER_BYTES < length bytes
  pub starts : IsProperPrefix (take MOST_HEADER_BYTES bytes)
  pub lawful : IsPrefix (take (MOST_HEADER_BYTES + 1) bytes)

-- the raster ends early, with no byte above maxval
pub record EndsEarly (bytes : List ℕ) (at : ℕ) : Type 0 where
  pub within : Within bytes
  pub short : length within.headed.raster < raster_length within.headed
  pub samples : All (λ b. b ≤ within.headed.maxval) within.headed.raster
  pub place : at ≡ length bytes

-- the first byte above maxval of a raster
pub record IsAbove (bytes : List ℕ) (at : ℕ) : Type 0 where
  pub within : Within bytes
  pub index : ℕ
  pub early : index < raster_length within.headed
  pub inside : index < length within.headed.raster
  pub before : All (λ b. b ≤ within.headed.maxval) (take index within.headed.raster)
  pub above : within.headed.maxval < slice_index within.headed.raster index
  pub place : at ≡ length within.headed.header + index

-- a byte after a whole raster with no byte above maxval
pub record GoesOn (bytes : List ℕ) (at : ℕ) : Type 0 where
  pub within : Within bytes
  pub longer : raster_length within.headed < length within.headed.raster
  pub samples : All (λ b. b ≤ within.headed.maxval)
      (take (raster_length within.headed) within.headed.raster)
  pub place : at ≡ length within.headed.header + raster_length within.headed

-- width above its bound, or height where width is in it
abbrev pub AxisPasses : ℕ → ℕ → ℕ → Type 0
AxisPasses width height number =
    ((GREATEST_AXIS < width) × (number ≡ capped width))
    ⊎ ((width ≤ GREATEST_AXIS) × (GREATEST_AXIS < height) × (number ≡ capped height))

-- a width and a height in their bounds that make too many cells
pub record CellsPass (width height number : ℕ) : Type 0 where
  pub width_fits : width ≤ GREATEST_AXIS
  pub height_fits : height ≤ GREATEST_AXIS
  pub passes : MOST_SAMPLE_CELLS < width * height
  pub number_is : number ≡ width * height

-- the refusal of the bytes, the first in the order of trial: the header's form, its length, the
-- depth, the axes, the cells, and then the raster in the order of its bytes
abbrev pub Refuses : List ℕ → ReadError → Type 0
Refuses bytes (Bad (Form at)) = BreaksAt bytes at ⊎ EndsEarly bytes at
Refuses bytes (Limit Header number bound) =
    HeaderTooLong bytes × (number ≡ MOST_HEADER_BYTES + 1) × (bound ≡ MOST_HEADER_BYTES)
Refuses bytes (Bad Depth) = (short : ShortHeaded bytes) × (255 < short.headed.maxval)
Refuses bytes (Limit Axis number bound) =
    (short : ShortHeaded bytes) × (short.headed.maxval ≤ 255)
    × AxisPasses short.headed.width short.headed.height number × (bound ≡ GREATEST_AXIS)
Refuses bytes (Limit CellsLimit number bound) =
    (short : ShortHeaded bytes) × (short.headed.maxval ≤ 255)
    × CellsPass short.headed.width short.headed.height number × (bound ≡ MOST_SAMPLE_CELLS)
Refuses bytes (Bad (Sample at)) = IsAbove bytes at
Refuses bytes (Bad (Trailing at)) = GoesOn bytes at
Refuses bytes error = ⊥

-- what a reader of the named file leaves and answers
abbrev pub ReadsAs : List ℕ → ShelfState → ShelfState → Result Picture ReadError → Type 0
ReadsAs name was now (Ok picture) = InFile name was now (λ bytes. IsRead bytes picture)
ReadsAs name was now (Err ReadFault) = ReadsRose name was now
ReadsAs name was now (Err NoMemory) = Unit {0}
ReadsAs name was now (Err error) = InFile name was now (λ bytes. Refuses bytes error)

-- a picture that can be written: a maxval of at least 1, one frame, three samples, and no byte
-- above maxval
pub record IsPicture (maxval : ℕ) (volume : Cells) : Type 0 where
  pub positive : 1 ≤ maxval
  pub fits : maxval ≤ 255
  pub volume_is : IsVolume volume
  pub one : IsOnePart volume
  pub frames : volume.size.f ≡ 1
  pub colours : volume.k ≡ 3
  pub samples : All (λ b. b ≤ maxval) (bytes_of volume)

-- what every picture that is read is, whether or not the shelf tells its files: one that can be
-- written
pub record IsSound (picture : Picture) : Type 0 where
  pub form : IsPicture picture.maxval picture.volume
  pub cells : count_of picture.volume ≤ MOST_SAMPLE_CELLS

-- the one spelling of a picture that the writer gives
abbrev pub p6_form : ℕ → Cells → List ℕ
p6_form maxval volume =
    codes "P6\n" ++ decimal volume.size.w ++ codes " " ++ decimal volume.size.h ++ codes "\n"
    ++ decimal maxval ++ codes "\n" ++ bytes_of volume
