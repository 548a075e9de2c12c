-- A reader has to trust this file. Which clip is read, and which refusal comes at which place. (Own.)
use Rattle.std.specs.Prelude.{◌≡◌, ◌≤◌, ◌<◌, ◌⊎◌, ◌+◌, ◌-◌, ◌*◌, ◌/◌, ℕ, List, [], ◌++◌, length, take, Result, Ok, Err}
use Rattle.std.specs.List.{AllByRecursion}
use Rattle.cells.specs.Places.{cell_count}
use Rattle.cells.specs.Cells.{IsOnePart}
use Rattle.shelf_traits.specs.Files.{ShelfState, InFile, ReadsRose}
use Rattle.shelf_traits.specs.declared.fault.ReadError.{ReadError}
use Rattle.shelf_traits.specs.declared.fault.ReadError.TheVariants.{ReadFault, Bad, Limit, NoMemory}
use Rattle.shelf_traits.specs.declared.fault.FormFault.TheVariants.{Form, Space, Cell, NoFrames}
use Rattle.shelf_traits.specs.declared.fault.What.TheVariants.{Axis, Cells as CellsLimit, Header}
use Rattle.y4m_clip.specs.declared.form.SpaceKind.{SpaceKind}
use Rattle.y4m_clip.specs.declared.form.Clip.{Clip}
use Rattle.limits.specs.declared.bounds.TheConstants.{GREATEST_AXIS, MOST_LINE_BYTES, MOST_TAG_BYTES}
use Rattle.y4m_clip.specs.StreamLine.{IsLinePrefix, IsProperLinePrefix}
use Rattle.y4m_clip.specs.Spaces.{cell_width, cell_height, samples_of}
use Rattle.shelf_traits.specs.Decimals.{capped}
use Rattle.y4m_clip.specs.Clips.{carried, spaced, pixels_w, pixels_h, Lined, HasSpaceKind, IsWhole, Sized, LineFits, Fronted, cells_w, cells_h, IsOpenFrameLine, IsFrameLine, IsFrameLinePrefix, Frame, IsFrame, IsShortFrame, frames_text, plane_bytes, IsClipOf, most_frames}
use Rattle.y4m_clip.specs.Writing.{IsForm}

-- The stream line.

-- the stream line breaks off or goes wrong at a place before it is too long
pub record LineBreaks (bytes : List ℕ) (at : ℕ) : Type 0 where
  pub early : at ≤ MOST_LINE_BYTES
  pub inside : at ≤ length bytes
  pub before : IsProperLinePrefix (take at bytes)
  pub here : (length bytes ≡ at)
      ⊎ ((at < length bytes) × (IsLinePrefix (take (at + 1) bytes) → ⊥))

-- the stream line is too long: the most bytes of one are a proper prefix of one, and the byte that
-- follows could still be one of it
pub record LineTooLong (bytes : List ℕ) : Type 0 where
  pub longer : MOST_LINE_BYTES < length bytes
  pub starts : IsProperLinePrefix (take MOST_LINE_BYTES bytes)
  pub lawful : IsLinePrefix (take (MOST_LINE_BYTES + 1) bytes)

-- a stream line that isn't too long
pub record ShortLined (bytes : List ℕ) : Type 0 where
  pub lined : Lined bytes
  pub short : length lined.line ≤ MOST_LINE_BYTES

-- such a line, with a colour kind and an interlacing that is read
pub record KindLined (bytes : List ℕ) : Type 0 where
  pub lined : ShortLined bytes
  pub kind : SpaceKind
  pub is_kind : HasSpaceKind lined.lined.tags kind

-- such a line, with whole cells
pub record ShortSized (bytes : List ℕ) : Type 0 where
  pub sized : Sized bytes
  pub short : length sized.lined.line ≤ MOST_LINE_BYTES

-- the carried tags are too long
pub record TagsTooLong (bytes : List ℕ) (number : ℕ) : Type 0 where
  pub short : ShortSized bytes
  pub longer : MOST_TAG_BYTES < number
  pub number_is : number ≡ length (spaced (carried short.sized.lined.tags))

-- the width is above its bound, or the height where the width is in it
abbrev pub SizePasses : List (List ℕ) → SpaceKind → ℕ → Type 0
SizePasses tags kind number =
    ((GREATEST_AXIS < cells_w tags kind)
    × (number ≡ capped (pixels_w tags) / cell_width kind))
    ⊎ ((cells_w tags kind ≤ GREATEST_AXIS) × (GREATEST_AXIS < cells_h tags kind)
    × (number ≡ capped (pixels_h tags) / cell_height kind))

pub record SizeTooGreat (bytes : List ℕ) (number : ℕ) : Type 0 where
  pub short : ShortSized bytes
  pub tags_fit : length (spaced (carried short.sized.lined.tags)) ≤ MOST_TAG_BYTES
  pub passes : SizePasses short.sized.lined.tags short.sized.kind number

-- one frame has too many cells
pub record FrameTooGreat (bytes : List ℕ) (most number : ℕ) : Type 0 where
  pub short : ShortSized bytes
  pub tags_fit : length (spaced (carried short.sized.lined.tags)) ≤ MOST_TAG_BYTES
  pub width_fits : cells_w short.sized.lined.tags short.sized.kind ≤ GREATEST_AXIS
  pub height_fits : cells_h short.sized.lined.tags short.sized.kind ≤ GREATEST_AXIS
  pub passes : most < number
  pub number_is : number ≡ cells_w short.sized.lined.tags short.sized.kind
      * cells_h short.sized.lined.tags short.sized.kind

-- The frames.

-- width and height in cells of the frames
abbrev pub width_of : {bytes : List ℕ} {most : ℕ} → Fronted bytes most → ℕ
width_of front = cells_w front.sized.lined.tags front.sized.kind

abbrev pub height_of : {bytes : List ℕ} {most : ℕ} → Fronted bytes most → ℕ
height_of front = cells_h front.sized.lined.tags front.sized.kind

-- what follows the stream line is so many whole frames, and a rest
pub record Framed (kind : SpaceKind) (w h : ℕ) (text rest : List ℕ) (count : ℕ) : Type 0 where
  pub frames : List Frame
  pub count_is : length frames ≡ count
  pub each : AllByRecursion (IsFrame kind w h) frames
  pub short : AllByRecursion IsShortFrame frames
  pub is : text ≡ frames_text frames ++ rest

-- a frame breaks off or goes wrong in its line, after i bytes of it
pub record FrameLineBreaks (rest : List ℕ) (i : ℕ) : Type 0 where
  pub early : i ≤ MOST_LINE_BYTES
  pub inside : i ≤ length rest
  pub before : IsOpenFrameLine (take i rest)
  pub here : ((1 ≤ i) × (length rest ≡ i))
      ⊎ ((i < length rest) × (IsFrameLinePrefix (take (i + 1) rest) → ⊥))

-- a frame breaks off in its planes
pub record PlanesBreak (want : ℕ) (rest : List ℕ) (i : ℕ) : Type 0 where
  pub line : List ℕ
  pub part : List ℕ
  pub is_line : IsFrameLine line
  pub short_line : length line ≤ MOST_LINE_BYTES
  pub is : rest ≡ line ++ part
  pub short : length part < want
  pub place : length rest ≡ i

-- a frame line is too long
pub record FrameLineTooLong (rest : List ℕ) : Type 0 where
  pub longer : MOST_LINE_BYTES < length rest
  pub starts : IsOpenFrameLine (take MOST_LINE_BYTES rest)

-- after the frames that a clip may have, a fact of what follows
pub record Behind (bytes : List ℕ) (most : ℕ)
    (Holds : Fronted bytes most → List ℕ → ℕ → Type 0) : Type 0 where
  pub front : Fronted bytes most
  pub rest : List ℕ
  pub count : ℕ
  pub framed : Framed front.sized.kind (width_of front) (height_of front)
      front.sized.lined.rest rest count
  pub holds : Holds front rest count

-- the greatest number of frames
abbrev pub bound_of : {bytes : List ℕ} {most : ℕ} → Fronted bytes most → ℕ
bound_of {bytes} {most} front = most_frames (width_of front) (height_of front) most

-- a frame that the clip may still have breaks at a place of the file
abbrev pub FrameBreaks : (bytes : List ℕ) → ℕ → ℕ → Type 0
FrameBreaks bytes most at = Behind bytes most (λ front rest count. (count < bound_of front)
    × ((i : ℕ) × (at ≡ length bytes - length rest + i) × (FrameLineBreaks rest i
    ⊎ PlanesBreak (plane_bytes front.sized.kind (width_of front) (height_of front)) rest i)))

abbrev pub FrameHeaderTooLong : List ℕ → ℕ → Type 0
FrameHeaderTooLong bytes most = Behind bytes most (λ front rest count.
    (count < bound_of front) × FrameLineTooLong rest)

-- a byte comes after the greatest number of frames, which is the bound of an axis
abbrev pub TooManyFrames : List ℕ → ℕ → Type 0
TooManyFrames bytes most = Behind bytes most (λ front rest count.
    (count ≡ bound_of front) × (1 ≤ length rest) × (bound_of front ≡ GREATEST_AXIS))

-- the same, where another frame would have too many cells
abbrev pub TooManyCells : List ℕ → ℕ → ℕ → Type 0
TooManyCells bytes most number = Behind bytes most (λ front rest count.
    (count ≡ bound_of front) × (1 ≤ length rest) × (bound_of front < GREATEST_AXIS)
    × (number ≡ width_of front * height_of front * (count + 1)))

-- The answers.

-- the refusal of the bytes, the first in the order of trial: the stream line's form, its length, the
-- colour kind and interlacing, whole cells, the carried tags, the axes, the cells of a frame, a
-- frame at all, and then the frames in the order of the bytes
abbrev pub RefusesClip : ℕ → List ℕ → ReadError → Type 0
RefusesClip most bytes (Bad (Form at)) = LineBreaks bytes at ⊎ FrameBreaks bytes most at
RefusesClip most bytes (Limit Header number bound) =
    (LineTooLong bytes × (number ≡ MOST_LINE_BYTES + 1) × (bound ≡ MOST_LINE_BYTES))
    ⊎ (TagsTooLong bytes number × (bound ≡ MOST_TAG_BYTES))
    ⊎ (FrameHeaderTooLong bytes most × (number ≡ MOST_LINE_BYTES + 1) × (bound ≡ MOST_LINE_BYTES))
RefusesClip most bytes (Bad Space) =
    (short : ShortLined bytes) × ((kind : SpaceKind) → HasSpaceKind short.lined.tags kind → ⊥)
RefusesClip most bytes (Bad Cell) =
    (lined : KindLined bytes) × (IsWhole lined.lined.lined.tags lined.kind → ⊥)
RefusesClip most bytes (Limit Axis number bound) =
    (SizeTooGreat bytes number ⊎ (TooManyFrames bytes most × (number ≡ GREATEST_AXIS + 1)))
    × (bound ≡ GREATEST_AXIS)
RefusesClip most bytes (Limit CellsLimit number bound) =
    (FrameTooGreat bytes most number ⊎ TooManyCells bytes most number) × (bound ≡ most)
RefusesClip most bytes (Bad NoFrames) =
    (front : Fronted bytes most) × (front.sized.lined.rest ≡ [])
RefusesClip most bytes error = ⊥

-- the bytes stand for the clip, within the limits
pub record IsReadClip (most : ℕ) (bytes : List ℕ) (clip : Clip) : Type 0 where
  pub stands : IsClipOf bytes clip
  pub fits : LineFits stands.sized.lined.line stands.sized.lined.tags stands.sized.kind most
  pub short : AllByRecursion IsShortFrame stands.frames
  pub few : length stands.frames ≤ most_frames
      (cells_w stands.sized.lined.tags stands.sized.kind)
      (cells_h stands.sized.lined.tags stands.sized.kind) most

-- what a reader of the named file leaves and answers
abbrev pub ReadsClipAs : ℕ → List ℕ → ShelfState → ShelfState → Result Clip ReadError → Type 0
ReadsClipAs most name was now (Ok clip) = InFile name was now (λ bytes. IsReadClip most bytes clip)
ReadsClipAs most name was now (Err ReadFault) = ReadsRose name was now
ReadsClipAs most name was now (Err NoMemory) = Unit {0}
ReadsClipAs most name was now (Err error) =
    InFile name was now (λ bytes. RefusesClip most bytes error)

-- what every clip that is read is, whether or not the shelf tells its files: it can be written
pub record IsSoundClip (most : ℕ) (clip : Clip) : Type 0 where
  pub form : IsForm clip.form
  pub one : IsOnePart clip.volume
  pub samples : clip.volume.k ≡ samples_of clip.form.space
  pub cells : cell_count clip.volume.size ≤ most
