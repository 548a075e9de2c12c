-- The state of the reader: what it makes of the frames. (Own.)
use Rattle.std.specs.declared.alloc.Global.{Global}
use Rattle.std.specs.Prelude.{Vec, ◌==◌, ◌≡◌, ◌≢◌, ◌≤◌, ◌<◌, ◌⊎◌, ◌+◌, ◌*◌, ℕ, List, [], ◌∷◌, ◌++◌, length, take, drop, nat_lt, if◌then◌else◌, Option, Some, None, Result, Ok, Err}
use Rattle.std.specs.List.{AllByRecursion, flat_map}
use Rattle.cells.specs.declared.place.Size.{Size}
use Rattle.shelf_traits.specs.Files.{ShelfState, InFile, ReadsRose}
use Rattle.shelf_traits.specs.declared.fault.ReadError.{ReadError}
use Rattle.shelf_traits.specs.declared.fault.ReadError.TheVariants.{ReadFault, Bad, Limit, NoMemory}
use Rattle.shelf_traits.specs.declared.fault.FormFault.TheVariants.{Form, NoFrames}
use Rattle.shelf_traits.specs.declared.fault.What.TheVariants.{Axis, Cells as CellsLimit, Header}
use Rattle.limits.specs.declared.bounds.TheConstants.{GREATEST_AXIS, MOST_CELLS, MOST_LINE_BYTES}
use Rattle.y4m_clip.specs.declared.form.SpaceKind.{SpaceKind}
use Rattle.y4m_clip.specs.declared.frame.FrameScan.{FrameScan}
use Rattle.y4m_clip.specs.declared.frame.FrameScan.TheVariants.{Nothing, Open, Wrong, Whole}
use Rattle.y4m_clip.specs.Clips.{IsFrameLine, IsOpenFrameLine, IsFrameLinePrefix, Frame, IsFrame, IsShortFrame, frame_text, frames_text, frame_cells, plane_bytes, most_frames}
use Rattle.y4m_clip.specs.Refusals.{FrameLineBreaks, PlanesBreak, FrameLineTooLong}
use Rattle.y4m_clip.specs.declared.head.Front.{Front}
use Rattle.y4m_clip.specs.declared.frames.Filled.{Filled}
use Rattle.y4m_clip.specs.Spaces.{samples_of}
use Rattle.y4m_clip.specs.Reading.{line_limit}
use Rattle.y4m_clip.specs.Writing.{IsForm}

-- the first LF of a text
pub record IsFirstEnd (text : List ℕ) (i : ℕ) : Type 0 where
  pub inside : i < length text
  pub before : AllByRecursion (λ b. b ≢ 10) (take i text)
  pub ends : take (i + 1) text ≡ take i text ++ 10 ∷ []

-- a byte that goes wrong is one of the first six
abbrev pub IsEarly : FrameScan → Type 0
IsEarly Nothing = Unit {0}
IsEarly Open = Unit {0}
IsEarly (Wrong i) = i ≤ 5
IsEarly (Whole n) = Unit {0}

-- the byte at a place has no place in a frame line
pub record WrongInFrame (text : List ℕ) (i : ℕ) : Type 0 where
  pub inside : i < length text
  pub before : IsOpenFrameLine (take i text)
  pub here : IsFrameLinePrefix (take (i + 1) text) → ⊥

-- what the front of a frame is
abbrev pub IsFrameScanned : List ℕ → FrameScan → Type 0
IsFrameScanned text Nothing = text ≡ []
IsFrameScanned text Open = (1 ≤ length text) × IsOpenFrameLine text
IsFrameScanned text (Wrong i) = WrongInFrame text i
IsFrameScanned text (Whole n) = (n ≤ length text) × IsFrameLine (take n text)

-- the answer of a frame line at a place, of which so many bytes were asked for
abbrev pub frame_judged : ℕ → ℕ → FrameScan → Result (Option ℕ) ReadError
frame_judged at count Nothing = Ok None
frame_judged at count Open =
    if nat_lt MOST_LINE_BYTES count then Err line_limit else Err (Bad (Form (at + count)))
frame_judged at count (Wrong i) = Err (Bad (Form (at + i)))
frame_judged at count (Whole n) = if nat_lt MOST_LINE_BYTES n then Err line_limit else Ok (Some n)

-- a frame line of so many bytes
pub record HasFrameLine (rest : List ℕ) (n : ℕ) : Type 0 where
  pub inside : n ≤ length rest
  pub is_line : IsFrameLine (take n rest)
  pub short : n ≤ MOST_LINE_BYTES

-- what is at a place of a file
abbrev pub IsFrameFound : List ℕ → ℕ → Result (Option ℕ) ReadError → Type 0
IsFrameFound rest at (Ok None) = rest ≡ []
IsFrameFound rest at (Ok (Some n)) = HasFrameLine rest n
IsFrameFound rest at (Err (Bad (Form place))) = (i : ℕ) × (place ≡ at + i) × FrameLineBreaks rest i
IsFrameFound rest at (Err (Limit Header number bound)) =
    FrameLineTooLong rest × (number ≡ MOST_LINE_BYTES + 1) × (bound ≡ MOST_LINE_BYTES)
IsFrameFound rest at (Err error) = ⊥

abbrev pub FindsFrameAs : List ℕ → ℕ → ShelfState → ShelfState → Result (Option ℕ) ReadError
    → Type 0
FindsFrameAs name at was now (Ok found) =
    InFile name was now (λ bytes. IsFrameFound (drop at bytes) at (Ok found))
FindsFrameAs name at was now (Err ReadFault) = ReadsRose name was now
FindsFrameAs name at was now (Err (Bad (Form place))) =
    InFile name was now (λ bytes. IsFrameFound (drop at bytes) at (Err (Bad (Form place))))
FindsFrameAs name at was now (Err (Limit Header number bound)) =
    InFile name was now (λ bytes. IsFrameFound (drop at bytes) at
    (Err (Limit Header number bound)))
FindsFrameAs name at was now (Err error) = ⊥

-- the planes of a frame follow at a place
pub record HasPlanes (rest planes : List ℕ) : Type 0 where
  pub long : length planes ≤ length rest
  pub is : planes ≡ take (length planes) rest

abbrev pub FillsPlanesAs : List ℕ → ℕ → List ℕ → ShelfState → ShelfState
    → Result (Unit {0}) ReadError → Type 0
FillsPlanesAs name start planes was now (Ok done) =
    InFile name was now (λ bytes. HasPlanes (drop start bytes) planes)
FillsPlanesAs name start planes was now (Err ReadFault) = ReadsRose name was now
FillsPlanesAs name start planes was now (Err (Bad (Form place))) =
    InFile name was now (λ bytes. (length (drop start bytes) < length planes)
    × (place ≡ start + length (drop start bytes)))
FillsPlanesAs name start planes was now (Err error) = ⊥

-- a frame is at a place of a file, and another place is after it
pub record HasFrame (kind : SpaceKind) (w h : ℕ) (bytes : List ℕ) (at next : ℕ)
    (planes : List ℕ) : Type 0 where
  pub frame : Frame
  pub planes_are : frame.planes ≡ planes
  pub is_frame : IsFrame kind w h frame
  pub short : IsShortFrame frame
  pub place : next ≡ at + length (frame_text frame)
  pub is : drop at bytes ≡ frame_text frame ++ drop next bytes

-- a frame of w x h cells was read at a place, into planes of so many bytes, or refused
abbrev pub ReadsFrameAs : SpaceKind → ℕ → ℕ → List ℕ → ℕ → List ℕ → ShelfState → ShelfState
    → Result (Option ℕ) ReadError → Type 0
ReadsFrameAs kind w h name at planes was now (Ok None) =
    InFile name was now (λ bytes. drop at bytes ≡ [])
ReadsFrameAs kind w h name at planes was now (Ok (Some next)) =
    InFile name was now (λ bytes. HasFrame kind w h bytes at next planes)
ReadsFrameAs kind w h name at planes was now (Err ReadFault) = ReadsRose name was now
ReadsFrameAs kind w h name at planes was now (Err NoMemory) = Unit {0}
ReadsFrameAs kind w h name at planes was now (Err (Bad (Form place))) =
    InFile name was now (λ bytes. (i : ℕ) × (place ≡ at + i)
    × (FrameLineBreaks (drop at bytes) i ⊎ PlanesBreak (length planes) (drop at bytes) i))
ReadsFrameAs kind w h name at planes was now (Err (Limit Header number bound)) =
    InFile name was now (λ bytes. FrameLineTooLong (drop at bytes)
    × (number ≡ MOST_LINE_BYTES + 1) × (bound ≡ MOST_LINE_BYTES))
ReadsFrameAs kind w h name at planes was now (Err error) = ⊥

-- the cells before a frame and after it
abbrev pub grown_by : List ℕ → List ℕ → Option ℕ → List ℕ
grown_by old cells None = old
grown_by old cells (Some next) = old ++ cells

-- so many frames lie between two places of a file, with these cells
pub record FramesSeen (kind : SpaceKind) (w h start : ℕ) (bytes : List ℕ) (count at : ℕ)
    (cells : List ℕ) : Type 0 where
  pub frames : List Frame
  pub count_is : length frames ≡ count
  pub each : AllByRecursion (IsFrame kind w h) frames
  pub short : AllByRecursion IsShortFrame frames
  pub place : at ≡ start + length (frames_text frames)
  pub is : drop start bytes ≡ frames_text frames ++ drop at bytes
  pub cells_are : cells ≡ flat_map (λ frame. frame_cells kind w h frame.planes) frames

-- a byte comes after the greatest number of frames
abbrev pub PassesFrames : ℕ → ℕ → ℕ → ℕ → ReadError → Type 0
PassesFrames w h most count (Limit Axis number bound) =
    (count ≡ GREATEST_AXIS) × (number ≡ GREATEST_AXIS + 1) × (bound ≡ GREATEST_AXIS)
PassesFrames w h most count (Limit CellsLimit number bound) =
    (count < GREATEST_AXIS) × (number ≡ w * h * (count + 1)) × (bound ≡ most)
PassesFrames w h most count error = ⊥

-- after so many frames, a fact of their count, of the place after them and of what is there
pub record After (kind : SpaceKind) (w h start : ℕ) (bytes : List ℕ)
    (Holds : ℕ → ℕ → List ℕ → Type 0) : Type 0 where
  pub count : ℕ
  pub at : ℕ
  pub cells : List ℕ
  pub seen : FramesSeen kind w h start bytes count at cells
  pub holds : Holds count at (drop at bytes)

-- all frames of a file were read, or what they meet first
abbrev pub FramesAs : SpaceKind → ℕ → ℕ → ℕ → ℕ → List ℕ → ShelfState → ShelfState
    → Result Filled ReadError → Type 0
FramesAs kind w h start most name was now (Ok filled) =
    InFile name was now (λ bytes. (at : ℕ)
    × FramesSeen kind w h start bytes filled.count at filled.bytes.items × (drop at bytes ≡ []))
FramesAs kind w h start most name was now (Err ReadFault) = ReadsRose name was now
FramesAs kind w h start most name was now (Err NoMemory) = Unit {0}
FramesAs kind w h start most name was now (Err (Bad NoFrames)) =
    InFile name was now (λ bytes. drop start bytes ≡ [])
FramesAs kind w h start most name was now (Err (Bad (Form place))) =
    InFile name was now (λ bytes. After kind w h start bytes (λ count at rest.
    (count < most_frames w h most) × (i : ℕ) × (place ≡ at + i)
    × (FrameLineBreaks rest i ⊎ PlanesBreak (plane_bytes kind w h) rest i)))
FramesAs kind w h start most name was now (Err (Limit Header number bound)) =
    InFile name was now (λ bytes. After kind w h start bytes (λ count at rest.
    (count < most_frames w h most) × FrameLineTooLong rest
    × (number ≡ MOST_LINE_BYTES + 1) × (bound ≡ MOST_LINE_BYTES)))
FramesAs kind w h start most name was now (Err (Limit Axis number bound)) =
    InFile name was now (λ bytes. After kind w h start bytes (λ count at rest.
    (count ≡ most_frames w h most) × (1 ≤ length rest)
    × PassesFrames w h most count (Limit Axis number bound)))
FramesAs kind w h start most name was now (Err (Limit CellsLimit number bound)) =
    InFile name was now (λ bytes. After kind w h start bytes (λ count at rest.
    (count ≡ most_frames w h most) × (1 ≤ length rest)
    × PassesFrames w h most count (Limit CellsLimit number bound)))
FramesAs kind w h start most name was now (Err error) = ⊥

-- a front of which frames can be read
pub record IsSoundFront (front : Front) (most : ℕ) : Type 0 where
  pub w_some : 1 ≤ front.w
  pub h_some : 1 ≤ front.h
  pub w_fits : front.w ≤ GREATEST_AXIS
  pub h_fits : front.h ≤ GREATEST_AXIS
  pub cells : front.w * front.h ≤ most
  pub start : front.start ≤ MOST_LINE_BYTES
  pub most_fits : most ≤ MOST_CELLS
  pub form : IsForm front.form

-- cells of one frame or more, as many as fit
pub record IsFilledSoFar (front : Front) (most : ℕ) (filled : Filled) : Type 0 where
  pub some : 1 ≤ filled.count
  pub few : filled.count ≤ most_frames front.w front.h most
  pub whole : length filled.bytes.items
      ≡ samples_of front.form.space * front.w * front.h * filled.count

-- the answer of a file that ends after so many frames
abbrev pub finished : Vec ℕ Global → ℕ → Result Filled ReadError
finished bytes count =
    if count == 0 then Err (Bad NoFrames) else Ok (record { bytes = bytes; count = count })

-- the size of a volume with these frames
abbrev pub frames_size : Front → Filled → Size
frames_size front filled = record { w = front.w; h = front.h; f = filled.count }
