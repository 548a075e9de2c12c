-- A reader has to trust this file. Clips: which bytes stand for which clip, and which refusal comes
-- at which place. (YUV4MPEG2, with planes of 8 bits; the bounds are this project's own.)
use Rattle.std.specs.Prelude.{◌≡◌, ◌≢◌, ◌≤◌, ◌⊎◌, ◌+◌, ◌-◌, ◌*◌, ◌/◌, ◌%◌, ℕ, ◌==◌, if◌then◌else◌, List, [], ◌∷◌, ◌++◌, length, take, drop, min, Option, Some, None, unwrap_or, codes}
use Rattle.std.specs.List.{AllByRecursion, flat_map}
use Rattle.shelf_traits.specs.Decimals.{value_behind}
use Rattle.cells.specs.Cells.{volume_of}
use Rattle.y4m_clip.specs.declared.form.SpaceKind.{SpaceKind}
use Rattle.y4m_clip.specs.declared.form.Clip.{Clip}
use Rattle.limits.specs.declared.bounds.TheConstants.{GREATEST_AXIS, MOST_LINE_BYTES, MOST_TAG_BYTES}
use Rattle.y4m_clip.specs.StreamLine.{is_axis, IsStreamLine}
use Rattle.y4m_clip.specs.Spaces.{GivesSpace, GivesInterlace, cell_width, cell_height, samples_of, joined_to, cell_bytes}

-- Tags.

-- the value of the first tag with a letter
abbrev pub tag_value : ℕ → List (List ℕ) → Option (List ℕ)
tag_value letter [] = None
tag_value letter ([] ∷ tags) = tag_value letter tags
tag_value letter ((l ∷ value) ∷ tags) = if l == letter then Some value else tag_value letter tags

-- the number that the tag with a letter gives
abbrev pub tag_number : ℕ → List (List ℕ) → ℕ
tag_number letter tags = value_behind 0 (unwrap_or (tag_value letter tags) [])

-- all tags but W and H
abbrev pub carried : List (List ℕ) → List (List ℕ)
carried [] = []
carried ([] ∷ tags) = carried tags
carried ((l ∷ value) ∷ tags) =
    if is_axis l then carried tags else (l ∷ value) ∷ carried tags

-- tags with one blank before each
abbrev pub spaced : List (List ℕ) → List ℕ
spaced tags = flat_map (λ tag. 32 ∷ tag) tags

-- The front of a clip.

-- a stream line, and what follows it
pub record Lined (bytes : List ℕ) : Type 0 where
  pub line : List ℕ
  pub rest : List ℕ
  pub tags : List (List ℕ)
  pub is_line : IsStreamLine line tags
  pub is : bytes ≡ line ++ rest

-- the colour kind, and an interlacing that is read
pub record HasSpaceKind (tags : List (List ℕ)) (kind : SpaceKind) : Type 0 where
  pub space : GivesSpace (tag_value 67 tags) kind
  pub interlace : GivesInterlace (tag_value 73 tags)

-- width and height in pixels
abbrev pub pixels_w : List (List ℕ) → ℕ
pixels_w tags = tag_number 87 tags

abbrev pub pixels_h : List (List ℕ) → ℕ
pixels_h tags = tag_number 72 tags

-- width and height are whole numbers of cells
abbrev pub IsWhole : List (List ℕ) → SpaceKind → Type 0
IsWhole tags kind =
    (pixels_w tags % cell_width kind ≡ 0) × (pixels_h tags % cell_height kind ≡ 0)

-- width and height in cells
abbrev pub cells_w : List (List ℕ) → SpaceKind → ℕ
cells_w tags kind = pixels_w tags / cell_width kind

abbrev pub cells_h : List (List ℕ) → SpaceKind → ℕ
cells_h tags kind = pixels_h tags / cell_height kind

-- a stream line with a colour kind, and whole cells
pub record Sized (bytes : List ℕ) : Type 0 where
  pub lined : Lined bytes
  pub kind : SpaceKind
  pub is_kind : HasSpaceKind lined.tags kind
  pub whole : IsWhole lined.tags kind

-- the bounds on the stream line, the carried tags, width and height, and on the cells of one frame
pub record LineFits (line : List ℕ) (tags : List (List ℕ)) (kind : SpaceKind)
    (most : ℕ) : Type 0 where
  pub line_fits : length line ≤ MOST_LINE_BYTES
  pub tags_fit : length (spaced (carried tags)) ≤ MOST_TAG_BYTES
  pub width_fits : cells_w tags kind ≤ GREATEST_AXIS
  pub height_fits : cells_h tags kind ≤ GREATEST_AXIS
  pub cells_fit : cells_w tags kind * cells_h tags kind ≤ most

pub record Fronted (bytes : List ℕ) (most : ℕ) : Type 0 where
  pub sized : Sized bytes
  pub fits : LineFits sized.lined.line sized.lined.tags sized.kind most

-- Frames.

-- `FRAME` and LF, or `FRAME`, a blank, any bytes but LF, and LF
abbrev pub IsFrameLine : List ℕ → Type 0
IsFrameLine line =
    (line ≡ codes "FRAME\n")
    ⊎ ((words : List ℕ) × AllByRecursion (λ b. b ≢ 10) words
    × (line ≡ codes "FRAME " ++ words ++ 10 ∷ []))

-- a prefix of a frame line without its LF
abbrev pub IsOpenFrameLine : List ℕ → Type 0
IsOpenFrameLine text =
    ((rest : List ℕ) × (text ++ rest ≡ codes "FRAME"))
    ⊎ ((words : List ℕ) × AllByRecursion (λ b. b ≢ 10) words × (text ≡ codes "FRAME " ++ words))

-- a prefix of a frame line
abbrev pub IsFrameLinePrefix : List ℕ → Type 0
IsFrameLinePrefix text = IsOpenFrameLine text ⊎ IsFrameLine text

-- the planes of a frame of w x h cells: luma, and two of chroma unless it is mono
abbrev pub plane_bytes : SpaceKind → ℕ → ℕ → ℕ
plane_bytes kind w h = samples_of kind * (w * h)

-- so many bytes from a place on
abbrev pub span : List ℕ → ℕ → ℕ → List ℕ
span bytes start count = take count (drop start bytes)

-- the pixels of so many cells
abbrev pub pixels_of : SpaceKind → ℕ → ℕ
pixels_of kind cells = cell_width kind * cell_height kind * cells

-- the cells of a row with so many of n cells before it: the luma plane has a row or two of pixels
-- for it, and each chroma plane a row
abbrev pub row_cells : SpaceKind → ℕ → ℕ → List ℕ → ℕ → List ℕ
row_cells kind w n planes before =
    joined_to w (cell_bytes kind
    (span planes (pixels_of kind before) (cell_width kind * w))
    (span planes (pixels_of kind before + cell_width kind * w * (cell_height kind - 1))
    (cell_width kind * w))
    (span planes (pixels_of kind n + before) w)
    (span planes (pixels_of kind n + n + before) w))

-- the cells of row y of a frame of w x h cells
abbrev pub frame_row : SpaceKind → ℕ → ℕ → List ℕ → ℕ → List ℕ
frame_row kind w h planes y = row_cells kind w (w * h) planes (w * y)

-- the bytes of the cells of a frame, in raster order
abbrev pub frame_cells : SpaceKind → ℕ → ℕ → List ℕ → List ℕ
frame_cells kind w h planes = joined_to h (frame_row kind w h planes)

pub record Frame : Type 0 where
  pub line : List ℕ
  pub planes : List ℕ

abbrev pub frame_text : Frame → List ℕ
frame_text frame = frame.line ++ frame.planes

pub record IsFrame (kind : SpaceKind) (w h : ℕ) (frame : Frame) : Type 0 where
  pub is_line : IsFrameLine frame.line
  pub whole : length frame.planes ≡ plane_bytes kind w h

abbrev pub IsShortFrame : Frame → Type 0
IsShortFrame frame = length frame.line ≤ MOST_LINE_BYTES

abbrev pub frames_text : List Frame → List ℕ
frames_text frames = flat_map frame_text frames

-- Clips.

-- the bytes are a stream line, one or more frames, and nothing more; the clip has the line's colour
-- kind, its tags but W and H, and the cells of the frames
pub record IsClipOf (bytes : List ℕ) (clip : Clip) : Type 0 where
  pub sized : Sized bytes
  pub frames : List Frame
  pub some : 1 ≤ length frames
  pub each : AllByRecursion (IsFrame sized.kind (cells_w sized.lined.tags sized.kind)
      (cells_h sized.lined.tags sized.kind)) frames
  pub is : sized.lined.rest ≡ frames_text frames
  pub space : clip.form.space ≡ sized.kind
  pub tags : clip.form.tags ≡ carried sized.lined.tags
  pub volume : clip.volume ≡ volume_of
      (record {
        w = cells_w sized.lined.tags sized.kind;
        h = cells_h sized.lined.tags sized.kind;
        f = length frames;
      }) (samples_of sized.kind)
      (flat_map (λ frame. frame_cells sized.kind (cells_w sized.lined.tags sized.kind)
      (cells_h sized.lined.tags sized.kind) frame.planes) frames)

-- the greatest number of frames of w x h cells
abbrev pub most_frames : ℕ → ℕ → ℕ → ℕ
most_frames w h most = min GREATEST_AXIS (most / (w * h))
