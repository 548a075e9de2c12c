-- The state of the reader: what it makes of the tags of a stream line. (Own.)
use Rattle.std.specs.Prelude.{◌≡◌, ◌≤◌, ◌<◌, ◌⊎◌, ◌*◌, ◌/◌, ◌%◌, ℕ, List, length, Result, Ok, Err}
use Rattle.shelf_traits.specs.declared.fault.ReadError.{ReadError}
use Rattle.shelf_traits.specs.declared.fault.ReadError.TheVariants.{Bad, Limit, NoMemory}
use Rattle.shelf_traits.specs.declared.fault.FormFault.TheVariants.{Space, Cell}
use Rattle.shelf_traits.specs.declared.fault.What.TheVariants.{Axis, Cells as CellsLimit, Header}
use Rattle.limits.specs.declared.bounds.TheConstants.{GREATEST_AXIS, MOST_TAG_BYTES}
use Rattle.y4m_clip.specs.declared.head.Count.{Count}
use Rattle.y4m_clip.specs.declared.head.Front.{Front}
use Rattle.y4m_clip.specs.declared.line.Line.{Line}
use Rattle.y4m_clip.specs.declared.form.SpaceKind.{SpaceKind}
use Rattle.y4m_clip.specs.Spaces.{cell_width, cell_height}
use Rattle.shelf_traits.specs.Decimals.{capped}
use Rattle.y4m_clip.specs.Clips.{carried, spaced, pixels_w, pixels_h, HasSpaceKind, IsWhole}

-- a number, as far as a u64 goes, and what is left of it after division by 4
pub record IsCounted (n : ℕ) (count : Count) : Type 0 where
  pub number : count.number ≡ capped n
  pub left : count.left ≡ n % 4

-- a number of pixels is a whole number of cells, which are counted as far as a u64 of pixels goes
pub record IsCellNumber (pixels cell number : ℕ) : Type 0 where
  pub whole : pixels % cell ≡ 0
  pub number_is : number ≡ capped pixels / cell

-- width and height in cells within their limits, or the first that is passed
abbrev pub SizeExceeds : ℕ → ℕ → ℕ → ReadError → Type 0
SizeExceeds w h most (Limit Axis number bound) =
    (((GREATEST_AXIS < w) × (number ≡ w))
    ⊎ ((w ≤ GREATEST_AXIS) × (GREATEST_AXIS < h) × (number ≡ h))) × (bound ≡ GREATEST_AXIS)
SizeExceeds w h most (Limit CellsLimit number bound) =
    (w ≤ GREATEST_AXIS) × (h ≤ GREATEST_AXIS) × (most < number) × (number ≡ w * h) × (bound ≡ most)
SizeExceeds w h most error = ⊥

pub record SizeFits (w h most : ℕ) (size : ℕ × ℕ) : Type 0 where
  pub width : w ≤ GREATEST_AXIS
  pub height : h ≤ GREATEST_AXIS
  pub cells : w * h ≤ most
  pub width_is : size.0 ≡ w
  pub height_is : size.1 ≡ h

abbrev pub IsAllowedSize : ℕ → ℕ → ℕ → Result (ℕ × ℕ) ReadError → Type 0
IsAllowedSize w h most (Ok size) = SizeFits w h most size
IsAllowedSize w h most (Err error) = SizeExceeds w h most error

-- width and height in cells, as far as a u64 of pixels goes
pub record HasWholeCells (tags : List (List ℕ)) (kind : SpaceKind) (w h : ℕ) : Type 0 where
  pub is_kind : HasSpaceKind tags kind
  pub width : IsCellNumber (pixels_w tags) (cell_width kind) w
  pub height : IsCellNumber (pixels_h tags) (cell_height kind) h

-- the bytes of the carried tags, as far as a u64 goes
abbrev pub carried_number : List (List ℕ) → ℕ
carried_number tags = capped (length (spaced (carried tags)))

-- the front that the tags of a line give
pub record HasFront (line : Line) (most : ℕ) (front : Front) : Type 0 where
  pub w : ℕ
  pub h : ℕ
  pub cells : HasWholeCells line.tags front.form.space w h
  pub tags_fit : carried_number line.tags ≤ MOST_TAG_BYTES
  pub size : SizeFits w h most (front.w, front.h)
  pub tags_are : front.form.tags ≡ carried line.tags
  pub start_is : front.start ≡ line.length

-- a line whose carried tags fit, with sizes that pass a bound
pub record SizeRefused (tags : List (List ℕ)) (most : ℕ) (error : ReadError) : Type 0 where
  pub kind : SpaceKind
  pub w : ℕ
  pub h : ℕ
  pub cells : HasWholeCells tags kind w h
  pub tags_fit : carried_number tags ≤ MOST_TAG_BYTES
  pub exceeds : SizeExceeds w h most error

-- whole cells, and too many carried tags
pub record TagsRefused (tags : List (List ℕ)) (number bound : ℕ) : Type 0 where
  pub kind : SpaceKind
  pub is_kind : HasSpaceKind tags kind
  pub whole : IsWhole tags kind
  pub number_is : number ≡ carried_number tags
  pub longer : MOST_TAG_BYTES < number
  pub bound_is : bound ≡ MOST_TAG_BYTES

-- the front of a line, or a refusal of it, which says that those tried before it don't stand
abbrev pub FrontAs : Line → ℕ → Result Front ReadError → Type 0
FrontAs line most (Ok front) = HasFront line most front
FrontAs line most (Err NoMemory) = Unit {0}
FrontAs line most (Err (Bad Space)) = (kind : SpaceKind) → HasSpaceKind line.tags kind → ⊥
FrontAs line most (Err (Bad Cell)) =
    (kind : SpaceKind) × HasSpaceKind line.tags kind × (IsWhole line.tags kind → ⊥)
FrontAs line most (Err (Limit Header number bound)) = TagsRefused line.tags number bound
FrontAs line most (Err (Limit Axis number bound)) =
    SizeRefused line.tags most (Limit Axis number bound)
FrontAs line most (Err (Limit CellsLimit number bound)) =
    SizeRefused line.tags most (Limit CellsLimit number bound)
FrontAs line most (Err error) = ⊥
