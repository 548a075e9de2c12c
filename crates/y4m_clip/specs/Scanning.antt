-- The state of the reader: the scanner of a stream line after its magic, a step for each byte. (Own.
-- The grammar that it keeps to is in StreamLine.antt, and the public promise speaks of that alone.)
use Rattle.std.specs.Prelude.{◌≡◌, ◌≢◌, ◌≤◌, ◌<◌, ◌+◌, ◌-◌, ℕ, ◌==◌, nat_le, nat_lt, Bool, false, not, ◌||◌, ◌&&◌, if◌then◌else◌, List, [], ◌∷◌, length, take, Option, Some, None, option_and_then}
use Rattle.y4m_clip.specs.declared.scan.LineKind.{LineKind}
use Rattle.y4m_clip.specs.declared.scan.LineKind.TheVariants.{Blank, LineEnd, Ink}
use Rattle.y4m_clip.specs.declared.scan.Letters.{Letters}
use Rattle.y4m_clip.specs.declared.scan.LineScan.{LineScan}
use Rattle.y4m_clip.specs.declared.scan.LineScan.TheVariants.{Magic, Gap, Value, Number, Whole}
use Rattle.y4m_clip.specs.declared.scan.ScannedLine.{ScannedLine}
use Rattle.y4m_clip.specs.declared.scan.ScannedLine.TheVariants.{Open, Broken, Ended}
use Rattle.y4m_clip.specs.StreamLine.{is_axis}

abbrev pub line_kind : ℕ → LineKind
line_kind b = if b == 32 then Blank else if b == 10 then LineEnd else Ink

abbrev pub no_letters : Letters
no_letters = record { w = false; h = false; f = false; i = false; a = false; c = false }

abbrev pub with_letter : Letters → ℕ → Letters
with_letter s letter = record {
  w = letter == 87 || s.w;
  h = letter == 72 || s.h;
  f = letter == 70 || s.f;
  i = letter == 73 || s.i;
  a = letter == 65 || s.a;
  c = letter == 67 || s.c;
}

abbrev pub may_follow : Letters → ℕ → Bool
may_follow s letter =
    not ((letter == 87 && s.w) || (letter == 72 && s.h) || (letter == 70 && s.f)
    || (letter == 73 && s.i) || (letter == 65 && s.a) || (letter == 67 && s.c))

-- LF
abbrev pub line_ended : Letters → Option LineScan
line_ended s = if s.w && s.h then Some Whole else None

-- the letter of a tag
abbrev pub tag_entered : Letters → ℕ → Option LineScan
tag_entered s letter =
    if may_follow s letter
    then (if is_axis letter then Some (Number (with_letter s letter) false)
    else Some (Value (with_letter s letter)))
    else None

-- a byte after a blank
abbrev pub in_gap : Letters → ℕ → LineKind → Option LineScan
in_gap s b Blank = Some (Gap s)
in_gap s b LineEnd = line_ended s
in_gap s b Ink = tag_entered s b

-- a byte of a tag
abbrev pub in_value : Letters → LineKind → Option LineScan
in_value s Blank = Some (Gap s)
in_value s LineEnd = line_ended s
in_value s Ink = Some (Value s)

-- a digit of a number
abbrev pub after_number_digit : Letters → Bool → ℕ → Option LineScan
after_number_digit s positive b =
    if nat_le 48 b && nat_le b 57 then Some (Number s (positive || nat_lt 48 b)) else None

-- a byte of a number
abbrev pub in_number : Letters → Bool → ℕ → LineKind → Option LineScan
in_number s positive b Blank = if positive then Some (Gap s) else None
in_number s positive b LineEnd = if positive then line_ended s else None
in_number s positive b Ink = after_number_digit s positive b

-- one byte; nothing where it has no place there
abbrev pub line_step : LineScan → ℕ → Option LineScan
line_step Magic b = if b == 32 then Some (Gap no_letters) else None
line_step (Gap s) b = in_gap s b (line_kind b)
line_step (Value s) b = in_value s (line_kind b)
line_step (Number s positive) b = in_number s positive b (line_kind b)
line_step Whole b = None

-- one byte after another
abbrev pub line_run : LineScan → List ℕ → Option LineScan
line_run scan [] = Some scan
line_run scan (b ∷ bytes) = option_and_then (λ next. line_run next bytes) (line_step scan b)

-- the bytes lead to a place before the line's end
abbrev pub RunsInLine : List ℕ → Type 0
RunsInLine bytes = (next : LineScan) × (line_run Magic bytes ≡ Some next) × (next ≢ Whole)

-- the byte at a place has no place there
pub record BreaksInLine (bytes : List ℕ) (i : ℕ) : Type 0 where
  pub inside : i < length bytes
  pub before : RunsInLine (take i bytes)
  pub here : line_run Magic (take (i + 1) bytes) ≡ None

-- the line ends in these bytes
pub record EndsInLine (bytes : List ℕ) (n : ℕ) : Type 0 where
  pub some : 1 ≤ n
  pub inside : n ≤ length bytes
  pub before : RunsInLine (take (n - 1) bytes)
  pub run : line_run Magic (take n bytes) ≡ Some Whole

-- what the scanner makes of a text
abbrev pub IsLineScanned : List ℕ → ScannedLine → Type 0
IsLineScanned text Open = RunsInLine text
IsLineScanned text (Broken i) = BreaksInLine text i
IsLineScanned text (Ended n) = EndsInLine text n

-- the places lie in a text of this length
abbrev pub IsSoundLine : ℕ → ScannedLine → Type 0
IsSoundLine room Open = Unit {0}
IsSoundLine room (Broken i) = i < room
IsSoundLine room (Ended n) = n ≤ room
