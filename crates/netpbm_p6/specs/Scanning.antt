-- The state of the reader: The scanner of a header, a step for each byte: the reader goes by it.
-- (Own. The grammar that it keeps to is in Header.antt, and the public promise speaks of the
-- grammar alone.)
use Rattle.std.specs.Prelude.{◌≡◌, ◌≤◌, ◌<◌, ◌+◌, ◌*◌, ◌-◌, ℕ, ◌==◌, nat_le, ◌||◌, ◌&&◌, if◌then◌else◌, List, [], ◌∷◌, length, take, Option, Some, None, option_and_then}
use Rattle.netpbm_p6.specs.declared.scan.ByteKind.{ByteKind}
use Rattle.netpbm_p6.specs.declared.scan.ByteKind.TheVariants.{Blank, LineEnd, Hash, Digit, Other}
use Rattle.netpbm_p6.specs.declared.scan.Numbers.{Numbers}
use Rattle.netpbm_p6.specs.declared.scan.Numbers.TheVariants.{Nothing, Width, Both}
use Rattle.netpbm_p6.specs.declared.scan.Scan.{Scan}
use Rattle.netpbm_p6.specs.declared.scan.Scan.TheVariants.{Start, Letter, Magic, Between, Comment, Digits, Whole}
use Rattle.netpbm_p6.specs.declared.scan.Header.{Header}
use Rattle.netpbm_p6.specs.declared.scan.Scanned.{Scanned}
use Rattle.netpbm_p6.specs.declared.scan.Scanned.TheVariants.{Open, Broken, Ended}
use Rattle.shelf_traits.specs.Decimals.{capped}

abbrev pub kind_of : ℕ → ByteKind
kind_of b =
    if b == 32 || b == 9 then Blank
    else if b == 13 || b == 10 then LineEnd
    else if b == 35 then Hash
    else if nat_le 48 b && nat_le b 57 then Digit
    else Other

-- a byte that may begin a separator
abbrev pub opened : Numbers → ByteKind → Option Scan
opened numbers Blank = Some (Between numbers)
opened numbers LineEnd = Some (Between numbers)
opened numbers Hash = Some (Comment numbers)
opened numbers Digit = None
opened numbers Other = None

-- a byte after an item of a separator
abbrev pub separated : Numbers → ℕ → ByteKind → Option Scan
separated numbers b Digit = Some (Digits numbers (b - 48))
separated numbers b Blank = Some (Between numbers)
separated numbers b LineEnd = Some (Between numbers)
separated numbers b Hash = Some (Comment numbers)
separated numbers b Other = None

-- a byte in a comment
abbrev pub commented : Numbers → ByteKind → Option Scan
commented numbers LineEnd = Some (Between numbers)
commented numbers Blank = Some (Comment numbers)
commented numbers Hash = Some (Comment numbers)
commented numbers Digit = Some (Comment numbers)
commented numbers Other = Some (Comment numbers)

-- a byte that ends the header
abbrev pub completed : ℕ → ℕ → ℕ → ByteKind → Option Scan
completed width height n Blank = Some (Whole width height n)
completed width height n LineEnd = Some (Whole width height n)
completed width height n Hash = None
completed width height n Digit = None
completed width height n Other = None

-- a byte after a number of at least 1
abbrev pub ended : Numbers → ℕ → ByteKind → Option Scan
ended Nothing n kind = opened (Width n) kind
ended (Width width) n kind = opened (Both width n) kind
ended (Both width height) n kind = completed width height n kind

abbrev pub number_end : Numbers → ℕ → ByteKind → Option Scan
number_end numbers n kind = if n == 0 then None else ended numbers n kind

-- a byte after a digit; a number is kept by `keep`
abbrev pub after_digit : (ℕ → ℕ) → Numbers → ℕ → ℕ → ByteKind → Option Scan
after_digit keep numbers n b Digit = Some (Digits numbers (keep (10 * n + (b - 48))))
after_digit keep numbers n b Blank = number_end numbers n Blank
after_digit keep numbers n b LineEnd = number_end numbers n LineEnd
after_digit keep numbers n b Hash = number_end numbers n Hash
after_digit keep numbers n b Other = number_end numbers n Other

-- one byte; nothing where it has no place there
abbrev pub step_of : (ℕ → ℕ) → Scan → ℕ → Option Scan
step_of keep Start b = if b == 80 then Some Letter else None
step_of keep Letter b = if b == 54 then Some Magic else None
step_of keep Magic b = opened Nothing (kind_of b)
step_of keep (Between numbers) b = separated numbers b (kind_of b)
step_of keep (Comment numbers) b = commented numbers (kind_of b)
step_of keep (Digits numbers n) b = after_digit keep numbers n b (kind_of b)
step_of keep (Whole width height maxval) b = None

-- one byte after another
abbrev pub run_of : (ℕ → ℕ) → Scan → List ℕ → Option Scan
run_of keep scan [] = Some scan
run_of keep scan (b ∷ bytes) = option_and_then (λ next. run_of keep next bytes)
    (step_of keep scan b)

abbrev pub ArePositive : Numbers → Type 0
ArePositive Nothing = Unit {0}
ArePositive (Width width) = 1 ≤ width
ArePositive (Both width height) = (1 ≤ width) × (1 ≤ height)

-- more is to come, and the numbers so far are at least 1
abbrev pub IsOpenScan : Scan → Type 0
IsOpenScan Start = Unit {0}
IsOpenScan Letter = Unit {0}
IsOpenScan Magic = Unit {0}
IsOpenScan (Between numbers) = ArePositive numbers
IsOpenScan (Comment numbers) = ArePositive numbers
IsOpenScan (Digits numbers n) = ArePositive numbers
IsOpenScan (Whole width height maxval) = ⊥

-- what a step from an open place leads to, an open one or the end, has numbers of at least 1
abbrev pub HasPositiveNumbers : Scan → Type 0
HasPositiveNumbers Start = Unit {0}
HasPositiveNumbers Letter = Unit {0}
HasPositiveNumbers Magic = Unit {0}
HasPositiveNumbers (Between numbers) = ArePositive numbers
HasPositiveNumbers (Comment numbers) = ArePositive numbers
HasPositiveNumbers (Digits numbers n) = ArePositive numbers
HasPositiveNumbers (Whole width height maxval) = (1 ≤ width) × (1 ≤ height)

-- the bytes lead to an open place
abbrev pub RunsOn : Scan → List ℕ → Type 0
RunsOn scan bytes = (next : Scan) × (run_of capped scan bytes ≡ Some next) × IsOpenScan next

-- the byte at a place has no place there
pub record BreaksIn (scan : Scan) (bytes : List ℕ) (i : ℕ) : Type 0 where
  pub inside : i < length bytes
  pub before : RunsOn scan (take i bytes)
  pub here : run_of capped scan (take (i + 1) bytes) ≡ None

-- the header ends in these bytes
pub record EndsIn (scan : Scan) (bytes : List ℕ) (header : Header) : Type 0 where
  pub inside : header.length ≤ length bytes
  pub run : run_of capped scan (take header.length bytes) ≡
      Some (Whole header.width header.height header.maxval)

-- what the scanner makes of a piece
abbrev pub IsScanned : Scan → List ℕ → Scanned → Type 0
IsScanned scan piece (Open next) = run_of capped scan piece ≡ Some next
IsScanned scan piece (Broken i) = BreaksIn scan piece i
IsScanned scan piece (Ended header) = EndsIn scan piece header

-- what it makes of a piece, whatever the bytes were
pub record IsSoundHeader (room : ℕ) (header : Header) : Type 0 where
  pub some : 1 ≤ header.length
  pub fits : header.length ≤ room
  pub width : 1 ≤ header.width
  pub height : 1 ≤ header.height
  pub maxval : 1 ≤ header.maxval

abbrev pub IsSoundScanned : ℕ → Scanned → Type 0
IsSoundScanned room (Open next) = IsOpenScan next
IsSoundScanned room (Broken i) = i < room
IsSoundScanned room (Ended header) = IsSoundHeader room header
