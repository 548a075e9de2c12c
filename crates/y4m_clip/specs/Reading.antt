-- The state of the reader: what its parts make of a file. The public promise speaks of Refusals.antt
-- alone. (Own.)
use Rattle.std.specs.Prelude.{◌≡◌, ◌≢◌, ◌≤◌, ◌<◌, ◌+◌, ◌-◌, ℕ, List, [], ◌∷◌, ◌++◌, length, take, slice_index, nat_lt, if◌then◌else◌, Result, Ok, Err}
use Rattle.shelf_traits.specs.Files.{ShelfState, InFile, ReadsRose}
use Rattle.shelf_traits.specs.declared.fault.ReadError.{ReadError}
use Rattle.shelf_traits.specs.declared.fault.ReadError.TheVariants.{ReadFault, Bad, Limit, NoMemory}
use Rattle.shelf_traits.specs.declared.fault.FormFault.TheVariants.{Form}
use Rattle.shelf_traits.specs.declared.fault.What.TheVariants.{Header}
use Rattle.limits.specs.declared.bounds.TheConstants.{MOST_LINE_BYTES}
use Rattle.y4m_clip.specs.declared.scan.LineKind.{LineKind}
use Rattle.y4m_clip.specs.declared.scan.LineKind.TheVariants.{Blank, LineEnd, Ink}
use Rattle.y4m_clip.specs.declared.scan.ScannedLine.{ScannedLine}
use Rattle.y4m_clip.specs.declared.scan.ScannedLine.TheVariants.{Open, Broken, Ended}
use Rattle.y4m_clip.specs.declared.line.Line.{Line}
use Rattle.y4m_clip.specs.StreamLine.{IsStreamLine, IsLinePrefix, IsProperLinePrefix}
use Rattle.y4m_clip.specs.Scanning.{line_kind}
use Rattle.y4m_clip.specs.Refusals.{LineBreaks, LineTooLong, ShortLined}

-- so many bytes of a text are those of a word, and no more
pub record Matches (text word : List ℕ) (n : ℕ) : Type 0 where
  pub inside : n ≤ length text
  pub within : n ≤ length word
  pub same : take n text ≡ take n word
  pub here : n < length text → n < length word → slice_index text n ≢ slice_index word n

-- the byte at a place goes wrong
pub record GoesWrong (text : List ℕ) (i : ℕ) : Type 0 where
  pub inside : i < length text
  pub before : IsProperLinePrefix (take i text)
  pub here : IsLinePrefix (take (i + 1) text) → ⊥

-- the line ends after so many bytes
pub record EndsAfter (text : List ℕ) (n : ℕ) : Type 0 where
  pub some : 1 ≤ n
  pub inside : n ≤ length text
  pub before : IsProperLinePrefix (take (n - 1) text)
  pub line : (tags : List (List ℕ)) × IsStreamLine (take n text) tags

-- what the front of a file is
abbrev pub IsStreamScanned : List ℕ → ScannedLine → Type 0
IsStreamScanned text Open = IsProperLinePrefix text
IsStreamScanned text (Broken i) = GoesWrong text i
IsStreamScanned text (Ended n) = EndsAfter text n

-- a word that isn't empty, before others
abbrev pub flushed : List ℕ → List (List ℕ) → List (List ℕ)
flushed [] words = words
flushed (b ∷ word) words = (b ∷ word) ∷ words

-- the words of a text, of which the first has begun: runs of bytes that are neither blank nor LF
abbrev pub gathered_on : LineKind → List ℕ → ℕ → (List ℕ → List (List ℕ)) → List (List ℕ)
gathered_on Blank word b rest = flushed word (rest [])
gathered_on LineEnd word b rest = flushed word (rest [])
gathered_on Ink word b rest = rest (word ++ b ∷ [])

abbrev pub gathered : List ℕ → List ℕ → List (List ℕ)
gathered word [] = flushed word []
gathered word (b ∷ text) = gathered_on (line_kind b) word b (λ next. gathered next text)

-- the file has this stream line
pub record HasLine (bytes : List ℕ) (line : Line) : Type 0 where
  pub short : ShortLined bytes
  pub tags_are : line.tags ≡ short.lined.tags
  pub length_is : line.length ≡ length short.lined.line

-- the text is a stream line
abbrev pub IsLineOf : List ℕ → Type 0
IsLineOf text = (tags : List (List ℕ)) × IsStreamLine text tags

-- the tags are those of some stream line, also where the shelf doesn't tell its files
abbrev pub AreTags : List (List ℕ) → Type 0
AreTags tags = (text : List ℕ) × IsStreamLine text tags

-- the stream line of a file was read, or refused
abbrev pub LinesAs : List ℕ → ShelfState → ShelfState → Result Line ReadError → Type 0
LinesAs name was now (Ok line) = InFile name was now (λ bytes. HasLine bytes line)
LinesAs name was now (Err ReadFault) = ReadsRose name was now
LinesAs name was now (Err NoMemory) = Unit {0}
LinesAs name was now (Err (Bad (Form at))) = InFile name was now (λ bytes. LineBreaks bytes at)
LinesAs name was now (Err (Limit Header number bound)) =
    InFile name was now (λ bytes. LineTooLong bytes × (number ≡ MOST_LINE_BYTES + 1)
    × (bound ≡ MOST_LINE_BYTES))
LinesAs name was now (Err error) = ⊥

-- the refusal of a stream line that is too long
abbrev pub line_limit : ReadError
line_limit = Limit Header (MOST_LINE_BYTES + 1) MOST_LINE_BYTES

-- the answer of a stream line, by what the scanner makes of the file's first bytes: as many as a line
-- may have and one more, or all
abbrev pub line_judged : ℕ → ScannedLine → Result ℕ ReadError
line_judged count Open =
    if nat_lt MOST_LINE_BYTES count then Err line_limit else Err (Bad (Form count))
line_judged count (Broken i) = Err (Bad (Form i))
line_judged count (Ended n) = if nat_lt MOST_LINE_BYTES n then Err line_limit else Ok n

-- a stream line of so many bytes, within their bound
abbrev pub HasShortLine : List ℕ → ℕ → Type 0
HasShortLine bytes n = EndsAfter bytes n × (n ≤ MOST_LINE_BYTES)

-- the length of the stream line of a file was found, or the line is refused
abbrev pub IsLineFound : List ℕ → Result ℕ ReadError → Type 0
IsLineFound bytes (Ok n) = HasShortLine bytes n
IsLineFound bytes (Err (Bad (Form at))) = LineBreaks bytes at
IsLineFound bytes (Err (Limit Header number bound)) =
    LineTooLong bytes × (number ≡ MOST_LINE_BYTES + 1) × (bound ≡ MOST_LINE_BYTES)
IsLineFound bytes (Err error) = ⊥

-- the same for the file as a shelf holds it
abbrev pub FindsLineAs : List ℕ → ShelfState → ShelfState → Result ℕ ReadError → Type 0
FindsLineAs name was now (Ok n) = InFile name was now (λ bytes. HasShortLine bytes n)
FindsLineAs name was now (Err error) = LinesAs name was now (Err error)
