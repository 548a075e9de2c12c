-- A reader has to trust this file. What one set of files, which nobody else writes, answers to the calls
-- of a shelf, and what it has after them; and what a stream has after the calls of a sink. All lists of
-- calls have the last one first. (Own.)
use Rattle.std.specs.Prelude.{◌≡◌, ℕ, suc, ◌-◌, min, Bool, true, false, ◌&&◌, nat_eq, if◌then◌else◌, List, [], ◌∷◌, ◌++◌, length, take, drop, bytes_eq, Option, Some, None, IsSome}
use Rattle.std.specs.FinMap as map
use Rattle.shelf_traits.specs.Files.{Files, ShelfState, SinkState, content_of, is_one_of}
use Rattle.system_calls.specs.Calls.{Noted, Opened, Held, Read, Begun, Added, Said}

-- FILES

-- the bytes are those that the file has from a place on, as many as were asked for and it has
abbrev pub gives : (file : List ℕ) (place asked : ℕ) (bytes : List ℕ) → Bool
gives file place asked bytes =
    nat_eq (length bytes) (min asked (length file - place))
    && bytes_eq bytes (take (length bytes) (drop place file))

-- a file with a piece after its bytes
abbrev pub with_piece : Files → List ℕ → List ℕ → Files
with_piece files name piece = map.insert files name (content_of files name ++ piece)

-- the files after a call, if its answer is one that these files give. A call that failed left nothing, or
-- it made the file empty, or the first n bytes of its piece are there.
abbrev pub after_call : (left : Option ℕ) → Noted → Files → Option Files
after_call left (Read name place asked (Some bytes)) files =
    if gives (content_of files name) place asked bytes then Some files else None
after_call left (Read name place asked None) files = Some files
after_call left (Begun name true) files = Some (map.insert files name [])
after_call None (Begun name false) files = Some files
after_call (Some n) (Begun name false) files = Some (map.insert files name [])
after_call left (Added name piece true) files = Some (with_piece files name piece)
after_call None (Added name piece false) files = Some files
after_call (Some n) (Added name piece false) files = Some (with_piece files name (take n piece))
after_call left (Opened opening name answered) files = Some files
after_call left (Held answered) files = Some files
after_call left (Said piece done) files = Some files

abbrev pub if_told : Option Files → (Files → Option Files) → Option Files
if_told None after = None
if_told (Some files) after = after files

-- the files after these calls, from what they were, and what each call that failed left, by how many calls
-- were before it
abbrev pub replay : Files → (ℕ → Option ℕ) → List Noted → Option Files
replay start left [] = Some start
replay start left (c ∷ earlier) =
    if_told (replay start left earlier) (after_call (left (length earlier)) c)

-- THE PREMISE of all that is said of files: the answers are those of one set of files, which were these
-- and which nobody else writes
abbrev pub AreHonest : Files → (ℕ → Option ℕ) → List Noted → Type 0
AreHonest start left calls = IsSome (replay start left calls)

-- the name that a call asks a shelf for
abbrev pub asked_by : Noted → List (List ℕ)
asked_by (Read name place asked came) = name ∷ []
asked_by (Begun name done) = name ∷ []
asked_by (Added name piece done) = name ∷ []
asked_by (Opened opening name answered) = []
asked_by (Held answered) = []
asked_by (Said piece done) = []

-- those of the calls, in the order of these
abbrev pub names_asked : List Noted → List (List ℕ)
names_asked [] = []
names_asked (c ∷ earlier) = names_asked earlier ++ asked_by c

-- a read of this name failed
abbrev pub is_failed_read : List ℕ → Noted → Bool
is_failed_read name (Read its place asked None) = bytes_eq its name
is_failed_read name (Read its place asked (Some bytes)) = false
is_failed_read name (Begun its done) = false
is_failed_read name (Added its piece done) = false
is_failed_read name (Opened opening its answered) = false
is_failed_read name (Held answered) = false
is_failed_read name (Said piece done) = false

-- a write of this name failed
abbrev pub is_failed_write : List ℕ → Noted → Bool
is_failed_write name (Begun its false) = bytes_eq its name
is_failed_write name (Begun its true) = false
is_failed_write name (Added its piece false) = bytes_eq its name
is_failed_write name (Added its piece true) = false
is_failed_write name (Read its place asked came) = false
is_failed_write name (Opened opening its answered) = false
is_failed_write name (Held answered) = false
is_failed_write name (Said piece done) = false

-- how many of the calls are so
abbrev pub how_many : (Noted → Bool) → List Noted → ℕ
how_many is_so [] = 0
how_many is_so (c ∷ earlier) = if is_so c then suc (how_many is_so earlier) else how_many is_so earlier

-- what a shelf of these calls means
abbrev pub shelf_of : Files → (ℕ → Option ℕ) → List Noted → ShelfState
shelf_of start left calls = record {
  files = replay start left calls;
  reads = λ name. how_many (is_failed_read name) calls;
  writes = λ name. how_many (is_failed_write name) calls;
  asked = Some (names_asked calls);
}

-- OPENS

-- each file that was opened was asked for, by its name, in one of these calls
abbrev pub AreAskedFor : (opens calls : List Noted) → Type 0
AreAskedFor [] calls = Unit {0}
AreAskedFor (Opened opening name answered ∷ earlier) calls =
    (is_one_of (names_asked calls) name ≡ true) × AreAskedFor earlier calls
AreAskedFor (Held answered ∷ earlier) calls = AreAskedFor earlier calls
AreAskedFor (Read name place asked came ∷ earlier) calls = AreAskedFor earlier calls
AreAskedFor (Begun name done ∷ earlier) calls = AreAskedFor earlier calls
AreAskedFor (Added name piece done ∷ earlier) calls = AreAskedFor earlier calls
AreAskedFor (Said piece done ∷ earlier) calls = AreAskedFor earlier calls

-- what went through a shelf: its calls, and the files that were opened for them
pub record Traffic : Type 0 where
  pub calls : List Noted
  pub opens : List Noted

-- SINKS

-- the bytes of these calls. Of a piece that failed the first bytes are there, as many as the call left.
abbrev pub said_by : (left : ℕ) → Noted → List ℕ
said_by left (Said piece true) = piece
said_by left (Said piece false) = take left piece
said_by left (Opened opening name answered) = []
said_by left (Held answered) = []
said_by left (Read name place asked came) = []
said_by left (Begun name done) = []
said_by left (Added name piece done) = []

abbrev pub all_said : (ℕ → ℕ) → List Noted → List ℕ
all_said left [] = []
all_said left (c ∷ earlier) = all_said left earlier ++ said_by (left (length earlier)) c

abbrev pub is_failed_saying : Noted → Bool
is_failed_saying (Said piece false) = true
is_failed_saying (Said piece true) = false
is_failed_saying (Opened opening name answered) = false
is_failed_saying (Held answered) = false
is_failed_saying (Read name place asked came) = false
is_failed_saying (Begun name done) = false
is_failed_saying (Added name piece done) = false

-- what a sink of these calls means
abbrev pub sink_of : (ℕ → ℕ) → List Noted → SinkState
sink_of left calls =
    record { bytes = Some (all_said left calls); faults = how_many is_failed_saying calls }
