-- A reader has to trust this file for the stores in memory. What the stores that never fail mean.
-- (Own.)
use Rattle.std.specs.Prelude.{◌≡◌, ℕ, Bool, nat_le, List, [], ◌++◌, length, Option, Some, None, option_map, option_and_then, unwrap_or, position, if◌then◌else◌}
use Rattle.std.specs.FinMap as fin
use Rattle.shelf_traits.specs.Files.{Files, ShelfState, SinkState, content_of}
use Rattle.shelf_core.specs.Entries.{map_of}
use Rattle.shelf_core.specs.Tapes.{spent, has_name}

-- the room in bytes, and the files while they fit
pub record SureShelfState : Type 0 where
  pub room : ℕ
  pub files : Option Files

-- the room in bytes, and what was written while it fits
pub record SureSinkState : Type 0 where
  pub room : ℕ
  pub bytes : Option (List ℕ)

-- what the trait sees of each: no call has failed, and no name of a call is kept
abbrev pub sure_shelf_state : SureShelfState → ShelfState
sure_shelf_state s = record { files = s.files; reads = λ _. 0; writes = λ _. 0; asked = None }

abbrev pub sure_sink_state : SureSinkState → SinkState
sure_sink_state s = record { bytes = s.bytes; faults = 0 }

-- the bytes of all names and contents
abbrev pub size_of : Files → ℕ
size_of files = spent (fin.entries files)

-- the files where they fit in the room, and else nothing
abbrev pub fitting : ℕ → Option Files → Option Files
fitting room None = None
fitting room (Some files) = if nat_le (size_of files) room then Some files else None

-- the shelf after a write: it tells nothing from the first write on that doesn't fit
abbrev pub after_write : SureShelfState → (Files → Files) → SureShelfState
after_write was write = record was { files = fitting was.room (option_map write was.files) }

-- the bytes of the named file; none where it is missing, and where nothing is known
abbrev pub told_content : SureShelfState → List ℕ → List ℕ
told_content s name = unwrap_or (option_and_then (λ files. fin.get files name) s.files) []

-- the bytes where they fit in the room, and else nothing
abbrev pub fitting_bytes : ℕ → Option (List ℕ) → Option (List ℕ)
fitting_bytes room None = None
fitting_bytes room (Some bytes) = if nat_le (length bytes) room then Some bytes else None

-- the sink after a piece: it tells nothing from the first piece on that doesn't fit
abbrev pub after_piece : SureSinkState → List ℕ → SureSinkState
after_piece was piece =
    record was { bytes = fitting_bytes was.room (option_map (λ bytes. bytes ++ piece) was.bytes) }

-- what a write keeps of the bytes of a file
abbrev pub kept_bytes : Bool → List ℕ → List ℕ
kept_bytes keeps bytes = if keeps then bytes else []

-- the files, each a name and its bytes, after a piece was put after what is kept_bytes of the
-- named one
abbrev pub written_over : List (List ℕ × List ℕ) → List ℕ → Bool → List ℕ → Files
written_over files name keeps piece = fin.insert (map_of files) name
    (kept_bytes keeps (content_of (map_of files) name) ++ piece)

-- no name occurs twice, so that the bytes of all files are those of the map
abbrev pub HasNamesOnce : List (List ℕ × List ℕ) → Type 0
HasNamesOnce files = size_of (map_of files) ≡ spent files

-- file i is the named one, and holds what is kept_bytes of it; the other files stay
pub record Opens (was now : List (List ℕ × List ℕ)) (name : List ℕ) (keeps : Bool)
    (i : ℕ) : Type 0 where
  pub at : position (has_name name) now ≡ Some i
  pub files : map_of now ≡ written_over was name keeps []
