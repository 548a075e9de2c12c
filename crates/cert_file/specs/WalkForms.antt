-- What a reader has to trust: the form of a walk record. (Own.)
use Rattle.std.specs.Prelude.{◌≡◌, ◌≤◌, ◌<◌, ◌*◌, ◌^◌, ℕ, All, List, [], ◌∷◌, ◌++◌, length}
use Rattle.cells.specs.declared.place.Taps.{Taps}
use Rattle.cells.specs.declared.place.Taps.TheVariants.{Four, None0, Two}
use Rattle.file_bytes.specs.Fields.{field_16, field_32, fields_16, fields_64}
use Rattle.loop_walk.specs.Tables.{IsLength, table_count}
use Rattle.source_map.specs.declared.head.Head.{Head}
use Rattle.source_map.specs.declared.head.Version.TheVariants.{One}
use Rattle.source_map.specs.Heads.{IsHead}
use Rattle.source_map.specs.MapFiles.{numbered_size}
use Rattle.limits.specs.declared.bounds.TheConstants.{MOST_LOOP_FRAMES, WIDEST_GAP}

-- a filter, as the number of its taps
abbrev pub taps_number : Taps → ℕ
taps_number None0 = 0
taps_number Two = 2
taps_number Four = 4

-- how many frames the sample has
abbrev pub frames_of : Head → ℕ
frames_of head = (numbered_size head.samples 1).f

-- how many entries the tables for a length have
abbrev pub table_entries : Head → ℕ → ℕ
table_entries head len = table_count len * (frames_of head * frames_of head)

-- length, filter and gap
abbrev pub walk_start_form : ℕ → Taps → ℕ → List ℕ
walk_start_form len taps gap = field_32 len ++ taps_number taps ∷ [] ++ field_16 gap

-- a walk record: length, filter, gap, the frames of the walk, the tables
unfoldable pub walk_form : Taps → ℕ → List ℕ → List ℕ → List ℕ
walk_form taps gap walk tables =
    walk_start_form (length walk) taps gap ++ fields_16 walk ++ fields_64 tables

-- a head as the records of blocks and of walks have it
abbrev pub IsHeadOfVersionOne : Head → Type 0
IsHeadOfVersionOne head = IsHead head × (head.version ≡ One)

-- a walk record that has a spelling: in version 1, over a sample of few enough frames, with a length
-- and a gap in their ranges, and as many entries as the tables for its length have
pub record IsWalkInForm (head : Head) (gap : ℕ) (walk tables : List ℕ) : Type 0 where
  pub head_is : IsHead head
  pub version : head.version ≡ One
  pub frames : frames_of head ≤ MOST_LOOP_FRAMES
  pub len : IsLength (length walk)
  pub gap_from : 1 ≤ gap
  pub gap_to : gap ≤ WIDEST_GAP
  pub entries : length tables ≡ table_entries head (length walk)

-- the numbers of a walk have 16 bits and those of tables 64, as all have in memory
pub record AreWide (walk tables : List ℕ) : Type 0 where
  pub frames : All (λ n. n < 2 ^ 16) walk
  pub entries : All (λ n. n < 2 ^ 64) tables
