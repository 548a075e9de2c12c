-- The words of private functions: what one search finds, and what is judged of the records alone.
-- (Own.)
use Rattle.std.specs.Prelude.{◌≡◌, ◌⊎◌, ◌<◌, ℕ, List, length, slice_get, Option, Some, None}
use Rattle.cells.specs.declared.place.At.{At}
use Rattle.cells.specs.Cells.{Cells, cell_at, sizes_of}
use Rattle.cells.specs.Places.{plus, spot}
use Rattle.cells.specs.Firsts.{Each, IsFirstWithout}
use Rattle.source_map.specs.declared.map_file.MapFile.{MapFile}
use Rattle.frame_distance.specs.Steps.{Steps}
use Rattle.loop_walk.specs.Records.{WalkStands}
use Rattle.cert_file.specs.declared.file.RecordFile.{RecordFile}
use Rattle.sample_files.specs.declared.several.Samples.{Samples}
use Rattle.standing_files.specs.declared.verdict.TheConstants.{MAP_RULE}
use Rattle.standing_files.specs.declared.verdict.Verdict.{Verdict}
use Rattle.standing_files.specs.declared.verdict.Verdict.TheVariants.{Stands, Fails}
use Rattle.standing_files.specs.Standing.{AreKindsOfOneRun, HasOneFrame, IsBrokenRecord, IsBrokenWalk, IsCopied, IsWholeRule, LeaveAt, RecordsStand, TakesForm, record_file_head, map_entries, map_output}

-- each cell of a run is that of another run
abbrev pub IsRunSame : Cells → Cells → At → At → ℕ → Type 0
IsRunSame samples picture from p w = (j : ℕ) → j < w →
    cell_at picture (plus p (spot j 0 0)) ≡ cell_at samples (plus from (spot j 0 0))

-- each cell of a run has a source, and is the samples' cell there
abbrev pub IsRunCopied : Cells → Cells → (At → Option At) → At → ℕ → Type 0
IsRunCopied samples picture source p w = (j : ℕ) → j < w →
    IsCopied samples picture (source (plus p (spot j 0 0))) (plus p (spot j 0 0))

-- two lists have one source at an index
pub record HaveOneEntry (left sources : List (Option At)) (i : ℕ) : Type 0 where
  pub from : At
  pub left_is : slice_get left i ≡ Some (Some from)
  pub is : slice_get sources i ≡ Some (Some from)

-- the sources of so many cells from one on follow one another
abbrev pub IsRunFrom : (At → Option At) → At → At → ℕ → Type 0
IsRunFrom source p from n = (j : ℕ) → j < n →
    source (plus p (spot j 0 0)) ≡ Some (plus from (spot j 0 0))

-- what the records ask for of files that go together
pub record Suit (samples : Samples) (map_file : MapFile) (record_file : RecordFile) : Type 0 where
  pub kinds : AreKindsOfOneRun map_file record_file
  pub takes : TakesForm record_file samples.form
  pub samples_are : sizes_of samples.volume ≡ (record_file_head record_file).samples

-- records that stand don't leave this entry of the map file first
pub record LeaveOthers (Stand : Type 0) (n : ℕ) (Leave : ℕ → Type 0) (number rule place : ℕ)
    : Type 0 where
  pub whole : IsWholeRule number rule MAP_RULE
  pub records : Stand
  pub first : IsFirstWithout n Leave place

-- what is judged of records alone: that they stand and leave each of so many entries of the map
-- file, or the first rule that they break
abbrev pub JudgesBy :
    Type 0 → (ℕ → ℕ → ℕ → Type 0) → ℕ → (ℕ → Type 0) → Verdict → Type 0
JudgesBy Stand Broken n Leave Stands = Stand × Each n Leave
JudgesBy Stand Broken n Leave (Fails number rule place) =
    Broken number rule place ⊎ LeaveOthers Stand n Leave number rule place

-- the verdict on records that stand, by the first entry of the map file that they don't leave
abbrev pub verdict_on_map : Option ℕ → Verdict
verdict_on_map None = Stands
verdict_on_map (Some place) = Fails 0 MAP_RULE place

-- the rules of a walk record, beside the frames of a frame map
abbrev pub JudgesWalk : Steps → List ℕ → List ℕ → List ℕ → Verdict → Type 0
JudgesWalk costs walk tables frames =
    JudgesBy (WalkStands costs walk tables) (IsBrokenWalk costs walk tables)
    (length walk) (HasOneFrame walk frames)

-- the rules of the records, and whether they leave the map of the map file
abbrev pub JudgesRecords : Cells → MapFile → RecordFile → Verdict → Type 0
JudgesRecords samples map_file record_file =
    JudgesBy (RecordsStand samples (map_output map_file) record_file)
    (IsBrokenRecord samples (map_output map_file) record_file)
    (map_entries map_file) (LeaveAt record_file map_file)
