-- The headline of `upgrade`: what holds when it ends with status 0. To be trusted: contracts cite
-- these words. (Own.)
use Rattle.std.specs.Prelude.{◌≡◌, ◌≢◌, ℕ, false, List, [], ◌∷◌, length, Ok}
use Rattle.std.specs.FinMap as fin
use Rattle.cells.specs.declared.place.Size.{Size}
use Rattle.cells.specs.Places.{cell_count}
use Rattle.shelf_traits.specs.Files.{Files, ShelfState, SinkState, Changes, content_of}
use Rattle.map_canvas.specs.Maps.{SourceMap}
use Rattle.source_map.specs.declared.head.Head.{Head}
use Rattle.source_map.specs.declared.head.Version.TheVariants.{One, Two}
use Rattle.source_map.specs.declared.map_file.MapFile.TheVariants.{Cells as CellMap}
use Rattle.source_map.specs.MapFiles.{cell_map_form, map_read}
use Rattle.cut_check.specs.declared.record.CutRecord.{CutRecord}
use Rattle.cert_file.specs.declared.file.RecordFile.TheVariants.{Cuts}
use Rattle.cert_file.specs.RecordFiles.{IsRecordFileOf, cuts_form}
use Rattle.job_words.specs.declared.job.Job.TheVariants.{Upgrade}
use Rattle.job_words.specs.declared.job.Names.{Names}
use Rattle.job_words.specs.declared.upgrade.UpgradeJob.{UpgradeJob}
use Rattle.job_words.specs.Jobs.{job_of}
use Rattle.synth_report.specs.declared.summary.Summary.TheVariants as summary
use Rattle.command.specs.Writing.{Reported}
use Rattle.check_command.specs.Checks.{Break, Stand}
use Rattle.upgrade_command.specs.Upgrades.{in_version_two}

-- the map file has the form of this map over one sample of this size, in version 1, and the other
-- in version 2
pub record AreOneMap (before after : Files) (first other : List ℕ) (map : SourceMap) (sample : Size)
    : Type 0 where
  pub read : map_read (content_of before first) ≡ Ok (CellMap map (sample ∷ []) One)
  pub written : content_of after other ≡ cell_map_form map (sample ∷ []) Two
  pub read_again : map_read (content_of after other) ≡ Ok (CellMap map (sample ∷ []) Two)

-- the record file has the form of these cut records with this head, which is of version 1, and the
-- other has it in version 2
pub record AreOneRecord (before after : Files) (first other : List ℕ) (head : Head)
    (cuts : List CutRecord) : Type 0 where
  pub version : head.version ≡ One
  pub read : IsRecordFileOf (content_of before first) (Cuts head cuts)
  pub written : content_of after other ≡ cuts_form (in_version_two head) cuts
  pub read_again : IsRecordFileOf (content_of after other) (Cuts (in_version_two head) cuts)

-- the names of a run, with another map and another record
abbrev pub with_pair : Names → List ℕ → List ℕ → Names
with_pair names map record_file = record names { map = map; record_file = record_file }

-- of two pairs of a map and a record `check` without turns says the same, whatever the samples and
-- the out file
pub record HaveOneVerdict (files : Files)
    (map record_file other_map other_record_file : List ℕ) : Type 0 where
  pub stands : (names : Names) → Stand false (with_pair names map record_file) files
      → Stand false (with_pair names other_map other_record_file) files
  pub stood : (names : Names) → Stand false (with_pair names other_map other_record_file) files
      → Stand false (with_pair names map record_file) files
  pub breaks : (names : Names) (number rule place : ℕ)
      → Break false (with_pair names map record_file) files number rule place
      → Break false (with_pair names other_map other_record_file) files number rule place
  pub broken : (names : Names) (number rule place : ℕ)
      → Break false (with_pair names other_map other_record_file) files number rule place
      → Break false (with_pair names map record_file) files number rule place

-- the new files hold the map and the records of the old ones, of so many cells and so many records,
-- in version 2; the old files, and all others but the two that are written, are as before; and
-- `check` says of the new pair what it says of the old one
pub record IsUpgraded (job : UpgradeJob) (cells count : ℕ) (before after : Files) : Type 0 where
  pub map : SourceMap
  pub sample : Size
  pub maps : AreOneMap before after job.map job.new_map map sample
  pub cells_are : cells ≡ cell_count map.size
  pub head : Head
  pub cuts : List CutRecord
  pub records : AreOneRecord before after job.record_file job.new_record_file head cuts
  pub count_is : count ≡ length cuts
  pub map_stays : fin.get after job.map ≡ fin.get before job.map
  pub record_stays : fin.get after job.record_file ≡ fin.get before job.record_file
  pub others : (name : List ℕ) → name ≢ job.new_map → name ≢ job.new_record_file
      → fin.get after name ≡ fin.get before name
  pub verdicts : HaveOneVerdict after job.map job.record_file job.new_map job.new_record_file

-- whenever `upgrade` ends with status 0; out has the report with those numbers
abbrev pub UpgradeHeadline : List (List ℕ) → ShelfState → ShelfState → SinkState → SinkState → ℕ
    → Type 0
UpgradeHeadline words was now out out' status =
    (job : UpgradeJob) → job_of words ≡ Ok (Upgrade job) → status ≡ 0
    → (cells : ℕ) × (count : ℕ) × Reported (summary.Upgrade cells count) out out'
    × Changes was now (IsUpgraded job cells count)
