-- The headline of `check`: what its statuses say of the files. To be trusted: contracts cite these
-- words. (Own.)
use Rattle.std.specs.Prelude.{◌≡◌, ◌⊎◌, ℕ, Bool, List, [], ◌∷◌}
use Rattle.cells.specs.declared.place.At.{At}
use Rattle.cells.specs.Cells.{sizes_of}
use Rattle.cells.specs.Places.{IsInside}
use Rattle.shelf_traits.specs.Files.{Files, ShelfState, SinkState, Changes}
use Rattle.job_words.specs.declared.check.CheckJob.{CheckJob}
use Rattle.job_words.specs.declared.job.Names.{Names}
use Rattle.job_words.specs.declared.job.Job.TheVariants.{Check}
use Rattle.synth_report.specs.declared.summary.Summary.TheVariants.{Fails}
use Rattle.command.specs.Promises.{Asks, TellsFiles}
use Rattle.command.specs.Writing.{Reported}
use Rattle.standing_files.specs.Standing.{IsCopied, RecordsAreLeast, map_output, named_source}
use Rattle.check_command.specs.Checks.{AreRunFiles, Break, ReadFiles, Stand}

-- the files of these names stand for these values, and for no others
pub record AreReadAs (turns : Bool) (names : Names) (files : Files) (values : ReadFiles)
    : Type 0 where
  pub are : AreRunFiles turns names files values
  pub only : (other : ReadFiles) → AreRunFiles turns names files other → other ≡ values

-- the out file has the size that the map file names, and each of its cells is the samples' cell that
-- the map file names for it; with turns the map names places of the volume of all turns
pub record HasNamedCells (turns : Bool) (names : Names) (files : Files) : Type 0 where
  pub values : ReadFiles
  pub read : AreReadAs turns names files values
  pub size : sizes_of values.out.volume ≡ map_output values.map ∷ []
  pub cells : (p : At) → IsInside (map_output values.map) p
      → IsCopied values.samples.volume values.out.volume (named_source values.map p) p

-- the files of these names have records, and those are least over the worked samples: each choice
-- of a cut record of all admissible ones, each boundary of a block record of all boundaries of its
-- strip, and a walk of all closed walks of its length
pub record HaveLeastRecords (turns : Bool) (names : Names) (files : Files) : Type 0 where
  pub values : ReadFiles
  pub read : AreReadAs turns names files values
  pub least : RecordsAreLeast values.samples.volume (map_output values.map) values.record_file

-- `check` ends with status 0 where the files stand, and with status 1 where they are in their forms
-- and within their limits and don't, and out has the first rule that they break; each yields to
-- failures of reads and writes and to out of memory. What stands has the cells that its map names,
-- and is least, whoever made it. No file is changed
pub record CheckHeadline (words : List (List ℕ)) (was now : ShelfState) (out out' : SinkState)
    (status : ℕ) : Type 0 where
  pub stand : (job : CheckJob) → Asks words (Check job) → status ≡ 0
      → Changes was now (λ before after. (after ≡ before) × Stand job.turns job.names before)
  pub copied : (job : CheckJob) → Asks words (Check job) → status ≡ 0
      → Changes was now (λ before after. HasNamedCells job.turns job.names before)
  pub least : (job : CheckJob) → Asks words (Check job) → status ≡ 0
      → Changes was now (λ before after. HaveLeastRecords job.turns job.names before)
  pub break : (job : CheckJob) → Asks words (Check job) → status ≡ 1
      → (number : ℕ) × (rule : ℕ) × (place : ℕ)
      × Changes was now (λ before after.
      (after ≡ before) × Break job.turns job.names before number rule place)
      × Reported (Fails number rule place) out out'
  pub where_they_stand : (job : CheckJob) (files : Files) → Asks words (Check job)
      → TellsFiles was now files → Stand job.turns job.names files
      → (status ≡ 0) ⊎ (status ≡ 5) ⊎ (status ≡ 6) ⊎ (status ≡ 7)
  pub where_they_break : (job : CheckJob) (files : Files) (number rule place : ℕ)
      → Asks words (Check job) → TellsFiles was now files
      → Break job.turns job.names files number rule place
      → (status ≡ 1) ⊎ (status ≡ 5) ⊎ (status ≡ 6) ⊎ (status ≡ 7)
