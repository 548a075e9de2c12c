-- The headline of `tile`: what holds when it ends with status 0. To be trusted: contracts cite
-- these words. (Own.)
use Rattle.std.specs.Prelude.{◌≡◌, ◌≢◌, ℕ, false, List, length, Some, Ok}
use Rattle.std.specs.FinMap as fin
use Rattle.cells.specs.declared.place.At.{At}
use Rattle.cells.specs.Cells.{Cells, IsOnePart, IsVolume, cell_at, sizes_of}
use Rattle.shelf_traits.specs.Files.{Files, ShelfState, SinkState, Changes, content_of}
use Rattle.map_canvas.specs.Maps.{SourceMap, IsFull, IsMap, IsOver, empty_map, map_at, picture_of}
use Rattle.source_map.specs.MapFiles.{cell_map_form}
use Rattle.source_map.specs.declared.head.Version.TheVariants.{One}
use Rattle.source_map.specs.declared.map_file.MapFile.TheVariants.{Cells as CellMap}
use Rattle.patch_picks.specs.Draws.{DrawState}
use Rattle.torus.specs.Steps.{TileStep}
use Rattle.torus.specs.Tilings.{EachTileIsLeast, EachTileKeeps, IsTiled}
use Rattle.job_words.specs.declared.tile.TileJob.{TileJob}
use Rattle.job_words.specs.declared.job.Job.TheVariants.{Tile as TileOf}
use Rattle.job_words.specs.Jobs.{job_of}
use Rattle.synth_report.specs.declared.summary.Summary.{Summary}
use Rattle.synth_report.specs.declared.summary.Summary.TheVariants.{Tile}
use Rattle.command.specs.Writing.{Reported}
use Rattle.sample_files.specs.declared.sample.Sample.{Sample}
use Rattle.sample_files.specs.Samples.{form_text}
use Rattle.check_command.specs.Checks.{IsOut, IsReadMap}
use Rattle.outputs.specs.Tilings.{IsSampleIn, plan_of, torus_seams}

-- the sample file stands for a sample, a volume, and for no other. The map file has the form of a map of the asked size,
-- which is full and lies over the sample. It is the last map of the run of these words: each
-- placement is that of its draw, its choice is least on the torus, edges included, and each kept
-- cell, and each outside the box, has the source that it had. The out file has the form of a
-- picture in the sample's form: a volume of the asked size, the picture of the map, each cell of
-- which is the sample's cell that the map names. Out file and map file are read again as this
-- picture and this map. All files but these two are as before
pub record IsTiledOutput (job : TileJob) (before after : Files) : Type 0 where
  pub sample : Sample
  pub read : IsSampleIn before job sample
  pub only : (other : Sample) → IsSampleIn before job other → other ≡ sample
  pub sample_volume : IsVolume sample.volume
  pub map : SourceMap
  pub asked : map.size ≡ job.size
  pub is_map : IsMap map
  pub full : IsFull map
  pub over : IsOver map sample.volume
  pub steps : List TileStep
  pub draws : DrawState
  pub run : IsTiled (plan_of job) sample.volume steps (record { map = map; draws = draws })
  pub least : EachTileIsLeast sample.volume job.plan.wrap (empty_map job.size) steps
  pub keep : EachTileKeeps job.plan.wrap (empty_map job.size) steps
  pub map_file : content_of after job.map ≡ cell_map_form map (sizes_of sample.volume) One
  pub picture : Cells
  pub volume : IsVolume picture
  pub one : IsOnePart picture
  pub size : picture.size ≡ job.size
  pub of_map : picture ≡ picture_of map sample.volume
  pub cells : (p from : At) → map_at map p ≡ Some from
      → cell_at picture p ≡ cell_at sample.volume from
  pub out_file : content_of after job.out ≡ form_text sample.form picture
  pub out_again : IsOut (content_of after job.out) (record { form = sample.form; volume = picture })
  pub map_again : IsReadMap false (content_of after job.map)
      (CellMap map (sizes_of sample.volume) One)
  pub others : (name : List ℕ) → name ≢ job.out → name ≢ job.map
      → fin.get after name ≡ fin.get before name

-- what is reported of a run: the asked size, how many steps it has, and the torus total of its map
abbrev pub told_of_tiling : {job : TileJob} {before after : Files} → IsTiledOutput job before after
    → Summary
told_of_tiling {job} made =
    Tile job.size (length made.steps) (torus_seams job made.sample.volume made.map)

-- the summary is that of a run
pub record IsToldOfTiling (job : TileJob) (summary : Summary) (before after : Files)
    : Type 0 where
  pub made : IsTiledOutput job before after
  pub summary_is : summary ≡ told_of_tiling made

-- whenever `tile` ends with status 0: the run, and its report in out
abbrev pub TileHeadline : List (List ℕ) → ShelfState → ShelfState → SinkState → SinkState → ℕ
    → Type 0
TileHeadline words was now out out' status =
    (job : TileJob) → job_of words ≡ Ok (TileOf job) → status ≡ 0
    → (summary : Summary) × Reported summary out out' × Changes was now (IsToldOfTiling job summary)

-- the out file and the map file of a job hold the same bytes
pub record HaveSameTiling (job : TileJob) (one other : Files) : Type 0 where
  pub out : content_of one job.out ≡ content_of other job.out
  pub map : content_of one job.map ≡ content_of other job.map

-- another run of the job that ends so, from files with the same sample, leaves the same bytes,
-- and has the same report
pub record IsOneTiling (job : TileJob) (summary : Summary) (before after : Files) : Type 0 where
  pub files : (earlier later : Files)
      → content_of earlier job.sample ≡ content_of before job.sample
      → IsTiledOutput job earlier later → HaveSameTiling job later after
  pub told : (other : Summary) (earlier later : Files)
      → content_of earlier job.sample ≡ content_of before job.sample
      → IsToldOfTiling job other earlier later → other ≡ summary

-- out file, map file and report are a function of the words and the sample file
abbrev pub OneTile : List (List ℕ) → ShelfState → ShelfState → SinkState → SinkState → ℕ → Type 0
OneTile words was now out out' status =
    (job : TileJob) → job_of words ≡ Ok (TileOf job) → status ≡ 0
    → (summary : Summary) × Reported summary out out' × Changes was now (IsOneTiling job summary)
