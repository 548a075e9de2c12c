-- `tile` as a command: what it reads and refuses, what it makes, and the files that it writes. To
-- be trusted: contracts cite these words. (Own.)
use Rattle.std.specs.Prelude.{◌≡◌, ℕ, List, [], ◌∷◌}
use Rattle.cells.specs.Cells.{Cells, IsOnePart, IsVolume, sizes_of}
use Rattle.cells.specs.Distances.{distance}
use Rattle.shelf_traits.specs.Files.{Files, content_of}
use Rattle.map_canvas.specs.Maps.{SourceMap, map_at}
use Rattle.source_map.specs.MapFiles.{cell_map_form}
use Rattle.source_map.specs.declared.head.Version.TheVariants.{One}
use Rattle.torus.specs.Wraps.{torus_total_of}
use Rattle.torus.specs.declared.plan.RunPlan.{RunPlan}
use Rattle.torus.specs.declared.plan.Tiled.{Tiled}
use Rattle.torus.specs.Tilings.{IsTiledTo}
use Rattle.job_words.specs.declared.tile.TileJob.{TileJob}
use Rattle.synth_report.specs.declared.fault.Fault.{Fault}
use Rattle.synth_report.specs.declared.fault.Fault.TheVariants.{Form as FormFault, Limit}
use Rattle.synth_report.specs.declared.fault.FileOf.TheVariants as part
use Rattle.synth_report.specs.declared.summary.Summary.{Summary}
use Rattle.synth_report.specs.declared.summary.Summary.TheVariants.{Tile}
use Rattle.command.specs.Commands.{Command, named}
use Rattle.command.specs.Stages.{Stages, of_stages, read_file}
use Rattle.command.specs.Stages.Stages.{make}
use Rattle.command.specs.Writing.{FileText, file_text}
use Rattle.sample_files.specs.declared.sample.Sample.{Sample}
use Rattle.sample_files.specs.Outputs.{IsWithinBounds, bounded_in}
use Rattle.sample_files.specs.Samples.{IsSampleOf, IsSoundSample, RefusesSample, form_text}
use Rattle.outputs.specs.declared.tiled.TiledSample.{TiledSample}

-- What is made of the files.

-- the sample file stands for this sample
abbrev pub IsSampleIn : Files → TileJob → Sample → Type 0
IsSampleIn files job sample = IsSampleOf (content_of files job.sample) sample

-- the torus total of a map over a sample
abbrev pub torus_seams : TileJob → Cells → SourceMap → ℕ
torus_seams job sample m = torus_total_of (distance sample) job.plan.wrap m.size (map_at m)

-- the plan of the job's run
abbrev pub plan_of : TileJob → RunPlan
plan_of job = record { size = job.size; tile = job.plan; seed = job.seed }

-- what the writers of the files of a tiling ask for
pub record IsTilingMade (job : TileJob) (made : TiledSample) : Type 0 where
  pub volume : IsVolume made.sample.volume
  pub one : IsOnePart made.sample.volume
  pub sound : IsSoundSample made.sample
  pub bounds : IsWithinBounds job.size made.sample.form
  pub tiled : IsTiledTo (plan_of job) made.sample.volume made.tiled

-- a sample that is read, and a tiling of it with its torus total
abbrev pub tiling_of : TileJob → Sample → Tiled → TiledSample
tiling_of job sample tiled = record {
  sample = sample;
  tiled = tiled;
  seams = torus_seams job sample.volume tiled.canvas.map;
}

-- in order, with their texts: the picture in the form of the sample, and the map
abbrev pub tile_files : TileJob → TiledSample → List FileText
tile_files job made =
    file_text part.Out job.out (form_text made.sample.form made.tiled.canvas.picture)
    ∷ file_text part.Map job.map
    (cell_map_form made.tiled.canvas.map (sizes_of made.sample.volume) One)
    ∷ []

abbrev pub tile_summary : TileJob → TiledSample → Summary
tile_summary job made = Tile job.size made.tiled.placements made.seams

-- The command.

-- over a sample that is read the frames and the cells of the output are within their bounds; the
-- output is tiled
abbrev pub tile_over : TileJob → Sample → Stages []
tile_over job sample =
    bounded_in job.size sample.form
    (make (λ tiled. IsTilingMade job (tiling_of job sample tiled))
    (λ tiled. tile_files job (tiling_of job sample tiled))
    (λ tiled. tile_summary job (tiling_of job sample tiled)))

-- the sample file is read, and then so
abbrev pub tile_stages : (job : TileJob) → Stages (named part.Sample job.sample ∷ [])
tile_stages job = read_file part.Sample job.sample IsSampleOf RefusesSample (tile_over job)

-- the faults that `tile` ever refuses for: the form of the sample, and a limit
abbrev pub MayRefuseTile : Fault → Type 0
MayRefuseTile (FormFault part.Sample why) = Unit {0}
MayRefuseTile (Limit what number bound) = Unit {0}
MayRefuseTile fault = ⊥

-- the summaries of `tile`
abbrev pub IsTileSummary : TileJob → Summary → Type 0
IsTileSummary job summary =
    (placements : ℕ) × (seams : ℕ) × (summary ≡ Tile job.size placements seams)

abbrev pub tile_command : TileJob → Command
tile_command job = of_stages (tile_stages job)
    (named part.Out job.out ∷ named part.Map job.map ∷ []) MayRefuseTile (IsTileSummary job)
