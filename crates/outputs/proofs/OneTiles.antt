-- The out file, the map file and the report are a function of the words and the sample file.
use Rattle.std.proofs.Common.{◌≡◌, ℕ, List, length, ap, sym, ◌∙◌, subst}
use Rattle.cells.specs.Cells.{sizes_of}
use Rattle.shelf_traits.specs.Files.{Files, content_of}
use Rattle.map_canvas.specs.Maps.{SourceMap, picture_of}
use Rattle.source_map.specs.MapFiles.{cell_map_form}
use Rattle.source_map.specs.declared.head.Version.TheVariants.{One}
use Rattle.torus.specs.Steps.{Tiling}
use Rattle.torus.specs.Tilings.{IsRunPlan, IsTiled}
use Rattle.torus.proofs.OneRuns.{one_tiling}
use Rattle.job_words.specs.declared.tile.TileJob.{TileJob}
use Rattle.job_words.specs.TileWords.{IsTileJob}
use Rattle.synth_report.specs.declared.summary.Summary.{Summary}
use Rattle.synth_report.specs.declared.summary.Summary.TheVariants.{Tile}
use Rattle.command.specs.Outcomes.{WritesAll}
use Rattle.sample_files.specs.declared.sample.Sample.{Sample}
use Rattle.sample_files.specs.Samples.{IsSampleOf, form_text}
use Rattle.outputs.specs.Tilings.{plan_of, tile_command, torus_seams}
use Rattle.outputs.specs.TileHeadlines.{HaveSameTiling, IsOneTiling, IsTiledOutput, told_of_tiling}
use Rattle.outputs.proofs.TileLaws.{tile_told}
use Rattle.outputs.proofs.Tiling.{run_plan}

module _ (job : TileJob) (is : IsRunPlan (plan_of job)) (before after earlier later : Files) (same : content_of earlier job.sample ≡ content_of before job.sample) (run : IsTiledOutput job before after)
    (other : IsTiledOutput job earlier later) where
  one_read : other.sample ≡ run.sample
  one_read = run.only other.sample (subst (λ bytes. IsSampleOf bytes other.sample) same other.read)

  abbrev here : Tiling
  here = record { map = run.map; draws = run.draws }

  abbrev there : Tiling
  there = record { map = other.map; draws = other.draws }

  runs : (other.steps ≡ run.steps) × (there ≡ here)
  runs = one_tiling (plan_of job) run.sample.volume run.sample_volume is other.steps run.steps there here
      (subst (λ (s : Sample). IsTiled (plan_of job) s.volume other.steps there) one_read other.run) other.full run.run run.full

  same_map : other.map ≡ run.map
  same_map = ap (λ (t : Tiling). t.map) runs.1

  abbrev out_spelled : Sample → SourceMap → List ℕ
  out_spelled s m = form_text s.form (picture_of m s.volume)

  abbrev map_spelled : Sample → SourceMap → List ℕ
  map_spelled s m = cell_map_form m (sizes_of s.volume) One

  pub one_output : HaveSameTiling job later after
  one_output = record {
    out = other.out_file ∙ ap (form_text other.sample.form) other.of_map ∙ (λ k. out_spelled (one_read k) (same_map k)) ∙ sym (run.out_file ∙ ap (form_text run.sample.form) run.of_map);
    map = other.map_file ∙ (λ k. map_spelled (one_read k) (same_map k)) ∙ sym run.map_file;
  }

  pub one_told : told_of_tiling other ≡ told_of_tiling run
  one_told = λ k. Tile job.size (length (runs.0 k)) (torus_seams job (one_read k).volume (same_map k))

pub one_tile : (job : TileJob) → IsTileJob job → (summary : Summary) (before after : Files) → WritesAll (tile_command job) summary before after → IsOneTiling job summary before after
one_tile job lawful summary before after (texts, (sample, read, (frames, (cells, (tiled, its, texts_are, summary_is)))), wrote) =
    let told = tile_told job lawful summary before after (texts, (sample, read, (frames, (cells, (tiled, its, texts_are, summary_is)))), wrote) in
    let plan = run_plan job lawful sample.form its.bounds in
    record {
      files = λ earlier later same other. one_output job plan before after earlier later same told.made other;
      told = λ other_summary earlier later same other. other.summary_is ∙ one_told job plan before after earlier later same told.made other.made ∙ sym told.summary_is;
    }
