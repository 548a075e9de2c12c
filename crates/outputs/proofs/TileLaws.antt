-- `tile` has one answer to files, and its headline.
use Rattle.std.proofs.Common.{◌≡◌, ℕ, false, List, refl, ap, sym, ◌∙◌, subst, arith}
use Rattle.std.specs.FinMap.{insert}
use Rattle.cells.specs.Cells.{sizes_of}
use Rattle.cells.specs.Places.{cell_count}
use Rattle.shelf_traits.specs.Files.{Files, content_of}
use Rattle.shelf_traits.specs.Written.{written}
use Rattle.map_canvas.proofs.Pictures.{full_picture}
use Rattle.source_map.specs.MapFiles.{cell_map_form}
use Rattle.source_map.specs.declared.head.Version.TheVariants.{One}
use Rattle.source_map.specs.declared.map_file.MapFile.TheVariants.{Cells as CellMap}
use Rattle.source_map.proofs.MapsAgain.{read_again}
use Rattle.synth_report.specs.declared.summary.Summary.{Summary}
use Rattle.synth_report.specs.declared.summary.Summary.TheVariants.{Tile}
use Rattle.command.specs.Commands.{HasOneAnswer}
use Rattle.command.specs.Outcomes.{WritesAll}
use Rattle.command.specs.Writing.{pieces, texts_in}
use Rattle.command.proofs.Staging.{one_answer}
use Rattle.sample_files.specs.declared.sample.Sample.{Sample}
use Rattle.sample_files.specs.Samples.{StandsWithin, form_text}
use Rattle.sample_files.proofs.Commands.{same_sample}
use Rattle.job_words.specs.declared.tile.TileJob.{TileJob}
use Rattle.job_words.specs.TileWords.{IsTileJob}
use Rattle.torus.specs.declared.plan.Tiled.{Tiled}
use Rattle.torus.specs.Tilings.{IsTiledTo}
use Rattle.torus.proofs.OneRuns.{all_keep, all_least}
use Rattle.outputs.specs.Tilings.{IsSampleIn, IsTileSummary, IsTilingMade, MayRefuseTile, plan_of, tile_command, tile_files, tile_stages, tile_summary, tiling_of, torus_seams}
use Rattle.outputs.specs.TileHeadlines.{IsTiledOutput, IsToldOfTiling}
use Rattle.check_command.specs.Checks.{IsReadMap, run_map_read}
use Rattle.outputs.proofs.PicturesAgain.{picture_again}
use Rattle.outputs.proofs.TileReady.{map_ready, picture_ready}
use Rattle.outputs.proofs.Tiling.{are_one}
use Rattle.outputs.proofs.TwoFiles.{map_holds, others_stay, out_holds}

pub tile_has_one_answer : (job : TileJob) → HasOneAnswer (tile_command job)
tile_has_one_answer job = one_answer (tile_stages job) (tile_command job).writes MayRefuseTile (IsTileSummary job) (are_one job)

-- what is written is the run of the headline
module _ (job : TileJob) (lawful : IsTileJob job) (before after : Files) (sample : Sample) (read : IsSampleIn before job sample) (tiled : Tiled) (its : IsTilingMade job (tiling_of job sample tiled))
    (wrote : after ≡ written (pieces (tile_command job).writes (texts_in (tile_files job (tiling_of job sample tiled)))) before) where
  abbrev out_text : List ℕ
  out_text = form_text sample.form tiled.canvas.picture

  abbrev map_text : List ℕ
  map_text = cell_map_form tiled.canvas.map (sizes_of sample.volume) One

  whole : after ≡ insert (insert before job.out out_text) job.map map_text
  whole = wrote

  abbrev tiling : IsTiledTo (plan_of job) sample.volume tiled
  tiling = its.tiled

  out_again : StandsWithin 33554432 out_text sample.form tiled.canvas.picture
  out_again =
      let size : cell_count tiled.canvas.picture.size ≡ cell_count job.size = ap cell_count (tiling.canvas.size ∙ tiling.size) in
      picture_again sample.form tiled.canvas.picture (picture_ready job (tiling_of job sample tiled) tiled.canvas.picture refl lawful its) (omega (arith, size, its.bounds.cells))

  map_again : IsReadMap false map_text (CellMap tiled.canvas.map (sizes_of sample.volume) One)
  map_again = read_again (CellMap tiled.canvas.map (sizes_of sample.volume) One) (tiling.canvas.map, map_ready job (tiling_of job sample tiled) tiled.canvas.map refl its)

  out_is : content_of after job.out ≡ out_text
  out_is = out_holds job lawful before after out_text map_text whole

  map_is : content_of after job.map ≡ map_text
  map_is = map_holds job lawful before after out_text map_text whole

  abbrev output : IsTiledOutput job before after
  output = record {
    sample = sample;
    read = read;
    only = λ other stands. same_sample (content_of before job.sample) other sample stands read;
    sample_volume = its.volume;
    map = tiled.canvas.map;
    asked = tiling.size;
    is_map = tiling.canvas.map;
    full = tiling.full;
    over = tiling.over.over;
    steps = tiling.steps;
    draws = tiling.draws;
    run = tiling.run;
    least = all_least (plan_of job) sample.volume its.volume tiling.steps (record { map = tiled.canvas.map; draws = tiling.draws }) tiling.run;
    keep = all_keep (plan_of job) sample.volume its.volume tiling.steps (record { map = tiled.canvas.map; draws = tiling.draws }) tiling.run;
    map_file = map_is;
    picture = tiled.canvas.picture;
    volume = tiling.canvas.picture;
    one = tiling.canvas.part;
    size = tiling.canvas.size ∙ tiling.size;
    of_map = full_picture tiled.canvas sample.volume tiling.canvas tiling.over tiling.full;
    cells = tiling.over.bytes;
    out_file = out_is;
    out_again = subst (λ bytes. StandsWithin 33554432 bytes sample.form tiled.canvas.picture) (sym out_is) out_again;
    map_again = ap (run_map_read false) map_is ∙ map_again;
    others = others_stay job lawful before after out_text map_text whole;
  }

  told : (summary : Summary) → summary ≡ tile_summary job (tiling_of job sample tiled) → IsToldOfTiling job summary before after
  told summary is = record { made = output; summary_is = is ∙ (λ k. Tile job.size (tiling.count k) (torus_seams job sample.volume tiled.canvas.map)) }

pub tile_told : (job : TileJob) → IsTileJob job → (summary : Summary) (before after : Files) → WritesAll (tile_command job) summary before after → IsToldOfTiling job summary before after
tile_told job lawful summary before after (texts, (sample, read, (frames, (cells, (tiled, its, texts_are, summary_is)))), wrote) =
    told job lawful before after sample read tiled its (wrote ∙ ap (λ ts. written (pieces (tile_command job).writes ts) before) texts_are) summary summary_is
