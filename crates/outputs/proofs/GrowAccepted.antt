-- The files that `grow` leaves stand: each is read again as what was written.
use Rattle.std.proofs.Common.{◌≡◌, ◌≤◌, Bool, true, false, List, length, refl, ap, sym, ◌∙◌, subst, arith}
use Rattle.std.specs.Prelude.{All, Ok}
use Rattle.cells.specs.Cells.{sizes_of}
use Rattle.cells.specs.Places.{cell_count}
use Rattle.shelf_traits.specs.Files.{Files, content_of}
use Rattle.source_map.specs.declared.map_file.MapFile.TheVariants.{Cells as CellMap}
use Rattle.source_map.specs.MapFiles.{IsWritable}
use Rattle.map_canvas.specs.Maps.{IsMap, SourceMap}
use Rattle.cells.specs.declared.place.Size.{Size}
use Rattle.turned.specs.TurnedParts.{turned_sizes_of}
use Rattle.turned_map.proofs.TurnedAgain.{read_again}
use Rattle.sample_files.specs.Worked.{worked_sizes}
use Rattle.outputs.specs.GrownMaps.{IsReadyMap, map_text, version_of}
use Rattle.source_map.proofs.MapsAgain as maps
use Rattle.cert_file.specs.CutForms.{HasShortFlows}
use Rattle.cert_file.specs.declared.file.RecordFile.TheVariants.{Cuts}
use Rattle.cert_file.specs.RecordFiles.{IsRecordFileOf, cuts_form}
use Rattle.cert_file.proofs.CutsAgain.{cuts_again}
use Rattle.job_words.specs.declared.grow.GrowJob.{GrowJob}
use Rattle.job_words.specs.GrowWords.{IsGrowJob}
use Rattle.sample_files.specs.Samples.{StandsWithin, form_text}
use Rattle.standing_files.specs.Standing.{FilesStand}
use Rattle.standing_files.proofs.Runs.{run_stands}
use Rattle.check_command.specs.Checks.{AreRunFiles, ReadFiles, Stand, StandForWorked, of_turned, run_map_read}
use Rattle.outputs.specs.declared.growth.Growth.{Growth}
use Rattle.outputs.specs.Growths.{IsMade, head_over, version_over}
use Rattle.outputs.proofs.OneTurns.{one_turns}
use Rattle.outputs.proofs.PicturesAgain.{picture_again}
use Rattle.outputs.proofs.GrowReady.{cells_ready, map_ready, picture_ready, record_ready, several}

-- the text of a map that can be written is read again, as a map over the worked samples
map_read_again : (turns : Bool) (m : SourceMap) (sizes all : List Size) → IsMap m → 1 ≤ length sizes → all ≡ worked_sizes turns sizes → IsWritable m all (version_of all) → IsReadyMap turns m sizes
    → run_map_read turns (map_text turns m sizes) ≡ Ok (CellMap m all (version_of all))
map_read_again false m sizes all map some same writable ready =
    maps.read_again (CellMap m sizes (version_of sizes)) (map, ready) ∙ ap (λ s. Ok (CellMap m s (version_of s))) (sym same)
map_read_again true m sizes all map some same writable ready =
    ap of_turned (read_again (record { map = m; samples = sizes }) ready)
    ∙ ap (λ v. Ok (CellMap m (turned_sizes_of sizes) v)) (sym (several sizes some)) ∙ ap (λ s. Ok (CellMap m s (version_of s))) (sym same)

module _ (job : GrowJob) (lawful : IsGrowJob job) (after : Files) (growth : Growth) (made : IsMade job growth) (flows : All HasShortFlows growth.grown.cuts)
    (samples_again : StandForWorked job.turns job.names after growth.samples)
    (out_file : content_of after job.names.out ≡ form_text growth.samples.form growth.grown.canvas.picture)
    (map_file : content_of after job.names.map ≡ map_text job.turns growth.grown.canvas.map growth.sizes)
    (cert_file : content_of after job.names.record_file ≡ cuts_form (head_over job.size growth.samples.volume) growth.grown.cuts) where
  out_read : StandsWithin 33554432 (content_of after job.names.out) growth.samples.form growth.grown.canvas.picture
  out_read = subst (λ bytes. StandsWithin 33554432 bytes growth.samples.form growth.grown.canvas.picture) (sym out_file)
      (picture_again growth.samples.form growth.grown.canvas.picture (picture_ready job growth growth.grown.canvas.picture refl made.volume lawful made)
      (let size : cell_count growth.grown.canvas.picture.size ≡ cell_count job.size = ap cell_count (made.grown.canvas.size ∙ made.grown.size) in omega (arith, size, made.bounds.cells)))

  map_again : run_map_read job.turns (content_of after job.names.map) ≡ Ok (CellMap growth.grown.canvas.map (sizes_of growth.samples.volume) (version_over growth.samples.volume))
  map_again = ap (run_map_read job.turns) map_file
      ∙ map_read_again job.turns growth.grown.canvas.map growth.sizes (sizes_of growth.samples.volume) made.grown.canvas.map made.are.some made.sizes (cells_ready job growth made.volume made)
      (map_ready job growth growth.grown.canvas.map refl made.volume made)

  record_file_again : IsRecordFileOf (content_of after job.names.record_file) (Cuts (head_over job.size growth.samples.volume) growth.grown.cuts)
  record_file_again = subst (λ bytes. IsRecordFileOf bytes (Cuts (head_over job.size growth.samples.volume) growth.grown.cuts)) (sym cert_file)
      (cuts_again (head_over job.size growth.samples.volume) growth.grown.cuts (record {
        form = record_ready job growth made.volume lawful made;
        cells = made.grown.writable.cells;
      }) flows)

  abbrev values : ReadFiles
  values = record {
    samples = growth.samples;
    out = record { form = growth.samples.form; volume = growth.grown.canvas.picture };
    map = CellMap growth.grown.canvas.map (sizes_of growth.samples.volume) (version_over growth.samples.volume);
    record_file = Cuts (head_over job.size growth.samples.volume) growth.grown.cuts;
  }

  files_stand : FilesStand values.samples values.out values.map values.record_file
  files_stand = run_stands growth.samples job.size growth.grown.cuts growth.grown.canvas.map growth.grown.canvas.picture (version_over growth.samples.volume) (version_over growth.samples.volume) (record {
    asked = made.grown.size;
    is_map = made.grown.canvas.map;
    full = made.grown.done.full;
    one = made.grown.canvas.part;
    size_is = made.grown.canvas.size ∙ made.grown.size;
    cells = made.grown.over.bytes;
    replays = made.grown.left;
    stand = made.grown.stand;
  })

  pub accepted : Stand job.turns job.names after
  accepted = record { values = values; read = record { samples = samples_again; out = out_read; map = map_again; record_file = record_file_again }; stand = files_stand }

  -- with the other value of `turns` the map file isn't in its form
  pub own_turns : (turns : Bool) (values : ReadFiles) → AreRunFiles turns job.names after values → turns ≡ job.turns
  own_turns turns other files =
      one_turns job.turns turns growth.grown.canvas.map growth.sizes other.map (subst (λ bytes. run_map_read turns bytes ≡ Ok other.map) map_file files.map)
