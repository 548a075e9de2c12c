-- The files that are left are read again as what was written, and stand.
use Rattle.std.proofs.Common.{◌≡◌, ◌≤◌, [], ap, sym, ◌∙◌, subst, arith, false, refl}
use Rattle.std.specs.Prelude.{Ok}
use Rattle.cells.specs.Cells.{sizes_of}
use Rattle.cells.specs.Places.{cell_count}
use Rattle.shelf_traits.specs.Files.{Files, content_of}
use Rattle.netpbm_p6.specs.Pictures.{IsRead, p6_form}
use Rattle.netpbm_p6.proofs.ReadAgain.{written_is_read}
use Rattle.source_map.specs.declared.head.Version.TheVariants.{One}
use Rattle.source_map.specs.declared.map_file.MapFile.TheVariants.{Cells as CellMap}
use Rattle.source_map.specs.MapFiles.{cell_map_form, map_read}
use Rattle.source_map.proofs.MapsAgain as maps
use Rattle.cert_file.specs.declared.file.RecordFile.TheVariants.{Blocks}
use Rattle.cert_file.specs.RecordFiles.{IsRecordFileOf, blocks_form}
use Rattle.cert_file.proofs.BlocksAgain.{blocks_again}
use Rattle.job_words.specs.declared.job.Names.{Names}
use Rattle.quilted.specs.Runs.{Rating}
use Rattle.quilted.specs.declared.asked.QuiltRun.{QuiltRun}
use Rattle.sample_files.specs.declared.form.Form.TheVariants.{Picture}
use Rattle.sample_files.specs.declared.several.Samples.{Samples}
use Rattle.sample_files.specs.Samples.{StandsWithin}
use Rattle.sample_files.specs.Several.{StandForSamples, contents}
use Rattle.sample_files.proofs.Commands.{alone}
use Rattle.standing_files.specs.Standing.{FilesStand}
use Rattle.standing_files.proofs.Runs.{quilt_stands}
use Rattle.check_command.specs.Checks.{ReadFiles, Stand}
use Rattle.outputs.specs.declared.quilt.PictureQuilt.{PictureQuilt}
use Rattle.outputs.specs.BlockOutputs.{IsMadeQuilt, quilt_head}
use Rattle.outputs.proofs.BlocksReady.{map_ready, picture_ready, record_ready, wide_block}

module _ (rating : Rating) (asked : QuiltRun) (names : Names) (alone_is : names.more ≡ []) (after : Files) (made : PictureQuilt) (is : IsMadeQuilt rating asked made)
    (sample_file : IsRead (content_of after names.sample) made.sample)
    (out_file : content_of after names.out ≡ p6_form made.sample.maxval made.quilted.canvas.picture)
    (map_file : content_of after names.map ≡ cell_map_form made.quilted.canvas.map (sizes_of made.sample.volume) One)
    (cert_file : content_of after names.record_file ≡ blocks_form (quilt_head asked.size made.sample.volume) made.quilted.blocks) where
  abbrev samples : Samples
  samples = record { form = Picture made.sample.maxval; volume = made.sample.volume }

  sample_again : StandForSamples false (content_of after names.sample) (contents after names.more) samples
  sample_again = alone after names.sample names.more samples alone_is sample_file is.sound.form.one is.sound.cells

  few_cells : cell_count made.quilted.canvas.picture.size ≤ 8388608
  few_cells = let size : cell_count made.quilted.canvas.picture.size ≡ cell_count asked.size = ap cell_count (is.quilt.canvas.size ∙ is.quilt.size) in omega (arith, size, is.within)

  out_again : StandsWithin 33554432 (content_of after names.out) (Picture made.sample.maxval) made.quilted.canvas.picture
  out_again = subst (λ bytes. StandsWithin 33554432 bytes (Picture made.sample.maxval) made.quilted.canvas.picture) (sym out_file)
      (written_is_read made.sample.maxval made.quilted.canvas.picture (picture_ready rating asked made is) few_cells)

  map_again : map_read (content_of after names.map) ≡ Ok (CellMap made.quilted.canvas.map (sizes_of made.sample.volume) One)
  map_again = ap map_read map_file ∙ maps.read_again (CellMap made.quilted.canvas.map (sizes_of made.sample.volume) One) (is.quilt.canvas.map, map_ready rating asked made is)

  record_file_again : IsRecordFileOf (content_of after names.record_file) (Blocks (quilt_head asked.size made.sample.volume) made.quilted.blocks)
  record_file_again = subst (λ bytes. IsRecordFileOf bytes (Blocks (quilt_head asked.size made.sample.volume) made.quilted.blocks)) (sym cert_file)
      (blocks_again (quilt_head asked.size made.sample.volume) made.quilted.blocks (record {
        form = record_ready rating asked made is;
        cells = is.quilt.writable.cells;
      }) (λ i d lt. wide_block rating asked made is _ (is.quilt.writable.each i d lt)))

  abbrev values : ReadFiles
  values = record {
    samples = samples;
    out = record { form = Picture made.sample.maxval; volume = made.quilted.canvas.picture };
    map = CellMap made.quilted.canvas.map (sizes_of made.sample.volume) One;
    record_file = Blocks (quilt_head asked.size made.sample.volume) made.quilted.blocks;
  }

  files_stand : FilesStand values.samples values.out values.map values.record_file
  files_stand = quilt_stands made.sample.maxval made.sample.volume asked.size made.quilted.blocks made.quilted.canvas.map made.quilted.canvas.picture One One (record {
    asked = is.quilt.size;
    is_map = is.quilt.canvas.map;
    full = is.quilt.run.full;
    one = is.quilt.canvas.part;
    size_is = is.quilt.canvas.size ∙ is.quilt.size;
    cells = is.quilt.over.bytes;
    replays = is.quilt.replays.left;
    stand = is.quilt.replays.stand;
  })

  pub accepted : Stand false names after
  accepted = record { values = values; read = record { samples = record { samples = samples; stand = sample_again; is = refl }; out = out_again; map = map_again; record_file = record_file_again }; stand = files_stand }
