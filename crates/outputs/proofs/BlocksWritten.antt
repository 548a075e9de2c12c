-- What is written is what headlines say of it.
use Rattle.std.proofs.Common.{◌≡◌, [], ap, sym, ◌∙◌, subst}
use Rattle.std.specs.FinMap.{insert}
use Rattle.cells.specs.Cells.{Cells, sizes_of}
use Rattle.cells.specs.Places.{IsSmall}
use Rattle.shelf_traits.specs.Files.{Files, content_of}
use Rattle.netpbm_p6.specs.declared.picture.Picture.{Picture}
use Rattle.netpbm_p6.specs.Pictures.{IsRead, p6_form}
use Rattle.netpbm_p6.proofs.OneReading.{one_picture}
use Rattle.map_canvas.proofs.Pictures.{full_picture}
use Rattle.source_map.specs.MapFiles.{cell_map_form}
use Rattle.source_map.specs.declared.head.Version.TheVariants.{One}
use Rattle.quilted.specs.Runs.{Rating}
use Rattle.quilted.specs.declared.asked.QuiltRun.{QuiltRun}
use Rattle.quilted.specs.declared.asked.Quilted.{Quilted}
use Rattle.quilted.specs.Quilted.{IsQuilt}
use Rattle.cert_file.specs.RecordFiles.{blocks_form}
use Rattle.job_words.specs.declared.job.Names.{Names}
use Rattle.job_words.specs.Names.{AreNames, name_list}
use Rattle.command_files.proofs.ThreeFiles.{HoldThree, three_files}
use Rattle.sample_files.specs.Outputs.{FitsOutput}
use Rattle.sample_files.proofs.Sound.{read_is_sound, read_is_volume}
use Rattle.outputs.specs.BlockOutputs.{quilt_head, quilt_of}
use Rattle.outputs.specs.BlockHeadlines.{IsQuiltedBy, IsQuiltedOutput, IsQuiltedRecord}
use Rattle.outputs.proofs.BlocksAccepted.{accepted}

module _ (rating : Cells → Rating) (asked : QuiltRun) (names : Names) (differ : AreNames (name_list names)) (alone_is : names.more ≡ []) (before after : Files) (sample : Picture) (read : IsRead (content_of before names.sample) sample)
    (small : IsSmall asked.size) (frame : asked.size.f ≡ 1) (within : FitsOutput asked.size) (quilted : Quilted) (quilt : IsQuilt (rating sample.volume) asked sample.volume quilted)
    (wrote : after ≡ insert (insert (insert before names.out (p6_form sample.maxval quilted.canvas.picture)) names.map (cell_map_form quilted.canvas.map (sizes_of sample.volume) One)) names.record_file (blocks_form (quilt_head asked.size sample.volume) quilted.blocks)) where
  abbrev pub files : HoldThree names before after (p6_form sample.maxval quilted.canvas.picture) (cell_map_form quilted.canvas.map (sizes_of sample.volume) One) (blocks_form (quilt_head asked.size sample.volume) quilted.blocks)
  files = three_files names differ before after _ _ _ wrote

  abbrev pub output : IsQuiltedOutput names asked.size before after
  output = record {
    sample = sample;
    read = read;
    only = λ other stands. one_picture (content_of before names.sample) other sample stands.stands read.stands;
    sample_volume = read_is_volume (content_of before names.sample) sample read;
    map = quilted.canvas.map;
    map_size = quilt.size;
    is_map = quilt.canvas.map;
    full = quilt.run.full;
    over = quilt.over.over;
    map_file = files.map;
    picture = quilted.canvas.picture;
    volume = quilt.canvas.picture;
    one = quilt.canvas.part;
    size = quilt.canvas.size ∙ quilt.size;
    of_map = full_picture quilted.canvas sample.volume quilt.canvas quilt.over quilt.run.full;
    cells = quilt.over.bytes;
    out_file = files.out;
  }

  abbrev pub records : IsQuiltedRecord (rating sample.volume) asked sample.volume quilted.canvas.map (content_of after names.record_file)
  records = record {
    blocks = quilted.blocks;
    file = files.record_file;
    draws = quilt.draws;
    run = quilt.run;
    replays = quilt.replays.left;
    stand = quilt.replays.stand;
    least = quilt.replays.least;
  }

  abbrev pub quilted_by : IsQuiltedBy rating asked names before after
  quilted_by = record {
    output = output;
    records = records;
    accepted = accepted (rating sample.volume) asked names alone_is after (quilt_of sample quilted)
        (record { volume = read_is_volume (content_of before names.sample) sample read; sound = read_is_sound (content_of before names.sample) sample.maxval sample.volume read; small = small; frame = frame; within = within; quilt = quilt })
        (subst (λ bytes. IsRead bytes sample) (sym files.sample) read) files.out files.map files.record_file;
    others = files.others;
  }
