-- The files that `loop` leaves are read again as what was written, and stand, which is what `check` tries.
use Rattle.std.proofs.Common.{◌≡◌, ℕ, ◌≤◌, List, refl, ap, sym, ◌∙◌, subst, false}
use Rattle.std.specs.Prelude.{Some}
use Rattle.cells.specs.Cells.{Cells, cell_at}
use Rattle.cells.specs.declared.place.Size.{Size}
use Rattle.cells.specs.declared.place.At.{At}
use Rattle.cells.specs.Places.{IsInside, cell_count}
use Rattle.shelf_traits.specs.Files.{Files, content_of}
use Rattle.source_map.specs.declared.head.Version.TheVariants.{One}
use Rattle.source_map.specs.declared.map_file.MapFile.TheVariants.{Frames}
use Rattle.source_map.specs.MapFiles.{frame_map_form, frame_source, map_read}
use Rattle.source_map.proofs.MapsAgain as maps
use Rattle.y4m_clip.specs.Refusals.{IsReadClip}
use Rattle.y4m_clip.specs.Writing.{clip_form}
use Rattle.y4m_clip.proofs.ClipAgain as clip
use Rattle.cert_file.specs.declared.file.RecordFile.TheVariants.{Walk}
use Rattle.cert_file.specs.RecordFiles.{IsRecordFileOf, walk_file_form}
use Rattle.cert_file.proofs.WalksAgain.{walk_again}
use Rattle.job_words.specs.declared.loop_words.LoopJob.{LoopJob}
use Rattle.job_words.specs.LoopWords.{IsLoopJob}
use Rattle.sample_files.specs.declared.form.Form.TheVariants.{Clip}
use Rattle.sample_files.proofs.Commands.{alone}
use Rattle.sample_files.proofs.OneSample.{count_alone}
use Rattle.standing_files.proofs.Runs.{loop_stands}
use Rattle.check_command.specs.Checks.{AreRunFiles, ReadFiles, Stand}
use Rattle.loop_command.specs.declared.plan.LoopedClip.{LoopedClip}
use Rattle.loop_command.specs.Loops.{IsLoopMade, frames_taken, loop_head, loop_size}
use Rattle.loop_command.proofs.Taken.{taken_cells}
use Rattle.loop_command.proofs.LoopReady.{asked, frames_are_clip, frames_below, map_ready, record_ready}

module _ (job : LoopJob) (lawful : IsLoopJob job) (after : Files) (looped : LoopedClip) (made : IsLoopMade job looped)
    (sample_file : IsReadClip 8388608 (content_of after job.names.sample) looped.clip)
    (out_file : content_of after job.names.out ≡ clip_form looped.clip.form (frames_taken looped.clip.volume looped.found.walk))
    (map_file : content_of after job.names.map ≡ frame_map_form (loop_size looped.clip.volume job.length) looped.clip.volume.size looped.found.walk)
    (cert_file : content_of after job.names.record_file ≡ walk_file_form (loop_head job looped.clip.volume) job.taps job.gap looped.found.walk looped.found.tables) where
  abbrev sample : Cells
  sample = looped.clip.volume

  abbrev walk : List ℕ
  walk = looped.found.walk

  abbrev size : Size
  size = loop_size sample job.length

  abbrev values : ReadFiles
  values = record {
    samples = record { form = Clip looped.clip.form; volume = sample };
    out = record { form = Clip looped.clip.form; volume = frames_taken sample walk };
    map = Frames size sample.size walk;
    record_file = Walk (loop_head job sample) job.taps job.gap walk looped.found.tables;
  }

  read : AreRunFiles false job.names after values
  read = record {
    samples = record {
      samples = values.samples;
      stand = alone after job.names.sample job.names.more values.samples lawful.one sample_file made.sound.one (subst (λ n. n ≤ 8388608) (sym (count_alone sample made.sound.one)) made.sound.cells);
      is = refl;
    };
    out = subst (λ bytes. IsReadClip 33554432 bytes (record { form = looped.clip.form; volume = frames_taken sample walk })) (sym out_file)
        (clip.written_is_read 33554432 looped.clip.form (frames_taken sample walk) (frames_are_clip job lawful looped made)
        (subst (λ n. cell_count (loop_size sample n) ≤ 33554432) (sym (asked job lawful looped made)) made.bounds.cells));
    map = ap map_read map_file ∙ maps.read_again (Frames size sample.size walk) (map_ready job lawful looped made);
    record_file = subst (λ bytes. IsRecordFileOf bytes values.record_file) (sym cert_file) (walk_again (loop_head job sample) job.taps job.gap walk looped.found.tables (record_ready job lawful looped made) made.found.wide);
  }

  cells : (p from : At) → IsInside size p → frame_source walk p ≡ Some from → cell_at (frames_taken sample walk) p ≡ cell_at sample from
  cells p from inside named =
      taken_cells sample made.volume walk (frames_below job lawful looped made) p from (subst (λ n. IsInside (loop_size sample n) p) (sym (asked job lawful looped made)) inside) named

  pub accepted : Stand false job.names after
  accepted = record {
    values = values;
    read = read;
    stand = loop_stands values.samples size job.taps job.gap walk looped.found.tables (frames_taken sample walk) One (record {
      one_sample = made.sound.one;
      one = refl;
      size_is = λ k. loop_size sample (asked job lawful looped made k);
      frames = asked job lawful looped made;
      cells = cells;
      stand = made.found.stands;
    });
  }
