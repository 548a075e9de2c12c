-- The files of a loop can be written: its frames, its frame map and the record of its walk.
use Rattle.std.proofs.Common.{◌≡◌, ℕ, ◌<◌, ◌≤◌, ◌*◌, List, ◌∷◌, length, refl, ap, sym, ◌∙◌, subst, arith}
use Rattle.std.specs.Prelude.{All}
use Rattle.cells.specs.Cells.{Cells}
use Rattle.cells.specs.Places.{HasAxes, cell_count}
use Rattle.source_map.specs.Heads.{IsHead}
use Rattle.source_map.specs.MapFiles.{IsFrameMap}
use Rattle.y4m_clip.specs.Writing.{IsClip, writer_of}
use Rattle.loop_walk.specs.Tables.{table_count}
use Rattle.loop_walk.proofs.OneAnswer.{walk_frames}
use Rattle.cert_file.specs.WalkForms.{IsWalkInForm}
use Rattle.job_words.specs.LoopWords.{IsLoopJob}
use Rattle.job_words.specs.declared.loop_words.LoopJob.{LoopJob}
use Rattle.loop_command.specs.declared.plan.LoopedClip.{LoopedClip}
use Rattle.loop_command.specs.Loops.{IsLoopMade, frames_taken, loop_head, loop_size, steps_over}
use Rattle.loop_command.specs.LoopOuts.{CanWriteFrames}
use Rattle.loop_command.proofs.Taken.{taken_is_volume}

module _ (job : LoopJob) (lawful : IsLoopJob job) (looped : LoopedClip) (made : IsLoopMade job looped) where
  abbrev sample : Cells
  sample = looped.clip.volume

  abbrev walk : List ℕ
  walk = looped.found.walk

  pub asked : length walk ≡ job.length
  asked = made.found.least.frames

  -- the walk goes through frames of the sample
  pub frames_below : All (λ frame. frame < sample.size.f) walk
  frames_below = walk_frames (steps_over job sample) walk made.found.least.closed

  pub frames_ready : CanWriteFrames (writer_of looped.clip.form (loop_size sample job.length)) sample walk
  frames_ready = record { one = made.sound.one; width = refl; height = refl; samples = made.sound.samples; frames = frames_below }

  abbrev axes : HasAxes (loop_size sample job.length)
  axes = record { w = made.volume.small.axes.w; h = made.volume.small.axes.h; f = lawful.frames }

  pub map_ready : IsFrameMap (loop_size sample job.length) sample.size walk
  map_ready = record { size_axes = axes; sample_axes = made.volume.small.axes; w = refl; h = refl; count = asked; entries = frames_below }

  head_is : IsHead (loop_head job sample)
  head_is = record {
    output_axes = axes;
    samples_are = record {
      sizes_are = record { some = omega arith; few = omega (arith, made.volume.parts.few); axes = (made.volume.parts.first, made.volume.parts.others) };
      one = λ e. ap (λ more. length (sample.size ∷ more)) made.sound.one;
    };
  }

  pub record_ready : IsWalkInForm (loop_head job sample) job.gap walk looped.found.tables
  record_ready = record {
    head_is = head_is;
    version = refl;
    frames = made.bounds.frames;
    len = (omega (arith, asked, lawful.frames.0), omega (arith, asked, lawful.frames.1));
    gap_from = lawful.gap.0;
    gap_to = lawful.gap.1;
    entries = made.found.tight.whole ∙ ap (λ n. table_count n * (sample.size.f * sample.size.f)) (sym asked);
  }

  -- the frames of the walk are a clip
  pub frames_are_clip : IsClip looped.clip.form (frames_taken sample walk)
  frames_are_clip = record {
    form_is = made.sound.form;
    volume_is = taken_is_volume sample made.volume walk frames_below (omega (arith, asked, lawful.frames.0)) (omega (arith, asked, lawful.frames.1))
        (subst (λ n. cell_count (loop_size sample n) ≤ 33554432) (sym asked) made.bounds.cells);
    one = refl;
    samples = made.sound.samples;
  }
