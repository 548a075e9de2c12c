-- `loop` has one answer to files, and its headline.
use Rattle.std.proofs.Common.{◌≡◌, refl, ap, sym, ◌∙◌, subst}
use Rattle.shelf_traits.specs.Files.{Files, content_of}
use Rattle.shelf_traits.specs.Written.{written}
use Rattle.source_map.specs.MapFiles.{frame_map_form}
use Rattle.y4m_clip.specs.Refusals.{IsReadClip}
use Rattle.y4m_clip.specs.Writing.{clip_form}
use Rattle.cells.specs.Cells.{Cells}
use Rattle.cert_file.specs.RecordFiles.{walk_file_form}
use Rattle.synth_report.specs.declared.summary.Summary.{Summary}
use Rattle.command.specs.Commands.{HasOneAnswer}
use Rattle.command.specs.Outcomes.{WritesAll}
use Rattle.command.specs.Writing.{pieces, texts_in}
use Rattle.command.proofs.Staging.{one_answer}
use Rattle.command_files.proofs.ThreeFiles.{HoldThree, three_files}
use Rattle.job_words.specs.LoopWords.{IsLoopJob}
use Rattle.job_words.specs.declared.loop_words.LoopJob.{LoopJob}
use Rattle.loop_command.specs.declared.plan.LoopedClip.{LoopedClip}
use Rattle.loop_command.specs.Loops.{IsClipIn, IsLoopMade, IsLoopSummary, MayRefuseLoop, frames_taken, loop_command, loop_files, loop_head, loop_of, loop_size, loop_stages}
use Rattle.loop_command.specs.LoopHeadlines.{IsLoopedOutput, IsLoopedRecord, IsLoopedRun, looped_summary}
use Rattle.loop_command.proofs.Taken.{taken_cells}
use Rattle.loop_command.proofs.Looping.{are_one}
use Rattle.loop_command.proofs.LoopAccepted.{accepted}
use Rattle.loop_command.proofs.LoopReady.{asked, frames_are_clip, frames_below, map_ready}

pub loop_has_one_answer : (job : LoopJob) → HasOneAnswer (loop_command job)
loop_has_one_answer job = one_answer (loop_stages job) (loop_command job).writes (MayRefuseLoop job) (IsLoopSummary job) (are_one job)

-- what is written is the run of the headline
module _ (job : LoopJob) (lawful : IsLoopJob job) (before after : Files) (looped : LoopedClip) (read : IsClipIn before job looped.clip) (made : IsLoopMade job looped)
    (wrote : after ≡ written (pieces (loop_command job).writes (texts_in (loop_files job looped))) before) where
  abbrev sample : Cells
  sample = looped.clip.volume

  abbrev files : HoldThree job.names before after (clip_form looped.clip.form (frames_taken sample looped.found.walk)) (frame_map_form (loop_size sample job.length) sample.size looped.found.walk)
      (walk_file_form (loop_head job sample) job.taps job.gap looped.found.walk looped.found.tables)
  files = three_files job.names lawful.names before after _ _ _ wrote

  abbrev output : IsLoopedOutput job before after
  output =
      let clip = frames_are_clip job lawful looped made in
      record {
        clip = looped.clip;
        read = read;
        walk = looped.found.walk;
        is_map = map_ready job lawful looped made;
        map_file = files.map;
        picture = frames_taken sample looped.found.walk;
        volume = clip.volume_is;
        one = clip.one;
        size = ap (loop_size sample) (asked job lawful looped made);
        taken = refl;
        cells = taken_cells sample made.volume looped.found.walk (frames_below job lawful looped made);
        out_file = files.out;
      }

  abbrev walk_record : IsLoopedRecord job sample looped.found.walk (content_of after job.names.record_file)
  walk_record =
      let found = made.found in
      record {
        least = found.least;
        first = found.first;
        one = found.one;
        cost = looped.found.cost;
        cost_is = found.cost;
        tables = looped.found.tables;
        file = files.record_file;
        stands = found.stands;
        tight = found.tight;
      }

  whole_run : IsLoopedRun job before after
  whole_run = record {
    output = output;
    walk_record = walk_record;
    accepted = accepted job lawful after looped made (subst (λ bytes. IsReadClip 8388608 bytes looped.clip) (sym files.sample) read) files.out files.map files.record_file;
    others = files.others;
  }

pub looped_run : (job : LoopJob) → IsLoopJob job → (summary : Summary) (before after : Files) → WritesAll (loop_command job) summary before after → IsLoopedRun job before after
looped_run job lawful summary before after (texts, (clip, read, (frames, (cells, (has, (found, made, texts_are, summary_is))))), wrote) =
    whole_run job lawful before after (loop_of clip found) read made (wrote ∙ ap (λ ts. written (pieces (loop_command job).writes ts) before) texts_are)

-- its summary is the one that the command gives
pub looped_told : (job : LoopJob) (lawful : IsLoopJob job) (summary : Summary) (before after : Files) (writes : WritesAll (loop_command job) summary before after)
    → looped_summary (looped_run job lawful summary before after writes) ≡ summary
unfolding looped_run whole_run
looped_told job lawful summary before after (texts, (clip, read, (frames, (cells, (has, (found, made, texts_are, summary_is))))), wrote) = sym summary_is
