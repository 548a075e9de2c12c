-- The out file, the map file, the record file and the report of a loop are a function of the words and the
-- sample file.
use Rattle.std.proofs.Common.{◌≡◌, ℕ, List, ap, sym, ◌∙◌, subst}
use Rattle.std.proofs.lemmas.Option.{same_Some}
use Rattle.std.specs.Prelude.{slice_index}
use Rattle.limits.specs.declared.bounds.TheConstants.{MOST_SAMPLE_CELLS}
use Rattle.shelf_traits.specs.Files.{Files, content_of}
use Rattle.source_map.specs.MapFiles.{frame_map_form}
use Rattle.y4m_clip.specs.declared.form.Clip.{Clip}
use Rattle.y4m_clip.specs.Refusals.{IsReadClip}
use Rattle.y4m_clip.specs.Writing.{clip_form}
use Rattle.y4m_clip.proofs.OneClip.{one_clip}
use Rattle.frame_distance.specs.Steps.{Steps}
use Rattle.loop_walk.specs.Walks.{IsLeastWalk, walk_cost}
use Rattle.loop_walk.specs.FirstWalks.{IsFirstWalk}
use Rattle.loop_walk.specs.Tables.{AreTightTables}
use Rattle.loop_walk.proofs.FirstLaws.{one_first}
use Rattle.loop_walk.proofs.OneAnswer.{one_tight}
use Rattle.cert_file.specs.RecordFiles.{walk_file_form}
use Rattle.synth_report.specs.declared.summary.Summary.{Summary}
use Rattle.synth_report.specs.declared.summary.Summary.TheVariants.{Loop}
use Rattle.command.specs.Outcomes.{WritesAll}
use Rattle.job_words.specs.LoopWords.{IsLoopJob}
use Rattle.job_words.specs.declared.loop_words.LoopJob.{LoopJob}
use Rattle.loop_command.specs.Loops.{frames_taken, loop_command, loop_head, loop_size, steps_over}
use Rattle.loop_command.specs.LoopHeadlines.{HasSameLoop, IsLoopedRun, IsOneLoop, looped_summary}
use Rattle.loop_command.proofs.LoopLaws.{looped_run, looped_told}

-- Two runs of one job, from files with the same sample.
module _ (job : LoopJob) (before after earlier later : Files) (run : IsLoopedRun job before after) (other : IsLoopedRun job earlier later)
    (same : content_of earlier job.names.sample ≡ content_of before job.names.sample) where
  one_sample : other.output.clip ≡ run.output.clip
  one_sample = one_clip (content_of before job.names.sample) other.output.clip run.output.clip
      (subst (λ bytes. IsReadClip MOST_SAMPLE_CELLS bytes other.output.clip) same other.output.read).stands run.output.read.stands

  abbrev costs : Steps
  costs = steps_over job run.output.clip.volume

  costs_are : steps_over job other.output.clip.volume ≡ costs
  costs_are = ap (λ (c : Clip). steps_over job c.volume) one_sample

  one_walk : other.output.walk ≡ run.output.walk
  one_walk = one_first costs job.length other.output.walk run.output.walk
      (subst (λ c. IsLeastWalk c job.length other.output.walk) costs_are other.walk_record.least)
      (subst (λ c. IsFirstWalk c job.length other.output.walk) costs_are other.walk_record.one) run.walk_record.least run.walk_record.one

  one_list_of_tables : other.walk_record.tables ≡ run.walk_record.tables
  one_list_of_tables = one_tight costs job.length other.walk_record.tables run.walk_record.tables
      (subst (λ c. AreTightTables c job.length other.walk_record.tables) costs_are other.walk_record.tight) run.walk_record.tight

  one_cost : other.walk_record.cost ≡ run.walk_record.cost
  one_cost = same_Some other.walk_record.cost run.walk_record.cost
      (sym other.walk_record.cost_is ∙ (λ k. walk_cost (costs_are k) (one_walk k)) ∙ run.walk_record.cost_is)

  abbrev out_spelled : Clip → List ℕ → List ℕ
  out_spelled clip walk = clip_form clip.form (frames_taken clip.volume walk)

  abbrev map_spelled : Clip → List ℕ → List ℕ
  map_spelled clip walk = frame_map_form (loop_size clip.volume job.length) clip.volume.size walk

  abbrev record_spelled : Clip → List ℕ → List ℕ → List ℕ
  record_spelled clip walk tables = walk_file_form (loop_head job clip.volume) job.taps job.gap walk tables

  pub same_loop : HasSameLoop job other run.output.walk run.walk_record.tables (looped_summary run) after
  same_loop = record {
    walk_is = one_walk;
    tables_are = one_list_of_tables;
    told = λ k. Loop job.length (slice_index (one_walk k) 0) (one_cost k);
    out =
        other.output.out_file ∙ ap (clip_form other.output.clip.form) other.output.taken
        ∙ (λ k. out_spelled (one_sample k) (one_walk k))
        ∙ sym (run.output.out_file ∙ ap (clip_form run.output.clip.form) run.output.taken);
    map = other.output.map_file ∙ (λ k. map_spelled (one_sample k) (one_walk k)) ∙ sym run.output.map_file;
    record_file =
        other.walk_record.file ∙ (λ k. record_spelled (one_sample k) (one_walk k) (one_list_of_tables k)) ∙ sym run.walk_record.file;
  }

pub one_loop : (job : LoopJob) → IsLoopJob job → (summary : Summary) (before after : Files) → WritesAll (loop_command job) summary before after → IsOneLoop job summary before after
one_loop job lawful summary before after writes =
    let run : IsLoopedRun job before after = looped_run job lawful summary before after writes in
    record {
      walk = run.output.walk;
      tables = run.walk_record.tables;
      same = λ earlier later other same.
          subst (λ told. HasSameLoop job other run.output.walk run.walk_record.tables told after) (looped_told job lawful summary before after writes)
          (same_loop job before after earlier later run other same);
    }
