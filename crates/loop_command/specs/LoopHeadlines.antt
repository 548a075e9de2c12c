-- The headline of `loop`: what holds when it ends with status 0. To be trusted: contracts cite
-- these words. (Own.)
use Rattle.std.specs.Prelude.{◌≡◌, ◌≢◌, ℕ, false, List, slice_index, Some, Ok}
use Rattle.std.specs.FinMap as fin
use Rattle.cells.specs.declared.place.At.{At}
use Rattle.cells.specs.Cells.{Cells, IsOnePart, IsVolume, cell_at}
use Rattle.cells.specs.Places.{IsInside}
use Rattle.shelf_traits.specs.Files.{Files, ShelfState, SinkState, Changes, content_of}
use Rattle.source_map.specs.MapFiles.{IsFrameMap, frame_map_form, frame_source}
use Rattle.y4m_clip.specs.declared.form.Clip.{Clip}
use Rattle.y4m_clip.specs.Writing.{clip_form}
use Rattle.loop_walk.specs.Walks.{BeginsFirst, IsLeastWalk, walk_cost}
use Rattle.loop_walk.specs.FirstWalks.{IsFirstWalk}
use Rattle.loop_walk.specs.Tables.{AreTightTables}
use Rattle.loop_walk.specs.Records.{WalkStands}
use Rattle.cert_file.specs.RecordFiles.{walk_file_form}
use Rattle.job_words.specs.declared.loop_words.LoopJob.{LoopJob}
use Rattle.job_words.specs.declared.job.Job.TheVariants.{Loop as LoopAsked}
use Rattle.job_words.specs.Jobs.{job_of}
use Rattle.synth_report.specs.declared.summary.Summary.{Summary}
use Rattle.synth_report.specs.declared.summary.Summary.TheVariants.{Loop}
use Rattle.command.specs.Writing.{Reported}
use Rattle.check_command.specs.Checks.{Stand}
use Rattle.loop_command.specs.Loops.{IsClipIn, frames_taken, loop_head, loop_size, steps_over}

-- the sample file stands for a clip. The map file has the form of a frame map of the asked length
-- over it. The out file has the form of a clip with the sample's tags: a volume of that length, the
-- picture of the map, each cell of which is the sample's cell that the map names
pub record IsLoopedOutput (job : LoopJob) (before after : Files) : Type 0 where
  pub clip : Clip
  pub read : IsClipIn before job clip
  pub walk : List ℕ
  pub is_map : IsFrameMap (loop_size clip.volume job.length) clip.volume.size walk
  pub map_file : content_of after job.names.map
      ≡ frame_map_form (loop_size clip.volume job.length) clip.volume.size walk
  pub picture : Cells
  pub volume : IsVolume picture
  pub one : IsOnePart picture
  pub size : picture.size ≡ loop_size clip.volume job.length
  pub taken : picture ≡ frames_taken clip.volume walk
  pub cells : (p from : At) → IsInside picture.size p → frame_source walk p ≡ Some from
      → cell_at picture p ≡ cell_at clip.volume from
  pub out_file : content_of after job.names.out ≡ clip_form clip.form picture

-- and the frames are a closed walk of the asked length with the job's filter and gap, such that none
-- of that length costs less. It begins at the smallest frame that any such walk visits, and of all
-- such walks it comes first. The record file has it, and its record stands and is tight
pub record IsLoopedRecord (job : LoopJob) (sample : Cells) (walk text : List ℕ) : Type 0 where
  pub least : IsLeastWalk (steps_over job sample) job.length walk
  pub first : BeginsFirst (steps_over job sample) job.length walk
  pub one : IsFirstWalk (steps_over job sample) job.length walk
  pub cost : ℕ
  pub cost_is : walk_cost (steps_over job sample) walk ≡ Some cost
  pub tables : List ℕ
  pub file : text ≡ walk_file_form (loop_head job sample) job.taps job.gap walk tables
  pub stands : WalkStands (steps_over job sample) walk tables
  pub tight : AreTightTables (steps_over job sample) job.length tables

-- both; sample, out file, map file and record file stand, which is what `check` tries; and all files
-- but the three that are written are as before
pub record IsLoopedRun (job : LoopJob) (before after : Files) : Type 0 where
  pub output : IsLoopedOutput job before after
  pub walk_record : IsLoopedRecord job output.clip.volume output.walk
      (content_of after job.names.record_file)
  pub accepted : Stand false job.names after
  pub others : (name : List ℕ)
      → name ≢ job.names.out → name ≢ job.names.map → name ≢ job.names.record_file
      → fin.get after name ≡ fin.get before name

-- the summary of such a run: the walk's first frame, and its cost
abbrev pub looped_summary : {job : LoopJob} {before after : Files} → IsLoopedRun job before after
    → Summary
looped_summary {job} run =
    Loop job.length (slice_index run.output.walk 0) run.walk_record.cost

-- a run of the job has this walk, these tables and this summary, and its out file, map file and
-- record file have the same bytes as in other files
pub record HasSameLoop (job : LoopJob) {earlier later : Files} (run : IsLoopedRun job earlier later)
    (walk tables : List ℕ) (summary : Summary) (files : Files) : Type 0 where
  pub walk_is : run.output.walk ≡ walk
  pub tables_are : run.walk_record.tables ≡ tables
  pub told : looped_summary run ≡ summary
  pub out : content_of later job.names.out ≡ content_of files job.names.out
  pub map : content_of later job.names.map ≡ content_of files job.names.map
  pub record_file : content_of later job.names.record_file
      ≡ content_of files job.names.record_file

-- there is one walk, one list of tables and one summary, and each written file has one text,
-- whichever run of the job it is that ends so, from files with the same sample
pub record IsOneLoop (job : LoopJob) (summary : Summary) (before after : Files) : Type 0 where
  pub walk : List ℕ
  pub tables : List ℕ
  pub same : (earlier later : Files) (run : IsLoopedRun job earlier later)
      → content_of earlier job.names.sample ≡ content_of before job.names.sample
      → HasSameLoop job run walk tables summary after

-- whenever `loop` ends with status 0
abbrev pub LoopHeadline : List (List ℕ) → ShelfState → ShelfState → ℕ → Type 0
LoopHeadline words was now status =
    (job : LoopJob) → job_of words ≡ Ok (LoopAsked job) → status ≡ 0
    → Changes was now (IsLoopedRun job)

-- the out file, the map file, the record file and the report are a function of the words and the
-- sample file
abbrev pub OneLoop : List (List ℕ) → ShelfState → ShelfState → SinkState → SinkState → ℕ → Type 0
OneLoop words was now out out' status =
    (job : LoopJob) → job_of words ≡ Ok (LoopAsked job) → status ≡ 0
    → (summary : Summary) × Reported summary out out'
    × Changes was now (IsOneLoop job summary)
