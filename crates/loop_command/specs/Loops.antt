-- `loop` as a command: what it reads and refuses, what it makes, and the files that it writes. To be
-- trusted: contracts cite these words. (Own; the loop is that of Schödl et al. 2000, of a fixed
-- length.)
use Rattle.std.specs.Prelude.{◌≡◌, ◌≤◌, ◌⊎◌, ℕ, List, [], ◌∷◌, length, map, slice_index, Some, Result, Ok, Err}
use Rattle.cells.specs.declared.place.Size.{Size}
use Rattle.cells.specs.Cells.{Cells, IsVolume, sizes_of}
use Rattle.cells.specs.Places.{cell_count, places}
use Rattle.shelf_traits.specs.Files.{Files, content_of}
use Rattle.shelf_traits.specs.declared.fault.What.TheVariants.{Frames, Loop as LoopLimit}
use Rattle.map_canvas.specs.Maps.{SourceMap, picture_of}
use Rattle.source_map.specs.declared.head.Head.{Head}
use Rattle.source_map.specs.declared.head.Version.TheVariants.{One}
use Rattle.source_map.specs.MapFiles.{frame_map_form, frame_source}
use Rattle.y4m_clip.specs.declared.form.Clip.{Clip}
use Rattle.y4m_clip.specs.Refusals.{IsReadClip, IsSoundClip, RefusesClip}
use Rattle.y4m_clip.specs.Writing.{clip_form}
use Rattle.frame_distance.specs.Steps.{Steps}
use Rattle.loop_walk.specs.declared.record.LoopError.{LoopError}
use Rattle.loop_walk.specs.declared.record.LoopError.TheVariants as error
use Rattle.loop_walk.specs.declared.record.LoopRecord.{LoopRecord}
use Rattle.loop_walk.specs.Walks.{BeginsFirst, HasNoWalk, IsClosedWalk, IsLeastWalk, walk_cost}
use Rattle.loop_walk.specs.FirstWalks.{IsFirstWalk}
use Rattle.loop_walk.specs.Tables.{AreTightTables}
use Rattle.loop_walk.specs.Records.{WalkStands}
use Rattle.cert_file.specs.RecordFiles.{walk_file_form}
use Rattle.cert_file.specs.WalkForms.{AreWide}
use Rattle.synth_report.specs.declared.fault.Fault.{Fault}
use Rattle.synth_report.specs.declared.fault.Fault.TheVariants.{Form, Limit, NoLoop, NoMemory}
use Rattle.synth_report.specs.declared.fault.FileOf.TheVariants as part
use Rattle.synth_report.specs.declared.summary.Summary.{Summary}
use Rattle.synth_report.specs.declared.summary.Summary.TheVariants.{Loop}
use Rattle.command.specs.Commands.{Command, named}
use Rattle.command.specs.Stages.{PassesBound, Stages, bounded, of_stages, read_file}
use Rattle.command.specs.Stages.Stages.{ask, make}
use Rattle.command.specs.Writing.{FileText, file_text}
use Rattle.limits.specs.declared.bounds.TheConstants.{MOST_LOOP_CELLS, MOST_LOOP_FRAMES, MOST_SAMPLE_CELLS}
use Rattle.standing_files.specs.Standing.{walk_costs}
use Rattle.job_words.specs.declared.loop_words.LoopJob.{LoopJob}
use Rattle.loop_command.specs.declared.plan.LoopedClip.{LoopedClip}

-- What a loop of a clip is.

-- the costs of the steps between its frames, with the job's filter and gap
abbrev pub steps_over : LoopJob → Cells → Steps
steps_over job sample = walk_costs sample job.taps job.gap

-- the size of a loop of so many frames
abbrev pub loop_size : Cells → ℕ → Size
loop_size sample frames = record { w = sample.size.w; h = sample.size.h; f = frames }

-- the map in which each cell of frame i has its source in the frame that entry i names, in the same
-- column and row
abbrev pub map_of_frames : Size → List ℕ → SourceMap
map_of_frames size frames =
    record { size = size; sources = map (frame_source frames) (places size) }

-- the frames of a sample along a walk: the picture of that map
abbrev pub frames_taken : Cells → List ℕ → Cells
frames_taken sample walk = picture_of (map_of_frames (loop_size sample (length walk)) walk) sample

-- a least closed walk of the asked length, from the smallest frame that any such walk visits, and the
-- first of them by the middles of its parts; with its cost and the tables that show that it is least,
-- of numbers as wide as their types
pub record IsLoopFound (job : LoopJob) (sample : Cells) (found : LoopRecord) : Type 0 where
  pub least : IsLeastWalk (steps_over job sample) job.length found.walk
  pub first : BeginsFirst (steps_over job sample) job.length found.walk
  pub one : IsFirstWalk (steps_over job sample) job.length found.walk
  pub cost : walk_cost (steps_over job sample) found.walk ≡ Some found.cost
  pub tight : AreTightTables (steps_over job sample) job.length found.tables
  pub stands : WalkStands (steps_over job sample) found.walk found.tables
  pub wide : AreWide found.walk found.tables

-- The bounds of a job over a clip that is read.

-- the sample has no more frames than are compared, and the loop no more cells than it may have
pub record IsLoopWithin (job : LoopJob) (sample : Cells) : Type 0 where
  pub frames : sample.size.f ≤ MOST_LOOP_FRAMES
  pub cells : cell_count (loop_size sample job.length) ≤ MOST_LOOP_CELLS

-- the frames pass their bound, or they don't and the cells of the loop pass theirs
abbrev pub PassesBounds : LoopJob → Cells → Fault → Type 0
PassesBounds job sample fault =
    PassesBound Frames sample.size.f MOST_LOOP_FRAMES fault
    ⊎ ((sample.size.f ≤ MOST_LOOP_FRAMES)
    × PassesBound LoopLimit (cell_count (loop_size sample job.length)) MOST_LOOP_CELLS fault)

-- whether the job is within its bounds over the sample
abbrev pub SetAgainstClip : LoopJob → Cells → Result (Unit {0}) Fault → Type 0
SetAgainstClip job sample (Ok done) = IsLoopWithin job sample
SetAgainstClip job sample (Err fault) = PassesBounds job sample fault

-- the sample has a closed walk of the asked length, or none
abbrev pub HasLoop : LoopJob → Cells → Type 0
HasLoop job sample =
    (walk : List ℕ) × (length walk ≡ job.length) × IsClosedWalk (steps_over job sample) walk

abbrev pub LacksLoop : LoopJob → Cells → Fault → Type 0
LacksLoop job sample fault =
    HasNoWalk (steps_over job sample) job.length × (fault ≡ NoLoop job.length)

-- what a run without a loop is refused for
abbrev pub fault_of_looping : LoopJob → LoopError → Fault
fault_of_looping job error.NoLoop = NoLoop job.length
fault_of_looping job error.NoMemory = NoMemory

-- What is made of the files.

-- the sample file stands for this clip
abbrev pub IsClipIn : Files → LoopJob → Clip → Type 0
IsClipIn files job clip = IsReadClip MOST_SAMPLE_CELLS (content_of files job.names.sample) clip

-- what the writers of the files of a loop ask for
pub record IsLoopMade (job : LoopJob) (looped : LoopedClip) : Type 0 where
  pub volume : IsVolume looped.clip.volume
  pub sound : IsSoundClip MOST_SAMPLE_CELLS looped.clip
  pub bounds : IsLoopWithin job looped.clip.volume
  pub found : IsLoopFound job looped.clip.volume looped.found

-- a clip that is read, and a loop that is found in it
abbrev pub loop_of : Clip → LoopRecord → LoopedClip
loop_of clip found = record { clip = clip; found = found }

-- The files that are written.

-- the head of the record of a loop
abbrev pub loop_head : LoopJob → Cells → Head
loop_head job sample = record {
  output = loop_size sample job.length;
  samples = sizes_of sample;
  version = One;
}

-- in order, with their texts: the frames of the walk in the sample's form, the frame map, and the
-- record of the walk
abbrev pub loop_files : LoopJob → LoopedClip → List FileText
loop_files job looped =
    file_text part.Out job.names.out
    (clip_form looped.clip.form (frames_taken looped.clip.volume looped.found.walk))
    ∷ file_text part.Map job.names.map
    (frame_map_form (loop_size looped.clip.volume job.length) looped.clip.volume.size
    looped.found.walk)
    ∷ file_text part.Record job.names.record_file
    (walk_file_form (loop_head job looped.clip.volume) job.taps job.gap looped.found.walk
    looped.found.tables)
    ∷ []

-- the walk's first frame and its cost
abbrev pub loop_summary : LoopJob → LoopedClip → Summary
loop_summary job looped = Loop job.length (slice_index looped.found.walk 0) looped.found.cost

-- The command.

-- over the clip that is read the frames are within their bound, and so are the cells of the loop;
-- there is a closed walk of the asked length; a least one is found
abbrev pub loop_over : LoopJob → Clip → Stages []
loop_over job clip =
    bounded Frames clip.volume.size.f MOST_LOOP_FRAMES
    (bounded LoopLimit (cell_count (loop_size clip.volume job.length)) MOST_LOOP_CELLS
    (ask (HasLoop job clip.volume) (LacksLoop job clip.volume)
    (make (λ found. IsLoopMade job (loop_of clip found))
    (λ found. loop_files job (loop_of clip found))
    (λ found. loop_summary job (loop_of clip found)))))

-- the sample file is read, and then so
abbrev pub loop_stages : (job : LoopJob) → Stages (named part.Sample job.names.sample ∷ [])
loop_stages job = read_file part.Sample job.names.sample (IsReadClip MOST_SAMPLE_CELLS)
    (RefusesClip MOST_SAMPLE_CELLS) (loop_over job)

-- the faults that `loop` ever refuses for: the form of the sample, a limit, and that there is no
-- loop of the asked length
abbrev pub MayRefuseLoop : LoopJob → Fault → Type 0
MayRefuseLoop job (Form part.Sample why) = Unit {0}
MayRefuseLoop job (Limit what number bound) = Unit {0}
MayRefuseLoop job (NoLoop frames) = frames ≡ job.length
MayRefuseLoop job fault = ⊥

-- the summaries of `loop`
abbrev pub IsLoopSummary : LoopJob → Summary → Type 0
IsLoopSummary job summary = (start : ℕ) × (cost : ℕ) × (summary ≡ Loop job.length start cost)

abbrev pub loop_command : LoopJob → Command
loop_command job = of_stages (loop_stages job)
    (named part.Out job.names.out ∷ named part.Map job.names.map
    ∷ named part.Record job.names.record_file ∷ [])
    (MayRefuseLoop job) (IsLoopSummary job)
