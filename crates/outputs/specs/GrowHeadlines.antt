-- The headline of `grow`: what holds when it ends with status 0. To be trusted: contracts cite
-- these words. (Own.)
use Rattle.std.specs.Prelude.{◌≡◌, ◌≢◌, ◌≤◌, ◌-◌, ℕ, Bool, List, length, Some, Ok}
use Rattle.std.specs.FinMap as fin
use Rattle.cells.specs.declared.place.At.{At}
use Rattle.cells.specs.Cells.{Cells, IsOnePart, IsVolume, cell_at, sizes_of}
use Rattle.shelf_traits.specs.Files.{Files, ShelfState, SinkState, Changes, content_of}
use Rattle.map_canvas.specs.Choices.{map_after}
use Rattle.map_canvas.specs.Maps.{SourceMap, IsFull, IsMap, IsOver, empty_map, map_at, picture_of}
use Rattle.patch_picks.specs.Draws.{DrawState}
use Rattle.cut_check.specs.declared.record.CutRecord.{CutRecord}
use Rattle.least_choice.specs.Totals.{map_total}
use Rattle.cut_replay.specs.Replay.{EachLeast, EachOver, EachStands, KeepsFixed, left_by}
use Rattle.grown.specs.Grown.{IsDone, IsRun, IsSplit}
use Rattle.cert_file.specs.RecordFiles.{cuts_form}
use Rattle.job_words.specs.declared.grow.GrowJob.{GrowJob}
use Rattle.job_words.specs.declared.job.Job.TheVariants.{Grow}
use Rattle.job_words.specs.Jobs.{job_of}
use Rattle.synth_report.specs.declared.summary.Summary.{Summary}
use Rattle.synth_report.specs.declared.summary.Summary.TheVariants.{Grow as Told}
use Rattle.command.specs.Writing.{Reported}
use Rattle.sample_files.specs.declared.several.Samples.{Samples}
use Rattle.sample_files.specs.Samples.{form_text}
use Rattle.sample_files.specs.Several.{contents}
use Rattle.sample_files.specs.Worked.{worked}
use Rattle.check_command.specs.Checks.{AreRunFiles, ReadFiles, Stand}
use Rattle.outputs.specs.GrownMaps.{map_text, named_place}
use Rattle.outputs.specs.Growths.{AreSamplesIn, head_over, plan_of}

-- the sample files stand for samples, the parts of one volume, and for no others; with turns all turns
-- of them are the parts of one volume too. There is a map of the asked size, which is full and lies over the
-- samples, or with turns over the volume of all their turns. The map file has the form of that map:
-- it names the samples' cells, with turns as they are before any turn. The out file has the form of
-- a picture in the samples' form: a volume of that size, the picture of the map, each cell of which
-- is the samples' cell that the map file names
pub record IsGrownOutput (job : GrowJob) (before after : Files) : Type 0 where
  pub samples : Samples
  pub read : AreSamplesIn before job samples
  pub only : (other : Samples) → AreSamplesIn before job other → other ≡ samples
  pub one_volume : IsVolume samples.volume
  pub all : IsVolume (worked job.turns samples.volume)
  pub map : SourceMap
  pub asked : map.size ≡ job.size
  pub is_map : IsMap map
  pub full : IsFull map
  pub over : IsOver map (worked job.turns samples.volume)
  pub map_file : content_of after job.names.map
      ≡ map_text job.turns map (sizes_of samples.volume)
  pub picture : Cells
  pub volume : IsVolume picture
  pub one : IsOnePart picture
  pub size : picture.size ≡ job.size
  pub of_map : picture ≡ picture_of map (worked job.turns samples.volume)
  pub cells : (p from : At) → map_at map p ≡ Some from → cell_at picture p
      ≡ cell_at samples.volume (named_place job.turns (sizes_of samples.volume) from)
  pub out_file : content_of after job.names.out ≡ form_text samples.form picture

-- a record over a full map, which is that of a round, leaves a map whose seams cost no more in all
abbrev pub RaisesNone : Cells → SourceMap → CutRecord → Type 0
RaisesNone sample m cut =
    IsFull m → map_total sample (map_after m cut.placement cut.choice) ≤ map_total sample m

-- and the record file has the records of the steps of the run of these words: each pick is that of
-- its draw, and of the least choices the one with the fewest old cells is taken. They replay to the
-- map; over the map that the records before it leave, each record stands, keeps the fixed cells, and
-- no admissible choice has a smaller total cost of seams, old ones included. First come the records
-- of placements, and then those of rounds, each over a full map, of which none raises the total.
-- With turns all of this is said over the volume of all turns, whose places the records have
pub record IsGrownRecord (job : GrowJob) (output : Samples) (map : SourceMap) (text : List ℕ)
    : Type 0 where
  pub cuts : List CutRecord
  pub file : text ≡ cuts_form (head_over job.size (worked job.turns output.volume)) cuts
  pub draws : DrawState
  pub rounds : ℕ
  pub run : IsRun (plan_of job) (worked job.turns output.volume) cuts
      (record { map = map; draws = draws; rounds = rounds })
  pub done : IsDone (plan_of job) (worked job.turns output.volume)
      (record { map = map; draws = draws; rounds = rounds })
  pub replays : left_by (empty_map job.size) cuts ≡ map
  pub stand : EachStands (worked job.turns output.volume) (empty_map job.size) cuts
  pub least : EachLeast (worked job.turns output.volume) (empty_map job.size) cuts
  pub keep : EachOver KeepsFixed (empty_map job.size) cuts
  pub split : IsSplit job.size cuts rounds
  pub none_raises : EachOver (RaisesNone (worked job.turns output.volume)) (empty_map job.size)
      cuts

-- both; samples, out file, map file and record file stand, which is what `check` tries under the
-- same `turns`, and under the other value these files aren't in their forms; and all files but the
-- three that are written are as before
pub record IsGrownRun (job : GrowJob) (before after : Files) : Type 0 where
  pub output : IsGrownOutput job before after
  pub records : IsGrownRecord job output.samples output.map (content_of after job.names.record_file)
  pub accepted : Stand job.turns job.names after
  pub own_turns : (turns : Bool) (values : ReadFiles) → AreRunFiles turns job.names after values
      → turns ≡ job.turns
  pub others : (name : List ℕ)
      → name ≢ job.names.out → name ≢ job.names.map → name ≢ job.names.record_file
      → fin.get after name ≡ fin.get before name

-- whenever `grow` ends with status 0
abbrev pub GrowHeadline : List (List ℕ) → ShelfState → ShelfState → ℕ → Type 0
GrowHeadline words was now status =
    (job : GrowJob) → job_of words ≡ Ok (Grow job) → status ≡ 0
    → Changes was now (IsGrownRun job)

-- what is reported of a run: the asked size, how many of its records are of placements and how
-- many of rounds, and what the seams of its map cost in all
abbrev pub told_of_cuts : GrowJob → Cells → SourceMap → List CutRecord → ℕ → Summary
told_of_cuts job samples map cuts rounds =
    Told job.size (length cuts - rounds) rounds (map_total samples map)

-- the summary is that of the map and the record of a run
pub record IsToldOfGrown (job : GrowJob) (summary : Summary) (before after : Files)
    : Type 0 where
  pub run : IsGrownRun job before after
  pub summary_is : summary ≡ told_of_cuts job (worked job.turns run.output.samples.volume)
      run.output.map run.records.cuts run.records.rounds

-- the sample files of a job hold the same bytes
pub record HaveSameSamples (job : GrowJob) (one other : Files) : Type 0 where
  pub first : content_of one job.names.sample ≡ content_of other job.names.sample
  pub further : contents one job.names.more ≡ contents other job.names.more

-- the out file and the map file of a job hold the same bytes
pub record HaveSameOutput (job : GrowJob) (one other : Files) : Type 0 where
  pub out : content_of one job.names.out ≡ content_of other job.names.out
  pub map : content_of one job.names.map ≡ content_of other job.names.map

-- out file and map file are a function of the words and the sample files: another run of the words
-- that ends so, from files with the same samples, leaves the same
abbrev pub OneOutput : List (List ℕ) → ShelfState → ShelfState → ℕ → Type 0
OneOutput words was now status =
    (job : GrowJob) → job_of words ≡ Ok (Grow job) → status ≡ 0
    → Changes was now (λ before after.
    (earlier later : Files) → HaveSameSamples job earlier before → IsGrownRun job earlier later
    → HaveSameOutput job later after)

-- the summary is that of a run, and each other run of the words, from files with the same samples,
-- has the same
pub record IsOneReport (job : GrowJob) (summary : Summary) (before after : Files) : Type 0 where
  pub told : IsToldOfGrown job summary before after
  pub one : (other : Summary) (earlier later : Files) → HaveSameSamples job earlier before
      → IsToldOfGrown job other earlier later → other ≡ summary

-- whenever `grow` ends with status 0 out has the report of the map and the record that are written,
-- and the report is a function of the words and the sample files
abbrev pub GrowReport : List (List ℕ) → ShelfState → ShelfState → SinkState → SinkState → ℕ
    → Type 0
GrowReport words was now out out' status =
    (job : GrowJob) → job_of words ≡ Ok (Grow job) → status ≡ 0
    → (summary : Summary) × Reported summary out out' × Changes was now (IsOneReport job summary)
