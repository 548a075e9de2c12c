-- The headline of `merge`: what holds when it ends with status 0. To be trusted: contracts cite
-- these words. (Own.)
use Rattle.std.specs.Prelude.{◌≡◌, ◌≢◌, ℕ, List, Some, Ok}
use Rattle.std.specs.FinMap as fin
use Rattle.cells.specs.declared.place.At.{At}
use Rattle.cells.specs.Cells.{Cells, IsOnePart, IsVolume, cell_at, sizes_of}
use Rattle.shelf_traits.specs.Files.{Files, ShelfState, SinkState, Changes, content_of}
use Rattle.netpbm_p6.specs.declared.picture.Picture.{Picture}
use Rattle.netpbm_p6.specs.Pictures.{IsRead, p6_form}
use Rattle.map_canvas.specs.Maps.{SourceMap, IsFull, IsMap, IsOver, map_at, picture_of}
use Rattle.source_map.specs.MapFiles.{cell_map_form, map_read}
use Rattle.source_map.specs.declared.head.Version.TheVariants.{Two}
use Rattle.source_map.specs.declared.map_file.MapFile.TheVariants.{Cells as CellMap}
use Rattle.least_choice.specs.Totals.{map_total}
use Rattle.photo_merge.specs.Merges.{AreOneSize, IsMerge}
use Rattle.photo_merge.specs.MergeLaws.{EachComesFrom, MarkedAreOwn, picture_count}
use Rattle.job_words.specs.declared.merge.MergeJob.{MergeJob}
use Rattle.job_words.specs.declared.job.Job.TheVariants.{Merge}
use Rattle.job_words.specs.Jobs.{job_of}
use Rattle.synth_report.specs.declared.summary.Summary.{Summary}
use Rattle.synth_report.specs.declared.summary.Summary.TheVariants.{Merge as Told}
use Rattle.command.specs.Writing.{Reported}
use Rattle.sample_files.specs.Several.{contents}
use Rattle.merge_command.specs.declared.pictures.Pictures.{Pictures}
use Rattle.merge_command.specs.MergeCommand.{ArePicturesIn, IsSet}

-- the files of the pictures stand for pictures of one size and one maxval, the parts of one volume,
-- and for no others; that of the marks stands for marks of their size, each of which is 0 or the
-- number of a picture, and for no others
pub record IsMergeInput (job : MergeJob) (before : Files) : Type 0 where
  pub pictures : Pictures
  pub read : ArePicturesIn before job pictures
  pub only : (other : Pictures) → ArePicturesIn before job other → other ≡ pictures
  pub one_volume : IsVolume pictures.volume
  pub one_size : AreOneSize pictures.volume
  pub marks : Picture
  pub marks_read : IsRead (content_of before job.marks) marks
  pub only_marks : (other : Picture) → IsRead (content_of before job.marks) other → other ≡ marks
  pub set : IsSet pictures marks

-- the map file has the form, in version 2, of the map of the merge of these pictures by these
-- marks: from the first picture on, each further one is laid over the whole, with the choice of
-- least total seam cost among all that take the cells marked with it from it and keep those marked
-- with an earlier one. It has the pictures' size, is full and lies over the pictures; each marked
-- cell comes from its own place of its own picture, and each cell from its own place of some
-- picture. The out file has the form of a picture with the pictures' maxval: a volume of their
-- size, the picture of the map, each cell of which is the pictures' cell that the map names. Out file
-- and map file are read again as this picture and this map
pub record IsMergeOutput (job : MergeJob) (input : Pictures) (marks : Cells) (after : Files)
    : Type 0 where
  pub map : SourceMap
  pub asked : map.size ≡ input.volume.size
  pub is_map : IsMap map
  pub full : IsFull map
  pub over : IsOver map input.volume
  pub merge : IsMerge input.volume marks map
  pub own : MarkedAreOwn input.volume marks map
  pub each : EachComesFrom input.volume map
  pub map_file : content_of after job.map ≡ cell_map_form map (sizes_of input.volume) Two
  pub picture : Cells
  pub volume : IsVolume picture
  pub one : IsOnePart picture
  pub size : picture.size ≡ input.volume.size
  pub of_map : picture ≡ picture_of map input.volume
  pub cells : (p from : At) → map_at map p ≡ Some from
      → cell_at picture p ≡ cell_at input.volume from
  pub out_file : content_of after job.out ≡ p6_form input.maxval picture
  pub out_again : IsRead (content_of after job.out)
      (record { maxval = input.maxval; volume = picture })
  pub map_again : map_read (content_of after job.map)
      ≡ Ok (CellMap map (sizes_of input.volume) Two)

-- both; and all files but the two that are written are as before
pub record IsMergedRun (job : MergeJob) (before after : Files) : Type 0 where
  pub input : IsMergeInput job before
  pub output : IsMergeOutput job input.pictures input.marks.volume after
  pub others : (name : List ℕ) → name ≢ job.out → name ≢ job.map
      → fin.get after name ≡ fin.get before name

-- whenever `merge` ends with status 0
abbrev pub MergeHeadline : List (List ℕ) → ShelfState → ShelfState → ℕ → Type 0
MergeHeadline words was now status =
    (job : MergeJob) → job_of words ≡ Ok (Merge job) → status ≡ 0
    → Changes was now (IsMergedRun job)

-- what is reported of a merge: the size, how many pictures there are, and what the seams of its map
-- cost in all
abbrev pub told_of_merge : Pictures → SourceMap → Summary
told_of_merge pictures m =
    Told pictures.volume.size (picture_count pictures.volume) (map_total pictures.volume m)

-- the summary is that of the map of a run
pub record IsToldOfMerge (job : MergeJob) (summary : Summary) (before after : Files)
    : Type 0 where
  pub run : IsMergedRun job before after
  pub summary_is : summary ≡ told_of_merge run.input.pictures run.output.map

-- the pictures and the marks of a job are the same bytes
pub record HaveSameInput (job : MergeJob) (one other : Files) : Type 0 where
  pub first : content_of one job.sample ≡ content_of other job.sample
  pub further : contents one job.more ≡ contents other job.more
  pub marks : content_of one job.marks ≡ content_of other job.marks

-- the out file and the map file of a job hold the same bytes
pub record HaveSameMerge (job : MergeJob) (one other : Files) : Type 0 where
  pub out : content_of one job.out ≡ content_of other job.out
  pub map : content_of one job.map ≡ content_of other job.map

-- out file and map file are a function of the pictures and the marks: another run of the words that
-- ends so, from files with the same pictures and marks, leaves the same
abbrev pub OneMerge : List (List ℕ) → ShelfState → ShelfState → ℕ → Type 0
OneMerge words was now status =
    (job : MergeJob) → job_of words ≡ Ok (Merge job) → status ≡ 0
    → Changes was now (λ before after.
    (earlier later : Files) → HaveSameInput job earlier before → IsMergedRun job earlier later
    → HaveSameMerge job later after)

-- the summary is that of a run, and each other run of the words, from files with the same pictures
-- and marks, has the same
pub record IsOneMergeReport (job : MergeJob) (summary : Summary) (before after : Files)
    : Type 0 where
  pub told : IsToldOfMerge job summary before after
  pub one : (other : Summary) (earlier later : Files) → HaveSameInput job earlier before
      → IsToldOfMerge job other earlier later → other ≡ summary

-- whenever `merge` ends with status 0 out has the report of the map that is written, and the report
-- is a function of the pictures and the marks
abbrev pub MergeReport : List (List ℕ) → ShelfState → ShelfState → SinkState → SinkState → ℕ
    → Type 0
MergeReport words was now out out' status =
    (job : MergeJob) → job_of words ≡ Ok (Merge job) → status ≡ 0
    → (summary : Summary) × Reported summary out out'
    × Changes was now (IsOneMergeReport job summary)
