-- `merge` as a command: what it reads and refuses, what it makes, and the files that it writes. To
-- be trusted: contracts cite these words. (Own.)
use Rattle.std.specs.Prelude.{◌≡◌, ◌⊎◌, ◌+◌, ◌++◌, ℕ, List, [], ◌∷◌, length, Result, Ok, Err}
use Rattle.cells.specs.declared.place.Size.{Size}
use Rattle.cells.specs.Cells.{IsVolume, sizes_of}
use Rattle.shelf_traits.specs.Files.{Files, content_of}
use Rattle.netpbm_p6.specs.declared.picture.Picture.{Picture}
use Rattle.netpbm_p6.specs.Pictures.{IsRead, Refuses, p6_form}
use Rattle.map_canvas.specs.Canvases.{CanvasState, IsCanvas, StandsOver}
use Rattle.map_canvas.specs.Maps.{IsFull}
use Rattle.source_map.specs.MapFiles.{cell_map_form}
use Rattle.source_map.specs.declared.head.Version.TheVariants.{Two}
use Rattle.least_choice.specs.Totals.{map_total}
use Rattle.photo_merge.specs.Marks.{AreMerging, IsFirstBad}
use Rattle.photo_merge.specs.Merges.{IsMerge}
use Rattle.photo_merge.specs.MergeLaws.{picture_count}
use Rattle.job_words.specs.declared.merge.MergeJob.{MergeJob}
use Rattle.synth_report.specs.declared.fault.Fault.{Fault}
use Rattle.synth_report.specs.declared.fault.Fault.TheVariants.{Form, Limit, Mark, Unlike}
use Rattle.synth_report.specs.declared.fault.FileOf.TheVariants as part
use Rattle.synth_report.specs.declared.summary.Summary.{Summary}
use Rattle.synth_report.specs.declared.summary.Summary.TheVariants.{Merge}
use Rattle.command.specs.Commands.{Command, named}
use Rattle.command.specs.Stages.{Stages, of_stages, read_file}
use Rattle.command.specs.Stages.Stages.{ask, make}
use Rattle.command.specs.Writing.{FileText, file_text}
use Rattle.sample_files.specs.Outputs.{FitsOutput, PassesOutput, bounded_output}
use Rattle.sample_files.specs.Several.{MayRefuseSamples, contents, sample_files}
use Rattle.merge_command.specs.declared.pictures.Pictures.{Pictures}
use Rattle.merge_command.specs.declared.plan.Merged.{Merged}
use Rattle.merge_command.specs.Pictures.{AreSoundPictures, StandForPictures, read_pictures}

-- The marks against the pictures.

-- the marks have the pictures' size
abbrev pub AreSized : Pictures → Picture → Type 0
AreSized pictures marks = marks.volume.size ≡ pictures.volume.size

-- each cell of them marks none or one of the pictures
abbrev pub MarkPictures : Pictures → Picture → Type 0
MarkPictures pictures marks = AreMerging (picture_count pictures.volume) marks.volume

-- both, and a picture has no more cells than an output may have
pub record IsSet (pictures : Pictures) (marks : Picture) : Type 0 where
  pub size : AreSized pictures marks
  pub marks_are : MarkPictures pictures marks
  pub within : FitsOutput pictures.volume.size

-- the marks have another size
pub record MarksUnlike (pictures : Pictures) (marks : Picture) (fault : Fault) : Type 0 where
  pub unlike : AreSized pictures marks → ⊥
  pub is : fault ≡ Unlike part.Marks

-- a cell of them marks no picture; it is the first
pub record HasBadMark (pictures : Pictures) (marks : Picture) (fault : Fault) : Type 0 where
  pub index : ℕ
  pub first : IsFirstBad (picture_count pictures.volume) marks.volume index
  pub is : fault ≡ Mark index

-- the marks have another size; or they have the pictures' size, and one of them is bad; or they are
-- in order, and a picture has more cells than an output may have
abbrev pub RefusesMarked : Pictures → Picture → Fault → Type 0
RefusesMarked pictures marks fault =
    MarksUnlike pictures marks fault
    ⊎ (AreSized pictures marks × HasBadMark pictures marks fault)
    ⊎ (AreSized pictures marks × MarkPictures pictures marks
    × PassesOutput pictures.volume.size fault)

-- whether pictures and marks are in order
abbrev pub SetAgainst : Pictures → Picture → Result (Unit {0}) Fault → Type 0
SetAgainst pictures marks (Ok done) = IsSet pictures marks
SetAgainst pictures marks (Err fault) = RefusesMarked pictures marks fault

-- What is merged of the files.

-- the files of the pictures stand for these pictures
abbrev pub ArePicturesIn : Files → MergeJob → Pictures → Type 0
ArePicturesIn files job pictures =
    StandForPictures (content_of files job.sample) (contents files job.more) pictures

-- over pictures that are read, the parts of one volume, and their marks: the canvas has the map of
-- their merge
pub record IsMergeOver (pictures : Pictures) (marks : Picture) (canvas : CanvasState)
    : Type 0 where
  pub volume : IsVolume pictures.volume
  pub merge : IsMerge pictures.volume marks.volume canvas.map
  pub full : IsFull canvas.map
  pub is_canvas : IsCanvas canvas
  pub stands : StandsOver canvas pictures.volume

-- both, with the total cost of the seams
abbrev pub merged_of : Pictures → CanvasState → Merged
merged_of pictures canvas = record {
  pictures = pictures;
  canvas = canvas;
  seams = map_total pictures.volume canvas.map;
}

-- what the writers of the files of a merge ask for
pub record IsMade (made : Merged) : Type 0 where
  pub volume : IsVolume made.pictures.volume
  pub sound : AreSoundPictures made.pictures
  pub within : FitsOutput made.pictures.volume.size
  pub size : made.canvas.map.size ≡ made.pictures.volume.size
  pub full : IsFull made.canvas.map
  pub canvas : IsCanvas made.canvas
  pub stands : StandsOver made.canvas made.pictures.volume

-- The files that are written.

-- in order, with their texts: the picture with the pictures' maxval, and the map in version 2
abbrev pub merge_files : MergeJob → Merged → List FileText
merge_files job made =
    file_text part.Out job.out (p6_form made.pictures.maxval made.canvas.picture)
    ∷ file_text part.Map job.map
    (cell_map_form made.canvas.map (sizes_of made.pictures.volume) Two)
    ∷ []

abbrev pub merge_summary : Merged → Summary
merge_summary made =
    Merge made.pictures.volume.size (picture_count made.pictures.volume) made.seams

-- The command.

-- over pictures and marks that are read, the marks have the pictures' size, each cell of them marks
-- none or one of the pictures, and the cells of a picture are within the bound of an output; the
-- pictures are merged
abbrev pub merge_over : MergeJob → Pictures → Picture → Stages []
merge_over job pictures marks =
    ask (AreSized pictures marks) (MarksUnlike pictures marks)
    (ask (MarkPictures pictures marks) (HasBadMark pictures marks)
    (bounded_output pictures.volume.size
    (make (IsMergeOver pictures marks)
    (λ canvas. merge_files job (merged_of pictures canvas))
    (λ canvas. merge_summary (merged_of pictures canvas)))))

-- the files of the pictures are read, then that of the marks, and then so
abbrev pub merge_stages : (job : MergeJob)
    → Stages (sample_files job.sample job.more ++ named part.Marks job.marks ∷ [])
merge_stages job =
    read_pictures job.sample job.more
    (λ pictures. read_file part.Marks job.marks IsRead Refuses (merge_over job pictures))

-- the faults that marks are ever refused for
abbrev pub MayRefuseMarks : Fault → Type 0
MayRefuseMarks (Form part.Marks why) = Unit {0}
MayRefuseMarks (Unlike part.Marks) = Unit {0}
MayRefuseMarks (Mark index) = Unit {0}
MayRefuseMarks (Limit what number bound) = Unit {0}
MayRefuseMarks fault = ⊥

-- and those that the files of n pictures and marks are
abbrev pub MayRefuseMerge : ℕ → Fault → Type 0
MayRefuseMerge n fault = MayRefuseSamples n fault ⊎ MayRefuseMarks fault

-- the summaries of `merge`
abbrev pub IsMergeSummary : Summary → Type 0
IsMergeSummary summary =
    (size : Size) × (pictures : ℕ) × (seams : ℕ) × (summary ≡ Merge size pictures seams)

abbrev pub merge_command : MergeJob → Command
merge_command job = of_stages (merge_stages job)
    (named part.Out job.out ∷ named part.Map job.map ∷ [])
    (MayRefuseMerge (length job.more + 1)) IsMergeSummary
