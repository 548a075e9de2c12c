-- What commands that lay blocks make of one sample, and the files that they write. To be trusted:
-- contracts cite these words. (Own.)
use Rattle.std.specs.Prelude.{◌≡◌, List, [], ◌∷◌}
use Rattle.cells.specs.declared.place.Size.{Size}
use Rattle.cells.specs.Cells.{Cells, IsVolume, sizes_of}
use Rattle.cells.specs.Places.{IsSmall}
use Rattle.shelf_traits.specs.declared.fault.What.TheVariants.{Records as RecordsLimit}
use Rattle.netpbm_p6.specs.declared.picture.Picture.{Picture}
use Rattle.netpbm_p6.specs.Pictures.{IsSound, p6_form}
use Rattle.source_map.specs.MapFiles.{cell_map_form}
use Rattle.source_map.specs.declared.head.Head.{Head}
use Rattle.source_map.specs.declared.head.Version.TheVariants.{One}
use Rattle.limits.specs.declared.bounds.TheConstants.{MOST_BOX_CELLS}
use Rattle.quilted.specs.Runs.{Rating}
use Rattle.quilted.specs.declared.asked.QuiltRun.{QuiltRun}
use Rattle.quilted.specs.declared.asked.Quilted.{Quilted}
use Rattle.quilted.specs.declared.asked.QuiltError.{QuiltError}
use Rattle.quilted.specs.declared.asked.QuiltError.TheVariants as error
use Rattle.quilted.specs.OneLimit.{RunPassesAt}
use Rattle.quilted.specs.Quilted.{IsQuilt}
use Rattle.cert_file.specs.RecordFiles.{blocks_form}
use Rattle.job_words.specs.declared.job.Names.{Names}
use Rattle.synth_report.specs.declared.fault.Fault.{Fault}
use Rattle.synth_report.specs.declared.fault.Fault.TheVariants.{Limit, NoMemory}
use Rattle.synth_report.specs.declared.fault.FileOf.TheVariants as part
use Rattle.synth_report.specs.declared.summary.Summary.{Summary}
use Rattle.command.specs.Stages.{Stages, never_passed}
use Rattle.command.specs.Stages.Stages.{make}
use Rattle.command.specs.Writing.{FileText, file_text}
use Rattle.sample_files.specs.Outputs.{FitsOutput, bounded_output}
use Rattle.outputs.specs.declared.quilt.PictureQuilt.{PictureQuilt}

-- What is made.

-- a picture that is read, and a quilt of its blocks
abbrev pub quilt_of : Picture → Quilted → PictureQuilt
quilt_of picture quilted = record { sample = picture; quilted = quilted }

-- by a rating it is the quilt that is asked for, within the bound of an output
pub record IsMadeQuilt (rating : Rating) (asked : QuiltRun) (made : PictureQuilt) : Type 0 where
  pub volume : IsVolume made.sample.volume
  pub sound : IsSound made.sample
  pub small : IsSmall asked.size
  pub frame : asked.size.f ≡ 1
  pub within : FitsOutput asked.size
  pub quilt : IsQuilt rating asked made.sample.volume made.quilted

-- what the writers of the files of a quilt ask for: by some rating it is
abbrev pub CanBeWritten : QuiltRun → PictureQuilt → Type 0
CanBeWritten asked made = (rating : Rating) × IsMadeQuilt rating asked made

-- what a run without an output is refused for
abbrev pub fault_of_quilting : QuiltError → Fault
fault_of_quilting (error.Records number) = Limit RecordsLimit number MOST_BOX_CELLS
fault_of_quilting error.NoMemory = NoMemory

-- The files that are written.

-- the head of the map and the record of an output over a sample
abbrev pub quilt_head : Size → Cells → Head
quilt_head size sample = record { output = size; samples = sizes_of sample; version = One }

-- in order, with their texts: the picture with the sample's maxval, the map, and the record
abbrev pub quilt_files : Names → Size → PictureQuilt → List FileText
quilt_files names size made =
    file_text part.Out names.out (p6_form made.sample.maxval made.quilted.canvas.picture)
    ∷ file_text part.Map names.map
    (cell_map_form made.quilted.canvas.map (sizes_of made.sample.volume) One)
    ∷ file_text part.Record names.record_file
    (blocks_form (quilt_head size made.sample.volume) made.quilted.blocks)
    ∷ []

-- The last stages.

-- over the picture that is read the output is within its bound, and so are the boxes of the run;
-- the output is the whole quilt of its blocks by a rating, with a summary of it
abbrev pub quilt_over : Rating → QuiltRun → Names → (Quilted → Summary) → Picture → Stages []
quilt_over rating asked names summary picture =
    bounded_output asked.size
    (never_passed RecordsLimit (RunPassesAt rating asked picture.volume) MOST_BOX_CELLS
    (make (IsQuilt rating asked picture.volume)
    (λ quilted. quilt_files names asked.size (quilt_of picture quilted)) summary))
