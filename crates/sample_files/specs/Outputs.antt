-- The bounds of an output: its cells, and its frames in the form of the samples. To be trusted:
-- contracts cite these words. (Own.)
use Rattle.std.specs.Prelude.{◌≤◌, ◌⊎◌, ℕ, List, Result, Ok, Err}
use Rattle.limits.specs.declared.bounds.TheConstants.{GREATEST_AXIS, MOST_OUTPUT_CELLS, MOST_PICTURE_FRAMES}
use Rattle.cells.specs.declared.place.Size.{Size}
use Rattle.cells.specs.Places.{cell_count}
use Rattle.shelf_traits.specs.declared.fault.What.TheVariants.{Frames, Output}
use Rattle.synth_report.specs.declared.fault.Fault.{Fault}
use Rattle.command.specs.Commands.{NamedFile}
use Rattle.command.specs.Stages.{AsksBound, PassesBound, Stages, bounded}
use Rattle.sample_files.specs.declared.form.Form.{Form}
use Rattle.sample_files.specs.declared.form.Form.TheVariants.{Picture, Clip}

-- The cells, whatever the form.

-- there are no more than an output may have
abbrev pub FitsOutput : Size → Type 0
FitsOutput size = cell_count size ≤ MOST_OUTPUT_CELLS

-- they pass their bound
abbrev pub PassesOutput : Size → Fault → Type 0
PassesOutput size fault = PassesBound Output (cell_count size) MOST_OUTPUT_CELLS fault

-- how a function answers that asks whether they do
abbrev pub AsksOutput : Size → Result (Unit {0}) Fault → Type 0
AsksOutput size result = AsksBound Output (cell_count size) MOST_OUTPUT_CELLS result

-- they are within their bound, or are refused
abbrev pub bounded_output : {more : List NamedFile} → Size → Stages more → Stages more
bounded_output size next = bounded Output (cell_count size) MOST_OUTPUT_CELLS next

-- The frames, in a form, and the cells.

-- the most frames of an output in this form
abbrev pub frames_allowed : Form → ℕ
frames_allowed (Picture maxval) = MOST_PICTURE_FRAMES
frames_allowed (Clip form) = GREATEST_AXIS

-- there are no more frames than the form allows, and no more cells than an output may have
pub record IsWithinBounds (size : Size) (form : Form) : Type 0 where
  pub frames : size.f ≤ frames_allowed form
  pub cells : FitsOutput size

-- the frames pass their bound, or they don't and the cells pass theirs
abbrev pub PassesBounds : Size → Form → Fault → Type 0
PassesBounds size form fault =
    PassesBound Frames size.f (frames_allowed form) fault
    ⊎ ((size.f ≤ frames_allowed form) × PassesOutput size fault)

-- how a function answers that asks whether an output is within its bounds
abbrev pub AsksBounds : Size → Form → Result (Unit {0}) Fault → Type 0
AsksBounds size form (Ok done) = IsWithinBounds size form
AsksBounds size form (Err fault) = PassesBounds size form fault

-- frames and cells are within their bounds, or are refused
abbrev pub bounded_in : {more : List NamedFile} → Size → Form → Stages more → Stages more
bounded_in size form next =
    bounded Frames size.f (frames_allowed form) (bounded_output size next)
