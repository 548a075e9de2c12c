-- A reader has to trust this file. The writer's form of a clip, which is one spelling of it.
-- (YUV4MPEG2; that each tag has one blank before it, and that a frame has no parameters, is this
-- project's choice.)
use Rattle.std.specs.Prelude.{◌≡◌, ◌≤◌, ◌+◌, ◌*◌, ℕ, List, [], ◌++◌, length, unwrap_or, codes, decimal}
use Rattle.cells.specs.declared.place.Size.{Size}
use Rattle.cells.specs.Places.{spot}
use Rattle.cells.specs.Cells.{Cells, IsOnePart, IsVolume, cell_at}
use Rattle.limits.specs.declared.bounds.TheConstants.{MOST_TAG_BYTES}
use Rattle.y4m_clip.specs.declared.form.SpaceKind.{SpaceKind}
use Rattle.y4m_clip.specs.declared.form.SpaceKind.TheVariants.{Mono, C444, C422, C411, C420}
use Rattle.y4m_clip.specs.declared.form.ClipForm.{ClipForm}
use Rattle.y4m_clip.specs.StreamLine.{Continues}
use Rattle.y4m_clip.specs.Spaces.{cell_width, cell_height, samples_of, joined_to}
use Rattle.y4m_clip.specs.Clips.{spaced, span, HasSpaceKind}

-- a form that can be written: tags that may come after W and H in a stream line, that give the
-- form's colour kind and an interlacing that is read, and that are no longer than their bound
pub record IsForm (form : ClipForm) : Type 0 where
  pub stand : Continues (codes "HW") form.tags (spaced form.tags ++ codes "\n")
  pub is_kind : HasSpaceKind form.tags form.space
  pub fits : length (spaced form.tags) ≤ MOST_TAG_BYTES

-- a clip that can be written: such a form, and a volume of one part with the samples of its kind
pub record IsClip (form : ClipForm) (volume : Cells) : Type 0 where
  pub form_is : IsForm form
  pub volume_is : IsVolume volume
  pub one : IsOnePart volume
  pub samples : volume.k ≡ samples_of form.space

-- the stream line of a form and a size: width and height in pixels, then the tags
abbrev pub line_form : ClipForm → Size → List ℕ
line_form form size =
    codes "YUV4MPEG2 W" ++ decimal (cell_width form.space * size.w)
    ++ codes " H" ++ decimal (cell_height form.space * size.h) ++ spaced form.tags ++ codes "\n"

-- the bytes of the cell at x, y of frame f
abbrev pub written_cell : Cells → ℕ → ℕ → ℕ → List ℕ
written_cell volume f y x = unwrap_or (cell_at volume (spot x y f)) []

-- so many samples, from the one with this number on, of each cell of a row
abbrev pub row_samples : Cells → ℕ → ℕ → ℕ → ℕ → List ℕ
row_samples volume f y start count =
    joined_to volume.size.w (λ x. span (written_cell volume f y x) start count)

-- a plane: for each row of cells so many rows of samples, the first of which has `count` samples
-- of each cell, from the one with this number on, and the next row the `count` samples after them
abbrev pub plane_of : Cells → ℕ → ℕ → ℕ → ℕ → List ℕ
plane_of volume f start count rows =
    joined_to volume.size.h (λ y. joined_to rows
    (λ j. row_samples volume f y (start + count * j) count))

-- the planes of a frame: luma, then Cb and Cr unless it is mono; each by its first sample in a cell,
-- its samples of a cell in a row, and its rows for a row of cells
abbrev pub planes_of : SpaceKind → Cells → ℕ → List ℕ
planes_of Mono volume f = plane_of volume f 0 1 1
planes_of C444 volume f =
    plane_of volume f 0 1 1 ++ plane_of volume f 1 1 1 ++ plane_of volume f 2 1 1
planes_of C422 volume f =
    plane_of volume f 0 2 1 ++ plane_of volume f 2 1 1 ++ plane_of volume f 3 1 1
planes_of C411 volume f =
    plane_of volume f 0 4 1 ++ plane_of volume f 4 1 1 ++ plane_of volume f 5 1 1
planes_of C420 volume f =
    plane_of volume f 0 2 2 ++ plane_of volume f 4 1 1 ++ plane_of volume f 5 1 1

-- a frame: its line and its planes
abbrev pub frame_form : SpaceKind → Cells → ℕ → List ℕ
frame_form kind volume f = codes "FRAME\n" ++ planes_of kind volume f

-- a clip: its stream line and all frames of the volume
abbrev pub clip_form : ClipForm → Cells → List ℕ
clip_form form volume =
    line_form form volume.size ++ joined_to volume.size.f (frame_form form.space volume)

-- what a writer of clips is: its stream line, and the colour kind, width and height in cells of
-- its frames
pub record Writer : Type 0 where
  pub line : List ℕ
  pub kind : SpaceKind
  pub w : ℕ
  pub h : ℕ

-- the writer of this form and size
abbrev pub writer_of : ClipForm → Size → Writer
writer_of form size = record {
  line = line_form form size;
  kind = form.space;
  w = size.w;
  h = size.h;
}
