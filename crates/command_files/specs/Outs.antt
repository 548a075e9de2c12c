-- What writes the out file, by its form, and the text that it leaves. To be trusted: contracts cite
-- these words. (Own.)
use Rattle.std.specs.Prelude.{◌≡◌, ◌++◌, ℕ, List}
use Rattle.cells.specs.declared.place.Size.{Size}
use Rattle.cells.specs.Cells.{Cells, IsOnePart}
use Rattle.netpbm_p6.specs.Pictures.{IsPicture, p6_form}
use Rattle.y4m_clip.specs.Spaces.{joined_to, samples_of}
use Rattle.y4m_clip.specs.Writing.{IsForm, Writer, frame_form, writer_of}
use Rattle.sample_files.specs.declared.form.Form.{Form}
use Rattle.sample_files.specs.declared.form.Form.TheVariants.{Picture, Clip}
use Rattle.command_files.specs.declared.out.OutWriter.{OutWriter}
use Rattle.command_files.specs.declared.out.OutWriter.TheVariants as out

-- the form can be that of a writer
abbrev pub CanBeWriter : Form → Type 0
CanBeWriter (Picture maxval) = Unit {0}
CanBeWriter (Clip form) = IsForm form

-- what writes an out file of this form and size
abbrev pub out_writer : Form → Size → OutWriter
out_writer (Picture maxval) size = out.Picture maxval
out_writer (Clip form) size = out.Clip (writer_of form size)

-- the volume has the frames of a writer of clips: one part, with its width, height and samples
pub record HasFramesOf (writer : Writer) (volume : Cells) : Type 0 where
  pub one : IsOnePart volume
  pub width : volume.size.w ≡ writer.w
  pub height : volume.size.h ≡ writer.h
  pub samples : volume.k ≡ samples_of writer.kind

-- it can write the volume
abbrev pub CanWrite : OutWriter → Cells → Type 0
CanWrite (out.Picture maxval) volume = IsPicture maxval volume
CanWrite (out.Clip writer) volume = HasFramesOf writer volume

-- the stream line of a writer, and the frames of a volume
abbrev pub whole_clip : Writer → Cells → List ℕ
whole_clip writer volume = writer.line ++ joined_to volume.size.f (frame_form writer.kind volume)

-- the text that it leaves
abbrev pub out_text : OutWriter → Cells → List ℕ
out_text (out.Picture maxval) volume = p6_form maxval volume
out_text (out.Clip writer) volume = whole_clip writer volume
