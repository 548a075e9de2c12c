-- What writes the out file of a loop: the words of private functions.
use Rattle.std.specs.Prelude.{◌≡◌, ◌<◌, ℕ, List, ◌++◌, All, length, slice_index}
use Rattle.cells.specs.Cells.{Cells, IsOnePart}
use Rattle.y4m_clip.specs.Spaces.{joined_to, samples_of}
use Rattle.y4m_clip.specs.Writing.{Writer, frame_form}

-- the stream line of a writer, and the frames of a sample along a walk
abbrev pub walked_clip : Writer → Cells → List ℕ → List ℕ
walked_clip writer sample walk =
    writer.line
    ++ joined_to (length walk) (λ i. frame_form writer.kind sample (slice_index walk i))

-- the writer can write frames of the sample, and those of the walk are its frames
pub record CanWriteFrames (writer : Writer) (sample : Cells) (walk : List ℕ) : Type 0 where
  pub one : IsOnePart sample
  pub width : sample.size.w ≡ writer.w
  pub height : sample.size.h ≡ writer.h
  pub samples : sample.k ≡ samples_of writer.kind
  pub frames : All (λ frame. frame < sample.size.f) walk
