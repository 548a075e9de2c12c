-- The state of the writer: the planes of a frame, as far as they are laid into a buffer. (Own.)
use Rattle.std.specs.Prelude.{◌≡◌, ◌+◌, ◌*◌, ℕ, List, ◌++◌, length, take}
use Rattle.y4m_clip.specs.Spaces.{joined_to}
use Rattle.y4m_clip.specs.Clips.{span}

-- a piece is laid after the first bytes of a buffer, and the place after it
pub record Lays (piece was : List ℕ) (at : ℕ) (now : List ℕ) (next : ℕ) : Type 0 where
  pub room : length now ≡ length was
  pub place : next ≡ at + length piece
  pub front : take next now ≡ take at was ++ piece

-- so many bytes, from the one with this number on, of each of w runs of k bytes
abbrev pub run_samples : List ℕ → ℕ → ℕ → ℕ → ℕ → List ℕ
run_samples bytes k start count w = joined_to w (λ x. span bytes (k * x + start) count)
