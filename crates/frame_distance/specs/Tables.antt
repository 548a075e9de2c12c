-- A reader has to trust this file. A table of frame distances. (Own.)
use Rattle.std.specs.Prelude.{◌≡◌, ◌≤◌, ◌<◌, ℕ, ◌+◌, ◌*◌, ◌/◌, ◌%◌, ◌^◌, List, length, map, All, slice_index}
use Rattle.std.specs.List.{range_with_len}
use Rattle.cells.specs.Cells.{Cells}
use Rattle.limits.specs.declared.bounds.TheConstants.{MOST_LOOP_FRAMES}
use Rattle.frame_distance.specs.Frames.{frame_distance}

-- a number for each two frames, row by row: that of frames i and j is entry i * frames + j
pub record Distances : Type 0 where
  pub frames : ℕ
  pub numbers : List ℕ

abbrev pub distance_at : Distances → ℕ → ℕ → ℕ
distance_at table i j = slice_index table.numbers (i * table.frames + j)

-- the first entries of the square table of a function of row and column, row by row
abbrev pub entries_of : {X : Type 0} → ℕ → (ℕ → ℕ → X) → ℕ → List X
entries_of n f count = map (λ k. f (k / n) (k % n)) (range_with_len 0 count)

-- the distances of each two frames of a clip
abbrev pub distances_of : Cells → Distances
distances_of clip = record {
  frames = clip.size.f;
  numbers = entries_of clip.size.f (frame_distance clip) (clip.size.f * clip.size.f);
}

-- the numbers of a table are the distances of the frames of a clip
abbrev pub AreDistancesOf : Cells → Distances → Type 0
AreDistancesOf clip table = (i j : ℕ) → i < clip.size.f → j < clip.size.f →
    distance_at table i j ≡ frame_distance clip i j

-- what every table of distances is
pub record IsDistanceTable (table : Distances) : Type 0 where
  pub frames : (1 ≤ table.frames) × (table.frames ≤ MOST_LOOP_FRAMES)
  pub whole : length table.numbers ≡ table.frames * table.frames
  pub below : All (λ number. number < 2 ^ 43) table.numbers
