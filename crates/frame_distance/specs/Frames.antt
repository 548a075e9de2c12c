-- A reader has to trust this file, down to `frame_distance`. The frames of a clip of one part, and
-- how far apart two of them are.
use Rattle.std.specs.Prelude.{ℕ, ◌*◌, List, [], take, drop, unwrap_or}
use Rattle.std.specs.List.{flat_map}
use Rattle.lane_kernels.specs.Sums.{sum_of_squared_differences}
use Rattle.cells.specs.declared.place.At.{At}
use Rattle.cells.specs.declared.place.Size.{Size}
use Rattle.cells.specs.Places.{places, plus, spot}
use Rattle.cells.specs.Cells.{Cells, cell_at}

-- the places of a frame, in raster order
abbrev pub frame_size : Cells → Size
frame_size clip = record { w = clip.size.w; h = clip.size.h; f = 1 }

-- the bytes of the cell at a place of frame i
abbrev pub cell_of_frame : Cells → ℕ → At → List ℕ
cell_of_frame clip i p = unwrap_or (cell_at clip (plus p (spot 0 0 i))) []

-- the bytes of a frame: those of its cells, one after another in raster order (own)
abbrev pub frame_of : Cells → ℕ → List ℕ
frame_of clip i = flat_map (cell_of_frame clip i) (places (frame_size clip))

-- the frame distance D: the sum of squared differences over the samples of two frames
-- (Schödl et al. 2000)
abbrev pub frame_distance : Cells → ℕ → ℕ → ℕ
frame_distance clip i j = sum_of_squared_differences (frame_of clip i) (frame_of clip j)

-- the bytes of a frame, where each has so many and they follow one another
abbrev pub frame_in : List ℕ → ℕ → ℕ → List ℕ
frame_in bytes len i = take len (drop (len * i) bytes)

abbrev pub distance_in : List ℕ → ℕ → ℕ → ℕ → ℕ
distance_in bytes len i j = sum_of_squared_differences (frame_in bytes len i) (frame_in bytes len j)
