-- To be trusted: what the map of a merge has, whatever the pictures are. (Own.)
use Rattle.std.specs.Prelude.{◌≡◌, ◌≤◌, ℕ, length, Some}
use Rattle.cells.specs.declared.place.At.{At}
use Rattle.cells.specs.Cells.{Cells, IsVolume, sizes_of}
use Rattle.cells.specs.Places.{IsInside}
use Rattle.map_canvas.specs.Maps.{SourceMap, map_at}
use Rattle.photo_merge.specs.Marks.{mark_at}
use Rattle.photo_merge.specs.Merges.{IsMerge, same_place}

-- how many pictures there are
abbrev pub picture_count : Cells → ℕ
picture_count pictures = length (sizes_of pictures)

-- there is one map of a merge
abbrev pub ThereIsOneMerge : Type 0
ThereIsOneMerge =
    (pictures marks : Cells) (one other : SourceMap) → IsVolume pictures
    → IsMerge pictures marks one → IsMerge pictures marks other → one ≡ other

-- each cell that is marked with a picture comes from its own place of that picture
abbrev pub MarkedAreOwn : Cells → Cells → SourceMap → Type 0
MarkedAreOwn pictures marks m =
    (p : At) → IsInside pictures.size p
    → 1 ≤ mark_at marks p → mark_at marks p ≤ picture_count pictures
    → map_at m p ≡ Some (same_place pictures (mark_at marks p) p)

-- a cell comes from its own place of one of the first n pictures
pub record ComesFrom (pictures : Cells) (n : ℕ) (m : SourceMap) (p : At) : Type 0 where
  pub number : ℕ
  pub from : 1 ≤ number
  pub to : number ≤ n
  pub source : map_at m p ≡ Some (same_place pictures number p)

-- each cell does of one of the pictures
abbrev pub EachComesFrom : Cells → SourceMap → Type 0
EachComesFrom pictures m =
    (p : At) → IsInside pictures.size p → ComesFrom pictures (picture_count pictures) m p

-- what the map of a merge is
pub record IsMerged (pictures : Cells) (marks : Cells) (m : SourceMap) : Type 0 where
  pub size : m.size ≡ pictures.size
  pub own : MarkedAreOwn pictures marks m
  pub each : EachComesFrom pictures m

abbrev pub MergesAreMerged : Type 0
MergesAreMerged =
    (pictures marks : Cells) (m : SourceMap) → IsMerge pictures marks m
    → IsMerged pictures marks m
