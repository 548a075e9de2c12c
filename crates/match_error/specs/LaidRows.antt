-- The rows of a placement's box in the output and in the sample, for the contracts of this crate's
-- own functions; no public contract names them.
use Rattle.std.specs.Prelude.{◌≡◌, ◌*◌, ℕ, List, IfSome, Some, length}
use Rattle.cells.specs.declared.place.At.{At}
use Rattle.cells.specs.Cells.{Cells, row_at}
use Rattle.cells.specs.Places.{index_in, plus, spot}
use Rattle.map_canvas.specs.declared.canvas.Placement.{Placement}
use Rattle.map_canvas.specs.Canvases.{CanvasState}
use Rattle.match_error.specs.declared.fronts.Front.{Front}
use Rattle.match_error.specs.declared.fronts.Fronts.{Fronts}

-- a place has this index in a volume's first part, which has this size
pub record IsFront (v : Cells) (corner : At) (front : Front) : Type 0 where
  pub part : front.part ≡ v.size
  pub index : index_in v.size corner ≡ Some front.index

-- where a placement's box begins in the output and in the sample
pub record AreFronts (canvas : CanvasState) (sample : Cells) (placement : Placement)
    (fronts : Fronts) : Type 0 where
  pub old : IfSome fronts.old (IsFront canvas.picture placement.rect.corner)
  pub new : IfSome fronts.new (IsFront sample placement.from)

-- a row of the box has these bytes in the output, and its new sources have those
pub record AreRowBytes (canvas : CanvasState) (sample : Cells) (placement : Placement)
    (y f : ℕ) (old new : List ℕ) : Type 0 where
  pub is_old : old
      ≡ row_at canvas.picture (plus placement.rect.corner (spot 0 y f)) placement.rect.size.w
  pub is_new : new ≡ row_at sample (plus placement.from (spot 0 y f)) placement.rect.size.w
  pub old_long : length old ≡ sample.k * placement.rect.size.w
  pub new_long : length new ≡ sample.k * placement.rect.size.w
