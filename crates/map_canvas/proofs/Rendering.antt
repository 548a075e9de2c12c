-- A canvas stands over a sample where cells of both have as many samples and the picture has the bytes that
-- the map names; and that is seen cell by cell.
use Rattle.std.proofs.Common.{◌≡◌, ℕ, ◌<◌, refl, sym, subst}
use Rattle.std.specs.Prelude.{Some, IsSome, unwrap_or}
use Rattle.cells.specs.Places.{cell_count, index_in, place_of}
use Rattle.cells.specs.Cells.{Cells}
use Rattle.cells.proofs.Raster.{has_index, index_below, one_place, place_at}
use Rattle.map_canvas.specs.Maps.{SourceMap, IsMap}
use Rattle.map_canvas.specs.Canvases.{CanvasState, IsRendered, IsRenderedAt, StandsOver}
use Rattle.map_canvas.proofs.Keeping.{filled_inside}

pub rendered_all : (m : SourceMap) (picture sample : Cells) → IsMap m → ((i : ℕ) → i < cell_count m.size → IsRenderedAt m picture sample (place_of m.size i)) → IsRendered m picture sample
rendered_all m picture sample is each p from named =
    let inside = filled_inside m p (subst IsSome (sym named) refl) in
    let i = unwrap_or (index_in m.size p) 0 in
    let at : index_in m.size p ≡ Some i = has_index (index_in m.size p) 0 inside in
    let below = index_below m.size p i at in
    let here : place_of m.size i ≡ p = one_place m.size _ _ i (place_at m.size i is.small.axes.w.0 is.small.axes.h.0 below) at in
    subst (IsRenderedAt m picture sample) here (each i below) from named

pub stands_of : (canvas : CanvasState) (sample : Cells) → canvas.picture.k ≡ sample.k → IsRendered canvas.map canvas.picture sample → StandsOver canvas sample
stands_of canvas sample samples rendered = record { samples = samples; over = λ p from named. (rendered p from named).0; bytes = λ p from named. (rendered p from named).1 }

pub rendered_of : (canvas : CanvasState) (sample : Cells) → StandsOver canvas sample → IsRendered canvas.map canvas.picture sample
rendered_of canvas sample stands p from named = (stands.over p from named, stands.bytes p from named)
