-- Maps of one size with the same sources.
use Rattle.std.proofs.Common.{◌≡◌, ◌∙◌, ℕ, zero, suc, ◌<◌, List, [], ◌∷◌, length, ap, arith}
use Rattle.std.proofs.lemmas.Option.{none-some, same_Some}
use Rattle.std.specs.Prelude.{Option, Some, None, slice_get, slice_index_or}
use Rattle.cells.specs.declared.place.At.{At}
use Rattle.cells.specs.declared.place.Size.{Size}
use Rattle.cells.specs.Firsts.{Each}
use Rattle.cells.specs.Places.{cell_count, index_in, place_of}
use Rattle.cells.proofs.Raster.{place_at}
use Rattle.map_canvas.specs.Maps.{SourceMap, IsMap, source_at}
use Rattle.standing_files.specs.Standing.{HasOneSource}
use Rattle.standing_files.specs.Steps.{HaveOneEntry}

-- an entry that a list has is that which it has, or none
entry_is : (sources : List (Option At)) (i : ℕ) (from : At) → slice_get sources i ≡ Some (Some from) → slice_index_or sources i None ≡ Some from
entry_is [] i from is = absurd (none-some (Some from) is)
entry_is (source ∷ sources) zero from is = same_Some source (Some from) is
entry_is (source ∷ sources) (suc i) from is = entry_is sources i from is

pub one_source_each : (left m : SourceMap) → IsMap m → left.size ≡ m.size → Each (length m.sources) (HaveOneEntry left.sources m.sources)
    → Each (cell_count m.size) (λ i. HasOneSource left m (place_of m.size i))
one_source_each left m is same each i lt =
    let p = place_of m.size i in
    let below : i < length m.sources = omega (arith, is.count, lt) in
    let here = each i below in
    let at : index_in m.size p ≡ Some i = place_at m.size i is.small.axes.w.0 is.small.axes.h.0 lt in
    record {
      from = here.from;
      left_is = ap (λ (size : Size). source_at left.sources (index_in size p)) same ∙ ap (source_at left.sources) at ∙ entry_is left.sources i here.from here.left_is;
      map_is = ap (source_at m.sources) at ∙ entry_is m.sources i here.from here.is;
    }
