-- The list of a box has exactly the placements of the box that fit.
use Rattle.std.proofs.Common.{◌≡◌, ℕ, zero, suc, ◌+◌, ◌*◌, ◌%◌, ◌/◌, ◌<◌, ◌≤◌, length, refl, sym, subst, ap, ◌∙◌, arith}
use Rattle.std.proofs.lemmas.Int.{ints}
use Rattle.std.proofs.lemmas.Option.{get_or_from_slice_get, none-some, slice_get-map}
use Rattle.std.specs.Prelude.{ℤ, pos, negsuc, All, Contains, List, map, option_map, Some}
use Rattle.cells.specs.declared.place.At.{At}
use Rattle.cells.specs.declared.place.Size.{Size}
use Rattle.cells.specs.declared.place.Box3.{Box3}
use Rattle.cells.specs.Boxes.{AxisHolds, HasCells, HoldsBox}
use Rattle.cells.specs.Cells.{Cells, Holds, sizes_of}
use Rattle.cells.specs.Places.{cell_count, index_in, place_of, spot}
use Rattle.cells.specs.SizeLists.{size_of_part, stock_place}
use Rattle.cells.proofs.BoxLaws.{step_of}
use Rattle.cells.proofs.Raster.{index_below, index_of_spot, one_place, place_at}
use Rattle.boxes.specs.Rooms.{HasRoom}
use Rattle.map_canvas.specs.Choices.{Fits, laid_from}
use Rattle.patch_picks.specs.Lists.{fit_list, from_part, part_lists, room}
use Rattle.patch_picks.proofs.Counting.{Contains-slice_get, slice_get-Contains}
use Rattle.patch_picks.proofs.Fitting.{all_over, axis_holds, over_parts, same_place, some_over}
use Rattle.patch_picks.proofs.PartLists.{entry_of_all, some_of_part}
use Rattle.patch_picks.proofs.Stocks.{held_in_part, part_held, stock_moved}
use Rattle.cells.proofs.PlaceLists.{count_over, entry_over}

-- what has an index has cells
times_some : (a b i : ℕ) → i < a * b → (1 ≤ a) × (1 ≤ b)
times_some zero b i lt = absurd (omega (arith, lt))
times_some (suc a) zero i lt = absurd (omega (arith, lt))
times_some (suc a) (suc b) i lt = (omega arith, omega arith)

pub cells_of_index : (size : Size) (i : ℕ) → i < cell_count size → HasCells size
cells_of_index size i lt =
    let outer = times_some size.w (size.h * size.f) i lt in
    let inner = times_some size.h size.f 0 (omega (arith, outer.1)) in
    record { w = outer.0; h = inner.0; f = inner.1 }

pub some_room : (sample : Cells) (rect : Box3) (number : ℕ) (part : Size) → size_of_part (sizes_of sample) number ≡ Some part → HasRoom part rect.size → 0 < length (part_lists (fit_list rect) sample)
some_room sample rect zero part at has = absurd (none-some part at)
some_room sample rect (suc n) part at has =
    some_of_part (fit_list rect) (sizes_of sample) n part at
    (some_over (laid_from rect) (room part rect.size) (omega (arith, has.w)) (omega (arith, has.h)) (omega (arith, has.f)))

pub all_in_room : (output : Size) (sample : Cells) (rect : Box3) → HasCells rect.size → HoldsBox output rect.corner rect.size → All (Fits output sample) (part_lists (fit_list rect) sample)
all_in_room output sample rect some inside =
    over_parts (Fits output sample) (fit_list rect) sample (λ number n part e at.
    let free = room part rect.size in
    all_over (λ placement. Fits output sample (from_part (sizes_of sample) number placement)) (laid_from rect) free
    (λ i lt. let step = step_of free i (cells_of_index free i lt) lt in
    record {
      some = some;
      inside = inside;
      sources = part_held sample number n part _ rect.size e at (record {
        x = axis_holds part.w (i % free.w) rect.size.w (omega (arith, step.x));
        y = axis_holds part.h (i / free.w % free.h) rect.size.h (omega (arith, step.y));
        f = axis_holds part.f (i / free.w / free.h) rect.size.f (omega (arith, step.f));
      });
    }))

on_axis_at : (n : ℕ) (z : ℤ) (len : ℕ) → AxisHolds n z len → (a : ℕ) × (z ≡ pos a) × (a + len ≤ n)
on_axis_at n (pos a) len holds = (a, refl, omega (arith, ints, holds.to))
on_axis_at n (negsuc a) len holds = absurd (omega (arith, ints, holds.from))

-- of one part
each_in_part : (part : Size) (rect : Box3) (from : At) → HoldsBox part from rect.size → Contains (fit_list rect part) (laid_from rect from)
each_in_part part rect from box =
    let free = room part rect.size in
    let x = on_axis_at part.w from.x rect.size.w box.x in
    let y = on_axis_at part.h from.y rect.size.h box.y in
    let f = on_axis_at part.f from.f rect.size.f box.f in
    let lx : x.0 < free.w = omega (arith, x.2) in
    let ly : y.0 < free.h = omega (arith, y.2) in
    let lf : f.0 < free.f = omega (arith, f.2) in
    let i : ℕ = x.0 + free.w * (y.0 + free.h * f.0) in
    let here : from ≡ spot x.0 y.0 f.0 = same_place from (spot x.0 y.0 f.0) x.1 y.1 f.1 in
    let index : index_in free from ≡ Some i = subst (λ p. index_in free p ≡ Some i) (sym here) (index_of_spot free x.0 y.0 f.0 lx ly lf) in
    let lt : i < cell_count free = index_below free from i index in
    let same : place_of free i ≡ from = one_place free (place_of free i) from i (place_at free i (omega (arith, lx)) (omega (arith, ly)) lt) index in
    (i, subst (λ n. i < n) (sym (count_over (laid_from rect) free)) lt, get_or_from_slice_get (fit_list rect part) i (laid_from rect from) (laid_from rect from) (entry_over (laid_from rect) free i lt ∙ ap (λ p. Some (laid_from rect p)) same))

-- an entry that is mapped
pub Contains-map : {X Y : Type 0} (f : X → Y) (xs : List X) (x : X) → Contains xs x → Contains (map f xs) (f x)
Contains-map f xs x has =
    let at = Contains-slice_get xs x has in
    slice_get-Contains (map f xs) (f x) at.0 (slice_get-map f xs at.0 ∙ ap (option_map f) at.1)

-- of all parts
pub each_held : (sample : Cells) (rect : Box3) (from : At) → HasCells rect.size → Holds sample from rect.size → Contains (part_lists (fit_list rect) sample) (laid_from rect from)
each_held sample rect from some held =
    let there = held_in_part sample from rect.size some held in
    let sizes = sizes_of sample in
    let number : there.n + 1 ≡ suc there.n = omega arith in
    let stock : stock_place sizes (there.n + 1) there.from ≡ from = stock_moved sizes (there.n + 1) there.n there.from number ∙ sym there.stock in
    subst (λ p. Contains (part_lists (fit_list rect) sample) (laid_from rect p)) stock
    (entry_of_all (fit_list rect) sizes there.n there.part (laid_from rect (stock_place sizes (there.n + 1) there.from)) there.is
    (Contains-map (from_part sizes (there.n + 1)) (fit_list rect there.part) (laid_from rect there.from) (each_in_part there.part rect there.from there.box)))

pub each_in_room : (output : Size) (sample : Cells) (rect : Box3) (from : At) → Fits output sample (laid_from rect from) → Contains (part_lists (fit_list rect) sample) (laid_from rect from)
each_in_room output sample rect from fits = each_held sample rect from fits.some fits.sources
