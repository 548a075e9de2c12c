-- The cells of a frame come one after another.
use Rattle.std.proofs.Common.{◌≡◌, ℕ, ◌+◌, ◌*◌, ◌/◌, ◌%◌, ◌<◌, ◌≤◌, List, [], ◌∷◌, ◌++◌, length, take, drop, min, get_or, refl, ap, sym, ◌∙◌, subst, arith}
use Rattle.std.specs.Prelude.{Some, map, unwrap_or, option_and_then, slice_get}
use Rattle.std.specs.List.{concat, flat_map}
use Rattle.std.proofs.Math.Nat.{mod-eq_of_lt, div-eq_of_lt}
use Rattle.std.proofs.lemmas.Nat.{mod_below, div_below, div-add-mod'}
use Rattle.std.proofs.lemmas.List.{ext_get_or, get_or-take, get_or-drop, get_or-map, length-take, length-drop, length-map}
use Rattle.std.proofs.lemmas.List.FromFn.{get_or-map-range_with_len, length-map-range_with_len}
use Rattle.std.proofs.lemmas.Option.{unwrap_or-slice_get}
use Rattle.cells.specs.declared.place.Size.{Size}
use Rattle.cells.specs.Places.{cell_count, index_in, index_on_axes, place_of, places, plus, spot}
use Rattle.cells.specs.Cells.{Cells}
use Rattle.cells.proofs.Raster.{on_axis_in}
use Rattle.cells.proofs.PartLaws.{index_front}
use Rattle.frame_distance.specs.Frames.{cell_of_frame, frame_of, frame_size}

concat_map : {X : Type 0} (f : X → List ℕ) (xs : List X) → concat (map f xs) ≡ flat_map f xs
concat_map f [] = refl
concat_map f (x ∷ xs) = ap (λ rest. f x ++ rest) (concat_map f xs)

-- the index of the cell of frame i that is at index k of the frame
cell_index : (size : Size) (i k : ℕ) → 1 ≤ size.w → i < size.f → k < size.w * size.h
    → index_in size (plus (place_of (record { w = size.w; h = size.h; f = 1 }) k) (spot 0 0 i)) ≡ Some (size.w * size.h * i + k)
cell_index size i k w below lt =
    let column : k % size.w < size.w = mod_below k size.w w in
    let row : k / size.w < size.h = div_below k size.w size.h w (let e : k < size.h * size.w = omega arith in e) in
    let row_is : k / size.w % size.h ≡ k / size.w = mod-eq_of_lt row in
    let frame_is : k / size.w / size.h ≡ 0 = div-eq_of_lt row in
    let whole : k % size.w + size.w * (k / size.w) ≡ k = omega (arith, div-add-mod' k size.w) in
    (λ t. index_on_axes size
    (on_axis_in size.w (k % size.w + 0) (omega arith) t)
    (on_axis_in size.h (k / size.w % size.h + 0) (omega arith) t)
    (on_axis_in size.f (k / size.w / size.h + i) (omega arith) t))
    ∙ ap Some (
    (λ t. k % size.w + 0 + size.w * (row_is t + 0 + size.h * (frame_is t + i)))
    ∙ (let e : k % size.w + 0 + size.w * (k / size.w + 0 + size.h * (0 + i)) ≡ size.w * size.h * i + (k % size.w + size.w * (k / size.w)) = omega arith in e)
    ∙ ap (λ n. size.w * size.h * i + n) whole)

-- the bytes of a frame are those of its cells
pub frame_cells : (clip : Cells) (i : ℕ) → 1 ≤ clip.size.w → i < clip.size.f
    → clip.size.w * clip.size.h * i + clip.size.w * clip.size.h ≤ length clip.cells
    → concat (take (clip.size.w * clip.size.h) (drop (clip.size.w * clip.size.h * i) clip.cells)) ≡ frame_of clip i
frame_cells clip i w below within = ap concat cells ∙ concat_map (cell_of_frame clip i) (places (frame_size clip))
  where
    area : ℕ
    area = clip.size.w * clip.size.h

    long : length (take area (drop (area * i) clip.cells)) ≡ area
    long = length-take area (drop (area * i) clip.cells) ∙ (let e : min area (length (drop (area * i) clip.cells)) ≡ area = omega (arith, within, length-drop (area * i) clip.cells) in e)

    one : cell_count (frame_size clip) ≡ area
    one = omega arith

    count : length (places (frame_size clip)) ≡ area
    count = length-map-range_with_len (place_of (frame_size clip)) 0 (cell_count (frame_size clip)) ∙ one

    -- the cell that the clip has at the place is the one at the index
    there : (k : ℕ) → k < area → cell_of_frame clip i (place_of (frame_size clip) k) ≡ get_or clip.cells (area * i + k) []
    there k lt =
        ap (λ index. unwrap_or (option_and_then (slice_get clip.cells) index) [])
        (index_front clip.size clip.more (plus (place_of (frame_size clip) k) (spot 0 0 i)) (area * i + k) (cell_index clip.size i k w below lt))
        ∙ unwrap_or-slice_get clip.cells (area * i + k) []

    at : (k : ℕ) → k < area → get_or (take area (drop (area * i) clip.cells)) k [] ≡ get_or (map (cell_of_frame clip i) (places (frame_size clip))) k []
    at k lt =
        get_or-take area (drop (area * i) clip.cells) k [] lt ∙ get_or-drop (area * i) clip.cells k [] ∙ sym (there k lt)
        ∙ ap (cell_of_frame clip i) (sym (get_or-map-range_with_len (place_of (frame_size clip)) 0 (cell_count (frame_size clip)) k k (spot 0 0 0) (subst (λ n. k < n) (sym one) lt) (omega arith)))
        ∙ sym (get_or-map (cell_of_frame clip i) (places (frame_size clip)) k (spot 0 0 0) [] (subst (λ n. k < n) (sym count) lt))

    cells : take area (drop (area * i) clip.cells) ≡ map (cell_of_frame clip i) (places (frame_size clip))
    cells = ext_get_or [] (take area (drop (area * i) clip.cells)) (map (cell_of_frame clip i) (places (frame_size clip)))
        (long ∙ sym (length-map (places (frame_size clip)) (cell_of_frame clip i) ∙ count))
        (λ k lt. at k (subst (λ n. k < n) long lt))
