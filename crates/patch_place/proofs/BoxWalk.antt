-- The walk over the entries of a part, for a table of a box.
use Rattle.std.proofs.Common.{◌≡◌, ℕ, suc, ◌+◌, ◌/◌, ◌^◌, ◌<◌, ◌≤◌, List, [], ◌∷◌, ◌++◌, length, map, take, ap, refl, sym, subst, ◌∙◌, arith}
use Rattle.std.proofs.lemmas.Int.{ints}
use Rattle.std.proofs.lemmas.List.{append_assoc, length-map, map-append, take_all}
use Rattle.std.proofs.lemmas.List.Elements.{All-contains}
use Rattle.std.proofs.lemmas.Option.{slice_get-map}
use Rattle.std.specs.Prelude.{pos, ◌+ℤ◌, All, Some, option_map, slice_get}
use Rattle.cells.specs.declared.place.Box3.{Box3}
use Rattle.cells.specs.declared.place.Size.{Size}
use Rattle.cells.specs.Places.{cell_count, place_of, spot, places}
use Rattle.cells.specs.SizeLists.{frames_to_part, stock_place}
use Rattle.cells.proofs.BoxLaws.{step_of}
use Rattle.map_canvas.specs.declared.canvas.Placement.{Placement}
use Rattle.map_canvas.specs.Choices.{laid_from}
use Rattle.match_error.specs.declared.error.Error.{Error}
use Rattle.patch_place.specs.declared.spots.Spot.{Spot}
use Rattle.patch_picks.specs.Counts.{FitsCount, entries_after, entries_before, AreVolumeParts}
use Rattle.patch_place.specs.Spots.{IsSpotAt, room_entries}
use Rattle.patch_picks.specs.Lists.{fit_list, from_part, lists_from, room}
use Rattle.patch_picks.proofs.BoxLists.{cells_of_index}
use Rattle.patch_picks.proofs.Counting.{map_more, slice_get-Contains}
use Rattle.patch_picks.specs.declared.candidates.Candidates.TheVariants.{Fits}
use Rattle.patch_place.specs.Tables.{IsSeenTo}
use Rattle.patch_picks.proofs.PartLists.{before_step, count_step, entries_few, entry_of_all}
use Rattle.patch_picks.proofs.Stocks.{stock_moved}
use Rattle.cells.proofs.PlaceLists.{count_over, entry_over}

-- the counts of a place are numbers of 31 bits
pub record IsNearSpot (s : Spot) : Type 0 where
  pub x : s.x < 2 ^ 31
  pub y : s.y < 2 ^ 31
  pub f : s.f < 2 ^ 31

pub spot_near : (free : Size) (frames i : ℕ) (s : Spot) → FitsCount free → i < cell_count free → frames ≤ 2 ^ 17 → IsSpotAt free frames i s → IsNearSpot s
spot_near free frames i s fits lt few is =
    let step = step_of free i (cells_of_index free i lt) lt in
    record {
      x = omega (arith, is.x, step.x, fits.w);
      y = omega (arith, is.y, step.y, fits.h);
      f = omega (arith, is.f, step.f, fits.f, few);
    }

-- the place of the joined volume
spot_place : (sizes : List Size) (n : ℕ) (free : Size) (i : ℕ) (s : Spot) → IsSpotAt free (frames_to_part sizes n) i s → stock_place sizes (n + 1) (place_of free i) ≡ spot s.x s.y s.f
spot_place sizes n free i s is =
    let number : n + 1 ≡ suc n = omega arith in
    let frame : pos (i / free.w / free.h) +ℤ pos (frames_to_part sizes n) ≡ pos s.f = omega (arith, ints, is.f) in
    stock_moved sizes (n + 1) n (place_of free i) number ∙ (λ k. record { x = pos (sym is.x k); y = pos (sym is.y k); f = frame k })

-- the entry there
pub room_entry : (sizes : List Size) (n : ℕ) (rect : Box3) (free : Size) (i : ℕ) (s : Spot) → i < cell_count free → IsSpotAt free (frames_to_part sizes n) i s → slice_get (room_entries rect sizes n free) i ≡ Some (laid_from rect (spot s.x s.y s.f))
room_entry sizes n rect free i s lt is =
    slice_get-map (from_part sizes (n + 1)) (map (laid_from rect) (places free)) i
    ∙ ap (option_map (from_part sizes (n + 1))) (entry_over (laid_from rect) free i lt)
    ∙ ap (λ p. Some (laid_from rect p)) (spot_place sizes n free i s is)

pub room_fits_there : (P : Placement → Type 0) (sizes : List Size) (n : ℕ) (rect : Box3) (part free : Size) (i : ℕ) (entry : Placement) → slice_get sizes n ≡ Some part → free ≡ room part rect.size → slice_get (room_entries rect sizes n free) i ≡ Some entry → All P (lists_from (fit_list rect) sizes 1 sizes) → P entry
room_fits_there P sizes n rect part free i entry at e is all =
    let here : slice_get (map (from_part sizes (n + 1)) (fit_list rect part)) i ≡ Some entry = subst (λ s. slice_get (room_entries rect sizes n s) i ≡ Some entry) e is in
    All-contains P (lists_from (fit_list rect) sizes 1 sizes) entry all (entry_of_all (fit_list rect) sizes n part entry at (slice_get-Contains (map (from_part sizes (n + 1)) (fit_list rect part)) entry i here))

-- the errors of one more entry, and of all of them
pub errors_more : (f : Placement → Error) (before : List Error) (list : List Placement) (i : ℕ) (entry : Placement) → slice_get list i ≡ Some entry → (before ++ map f (take i list)) ++ f entry ∷ [] ≡ before ++ map f (take (i + 1) list)
errors_more f before list i entry at = append_assoc before (map f (take i list)) (f entry ∷ []) ∙ ap (λ more. before ++ more) (sym (map_more f list i entry at))

pub errors_all : (f : Placement → Error) (sizes : List Size) (n : ℕ) (rect : Box3) (part free : Size) (i : ℕ) → slice_get sizes n ≡ Some part → free ≡ room part rect.size → cell_count free ≤ i → map f (entries_before (fit_list rect) sizes n) ++ map f (take i (room_entries rect sizes n free)) ≡ map f (entries_before (fit_list rect) sizes (n + 1))
errors_all f sizes n rect part free i at e le =
    let here = room_entries rect sizes n free in
    let many : length here ≡ cell_count free = length-map (map (laid_from rect) (places free)) (from_part sizes (n + 1)) ∙ count_over (laid_from rect) free in
    ap (λ list. map f (entries_before (fit_list rect) sizes n) ++ map f list) (take_all i here (omega (arith, many, le)) ∙ ap (room_entries rect sizes n) e)
    ∙ sym (map-append f (entries_before (fit_list rect) sizes n) (room_entries rect sizes n (room part rect.size)))
    ∙ ap (map f) (sym (before_step (fit_list rect) sizes n part at))

-- how many candidates are seen with no part, with one more, and with any
pub none_seen : (rect : Box3) (sizes : List Size) (seen : ℕ) → seen ≡ 0 → IsSeenTo rect sizes 0 seen
none_seen rect sizes seen none =
    let all : length (entries_after (fit_list rect) sizes 0) ≡ length (lists_from (fit_list rect) sizes 1 sizes) = refl in
    omega (arith, none, all)

pub box_step : (rect : Box3) (sizes : List Size) (n seen : ℕ) (part free : Size) → slice_get sizes n ≡ Some part → free ≡ room part rect.size → IsSeenTo rect sizes n seen → IsSeenTo rect sizes (n + 1) (seen + cell_count free)
box_step rect sizes n seen part free at e is = count_step (Fits rect) rect.size sizes n seen part free at e is

pub box_few : (rect : Box3) (sizes : List Size) (n seen : ℕ) → AreVolumeParts sizes → IsSeenTo rect sizes n seen → seen ≤ 268435456
box_few rect sizes n seen parts is = omega (arith, is, entries_few (Fits rect) rect.size sizes parts)
