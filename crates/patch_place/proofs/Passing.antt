-- Many candidates that a walk passes over at once.
use Rattle.std.proofs.Common.{◌≡◌, ℕ, zero, suc, ◌+◌, ◌<◌, ◌≤◌, List, ◌++◌, map, take, ap, refl, sym, subst, ◌∙◌, arith}
use Rattle.std.proofs.lemmas.Int.{ints}
use Rattle.std.specs.Prelude.{pos, ◌+ℤ◌, All, Some, slice_get}
use Rattle.search_squares.specs.Bounds.{place_along}
use Rattle.search_squares.specs.Eliminations.{AreEliminatedBy, IsEliminated}
use Rattle.search_squares.specs.declared.eliminated.Eliminated.{Eliminated}
use Rattle.cells.specs.declared.place.At.{At}
use Rattle.cells.specs.declared.place.Box3.{Box3}
use Rattle.cells.specs.declared.place.Size.{Size}
use Rattle.cells.specs.Places.{cell_count, spot}
use Rattle.cells.specs.SizeLists.{frames_to_part}
use Rattle.map_canvas.specs.declared.canvas.Placement.{Placement}
use Rattle.map_canvas.specs.Choices.{laid_from}
use Rattle.match_error.specs.declared.error.Error.{Error}
use Rattle.patch_place.specs.declared.spots.Spot.{Spot}
use Rattle.patch_place.specs.declared.shortlist.Shortlist.{Shortlist}
use Rattle.patch_place.specs.BoxErrors.{AreCounted, sum_from}
use Rattle.patch_place.specs.Spots.{IsSpotAt, room_entries}
use Rattle.patch_picks.specs.Lists.{fit_list, lists_from, room}
use Rattle.patch_place.specs.Tables.{IsLimitOf, IsPast, IsShortlist}
use Rattle.cells.proofs.BoxLaws.{step_of}
use Rattle.patch_picks.proofs.BoxLists.{cells_of_index}
use Rattle.patch_place.proofs.BoxWalk.{errors_more, room_entry, room_fits_there}
use Rattle.patch_place.proofs.Shortlists.{past_for, short_skip}
use Rattle.patch_place.proofs.Walking.{row_within, spot_further}

-- so many more, each of them past what may be eligible
abbrev pub passed_by : Shortlist → ℕ → Shortlist
passed_by was n = record was { seen = was.seen + n }

pub short_pass : (f : Placement → Error) (before : List Error) (list : List Placement) (was : Shortlist) (i n : ℕ) (entry : ℕ → Placement) → ((j : ℕ) → j < n → slice_get list (i + j) ≡ Some (entry j)) → ((j : ℕ) → j < n → IsPast was (f (entry j)))
    → IsShortlist was (before ++ map f (take i list)) → IsShortlist (passed_by was n) (before ++ map f (take (i + n) list))
short_pass f before list was i zero entry at past is =
    let seen : was.seen ≡ was.seen + 0 = omega arith in
    let end : i ≡ i + 0 = omega arith in
    subst (λ m. IsShortlist (passed_by was 0) (before ++ map f (take m list))) end
    (subst (λ s. IsShortlist (record was { seen = s }) (before ++ map f (take i list))) seen is)
short_pass f before list was i (suc n) entry at past is =
    let rest : IsShortlist (passed_by was n) (before ++ map f (take (i + n) list)) = short_pass f before list was i n entry (λ j lt. at j (omega (arith, lt))) (λ j lt. past j (omega (arith, lt))) is in
    let seen : was.seen + suc n ≡ was.seen + n + 1 = omega arith in
    let end : i + n + 1 ≡ i + suc n = omega arith in
    let lt : n < suc n = omega arith in
    let more = short_skip (passed_by was n) (passed_by was (suc n)) (f (entry n)) refl refl refl refl seen (past n lt) (before ++ map f (take (i + n) list)) rest in
    subst (λ m. IsShortlist (passed_by was (suc n)) (before ++ map f (take m list))) end
    (subst (IsShortlist (passed_by was (suc n))) (errors_more f before list (i + n) (entry n) (at n lt)) more)

-- a place of a row comes before its end
pub in_row : (free : Size) (frames i : ℕ) (place : Spot) → i < cell_count free → IsSpotAt free frames i place → place.x < free.w
in_row free frames i place lt is = omega (arith, is.x, (step_of free i (cells_of_index free i lt) lt).x)

-- the place so many further along X
along_spot : (x y f j : ℕ) → place_along (spot x y f) j ≡ spot (x + j) y f
along_spot x y f j = λ k. record { x = further x j k; y = stay y k; f = stay f k }
  where
    further : (n m : ℕ) → pos n +ℤ pos m ≡ pos (n + m)
    further n m = omega (arith, ints)

    stay : (n : ℕ) → pos n +ℤ pos 0 ≡ pos n
    stay n = omega (arith, ints)

-- the box laid from the place of the walk may be asked for
pub spot_asked : (MayAsk : Placement → Type 0) (rect : Box3) (sizes : List Size) (n : ℕ) (part free : Size) → slice_get sizes n ≡ Some part → free ≡ room part rect.size → All MayAsk (lists_from (fit_list rect) sizes 1 sizes) → (i : ℕ) (place : Spot) → i < cell_count free
    → IsSpotAt free (frames_to_part sizes n) i place → (from : At) → from ≡ spot place.x place.y place.f → MayAsk (laid_from rect from)
spot_asked MayAsk rect sizes n part free at room_is asked i place below here from from_is =
    room_fits_there MayAsk sizes n rect part free i (laid_from rect from) at room_is (room_entry sizes n rect free i place below here ∙ ap (λ p. Some (laid_from rect p)) (sym from_is)) asked

-- a walk over the places of a box in a part, at one of them, from which on some are eliminated
module _ (error : Placement → Error) (MayAsk : Placement → Type 0) (count : ℕ) (counted : AreCounted error MayAsk count) (rect : Box3) (sizes : List Size) (n : ℕ) (part free : Size) (at : slice_get sizes n ≡ Some part) (room_is : free ≡ room part rect.size)
    (asked : All MayAsk (lists_from (fit_list rect) sizes 1 sizes)) (i : ℕ) (place : Spot) (here : IsSpotAt free (frames_to_part sizes n) i place) (below : i < cell_count free) (gone : ℕ) (row : place.x + gone ≤ free.w) where
  abbrev entry : ℕ → Placement
  entry j = laid_from rect (spot (place.x + j) place.y place.f)

  abbrev list : List Placement
  list = room_entries rect sizes n free

  pub run_within : i + gone ≤ cell_count free
  run_within = row_within free (frames_to_part sizes n) i gone place row here below

  entry_at : (j : ℕ) → j < gone → slice_get list (i + j) ≡ Some (entry j)
  entry_at j lj =
      room_entry sizes n rect free (i + j) (record { x = place.x + j; y = place.y; f = place.f }) (omega (arith, run_within, lj))
      (spot_further free (frames_to_part sizes n) i j place (record { x = place.x + j; y = place.y; f = place.f }) (omega (arith, row, lj)) refl refl refl here)

  entry_asked : (j : ℕ) → j < gone → MayAsk (entry j)
  entry_asked j lj = room_fits_there MayAsk sizes n rect part free (i + j) (entry j) at room_is (entry_at j lj) asked

  module _ (from : At) (from_is : from ≡ spot place.x place.y place.f) (run : Eliminated) (are : AreEliminatedBy (sum_from error rect) run) (limit : ℕ) (eliminated : (j : ℕ) → j < gone → IsEliminated run (place_along from j) limit) where
    beyond : (j : ℕ) → j < gone → limit < (error (entry j)).sum
    beyond j lj =
        subst (λ p. limit < sum_from error rect p) (ap (λ p. place_along p j) from_is ∙ along_spot place.x place.y place.f j)
        (eliminated j lj (sum_from error rect) are)

    -- they are passed over
    pub run_passed : (was : Shortlist) (before : List Error) → IsLimitOf was count limit → IsShortlist was (before ++ map error (take i list)) → IsShortlist (passed_by was gone) (before ++ map error (take (i + gone) list))
    run_passed was before limited is =
        short_pass error before list was i gone entry entry_at
        (λ j lj. past_for was count limit (error (entry j)) limited (counted.same (entry j) (entry_asked j lj)) (counted.low (entry j) (entry_asked j lj)) (beyond j lj)) is
