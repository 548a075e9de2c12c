-- The candidates of each mode fit, and cover the first unfilled cell.
use Rattle.std.proofs.Common.{◌≡◌, ℕ, suc, ◌+◌, ◌-◌, ◌/◌, ◌%◌, ◌<◌, ◌≤◌, length, map, refl, sym, subst, arith}
use Rattle.std.proofs.Math.Nat.{mul-le-mul}
use Rattle.std.proofs.lemmas.Int.{ints}
use Rattle.std.proofs.lemmas.List.Elements.{All-cons, All-map, All-nil}
use Rattle.std.proofs.lemmas.Option.{get_or_from_slice_get}
use Rattle.std.specs.Prelude.{pos, ◌-ℤ◌, All, List, [], ◌∷◌, IsSome, Some, slice_get}
use Rattle.cells.specs.declared.place.At.{At}
use Rattle.cells.specs.declared.place.Size.{Size}
use Rattle.cells.specs.Boxes.{AxisHolds, HasCells, HoldsBox}
use Rattle.cells.specs.Cells.{Cells, Holds, IsVolume, sizes_of}
use Rattle.cells.specs.Places.{HasAxes, IsInside, cell_count, index_in, minus, place_of, spot, places}
use Rattle.cells.proofs.BoxLaws.{step_of}
use Rattle.cells.proofs.PartBoxes.{box_held}
use Rattle.cells.proofs.Raster.{has_index, index_of_spot, index_parts}
use Rattle.boxes.specs.declared.spans.Span.{Span}
use Rattle.boxes.specs.Spans.{SpanFits, grid_on}
use Rattle.boxes.proofs.SpanLaws.{laid_fits, grid_fits, patch_fits}
use Rattle.map_canvas.specs.declared.canvas.Placement.{Placement}
use Rattle.map_canvas.specs.Choices.{laid_from}
use Rattle.patch_picks.specs.declared.mode.Mode.{Mode}
use Rattle.patch_picks.specs.declared.mode.Mode.TheVariants.{Grid, Random, Whole, Sub}
use Rattle.patch_picks.specs.Lists.{first_half, fit_list, from_part, laid, laid_list, part_lists, placed, room}
use Rattle.patch_picks.specs.Modes.{candidates, least_part, patch_box}
use Rattle.patch_picks.specs.Fitting.{FitsAndCovers, HasPatch}
use Rattle.patch_picks.proofs.PartLists.{all_of_parts, some_of_part}
use Rattle.patch_picks.proofs.Stocks.{axes_at, least_some, least_within, part_held}
use Rattle.cells.proofs.PlaceLists.{count_over, entry_over}

pub axis_holds : (n a len : ℕ) → a + len ≤ n → AxisHolds n (pos a) len
axis_holds n a len le = record { from = omega (arith, ints); to = omega (arith, ints) }

pub same_place : (p q : At) → p.x ≡ q.x → p.y ≡ q.y → p.f ≡ q.f → p ≡ q
same_place p q x y f = λ i. record { x = x i; y = y i; f = f i }

back : (a b : ℕ) → b ≤ a → pos a -ℤ pos b ≡ pos (a - b)
back a b le = omega (arith, ints)

-- three spans that fit
record SpansFit (output part : Size) (x y f : ℕ) (along down over : Span) : Type 0 where
  w : SpanFits output.w part.w x along
  h : SpanFits output.h part.h y down
  l : SpanFits output.f part.f f over

-- make a placement that fits, where the volume has its cells
placed_over : (output : Size) (sample : Cells) (part : Size) (x y f : ℕ) (along down over : Span) (from : At) → SpansFit output part x y f along down over → (HoldsBox part (placed along down over).from (placed along down over).rect.size → Holds sample from (placed along down over).rect.size)
    → FitsAndCovers output sample (spot x y f) (record { rect = (placed along down over).rect; from = from })
placed_over output sample part x y f along down over from fit there = record {
  fits = record {
    some = record { w = fit.w.some; h = fit.h.some; f = fit.l.some };
    inside = record { x = axis_holds _ _ _ fit.w.inside; y = axis_holds _ _ _ fit.h.inside; f = axis_holds _ _ _ fit.l.inside };
    sources = there (record { x = axis_holds _ _ _ fit.w.sources; y = axis_holds _ _ _ fit.h.sources; f = axis_holds _ _ _ fit.l.sources });
  };
  covers =
      let made = placed along down over in
      let here : minus (spot x y f) made.rect.corner ≡ spot (x - along.corner) (y - down.corner) (f - over.corner) = same_place _ _ (back x along.corner fit.w.before) (back y down.corner fit.h.before) (back f over.corner fit.l.before) in
      let lx : x - along.corner < along.len = omega (arith, fit.w.before, fit.w.covers) in
      let ly : y - down.corner < down.len = omega (arith, fit.h.before, fit.h.covers) in
      let lf : f - over.corner < over.len = omega (arith, fit.l.before, fit.l.covers) in
      subst (IsInside made.rect.size) (sym here) (subst IsSome (sym (index_of_spot made.rect.size _ _ _ lx ly lf)) refl);
}

-- what holds of the entry of each place holds of all entries
pub all_over : {X : Type 0} (P : X → Type 0) (f : At → X) (size : Size) → ((i : ℕ) → i < cell_count size → P (f (place_of size i))) → All P (map f (places size))
all_over P f size each k d lt =
    let below : k < cell_count size = subst (λ n. k < n) (count_over f size) lt in
    subst P (sym (get_or_from_slice_get (map f (places size)) k (f (place_of size k)) d (entry_over f size k below))) (each k below)

one : {X : Type 0} (P : X → Type 0) (x : X) → P x → All P (x ∷ [])
one P x px = All-cons P x [] px (All-nil P)

-- of each part
pub over_parts : (P : Placement → Type 0) (list : Size → List Placement) (sample : Cells) → ((number n : ℕ) (part : Size) → number ≡ suc n → slice_get (sizes_of sample) n ≡ Some part → All (λ placement. P (from_part (sizes_of sample) number placement)) (list part)) → All P (part_lists list sample)
over_parts P list sample each =
    all_of_parts P list (sizes_of sample) (sizes_of sample) 1
    (λ n part at. All-map P (from_part (sizes_of sample) (1 + n)) (list part) (each (1 + n) n part (omega arith) at))

volume_axes : (sample : Cells) → IsVolume sample → (n : ℕ) (part : Size) → slice_get (sizes_of sample) n ≡ Some part → HasAxes part
volume_axes sample is n part at = axes_at (sizes_of sample) n part (is.parts.first, is.parts.others) at

laid_all : (output : Size) (sample : Cells) (x y f : ℕ) → IsVolume sample → x < output.w → y < output.h → f < output.f → All (FitsAndCovers output sample (spot x y f)) (part_lists (laid_list output (spot x y f)) sample)
laid_all output sample x y f is lx ly lf =
    over_parts (FitsAndCovers output sample (spot x y f)) (laid_list output (spot x y f)) sample (λ number n part e at.
    let axes = volume_axes sample is n part at in
    let half = first_half part in
    let some : HasCells half = record { w = omega (arith, axes.w); h = omega (arith, axes.h); f = omega (arith, axes.f) } in
    all_over (λ placement. FitsAndCovers output sample (spot x y f) (from_part (sizes_of sample) number placement)) (laid output part (spot x y f)) half
    (λ i lt. let step = step_of half i some lt in
    placed_over output sample part x y f _ _ _ _
    (record {
      w = laid_fits output.w part.w x (i % half.w) axes.w.0 lx step.x;
      h = laid_fits output.h part.h y (i / half.w % half.h) axes.h.0 ly step.y;
      l = laid_fits output.f part.f f (i / half.w / half.h) axes.f.0 lf step.f;
    })
    (λ box. part_held sample number n part _ _ e at box)))

patch_all : (side overlap : ℕ) (output : Size) (sample : Cells) (x y f : ℕ) → IsVolume sample → 1 ≤ side → x < output.w → y < output.h → f < output.f → All (FitsAndCovers output sample (spot x y f)) (candidates (Sub side overlap 0) output sample (spot x y f))
patch_all side overlap output sample x y f is has lx ly lf =
    let rect = patch_box output sample side overlap (spot x y f) in
    let first = is.parts.first in
    let least = least_part sample in
    let some_least = least_some sample.size sample.more (record { w = first.w.0; h = first.h.0; f = first.f.0 }) is.parts.others in
    over_parts (FitsAndCovers output sample (spot x y f)) (fit_list rect) sample (λ number n part e at.
    let room_for = least_within sample n part at in
    let free = room part rect.size in
    let some : HasCells free = record { w = omega (arith, room_for.w); h = omega (arith, room_for.h); f = omega (arith, room_for.f) } in
    all_over (λ placement. FitsAndCovers output sample (spot x y f) (from_part (sizes_of sample) number placement)) (laid_from rect) free
    (λ i lt. let step = step_of free i some lt in
    placed_over output sample part x y f _ _ _ _
    (record {
      w = patch_fits output.w least.w part.w side overlap x (i % free.w) has some_least.w room_for.w lx step.x;
      h = patch_fits output.h least.h part.h side overlap y (i / free.w % free.h) has some_least.h room_for.h ly step.y;
      l = patch_fits output.f least.f part.f side overlap f (i / free.w / free.h) has some_least.f room_for.f lf step.f;
    })
    (λ box. part_held sample number n part _ _ e at box)))

pub fit_at : (mode : Mode) (output : Size) (sample : Cells) (x y f : ℕ) → IsVolume sample → HasPatch mode → x < output.w → y < output.h → f < output.f → All (FitsAndCovers output sample (spot x y f)) (candidates mode output sample (spot x y f))
fit_at (Grid overlap) output sample x y f is has lx ly lf =
    let axes = is.parts.first in
    one (FitsAndCovers output sample (spot x y f)) (placed (grid_on output.w sample.size.w overlap x) (grid_on output.h sample.size.h overlap y) (grid_on output.f sample.size.f overlap f))
    (placed_over output sample sample.size x y f _ _ _ _
    (record {
      w = grid_fits output.w sample.size.w overlap x axes.w.0 lx;
      h = grid_fits output.h sample.size.h overlap y axes.h.0 ly;
      l = grid_fits output.f sample.size.f overlap f axes.f.0 lf;
    })
    (λ box. box_held sample _ _ box))
fit_at Random output sample x y f is has lx ly lf = laid_all output sample x y f is lx ly lf
fit_at (Whole tol) output sample x y f is has lx ly lf = laid_all output sample x y f is lx ly lf
fit_at (Sub side overlap tol) output sample x y f is has lx ly lf = patch_all side overlap output sample x y f is has lx ly lf

-- a cell of the output by its counts
counted : (P : At → Type 0) (output : Size) (q : At) → IsInside output q → ((x y f : ℕ) → x < output.w → y < output.h → f < output.f → P (spot x y f)) → P q
counted P output q inside each =
    let at = index_parts output q _ (has_index (index_in output q) 0 inside) in
    let here : q ≡ spot at.x at.y at.f = same_place _ _ at.x_on.is at.y_on.is at.f_on.is in
    subst P (sym here) (each at.x at.y at.f at.x_on.below at.y_on.below at.f_on.below)

all_fit : (mode : Mode) (output : Size) (sample : Cells) (q : At) → IsVolume sample → HasPatch mode → IsInside output q → All (FitsAndCovers output sample q) (candidates mode output sample q)
all_fit mode output sample q is has inside = counted (λ p. All (FitsAndCovers output sample p) (candidates mode output sample p)) output q inside (λ x y f lx ly lf. fit_at mode output sample x y f is has lx ly lf)

pub some_over : {X : Type 0} (f : At → X) (size : Size) → 1 ≤ size.w → 1 ≤ size.h → 1 ≤ size.f → 0 < length (map f (places size))
some_over f size w h l = omega (arith, count_over f size, mul-le-mul w (mul-le-mul h l))

some_laid : (output : Size) (sample : Cells) (q : At) → IsVolume sample → 0 < length (part_lists (laid_list output q) sample)
some_laid output sample q is =
    let axes = is.parts.first in
    some_of_part (laid_list output q) (sizes_of sample) 0 sample.size refl
    (some_over (laid output sample.size q) (first_half sample.size) (omega (arith, axes.w)) (omega (arith, axes.h)) (omega (arith, axes.f)))

pub some_there : (mode : Mode) (output : Size) (sample : Cells) (q : At) → IsVolume sample → 0 < length (candidates mode output sample q)
some_there (Grid overlap) output sample q is = omega arith
some_there Random output sample q is = some_laid output sample q is
some_there (Whole tol) output sample q is = some_laid output sample q is
some_there (Sub side overlap tol) output sample q is =
    let room_for = least_within sample 0 sample.size refl in
    let rect = patch_box output sample side overlap q in
    some_of_part (fit_list rect) (sizes_of sample) 0 sample.size refl
    (some_over (laid_from rect) (room sample.size rect.size) (omega (arith, room_for.w)) (omega (arith, room_for.h)) (omega (arith, room_for.f)))

-- the same of the candidates that stand for the list
pub all_listed : (mode : Mode) (output : Size) (sample : Cells) (q : At) (list : List Placement) → list ≡ candidates mode output sample q → IsVolume sample → HasPatch mode → IsInside output q → All (FitsAndCovers output sample q) list
all_listed mode output sample q list e is has inside = subst (All (FitsAndCovers output sample q)) (sym e) (all_fit mode output sample q is has inside)
