-- There is a next placement for each first unfilled cell, and where sizes say its box, it has that box.
use Rattle.std.proofs.Common.{◌≡◌, ℕ, ◌<◌, [], ◌∷◌, refl, ◌∙◌}
use Rattle.std.proofs.lemmas.Option.{none-some, same_Some}
use Rattle.std.specs.Prelude.{Some, All, slice_get}
use Rattle.cells.specs.declared.place.Box3.{Box3}
use Rattle.cells.specs.Cells.{Cells, IsVolume, sizes_of}
use Rattle.cells.specs.Places.{spot}
use Rattle.map_canvas.specs.declared.canvas.Placement.{Placement}
use Rattle.map_canvas.specs.Choices.{laid_from}
use Rattle.map_canvas.specs.Maps.{SourceMap, first_unfilled}
use Rattle.match_error.specs.Errors.{error_of}
use Rattle.patch_picks.specs.declared.mode.Mode.{Mode}
use Rattle.patch_picks.specs.declared.mode.Mode.TheVariants.{Grid, Random, Whole, Sub}
use Rattle.patch_picks.specs.Draws.{DrawState}
use Rattle.patch_picks.specs.Fitting.{FitsAndCovers, HasPatch}
use Rattle.patch_picks.specs.Lists.{fit_list, from_part, part_lists, room}
use Rattle.patch_picks.specs.Modes.{candidates, grid_placement, patch_box}
use Rattle.patch_picks.specs.Steps.{IsNextAt}
use Rattle.patch_picks.proofs.AnyPick.{some_pick}
use Rattle.patch_picks.proofs.Counting.{All-each, All-slice_get, first_at}
use Rattle.patch_picks.proofs.Fitting.{all_over, fit_at, over_parts, some_there}
use Rattle.grown.specs.BoxLimit.{box_for}

-- the next placement for a cell, and its box
pub record NextInBox (mode : Mode) (m : SourceMap) (sample : Cells) (draws : DrawState) (rect : Box3) : Type 0 where
  pub placement : Placement
  pub next : IsNextAt mode m sample draws placement
  pub box : placement.rect ≡ rect

-- all candidates of a box have it
all_there : (sample : Cells) (rect : Box3) → All (λ placement. placement.rect ≡ rect) (part_lists (fit_list rect) sample)
all_there sample rect =
    over_parts (λ placement. placement.rect ≡ rect) (fit_list rect) sample
    (λ number n part e at. all_over (λ placement. (from_part (sizes_of sample) number placement).rect ≡ rect) (laid_from rect) (room part rect.size) (λ i lt. refl))

pub next_in_box : (mode : Mode) (m : SourceMap) (sample : Cells) (draws : DrawState) → IsVolume sample → HasPatch mode → (x y f : ℕ) → x < m.size.w → y < m.size.h → f < m.size.f → first_unfilled m ≡ Some (spot x y f)
    → (rect : Box3) → box_for mode m.size sample (spot x y f) ≡ Some rect → NextInBox mode m sample draws rect
next_in_box (Grid overlap) m sample draws volume patch x y f lx ly lf first rect e =
    let q = spot x y f in
    let placement = grid_placement m.size sample.size overlap q in
    record {
      placement = placement;
      next = record {
        q = q;
        first = first;
        chosen = refl;
        fits = All-slice_get (FitsAndCovers m.size sample q) (placement ∷ []) 0 placement (fit_at (Grid overlap) m.size sample x y f volume patch lx ly lf) refl;
      };
      box = same_Some placement.rect rect e;
    }
next_in_box Random m sample draws volume patch x y f lx ly lf first rect e = absurd (none-some rect e)
next_in_box (Whole tol) m sample draws volume patch x y f lx ly lf first rect e = absurd (none-some rect e)
next_in_box (Sub side overlap tol) m sample draws volume patch x y f lx ly lf first rect e =
    let q = spot x y f in
    let inner = patch_box m.size sample side overlap q in
    let list = candidates (Sub side overlap tol) m.size sample q in
    let fit = fit_at (Sub side overlap tol) m.size sample x y f volume patch lx ly lf in
    let each : All (λ placement. FitsAndCovers m.size sample q placement × (placement.rect ≡ inner)) list =
    All-each (λ placement. FitsAndCovers m.size sample q placement × (placement.rect ≡ inner)) list
    (λ i placement is. (All-slice_get (FitsAndCovers m.size sample q) list i placement fit is, All-slice_get (λ placement. placement.rect ≡ inner) list i placement (all_there sample inner) is)) in
    let some = first_at list (some_there (Sub side overlap tol) m.size sample q volume) in
    let pick = some_pick (error_of m sample) tol list draws (λ placement. FitsAndCovers m.size sample q placement × (placement.rect ≡ inner)) each some.0 some.1 in
    record {
      placement = pick.picked;
      next = record { q = q; first = first; chosen = pick.is; fits = pick.holds.0 };
      box = pick.holds.1 ∙ same_Some inner rect e;
    }
