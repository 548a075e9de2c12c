-- The placements of a box have that box.
use Rattle.std.proofs.Common.{◌≡◌, ◌+◌, refl}
use Rattle.std.proofs.lemmas.List.Elements.{All-contains, All-map}
use Rattle.std.specs.Prelude.{All, Contains, IfOk, Result, Ok, Err}
use Rattle.std.specs.declared.alloc.AllocError.{AllocError}
use Rattle.cells.specs.declared.place.Box3.{Box3}
use Rattle.cells.specs.Cells.{Cells, sizes_of}
use Rattle.map_canvas.specs.declared.canvas.Placement.{Placement}
use Rattle.map_canvas.specs.Choices.{laid_from}
use Rattle.patch_picks.specs.Lists.{fit_list, from_part, part_lists, room}
use Rattle.patch_picks.proofs.Fitting.{all_over}
use Rattle.patch_picks.proofs.PartLists.{all_of_parts}

pub all_have : (rect : Box3) (sample : Cells) → All (λ placement. placement.rect ≡ rect) (part_lists (fit_list rect) sample)
all_have rect sample =
    let Has : Placement → Type 0 = λ placement. placement.rect ≡ rect in
    all_of_parts Has (fit_list rect) (sizes_of sample) (sizes_of sample) 1
    (λ n part at. All-map Has (from_part (sizes_of sample) (1 + n)) (fit_list rect part)
    (all_over (λ placement. Has (from_part (sizes_of sample) (1 + n) placement)) (laid_from rect) (room part rect.size) (λ i lt. refl)))

pub listed_has_box : (rect : Box3) (sample : Cells) (placement : Placement) → Contains (part_lists (fit_list rect) sample) placement → placement.rect ≡ rect
listed_has_box rect sample placement has = All-contains (λ p. p.rect ≡ rect) (part_lists (fit_list rect) sample) placement (all_have rect sample) has

-- and so has the picked one
pub picked_has_box : (rect : Box3) (sample : Cells) (answer : Result Placement AllocError) → IfOk answer (Contains (part_lists (fit_list rect) sample)) → IfOk answer (λ placement. placement.rect ≡ rect)
picked_has_box rect sample (Ok placement) has = listed_has_box rect sample placement has
picked_has_box rect sample (Err error) has = tt
