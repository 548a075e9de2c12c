-- A table that was right before a choice is right beside the choice's box after it.
use Rattle.std.proofs.Common.{◌≡◌, ℕ, refl, ap, sym, ◌∙◌}
use Rattle.std.specs.Prelude.{Bool, true, false, List, Option, None, if◌then◌else◌, is_some}
use Rattle.cells.specs.declared.place.At.{At}
use Rattle.cells.specs.declared.place.Box3.{Box3}
use Rattle.cells.specs.Boxes.{IsInBox}
use Rattle.cells.specs.Places.{plus, spot}
use Rattle.boxes.specs.Sums.{sum_box}
use Rattle.map_canvas.specs.declared.canvas.Placement.{Placement}
use Rattle.map_canvas.specs.Choices.{IsAfter, after_at, box_index, chosen, new_source}
use Rattle.map_canvas.specs.Maps.{SourceMap, map_at}
use Rattle.std.specs.Prelude.{Some}
use Rattle.costs.specs.Costs.{map_within, pairs_at, window_of}
use Rattle.boxes.specs.Pairs.{in_box}
use Rattle.cost_windows.specs.Tables.{IsRight, IsRightBeside, SameBeside, WindowSums}
use Rattle.costs.proofs.Wholes.{no_index}

-- outside its box a choice changes nothing
outside_same : (before : SourceMap) (placement : Placement) (choice : List Bool) (p : At) → (IsInBox placement.rect p → ⊥) → after_at before placement choice p ≡ map_at before p
outside_same before placement choice p out = by (is_some (box_index placement p)) refl
  where
    by : (b : Bool) → is_some (box_index placement p) ≡ b → after_at before placement choice p ≡ map_at before p
    by true is = absurd (out is)
    by false is = ap (λ index. if chosen choice index then Some (new_source placement p) else map_at before p) (no_index (box_index placement p) is)

-- two maps that agree in a window have one sum there
window_same : (d : At → At → ℕ) (rect : Box3) (m n : At → Option At) → ((p : At) → IsInBox rect p → m p ≡ n p) → window_of d rect m ≡ window_of d rect n
window_same d rect m n same = λ k. sum_box rect.size (λ x y f. pairs_at d (λ p. each p k) (plus rect.corner (spot x y f)))
  where
    each : (p : At) → map_within rect m p ≡ map_within rect n p
    each p = by (in_box rect p) refl
      where
        by : (b : Bool) → in_box rect p ≡ b → map_within rect m p ≡ map_within rect n p
        by true is = ap (λ b. if b then m p else None) is ∙ same p is ∙ sym (ap (λ b. if b then n p else None) is)
        by false is = ap (λ b. if b then m p else None) is ∙ sym (ap (λ b. if b then n p else None) is)

-- a table that was right is right beside a box in which alone the map has changed
pub right_beside_change : (d : At → At → ℕ) (m n : At → Option At) (changed : Box3) (table : WindowSums)
    → SameBeside changed m n → IsRight d m table → IsRightBeside d n changed table
right_beside_change d m n changed table same is corner untouched i at =
    is corner i at
    ∙ window_same d (record { corner = corner; size = table.window }) m n
    (λ p inside. sym (same p (λ here. untouched (record { cell = p; in_window = inside; in_box = here }))))

pub right_beside_choice : (d : At → At → ℕ) (before after : SourceMap) (placement : Placement) (choice : List Bool) (table : WindowSums)
    → IsAfter before placement choice after → IsRight d (map_at before) table → IsRightBeside d (map_at after) placement.rect table
right_beside_choice d before after placement choice table is =
    right_beside_change d (map_at before) (map_at after) placement.rect table
    (λ p out. is.sources p ∙ outside_same before placement choice p out)
