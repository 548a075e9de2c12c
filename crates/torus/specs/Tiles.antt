-- A reader has to trust this file. Boxes that may pass the edge of a wrapped axis, which of their
-- cells are kept, which choices are admissible, and what a choice leaves. (Own, after Kwatra et al.
-- 2003.)
use Rattle.std.specs.Prelude.{◌≡◌, ◌<◌, ◌+◌, ◌⊎◌, ◌↔◌, ℕ, ℤ, pos, negsuc, ◌+ℤ◌, ◌≤ℤ◌, ◌<ℤ◌, nat_lt, Bool, true, false, List, Option, Some, None, if◌then◌else◌}
use Rattle.cells.specs.declared.place.At.{At}
use Rattle.cells.specs.declared.place.Axis.{Axis}
use Rattle.cells.specs.declared.place.Box3.{Box3}
use Rattle.cells.specs.declared.place.Size.{Size}
use Rattle.cells.specs.Neighbours.{unit_step}
use Rattle.cells.specs.Places.{IsInside, index_in, minus, plus, spot}
use Rattle.map_canvas.specs.declared.canvas.Placement.{Placement}
use Rattle.map_canvas.specs.Maps.{SourceMap, IsFilled, map_at}
use Rattle.map_canvas.specs.Choices.{chosen}
use Rattle.boxes.specs.Pairs.{one_if}
use Rattle.costs.specs.Lawful.{CostsLeast, IsLawful, IsLeastChoice, total_after}
use Rattle.job_words.specs.declared.tile.Wrap.{Wrap}
use Rattle.torus.specs.Wraps.{around, torus_total_of}

-- a run of cells may pass the edge of a wrapped axis, on which at least one cell is left out of
-- it
abbrev pub AxisTakes : Bool → ℕ → ℤ → ℕ → Type 0
AxisTakes true n corner len = (pos 0 ≤ℤ corner) × (corner <ℤ pos n) × (len < n)
AxisTakes false n corner len = (pos 0 ≤ℤ corner) × ((corner +ℤ pos len) ≤ℤ pos n)

pub record Takes (wrap : Wrap) (size : Size) (rect : Box3) : Type 0 where
  pub x : AxisTakes wrap.x size.w rect.corner.x rect.size.w
  pub y : AxisTakes wrap.y size.h rect.corner.y rect.size.h
  pub f : AxisTakes wrap.f size.f rect.corner.f rect.size.f

-- how far a cell of the output is from the box's corner, forwards around wrapped axes
abbrev pub step_around : Wrap → Size → Box3 → At → At
step_around wrap size rect p = around wrap size (minus p rect.corner)

-- the cell is one of the box's
pub record IsInTile (wrap : Wrap) (size : Size) (rect : Box3) (p : At) : Type 0 where
  pub inside : IsInside size p
  pub step : IsInside rect.size (step_around wrap size rect p)

-- one step leads from the first of two cells of the output to the other
abbrev pub Follows : Wrap → Size → Axis → At → At → Type 0
Follows wrap size axis p q = q ≡ around wrap size (plus p (unit_step axis))

pub record AreNeighboursAround (wrap : Wrap) (size : Size) (p q : At) : Type 0 where
  pub axis : Axis
  pub next : Follows wrap size axis p q ⊎ Follows wrap size axis q p

-- a filled cell of the box that has a filled neighbour outside it, across the edge too
pub record IsKeptAround (m : SourceMap) (wrap : Wrap) (rect : Box3) (p : At) : Type 0 where
  pub inside : IsInTile wrap m.size rect p
  pub filled : IsFilled m p
  pub other : At
  pub beside : AreNeighboursAround wrap m.size p other
  pub other_filled : IsFilled m other
  pub outside : IsInTile wrap m.size rect other → ⊥

-- what a choice says of a cell of the output
abbrev pub is_new_around : Wrap → Size → Placement → List Bool → At → Bool
is_new_around wrap size placement choice p =
    chosen choice (index_in placement.rect.size (step_around wrap size placement.rect p))

-- the source of a cell of the output after a choice
abbrev pub after_around : SourceMap → Wrap → Placement → List Bool → At → Option At
after_around m wrap placement choice p =
    if is_new_around wrap m.size placement choice p
    then Some (plus placement.from (step_around wrap m.size placement.rect p))
    else map_at m p

-- each unfilled cell of the box is new, and no kept cell
pub record IsLawfulAround (m : SourceMap) (wrap : Wrap) (placement : Placement)
    (choice : List Bool) : Type 0 where
  pub unfilled : (p : At) → IsInTile wrap m.size placement.rect p → map_at m p ≡ None
      → is_new_around wrap m.size placement choice p ≡ true
  pub kept : (p : At) → IsKeptAround m wrap placement.rect p
      → is_new_around wrap m.size placement choice p ≡ false

-- the torus total after a choice
abbrev pub torus_total_after : (At → At → ℕ) → SourceMap → Wrap → Placement → List Bool → ℕ
torus_total_after d m wrap placement choice =
    torus_total_of d wrap m.size (after_around m wrap placement choice)

-- THE SMALL CANVAS: the cells of the box, and one more on each side where the output has one

abbrev pub has_before : Bool → ℤ → Bool
has_before true corner = true
has_before false (pos c) = nat_lt 0 c
has_before false (negsuc c) = false

abbrev pub has_after : Bool → ℕ → ℤ → ℕ → Bool
has_after true n corner len = true
has_after false n (pos c) len = nat_lt (c + len) n
has_after false n (negsuc c) len = false

abbrev pub small_axis : Bool → ℕ → ℤ → ℕ → ℕ
small_axis wrapped n corner len =
    one_if (has_before wrapped corner) + (len + one_if (has_after wrapped n corner len))

abbrev pub small_size : Wrap → Size → Box3 → Size
small_size wrap size rect = record {
  w = small_axis wrap.x size.w rect.corner.x rect.size.w;
  h = small_axis wrap.y size.h rect.corner.y rect.size.h;
  f = small_axis wrap.f size.f rect.corner.f rect.size.f;
}

-- the box in it
abbrev pub small_box : Wrap → Box3 → Box3
small_box wrap rect = record {
  corner = spot (one_if (has_before wrap.x rect.corner.x))
      (one_if (has_before wrap.y rect.corner.y)) (one_if (has_before wrap.f rect.corner.f));
  size = rect.size;
}

-- the cell of the output that one of its cells stands for
abbrev pub output_cell : Wrap → Size → Box3 → At → At
output_cell wrap size rect p =
    around wrap size (plus rect.corner (minus p (small_box wrap rect).corner))

-- the map of the small canvas
pub record IsSmallMap (m : SourceMap) (wrap : Wrap) (rect : Box3) (small : SourceMap) : Type 0 where
  pub size : small.size ≡ small_size wrap m.size rect
  pub sources : (p : At) → IsInside small.size p
      → map_at small p ≡ map_at m (output_cell wrap m.size rect p)

-- the placement on it
abbrev pub small_placement : Wrap → Placement → Placement
small_placement wrap placement =
    record { rect = small_box wrap placement.rect; from = placement.from }

-- of two admissible choices, the totals of the small canvas and of the torus differ by the same
-- number
abbrev pub DifferAlike : (At → At → ℕ) → SourceMap → Wrap → Placement → SourceMap → Type 0
DifferAlike d m wrap placement small = (choice other : List Bool)
    → IsLawfulAround m wrap placement choice → IsLawfulAround m wrap placement other
    → torus_total_after d m wrap placement choice
    + total_after d small (small_placement wrap placement) other
    ≡ torus_total_after d m wrap placement other
    + total_after d small (small_placement wrap placement) choice

-- a choice is admissible in the small canvas exactly where it is admissible on the torus
abbrev pub LawfulAlike : SourceMap → Wrap → Placement → SourceMap → Type 0
LawfulAlike m wrap placement small = (choice : List Bool)
    → IsLawful small (small_placement wrap placement) choice
    ↔ IsLawfulAround m wrap placement choice

-- an admissible choice, such that no admissible choice leaves a smaller torus total
abbrev pub IsLeastAround :
    (At → At → ℕ) → SourceMap → Wrap → Placement → List Bool → Type 0
IsLeastAround d m wrap placement =
    CostsLeast (IsLawfulAround m wrap placement) (torus_total_after d m wrap placement)

-- so what is least there is least here
abbrev pub LeastAlike : (At → At → ℕ) → SourceMap → Wrap → Placement → SourceMap → Type 0
LeastAlike d m wrap placement small = (choice : List Bool)
    → IsLeastChoice d small (small_placement wrap placement) choice
    ↔ IsLeastAround d m wrap placement choice

-- the map after a choice, seen cell by cell
pub record IsAfterAround (m : SourceMap) (wrap : Wrap) (placement : Placement)
    (choice : List Bool) (after : SourceMap) : Type 0 where
  pub size : after.size ≡ m.size
  pub sources : (p : At) → IsInside m.size p
      → map_at after p ≡ after_around m wrap placement choice p
