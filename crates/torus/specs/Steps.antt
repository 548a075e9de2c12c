-- A reader has to trust this file. Steps of tiling: which candidate is picked, which choice is
-- taken, and what it leaves. (Kwatra et al. 2003; the order of steps and the draws are own.)
use Rattle.std.specs.Prelude.{◌≡◌, ◌≤◌, ℕ, Bool, List, length, map, Option, Some, None, IsSome, Result, Ok, Err}
use Rattle.std.specs.declared.alloc.AllocError.{AllocError}
use Rattle.cells.specs.declared.place.At.{At}
use Rattle.cells.specs.declared.place.Box3.{Box3}
use Rattle.cells.specs.Boxes.{HasCells, cell_in}
use Rattle.cells.specs.Cells.{Cells, Holds}
use Rattle.cells.specs.Distances.{distance}
use Rattle.cells.specs.Places.{cell_count, places, plus, spot}
use Rattle.boxes.specs.Sums.{sum_box}
use Rattle.map_canvas.specs.declared.canvas.Placement.{Placement}
use Rattle.map_canvas.specs.Canvases.{CanvasState}
use Rattle.map_canvas.specs.CellErrors.{cell_error}
use Rattle.map_canvas.specs.Maps.{SourceMap, first_unfilled, map_at}
use Rattle.match_error.specs.declared.error.Error.{Error}
use Rattle.match_error.specs.Errors.{one_filled}
use Rattle.patch_picks.specs.Draws.{DrawState}
use Rattle.patch_picks.specs.Lists.{fit_list, part_lists}
use Rattle.patch_picks.specs.Picks.{IsPick}
use Rattle.patch_picks.specs.Steps.{after_draw}
use Rattle.least_choice.specs.Fewest.{old_count}
use Rattle.job_words.specs.declared.tile.TilePlan.{TilePlan}
use Rattle.job_words.specs.declared.tile.Wrap.{Wrap}
use Rattle.torus.specs.Boxes.{tile_box}
use Rattle.torus.specs.Tiles.{IsInTile, IsLeastAround, Takes, after_around, is_new_around}
use Rattle.torus.specs.Wraps.{map_around}

-- the source of the cell of a box at three counts from its corner, which may be past the edge
abbrev pub source_around : SourceMap → Wrap → Box3 → ℕ → ℕ → ℕ → Option At
source_around m wrap rect x y f = map_around wrap m.size (map_at m) (cell_in rect x y f)

-- the overlap error of a placement: over the filled cells of its box, the squared differences
-- from the new ones, and how many they are
abbrev pub tile_error : SourceMap → Wrap → Cells → Placement → Error
tile_error m wrap sample placement = record {
  sum = sum_box placement.rect.size (λ x y f.
      cell_error sample (source_around m wrap placement.rect x y f)
      (plus placement.from (spot x y f)));
  count = sum_box placement.rect.size (λ x y f.
      one_filled (source_around m wrap placement.rect x y f));
}

-- a pick for a box among all places of the sample where it fits
abbrev pub IsTilePick : TilePlan → SourceMap → Cells → DrawState → Box3 → Placement → Type 0
IsTilePick plan m sample draws rect placement =
    IsPick (tile_error m plan.wrap sample) (Some plan.tol) (part_lists (fit_list rect) sample)
    draws placement

-- the next placement: its box is that of the first unfilled cell q, which it has
pub record IsNextTile (plan : TilePlan) (m : SourceMap) (sample : Cells) (draws : DrawState)
    (placement : Placement) : Type 0 where
  pub q : At
  pub first : first_unfilled m ≡ Some q
  pub box : placement.rect ≡ tile_box plan m.size sample.size q
  pub picked : IsTilePick plan m sample draws placement.rect placement
  pub takes : Takes plan.wrap m.size placement.rect
  pub covers : IsInTile plan.wrap m.size placement.rect q
  pub some : HasCells placement.rect.size
  pub sources : Holds sample placement.from placement.rect.size

-- two choices say the same of each cell of the box
abbrev pub AreSameAround : SourceMap → Wrap → Placement → List Bool → List Bool → Type 0
AreSameAround m wrap placement choice other =
    (p : At) → IsInTile wrap m.size placement.rect p
    → is_new_around wrap m.size placement choice p ≡ is_new_around wrap m.size placement other p

-- least of the admissible choices; of the least ones it has the fewest old cells, and no other has
-- as few
pub record IsFewestAround (d : At → At → ℕ) (m : SourceMap) (wrap : Wrap) (placement : Placement)
    (choice : List Bool) : Type 0 where
  pub least : IsLeastAround d m wrap placement choice
  pub fewest : (other : List Bool) → IsLeastAround d m wrap placement other
      → old_count placement choice ≤ old_count placement other
  pub only : (other : List Bool) → IsLeastAround d m wrap placement other
      → old_count placement other ≤ old_count placement choice
      → AreSameAround m wrap placement choice other

-- the map after a choice
abbrev pub map_after_around : SourceMap → Wrap → Placement → List Bool → SourceMap
map_after_around m wrap placement choice = record {
  size = m.size;
  sources = map (after_around m wrap placement choice) (places m.size);
}

-- a map, and the next draw
pub record Tiling : Type 0 where
  pub map : SourceMap
  pub draws : DrawState

abbrev pub tiling_of : CanvasState → DrawState → Tiling
tiling_of canvas draws = record { map = canvas.map; draws = draws }

-- a placement, and a choice over its box
pub record TileStep : Type 0 where
  pub placement : Placement
  pub choice : List Bool

-- a step: the next placement, the least choice with the fewest old cells, and the map after it
pub record TilesBy (plan : TilePlan) (sample : Cells) (before : Tiling) (step : TileStep)
    (after : Tiling) : Type 0 where
  pub next : IsNextTile plan before.map sample before.draws step.placement
  pub choice_count : length step.choice ≡ cell_count step.placement.rect.size
  pub fewest : IsFewestAround (distance sample) before.map plan.wrap step.placement step.choice
  pub map : after.map ≡ map_after_around before.map plan.wrap step.placement step.choice
  pub draws : after.draws ≡ after_draw before.draws

-- what a step answers: None where every cell is filled. Then, and where there is no memory, all
-- is as before
abbrev pub Tiles : TilePlan → Cells → Tiling → Tiling → Result (Option Placement) AllocError
    → Type 0
Tiles plan sample before after (Ok None) = (first_unfilled before.map ≡ None) × (after ≡ before)
Tiles plan sample before after (Ok (Some placement)) =
    (choice : List Bool)
    × TilesBy plan sample before (record { placement = placement; choice = choice }) after
Tiles plan sample before after (Err error) =
    IsSome (first_unfilled before.map) × (after ≡ before)

-- there is one step, and it leaves one map and one next draw
abbrev pub ThereIsOneTile : Type 0
ThereIsOneTile =
    (plan : TilePlan) (sample : Cells) (before after later : Tiling) (one other : TileStep)
    → TilesBy plan sample before one after → TilesBy plan sample before other later
    → (one ≡ other) × (after ≡ later)
