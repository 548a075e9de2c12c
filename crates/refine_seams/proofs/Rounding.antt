-- The worst window has places in the sample.
use Rattle.std.proofs.Common.{◌≡◌, ℕ, ◌<◌, length, refl, ap, sym, ◌∙◌, subst}
use Rattle.std.specs.Prelude.{All}
use Rattle.cells.specs.declared.place.At.{At}
use Rattle.cells.specs.declared.place.Box3.{Box3}
use Rattle.cells.specs.declared.place.Size.{Size}
use Rattle.cells.specs.Boxes.{HasCells, HoldsBox}
use Rattle.cells.specs.Cells.{Cells}
use Rattle.cells.specs.Distances.{distance}
use Rattle.cells.specs.Places.{IsSmall}
use Rattle.map_canvas.specs.Choices.{Fits}
use Rattle.map_canvas.specs.Maps.{SourceMap, map_at}
use Rattle.cost_windows.specs.Tables.{WindowSums}
use Rattle.cost_windows.specs.Windows.{IsWorst, window_at}
use Rattle.patch_picks.specs.Fitting.{HasRoomInEach}
use Rattle.patch_picks.specs.Lists.{fit_list, part_lists}
use Rattle.patch_picks.specs.Modes.{window}
use Rattle.patch_picks.proofs.BoxLists.{all_in_room, some_room}
use Rattle.refine_seams.specs.Rounds.{SumsWindowsOf}
use Rattle.grown.specs.Rounds.{IsWorstAt, IsWorstBox}

-- a size of an output has cells
pub small_cells : (size : Size) → IsSmall size → HasCells size
small_cells size small = record { w = small.axes.w.0; h = small.axes.h.0; f = small.axes.f.0 }

-- the list of the worst window has an entry, and each of its entries fits
pub some_entry : (sample : Cells) (rect : Box3) → HasRoomInEach sample rect.size → 0 < length (part_lists (fit_list rect) sample)
some_entry sample rect room = some_room sample rect 1 sample.size refl (room 1 sample.size refl)

pub each_fits : (side : ℕ) (m : SourceMap) (sample : Cells) (rect : Box3) → IsWorstBox side m sample rect → All (Fits m.size sample) (part_lists (fit_list rect) sample)
each_fits side m sample rect is = all_in_room m.size sample rect is.cells (subst (HoldsBox m.size rect.corner) (sym is.size) is.worst.worst.inside)

-- the worst window of a table
pub worst_of_table : (side : ℕ) (m : SourceMap) (sample : Cells) (table : WindowSums) (corner : At) (sum : ℕ) → SumsWindowsOf side m sample table
    → IsWorst (distance sample) table.output (map_at m) table.window corner → sum ≡ window_at (distance sample) table.window (map_at m) corner → IsWorstAt side m sample corner sum
worst_of_table side m sample table corner sum is worst sums = record {
  worst = subst (λ size. IsWorst (distance sample) size (map_at m) (window side m.size sample) corner) is.output
      (subst (λ size. IsWorst (distance sample) table.output (map_at m) size corner) is.window worst);
  is_sum = sums ∙ ap (λ size. window_at (distance sample) size (map_at m) corner) is.window;
}
