use Rattle.std.proofs.Common.{◌∙◌, ap, sym, subst}
use Rattle.cells.specs.declared.place.Size.{Size}
use Rattle.cells.specs.Boxes.{HasCells}
use Rattle.boxes.specs.Rooms.{HasRoom}
use Rattle.map_canvas.specs.Maps.{SourceMap}
use Rattle.patch_picks.specs.Modes.{window}
use Rattle.refine_seams.proofs.Rounding.{small_cells}
use Rattle.refine_seams.proofs.rounds.round_windows.Goals as goal

pub make-requires-clause-window : goal.make-requires-clause-window
make-requires-clause-window c =
    let output = c.size.ensures.size ∙ ap (λ (m : SourceMap). m.size) c.map.ensures.map in
    let size = c.args.canvas.now.map.size in
    let room = subst (λ size. HasRoom size c.window_size-window.result) output c.window_size-window.ensures.room in
    record {
      some = c.window_size-window.ensures.some c.requires.side (subst HasCells (sym output) (small_cells size c.map.ensures.canvas.map.small));
      w = room.w;
      h = room.h;
      f = room.f;
    }

pub returns : goal.returns
returns c = record {
  output = c.in_ok-table.ensures.sizes.0;
  window = c.in_ok-table.ensures.sizes.1 ∙ c.window_size-window.ensures.size
      ∙ ap (λ (size : Size). window c.args.side size c.args.sample.now) (c.size.ensures.size ∙ ap (λ (m : SourceMap). m.size) c.map.ensures.map);
  right = c.in_ok-table.ensures.right;
}
