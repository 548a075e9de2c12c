use Rattle.std.proofs.Common.{ℕ, ◌<◌}
use Rattle.cells.specs.Places.{place_of}
use Rattle.map_canvas.specs.Canvases.{IsRenderedAt}
use Rattle.map_canvas.proofs.rendered.is_rendered.Given as goal

abbrev pub invariant-loop-i : goal.invariant-loop-i
invariant-loop-i l = (k : ℕ) → k < l.i → IsRenderedAt l.map l.picture l.sample (place_of l.map.size k)
