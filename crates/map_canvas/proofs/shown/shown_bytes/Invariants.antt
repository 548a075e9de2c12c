use Rattle.std.proofs.Common.{◌≡◌, map, take}
use Rattle.std.specs.List.{concat}
use Rattle.map_canvas.specs.Shown.{shown_cell}
use Rattle.map_canvas.proofs.shown.shown_bytes.Given as goal

abbrev pub invariant-loop-source : goal.invariant-loop-source
invariant-loop-source l = l.bytes.items ≡ concat (map (shown_cell l.sample) (take l.source-index l.sources))
