use Rattle.std.proofs.Common.{◌≡◌, map, take}
use Rattle.std.specs.List.{concat}
use Rattle.map_canvas.specs.Canvases.{mark_of}
use Rattle.map_canvas.proofs.shown.mark_bytes.Given as goal

abbrev pub invariant-loop-source : goal.invariant-loop-source
invariant-loop-source l = l.bytes.items ≡ concat (map (mark_of l.k) (take l.source-index l.sources))
