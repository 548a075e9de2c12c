use Rattle.std.proofs.Common.{◌≡◌, ◌++◌, replicate}
use Rattle.map_canvas.proofs.shown.add_times.Given as goal

abbrev pub invariant-loop : goal.invariant-loop
invariant-loop l = l.bytes.items ≡ l.initial.bytes.items ++ replicate l.counter l.byte
