use Rattle.std.proofs.Common.{◌≤◌, ◌-◌, length}
use Rattle.std.specs.Prelude.{is_none}
use Rattle.std.specs.List.{position_or_len}
use Rattle.map_canvas.proofs.map.filled_from.Given as goal

abbrev pub invariant-filled : goal.invariant-filled
invariant-filled l = l.reached ≤ position_or_len is_none l.sources

abbrev pub decreases-filled : goal.decreases-filled
decreases-filled l = length l.sources - l.reached
