use Rattle.std.proofs.Common.{◌≡◌, take}
use Rattle.map_canvas.specs.Canvases.{IsCanvas, StandsOver}
use Rattle.cut_replay.specs.Replay.{EachStands, left_by}
use Rattle.cut_replay.proofs.records.replay_each.Given as goal

abbrev pub invariant-loop-number : goal.invariant-loop-number
invariant-loop-number l = record {
  stand : EachStands l.sample l.fn.canvas.map (take l.number l.cuts);
  left : l.canvas.map ≡ left_by l.fn.canvas.map (take l.number l.cuts);
  over : StandsOver l.canvas l.sample;
  canvas : IsCanvas l.canvas;
}
