use Rattle.std.proofs.lemmas.Grind.{common_steps}
use Rattle.std.proofs.Common.{◌≡◌, arith}
use Rattle.std.proofs.lemmas.Int.{to_z-of_z}
use Rattle.std.specs.Prelude.{pos, ◌+ℤ◌}
use Rattle.match_error.proofs.filled_rows.FilledRows.inset_of.Goals as goal

pub returns : goal.returns
returns c =
    let rect = c.args.rect.now in
    let outer = c.args.self.now.rect in
    let x : rect.corner.x ≡ outer.corner.x +ℤ pos c.in_ok-across.across = grind (arith, to_z-of_z, c.in_ok-across.ensures.step) in
    let y : rect.corner.y ≡ outer.corner.y +ℤ pos c.in_ok-down.down = grind (arith, to_z-of_z, c.in_ok-down.ensures.step) in
    let f : rect.corner.f ≡ outer.corner.f +ℤ pos c.in_ok-frames.frames = grind (arith, to_z-of_z, c.in_ok-frames.ensures.step) in
    record {
      x = x;
      y = y;
      f = f;
      columns_in = c.in_ok-across.ensures.room;
      rows_in = c.in_ok-down.ensures.room;
      frames_in = c.in_ok-frames.ensures.room;
    }

pub returns-in_err-frames : goal.returns-in_err-frames
returns-in_err-frames c = grind (arith, common_steps)

pub returns-in_err-down : goal.returns-in_err-down
returns-in_err-down c = grind (arith, common_steps)

pub returns-in_err-across : goal.returns-in_err-across
returns-in_err-across c = grind (arith, common_steps)
