use Rattle.std.proofs.lemmas.Grind.{common_steps}
use Rattle.std.proofs.Common.{arith}
use Rattle.offset_errors.proofs.Walks.{frame_before, row_before, some_frame}
use Rattle.offset_errors.proofs.lists.before.Goals as goal

pub returns-then-at-gt0-2 : goal.returns-then-at-gt0-2
returns-then-at-gt0-2 c = λ i here.
    let size = c.args.size in
    let at = c.args.at in
    record {
      column = omega (arith, c.requires.size.0);
      row = omega (arith, here.row);
      index = omega (arith, row_before size at.y at.f c.requires.size.0 c.if-at-gt0-2.true, here.index, c.if-at-gt0.false);
    }

pub returns-else-at-gt0-2 : goal.returns-else-at-gt0-2
returns-else-at-gt0-2 c = λ i here.
    let size = c.args.size in
    let at = c.args.at in
    let some = some_frame size at.x at.y at.f c.requires.later c.if-at-gt0.false c.if-at-gt0-2.false in
    record {
      column = omega (arith, c.requires.size.0);
      row = omega (arith, c.requires.size.1);
      index = omega (arith, frame_before size at.x at.y at.f c.requires.size.0 c.requires.size.1 some c.if-at-gt0.false c.if-at-gt0-2.false, here.index);
    }

pub overflow_sub-result-else-at-gt0-2-3 : goal.overflow_sub-result-else-at-gt0-2-3
overflow_sub-result-else-at-gt0-2-3 c = grind (arith, common_steps)
