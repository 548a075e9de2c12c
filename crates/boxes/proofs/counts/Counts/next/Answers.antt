use Rattle.std.proofs.Common.{arith}
use Rattle.boxes.proofs.Indices.{frame_next}
use Rattle.boxes.proofs.counts.Counts.next.Goals as goal

pub returns-then-self-size : goal.returns-then-self-size
returns-then-self-size c = λ i here. record { column = omega arith; row = here.row; index = omega (arith, here.index) }

pub returns-then-self-size-2 : goal.returns-then-self-size-2
returns-then-self-size-2 c = λ i here. record { column = omega (arith, here.column); row = omega arith; index = omega (arith, here.index) }

pub returns-else-self-size-2 : goal.returns-else-self-size-2
returns-else-self-size-2 c = λ i here.
    let size = c.args.size in
    let at = c.args.self in
    record {
      column = omega (arith, here.column);
      row = omega (arith, here.row);
      index = omega (arith, frame_next size at.x at.y at.f here.column here.row c.if-self-size.false c.if-self-size-2.false, here.index);
    }
