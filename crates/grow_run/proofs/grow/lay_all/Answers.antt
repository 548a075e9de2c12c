use Rattle.map_canvas.proofs.EmptyAndFull.{whole_is_full}
use Rattle.grow_run.proofs.grow.lay_all.Goals as goal

pub returns : goal.returns
returns c = (c.placing.invariant.work, whole_is_full c.placing.work.canvas.map c.placing.invariant.work.canvas.map (c.placing.invariant.full c.placing-test.false))
