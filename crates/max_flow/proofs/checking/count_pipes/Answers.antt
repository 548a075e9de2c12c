use Rattle.std.proofs.lemmas.Grind.{common_steps}
use Rattle.std.proofs.Common.{◌<◌, ◌-◌, arith, length}
use Rattle.max_flow.specs.Networks.{no_pipe}
use Rattle.max_flow.proofs.Counting.{AreCountedFrom_none, AreCountedFrom_more, AreCountedFrom_all, AreWithin_none, AreWithin_more, AreWithin_larger}
use Rattle.max_flow.proofs.checking.count_pipes.Goals as goal

pub pipes-init : goal.pipes-init
pipes-init c =
    (AreCountedFrom_none _ _ _ _ (omega (arith, c.requires.sized)) c.requires.clear, omega arith, AreWithin_larger 0 _ _ (AreWithin_none _ c.requires.clear) (omega arith))

pub pipes-preserved : goal.pipes-preserved
pipes-preserved c =
    let left_in : c.pipes.left - 1 < length c.args.pipes.now = omega (arith, c.requires.sized, c.pipes.invariant.1) in (
      AreCountedFrom_more _ _ _ (omega (arith, c.requires.sized)) c.requires.sized _ _ _ (omega arith) c.pipes.invariant.0 c.if-not-count_pipe.ensures,
      omega arith,
      AreWithin_more _ c.args.nodes _ _ _ _ _ (c.requires.pipes _ no_pipe left_in) c.pipes.invariant.2 c.if-not-count_pipe.ensures (omega (arith, c.pipes.invariant.1)),
    )

pub returns : goal.returns
returns c = AreCountedFrom_all _ _ _ _ c.requires.sized c.pipes.invariant.0 (omega arith)

pub count_pipe-requires-clause-room : goal.count_pipe-requires-clause-room
count_pipe-requires-clause-room c =
    AreWithin_larger _ _ _ c.pipes.invariant.2 (omega (arith, c.requires.limit, c.requires.sized))

pub count_pipe-requires-clause-pipe : goal.count_pipe-requires-clause-pipe
count_pipe-requires-clause-pipe c = grind (arith, common_steps)
