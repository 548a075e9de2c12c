use Rattle.max_flow.proofs.Moving.{IsPushing}
use Rattle.max_flow.proofs.blocking.augment.Given as goal

abbrev pub invariant-loop-arc : goal.invariant-loop-arc
invariant-loop-arc l = IsPushing l.graph.pipes.now l.graph.source l.initial.backward l.backward l.path l.amount l.arc-index
