use Rattle.search_squares.specs.Terms.{AreAboveBoth}
use Rattle.search_squares.proofs.joint.all_marks.Given as goal

abbrev pub invariant-levels : goal.invariant-levels
invariant-levels l = AreAboveBoth l.one l.other l.from l.n l.limit l.marks
