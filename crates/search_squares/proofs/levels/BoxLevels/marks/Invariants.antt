use Rattle.search_squares.specs.Bounds.{AreAbove}
use Rattle.search_squares.proofs.levels.BoxLevels.marks.Given as goal

abbrev pub invariant-levels : goal.invariant-levels
invariant-levels l = AreAbove l.canvas l.sample l.rect l.from l.n l.limit l.marks
