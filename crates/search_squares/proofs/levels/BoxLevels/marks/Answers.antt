use Rattle.std.proofs.Common.{arith}
use Rattle.std.proofs.lemmas.Grind.{common_steps}
use Rattle.search_squares.proofs.levels.BoxLevels.marks.Goals as goal

pub levels-preserved : goal.levels-preserved
levels-preserved c = grind (arith, common_steps)

pub levels-init : goal.levels-init
levels-init c = c.level_marks-marks.ensures

pub returns : goal.returns
returns c = c.levels.invariant

pub count-requires : goal.count-requires
count-requires c = c.levels-test.true

pub level_marks-more-requires-clause-below : goal.level_marks-more-requires-clause-below
level_marks-more-requires-clause-below c = omega arith

pub level_marks-more-requires-clause-few : goal.level_marks-more-requires-clause-few
level_marks-more-requires-clause-few c = omega arith

pub left_in-requires : goal.left_in-requires
left_in-requires c = omega arith

pub returns-then-n : goal.returns-then-n
returns-then-n c = omega arith

pub level_marks-more-requires-clause-sums : goal.level_marks-more-requires-clause-sums
level_marks-more-requires-clause-sums c = omega arith

pub level_marks-more-requires-clause-levels : goal.level_marks-more-requires-clause-levels
level_marks-more-requires-clause-levels c = omega arith

pub level_marks-more-requires-clause-inside : goal.level_marks-more-requires-clause-inside
level_marks-more-requires-clause-inside c = grind (arith, common_steps)

pub level_marks-more-requires-clause-over : goal.level_marks-more-requires-clause-over
level_marks-more-requires-clause-over c = grind (arith, common_steps)
