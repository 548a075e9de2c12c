use Rattle.std.proofs.Common.{arith}
use Rattle.std.proofs.lemmas.Grind.{common_steps}
use Rattle.search_squares.proofs.joint.all_marks.Goals as goal

pub levels-preserved : goal.levels-preserved
levels-preserved c = grind (arith, common_steps)

pub levels-init : goal.levels-init
levels-init c = c.level_marks-marks.ensures

pub returns : goal.returns
returns c = c.levels.invariant

pub count-requires : goal.count-requires
count-requires c = c.levels-test.true

pub level_marks-more-requires-clause-below : goal.level_marks-more-requires-clause-below
level_marks-more-requires-clause-below c = c.levels-test.true

pub level_marks-more-requires-clause-few : goal.level_marks-more-requires-clause-few
level_marks-more-requires-clause-few c = c.requires.few

pub left_in-requires : goal.left_in-requires
left_in-requires c = omega arith

pub level_marks-more-requires-clause-other : goal.level_marks-more-requires-clause-other
level_marks-more-requires-clause-other c = c.requires.other

pub returns-then-n : goal.returns-then-n
returns-then-n c = omega arith

pub level_marks-more-requires-clause-one : goal.level_marks-more-requires-clause-one
level_marks-more-requires-clause-one c = c.requires.one
