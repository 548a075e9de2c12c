use Rattle.std.proofs.Common.{arith}
use Rattle.std.proofs.lemmas.Grind.{common_steps}
use Rattle.y4m_clip.proofs.head.value_of.Goals as goal

pub loop-tag-preserved : goal.loop-tag-preserved
loop-tag-preserved c = grind (arith, common_steps)

pub returns-then-tag-letter : goal.returns-then-tag-letter
returns-then-tag-letter c = grind (arith, common_steps)

pub bounds-tag-0 : goal.bounds-tag-0
bounds-tag-0 c = grind (arith, common_steps)

pub slice_bounds-result-count : goal.slice_bounds-result-count
slice_bounds-result-count c = grind (arith, common_steps)

pub slice_bounds-result-start : goal.slice_bounds-result-start
slice_bounds-result-start c = grind (arith, common_steps)

pub returns : goal.returns
returns c = grind (arith, common_steps)
