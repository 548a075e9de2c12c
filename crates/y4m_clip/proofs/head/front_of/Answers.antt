use Rattle.std.proofs.Common.{arith}
use Rattle.std.proofs.lemmas.Grind.{common_steps}
use Rattle.y4m_clip.proofs.head.front_of.Goals as goal

pub returns : goal.returns
returns c = grind (arith, common_steps)

pub returns-in_err-w : goal.returns-in_err-w
returns-in_err-w c = grind (arith, common_steps)

pub returns-then-number-gt-MOST_TAG_BYTES : goal.returns-then-number-gt-MOST_TAG_BYTES
returns-then-number-gt-MOST_TAG_BYTES c = grind (arith, common_steps)

pub returns-in_default-cells_on-2 : goal.returns-in_default-cells_on-2
returns-in_default-cells_on-2 c = grind (arith, common_steps)

pub cells_on-requires-2 : goal.cells_on-requires-2
cells_on-requires-2 c = grind (arith, common_steps)

pub returns-in_default-cells_on : goal.returns-in_default-cells_on
returns-in_default-cells_on c = grind (arith, common_steps)

pub cells_on-requires : goal.cells_on-requires
cells_on-requires c = grind (arith, common_steps)
