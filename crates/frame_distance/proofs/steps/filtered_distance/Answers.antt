use Rattle.std.proofs.Common.{arith}
use Rattle.std.proofs.lemmas.Grind.{common_steps}
use Rattle.frame_distance.proofs.steps.filtered_distance.Goals as goal

pub at-requires-in-Four-4-clause-row : goal.at-requires-in-Four-4-clause-row
at-requires-in-Four-4-clause-row c = grind (arith, common_steps)

pub at-requires-in-Four-4-clause-column : goal.at-requires-in-Four-4-clause-column
at-requires-in-Four-4-clause-column c = grind (arith, common_steps)

pub at-requires-in-Four-3-clause-row : goal.at-requires-in-Four-3-clause-row
at-requires-in-Four-3-clause-row c = grind (arith, common_steps)

pub at-requires-in-Four-3-clause-column : goal.at-requires-in-Four-3-clause-column
at-requires-in-Four-3-clause-column c = grind (arith, common_steps)

pub at-requires-in-Two-2-clause-column : goal.at-requires-in-Two-2-clause-column
at-requires-in-Two-2-clause-column c = grind (arith, common_steps)

pub at-requires-in-Two-2-clause-row : goal.at-requires-in-Two-2-clause-row
at-requires-in-Two-2-clause-row c = grind (arith, common_steps)

pub at-requires-in-Four-2-clause-row : goal.at-requires-in-Four-2-clause-row
at-requires-in-Four-2-clause-row c = grind (arith, common_steps)

pub at-requires-in-Four-2-clause-column : goal.at-requires-in-Four-2-clause-column
at-requires-in-Four-2-clause-column c = grind (arith, common_steps)

pub overflow_sub-j-in-Four-2 : goal.overflow_sub-j-in-Four-2
overflow_sub-j-in-Four-2 c = grind (arith, common_steps)

pub overflow_sub-i-in-Four-2 : goal.overflow_sub-i-in-Four-2
overflow_sub-i-in-Four-2 c = grind (arith, common_steps)

pub at-requires-in-Two-clause-column : goal.at-requires-in-Two-clause-column
at-requires-in-Two-clause-column c = grind (arith, common_steps)

pub at-requires-in-Four-clause-row : goal.at-requires-in-Four-clause-row
at-requires-in-Four-clause-row c = grind (arith, common_steps)

pub at-requires-in-Four-clause-column : goal.at-requires-in-Four-clause-column
at-requires-in-Four-clause-column c = grind (arith, common_steps)

pub at-requires-clause-row : goal.at-requires-clause-row
at-requires-clause-row c = grind (arith, common_steps)

pub at-requires-clause-column : goal.at-requires-clause-column
at-requires-clause-column c = grind (arith, common_steps)

pub at-requires-in-Two-clause-row : goal.at-requires-in-Two-clause-row
at-requires-in-Two-clause-row c = grind (arith, common_steps)

pub overflow_sub-j-in-Four : goal.overflow_sub-j-in-Four
overflow_sub-j-in-Four c = grind (arith, common_steps)

pub overflow_sub-j : goal.overflow_sub-j
overflow_sub-j c = grind (arith, common_steps)

pub overflow_sub-i : goal.overflow_sub-i
overflow_sub-i c = grind (arith, common_steps)

pub overflow_sub-i-in-Four : goal.overflow_sub-i-in-Four
overflow_sub-i-in-Four c = grind (arith, common_steps)

pub returns-in-Four-clause-below : goal.returns-in-Four-clause-below
returns-in-Four-clause-below c = grind (arith, common_steps)

pub returns-in-Two-clause-below : goal.returns-in-Two-clause-below
returns-in-Two-clause-below c = grind (arith, common_steps)

pub returns-in-None0-clause-below : goal.returns-in-None0-clause-below
returns-in-None0-clause-below c = grind (arith, common_steps)
