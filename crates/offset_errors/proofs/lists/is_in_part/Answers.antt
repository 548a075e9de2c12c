use Rattle.std.proofs.Common.{arith}
use Rattle.offset_errors.proofs.lists.is_in_part.Goals as goal

pub is_along_axis-requires-then-is_along_axis-2 : goal.is_along_axis-requires-then-is_along_axis-2
is_along_axis-requires-then-is_along_axis-2 c = omega arith

pub is_along_axis-requires-then-is_along_axis : goal.is_along_axis-requires-then-is_along_axis
is_along_axis-requires-then-is_along_axis c = omega arith
