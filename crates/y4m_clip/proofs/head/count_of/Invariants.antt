use Rattle.std.proofs.Common.{◌≡◌, take, ◌%◌}
use Rattle.shelf_traits.specs.Decimals.{capped, value_behind}
use Rattle.y4m_clip.proofs.head.count_of.Given as goal

abbrev pub invariant-loop-digit : goal.invariant-loop-digit
invariant-loop-digit l = record { number : l.number ≡ capped (value_behind 0 (take l.digit-index l.digits)); left : l.left ≡ value_behind 0 (take l.digit-index l.digits) % 4 }
