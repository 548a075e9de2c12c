use Rattle.std.proofs.Common.{◌≡◌, ◌+◌, ◌*◌, map}
use Rattle.std.specs.List.{range_with_len}
use Rattle.std.specs.Prelude.{vec_capacity, vec_len}
use Rattle.block_check.specs.Blocks.{is_new_at}
use Rattle.block_check.proofs.choice.put_row.Given as goal

abbrev pub invariant-loop-x : goal.invariant-loop-x
invariant-loop-x l = record {
  cells : l.choice.items ≡ map (is_new_at l.block) (range_with_len 0 (l.x + l.block.placement.rect.size.w * l.y));
  len : vec_len l.choice ≡ vec_len l.fn.choice + l.x;
  capacity : vec_capacity l.choice ≡ vec_capacity l.fn.choice;
}
