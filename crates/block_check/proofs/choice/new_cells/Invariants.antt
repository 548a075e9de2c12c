use Rattle.std.proofs.Common.{◌≡◌, ◌≤◌, ◌*◌}
use Rattle.std.specs.Prelude.{vec_capacity, vec_len}
use Rattle.cells.specs.Places.{cell_count}
use Rattle.block_check.specs.Steps.{first_rows}
use Rattle.block_check.proofs.choice.new_cells.Given as goal

abbrev pub invariant-loop-y : goal.invariant-loop-y
invariant-loop-y l = record {
  rows : l.choice.items ≡ first_rows l.block l.y;
  len : vec_len l.choice ≡ l.block.placement.rect.size.w * l.y;
  room : cell_count l.block.placement.rect.size ≤ vec_capacity l.choice;
}
