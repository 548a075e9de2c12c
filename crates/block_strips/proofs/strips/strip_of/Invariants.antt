use Rattle.std.proofs.Common.{◌≡◌, ◌*◌, ◌/◌, ◌%◌, ◌≤◌, map}
use Rattle.std.specs.Prelude.{All, vec_capacity, vec_len}
use Rattle.std.specs.List.{range_with_len}
use Rattle.strip_boundary.specs.declared.strip.TheConstants.{GREATEST_ERROR}
use Rattle.block_strips.specs.Strips.{strip_error}
use Rattle.block_strips.proofs.strips.strip_of.Given as goal

abbrev pub invariant-loop-i : goal.invariant-loop-i
invariant-loop-i l = record {
  errors : l.errors.items ≡ map (λ i. strip_error l.side l.canvas.map l.sample l.placement (i / l.cols) (i % l.cols)) (range_with_len 0 l.i);
  len : vec_len l.errors ≡ l.i;
  room : l.rows * l.cols ≤ vec_capacity l.errors;
  small : All (λ error. error ≤ GREATEST_ERROR) l.errors.items;
}
