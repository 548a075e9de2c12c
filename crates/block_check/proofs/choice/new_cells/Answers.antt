use Rattle.std.proofs.lemmas.Grind.{common_steps}
use Rattle.std.proofs.Common.{◌≡◌, ◌≤◌, ◌+◌, ◌*◌, map, ap, sym, ◌∙◌, arith}
use Rattle.std.proofs.Math.Nat.{mul-add, mul-le-mul_left, mul-one}
use Rattle.std.specs.List.{range_with_len}
use Rattle.block_check.specs.Blocks.{is_new_at}
use Rattle.block_check.specs.Steps.{first_rows}
use Rattle.block_check.proofs.choice.new_cells.Goals as goal

pub loop-y-init : goal.loop-y-init
loop-y-init c =
    let block = c.args.block.now in
    let none : 0 ≡ block.placement.rect.size.w * 0 = omega arith in
    let made = c.in_ok-choice.ensures {u = tt} in
    record {
      rows = made.items ∙ ap (λ n. map (is_new_at block) (range_with_len 0 n)) none;
      len = omega (arith, made.len);
      room = omega (arith, made.capacity, c.cells.ensures);
    }

pub loop-y-preserved : goal.loop-y-preserved
loop-y-preserved c =
    let w = c.args.block.now.placement.rect.size.w in
    record {
      rows = c.put_row.ensures.rows;
      len = omega (arith, c.put_row.ensures.len, c.loop-y.invariant.len, mul-add w c.loop-y.y 1, mul-one w);
      room = omega (arith, c.put_row.ensures.capacity, c.loop-y.invariant.room);
    }

pub put_row-requires-clause-room : goal.put_row-requires-clause-room
put_row-requires-clause-room c =
    let size = c.args.block.now.placement.rect.size in
    let height : size.h * size.f ≡ size.h = ap (λ f. size.h * f) c.requires.formed.one_frame ∙ mul-one size.h in
    let below : c.loop-y.y + 1 ≤ size.h * size.f = omega (arith, height, c.loop-y-test.true) in
    omega (arith, c.loop-y.invariant.len, c.loop-y.invariant.room, mul-le-mul_left size.w below)

pub returns : goal.returns
returns c =
    let size = c.args.block.now.placement.rect.size in
    let end : c.loop-y.y ≡ size.h = omega (arith, c.loop-y-test.false, c.loop-y.auto.y-end) in
    let height : c.loop-y.y ≡ size.h * size.f = end ∙ sym (ap (λ f. size.h * f) c.requires.formed.one_frame ∙ mul-one size.h) in
    c.loop-y.invariant.rows ∙ ap (first_rows c.args.block.now) height

pub put_row-requires-clause-row : goal.put_row-requires-clause-row
put_row-requires-clause-row c = grind (arith, common_steps)
