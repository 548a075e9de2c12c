use Rattle.std.proofs.Common.{◌≡◌, ◌+◌, ◌*◌, ◌++◌, ◌∷◌, [], map, refl, ap, sym, ◌∙◌, arith}
use Rattle.std.proofs.Math.Nat.{mul-add, mul-one}
use Rattle.std.proofs.lemmas.List.FromFn.{map-range_with_len_more}
use Rattle.std.specs.List.{range_with_len}
use Rattle.block_check.specs.Blocks.{is_new_at}
use Rattle.block_check.proofs.BlockRows.{new_at_index}
use Rattle.block_check.proofs.choice.put_row.Goals as goal

pub loop-x-init : goal.loop-x-init
loop-x-init c =
    let w = c.args.block.now.placement.rect.size.w in
    let same : w * c.args.y ≡ 0 + w * c.args.y = omega arith in
    record { cells = c.requires.before ∙ ap (λ n. map (is_new_at c.args.block.now) (range_with_len 0 n)) same; len = omega arith; capacity = refl }

pub loop-x-preserved : goal.loop-x-preserved
loop-x-preserved c =
    let block = c.args.block.now in
    let w = block.placement.rect.size.w in
    let x = c.loop-x.x in
    let i = x + w * c.args.y in
    let value = c.is_new.ensures ∙ new_at_index block x c.args.y c.loop-x-test.true c.requires.row in
    let next : i + 1 ≡ x + 1 + w * c.args.y = omega arith in
    record {
      cells = c.push_reserved.ensures.items
          ∙ (λ k. c.loop-x.invariant.cells k ++ value k ∷ [])
          ∙ sym (map-range_with_len_more (is_new_at block) 0 i i (omega arith))
          ∙ ap (λ n. map (is_new_at block) (range_with_len 0 n)) next;
      len = omega (arith, c.push_reserved.ensures.len, c.loop-x.invariant.len);
      capacity = c.push_reserved.ensures.capacity ∙ c.loop-x.invariant.capacity;
    }

pub push_reserved-requires : goal.push_reserved-requires
push_reserved-requires c = omega (arith, c.loop-x.invariant.len, c.loop-x.invariant.capacity, c.requires.room, c.loop-x-test.true)

pub returns-clause-rows : goal.returns-clause-rows
returns-clause-rows c =
    let block = c.args.block.now in
    let w = block.placement.rect.size.w in
    let whole : c.loop-x.x + w * c.args.y ≡ w * (c.args.y + 1) = omega (arith, mul-add w c.args.y 1, mul-one w, c.loop-x-test.false, c.loop-x.auto.x-end) in
    c.loop-x.invariant.cells ∙ ap (λ n. map (is_new_at block) (range_with_len 0 n)) whole
