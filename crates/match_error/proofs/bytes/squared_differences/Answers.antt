use Rattle.std.proofs.Common.{◌≡◌, ◌≤◌, ◌+◌, ◌-◌, ◌%◌, ◌∙◌, length, arith}
use Rattle.std.proofs.lemmas.Grind.{common_steps}
use Rattle.match_error.proofs.Blocks.{both_parts, last_block, marks_piece, one_part}
use Rattle.match_error.proofs.bytes.squared_differences.Goals as goal

pub returns-then-rest-eq0 : goal.returns-then-rest-eq0
returns-then-rest-eq0 c =
    let len = length c.args.old.now in
    one_part c.args.old.now c.args.new.now (len - len % 32) c.ssd-sum.result c.requires.same_length (let e : len - len % 32 ≡ len = omega (arith, c.if-rest-eq0.true) in e) c.ssd-sum.ensures.sum

pub returns : goal.returns
returns c =
    let len = length c.args.old.now in
    let few : len % 32 ≤ 32 = omega arith in
    let last = c.ssd_masked.ensures.sum ∙ last_block c.args.old.now c.args.new.now _ 32 (len % 32) c.requires.same_length (omega arith) few (marks_piece 32 (len % 32) few) in
    both_parts c.args.old.now c.args.new.now (len - len % 32) (len % 32) c.ssd-sum.result c.ssd_masked.result c.requires.same_length (let e : (len - len % 32) + len % 32 ≡ len = omega arith in e) c.ssd-sum.ensures.sum last

pub ssd_masked-requires-clause-mask_length : goal.ssd_masked-requires-clause-mask_length
ssd_masked-requires-clause-mask_length c = grind (arith, common_steps)

pub ssd_masked-requires-clause-same_length : goal.ssd_masked-requires-clause-same_length
ssd_masked-requires-clause-same_length c = omega (arith, c.requires.same_length)

pub overflow_add-result : goal.overflow_add-result
overflow_add-result c = grind (arith, common_steps)

pub ssd-sum-requires-clause-same_length : goal.ssd-sum-requires-clause-same_length
ssd-sum-requires-clause-same_length c = grind (arith, common_steps)

pub ssd_masked-requires-clause-within_limit : goal.ssd_masked-requires-clause-within_limit
ssd_masked-requires-clause-within_limit c = grind (arith, common_steps)

pub slice_bounds-ssd-end-2 : goal.slice_bounds-ssd-end-2
slice_bounds-ssd-end-2 c = grind (arith, common_steps)

pub slice_bounds-ssd-end : goal.slice_bounds-ssd-end
slice_bounds-ssd-end c = grind (arith, common_steps)
