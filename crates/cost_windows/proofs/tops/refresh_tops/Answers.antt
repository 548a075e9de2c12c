use Rattle.std.proofs.lemmas.Grind.{common_steps}
use Rattle.std.proofs.Common.{◌+◌, ◌-◌, ◌*◌, ◌∙◌, arith, ⊎_elim}
use Rattle.std.proofs.lemmas.Bool.{cases_lt}
use Rattle.cost_windows.proofs.RowTops.{after_block, before_block}
use Rattle.cost_windows.proofs.tops.refresh_tops.Goals as goal

pub returns : goal.returns
returns c =
    let size = c.args.size in
    let block = c.args.block.now in
    record {
      count = omega (arith, c.fill_tops.auto.tops, c.requires.tops);
      each = λ r lt. ⊎_elim
          (λ before. c.fill_tops.ensures.before r (omega arith) ∙ c.requires.others r lt (before_block size block r before))
          (λ from. ⊎_elim
          (λ inside. c.fill_tops.ensures.made r (omega arith) (omega arith))
          (λ after. c.fill_tops.ensures.after r (omega arith) ∙ c.requires.others r lt (after_block size block r after))
          (cases_lt r (block.y.from + block.y.len - 1 + size.h * (block.f.from + block.f.len - 1) + 1)))
          (cases_lt r (block.y.from + size.h * block.f.from));
    }

pub fill_tops-requires-clause-sums : goal.fill_tops-requires-clause-sums
fill_tops-requires-clause-sums c = grind (arith, common_steps)

pub fill_tops-requires-clause-from : goal.fill_tops-requires-clause-from
fill_tops-requires-clause-from c = grind (arith, common_steps)

pub fill_tops-requires-clause-end : goal.fill_tops-requires-clause-end
fill_tops-requires-clause-end c = grind (arith, common_steps)

pub fill_tops-requires-clause-rows : goal.fill_tops-requires-clause-rows
fill_tops-requires-clause-rows c = grind (arith, common_steps)

pub overflow_add-last-4 : goal.overflow_add-last-4
overflow_add-last-4 c = grind (arith, common_steps)

pub overflow_add-last-3 : goal.overflow_add-last-3
overflow_add-last-3 c = grind (arith, common_steps)

pub overflow_mul-last : goal.overflow_mul-last
overflow_mul-last c = grind (arith, common_steps)

pub overflow_add-from : goal.overflow_add-from
overflow_add-from c = grind (arith, common_steps)

pub overflow_mul-from : goal.overflow_mul-from
overflow_mul-from c = grind (arith, common_steps)

pub fill_tops-requires-clause-width : goal.fill_tops-requires-clause-width
fill_tops-requires-clause-width c = grind (arith, common_steps)

pub overflow_cast-size : goal.overflow_cast-size
overflow_cast-size c = grind (arith, common_steps)
