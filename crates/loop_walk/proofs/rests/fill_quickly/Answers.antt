use Rattle.std.proofs.lemmas.Grind.{common_steps}
use Rattle.std.proofs.Common.{get_or, arith}
use Rattle.loop_walk.proofs.RestLaws.{exact_below}
use Rattle.loop_walk.proofs.rests.fill_quickly.Goals as goal

pub fill_sums-requires-clause-exact : goal.fill_sums-requires-clause-exact
fill_sums-requires-clause-exact c = λ j lt.
    exact_below c.args.n j c.args.firsts.now c.args.nears.now c.args.bases.now c.args.rests.now c.raise.new.raised c.fill_rests.new.rests c.base_of-base.result
    (get_or c.fill_rest_row.new.sums j 0) c.requires.firsts (omega (arith, c.raise.auto.raised, c.requires.raised)) lt c.requires.left c.raise.ensures c.base_of-base.ensures.base
    c.fill_rests.ensures.rests (c.fill_rest_row.ensures j lt)

pub returns-then-count_great-gt-MOST_SINGLE_SUMS : goal.returns-then-count_great-gt-MOST_SINGLE_SUMS
returns-then-count_great-gt-MOST_SINGLE_SUMS c = grind (arith, common_steps)

pub fill_sums-requires-clause-near : goal.fill_sums-requires-clause-near
fill_sums-requires-clause-near c = grind (arith, common_steps)

pub fill_rest_row-requires-clause-small_firsts : goal.fill_rest_row-requires-clause-small_firsts
fill_rest_row-requires-clause-small_firsts c = grind (arith, common_steps)

pub fill_rest_row-requires-clause-small_rests : goal.fill_rest_row-requires-clause-small_rests
fill_rest_row-requires-clause-small_rests c = grind (arith, common_steps)

pub fill_sums-requires-clause-sums : goal.fill_sums-requires-clause-sums
fill_sums-requires-clause-sums c = grind (arith, common_steps)

pub fill_sums-requires-clause-firsts : goal.fill_sums-requires-clause-firsts
fill_sums-requires-clause-firsts c = grind (arith, common_steps)

pub fill_rests-requires-clause-base : goal.fill_rests-requires-clause-base
fill_rests-requires-clause-base c = grind (arith, common_steps)

pub fill_sums-requires-clause-nears : goal.fill_sums-requires-clause-nears
fill_sums-requires-clause-nears c = grind (arith, common_steps)

pub fill_rest_row-requires-clause-sums : goal.fill_rest_row-requires-clause-sums
fill_rest_row-requires-clause-sums c = grind (arith, common_steps)

pub fill_sums-requires-clause-rests : goal.fill_sums-requires-clause-rests
fill_sums-requires-clause-rests c = grind (arith, common_steps)

pub raise-requires-clause-small : goal.raise-requires-clause-small
raise-requires-clause-small c = grind (arith, common_steps)

pub returns : goal.returns
returns c = grind (arith, common_steps)

pub fill_rest_row-requires-clause-rests : goal.fill_rest_row-requires-clause-rests
fill_rest_row-requires-clause-rests c = grind (arith, common_steps)

pub fill_rests-requires-clause-rests : goal.fill_rests-requires-clause-rests
fill_rests-requires-clause-rests c = grind (arith, common_steps)

pub fill_rest_row-requires-clause-firsts : goal.fill_rest_row-requires-clause-firsts
fill_rest_row-requires-clause-firsts c = grind (arith, common_steps)
