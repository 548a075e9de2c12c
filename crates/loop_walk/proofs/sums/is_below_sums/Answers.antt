use Rattle.std.proofs.Common.{suc, ◌+◌, ◌*◌, ◌∙◌, ap, subst, arith, below_more, ◌≤◌}
use Rattle.std.specs.Prelude.{slice_index}
use Rattle.std.proofs.lemmas.Grind.{common_steps}
use Rattle.std.proofs.Math.Nat.{mul-le-mul_right}
use Rattle.loop_walk.specs.Walks.{AtMost, sum_if_both}
use Rattle.loop_walk.specs.Tables.{entry_at, table_entry, table_size}
use Rattle.loop_walk.proofs.sums.is_below_sums.Goals as goal

pub loop-v-preserved : goal.loop-v-preserved
loop-v-preserved c =
    let costs = c.args.costs.now in
    let tables = c.args.tables.now in
    let t = c.args.t in
    let i = c.args.i in
    let j = c.args.j in
    let v = c.loop-v.v in
    let entry = entry_at costs tables (suc t) i j in
    let first = entry_at costs tables t i v in
    let is = c.stored_entry-entry.ensures ∙ ap (λ n. table_entry (slice_index tables (t * (n * n) + (i * n + j)))) c.frames-n.ensures.frames in
    below_more (λ u. AtMost entry (sum_if_both (entry_at costs tables t i u) (entry_at costs tables c.args.second u j))) v c.loop-v.invariant
    (subst (λ o. AtMost entry (sum_if_both first o)) c.entry_in-other.ensures
    (subst (λ o. AtMost entry (sum_if_both o c.entry_in-other.result)) c.entry_in-first.ensures
    (subst (λ o. AtMost o (sum_if_both c.entry_in-first.result c.entry_in-other.result)) is
    (c.is_at_most.ensures.0 c.if-not-is_at_most.false))))

pub returns-then-not-is_at_most : goal.returns-then-not-is_at_most
returns-then-not-is_at_most c = grind (arith, common_steps)

pub returns : goal.returns
returns c = grind (arith, common_steps)

pub entry_in-other-requires-clause-enough : goal.entry_in-other-requires-clause-enough
entry_in-other-requires-clause-enough c =
    let le : c.args.second ≤ c.args.t + 1 = omega (arith, c.requires.second) in
    omega (arith, c.requires.enough, mul-le-mul_right (table_size c.args.costs.now) le)

pub loop-v-init : goal.loop-v-init
loop-v-init c = grind (arith, common_steps)
