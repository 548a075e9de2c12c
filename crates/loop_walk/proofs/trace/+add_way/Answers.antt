use Rattle.std.proofs.lemmas.Grind.{common_steps}
use Rattle.std.proofs.Common.{◌-◌, ℕ, ◌*◌, ◌≤◌, length, ap, sym, ◌∙◌, subst, arith}
use Rattle.std.proofs.Math.Nat.{mul-le-mul_right}
use Rattle.std.specs.Prelude.{IsSome}
use Rattle.loop_walk.specs.Walks.{sum_if_both}
use Rattle.loop_walk.specs.Tables.{entry_at, table_count, second_table}
use Rattle.loop_walk.specs.Products.{AddsWay, table_in}
use Rattle.loop_walk.proofs.Lengths.{IsBefore, is_before}
use Rattle.loop_walk.proofs.TableLaws.{length-table_in}
use Rattle.loop_walk.proofs.TraceLaws.{both_some, fits, fits_second, halves, holds_before, holds_rest, joins_first, on_ok, second_count, ways_joined}
use Rattle.loop_walk.proofs.trace.+add_way.Goals as goal

pub table_in-left-requires-clause-there : goal.table_in-left-requires-clause-there
table_in-left-requires-clause-there t c =
    rw c.requires.steps.whole (fits c.args.costs.now c.args.length c.length_before-before.result c.table_count-t.result (omega arith) c.length_before-before.ensures c.table_count-t.ensures.count c.args.steps.now c.requires.steps c.args.tables.now c.requires.tables)

pub table_in-right-requires-clause-there : goal.table_in-right-requires-clause-there
table_in-right-requires-clause-there t c =
    rw (c.requires.steps.whole, c.second_table.ensures) (fits_second c.args.costs.now c.args.length c.length_before-before.result c.table_count-t.result (omega arith) c.length_before-before.ensures c.table_count-t.ensures.count c.args.steps.now c.requires.steps c.args.tables.now c.requires.tables)

pub middle-v-requires-clause-left : goal.middle-v-requires-clause-left
middle-v-requires-clause-left t c =
    rw c.frames-n.ensures.frames
    (ap length c.table_in-left.ensures ∙ length-table_in c.args.costs.now c.args.steps.now c.requires.steps c.args.tables.now c.table_count-t.result
    (fits c.args.costs.now c.args.length c.length_before-before.result c.table_count-t.result (omega arith) c.length_before-before.ensures c.table_count-t.ensures.count c.args.steps.now c.requires.steps c.args.tables.now c.requires.tables))

pub middle-v-requires-clause-right : goal.middle-v-requires-clause-right
middle-v-requires-clause-right t c =
    rw c.frames-n.ensures.frames
    (ap length (c.table_in-right.ensures ∙ ap (table_in c.args.steps.now c.args.tables.now) c.second_table.ensures) ∙ length-table_in c.args.costs.now c.args.steps.now c.requires.steps c.args.tables.now (second_table c.args.length c.table_count-t.result)
    (fits_second c.args.costs.now c.args.length c.length_before-before.result c.table_count-t.result (omega arith) c.length_before-before.ensures c.table_count-t.ensures.count c.args.steps.now c.requires.steps c.args.tables.now c.requires.tables))

pub add_way-requires : goal.add_way-requires
add_way-requires t c =
    let costs = c.args.costs.now in
    let m = c.args.length in
    let b = c.length_before-before.result in
    let s = c.table_count-t.result in
    let two : 2 ≤ m = omega arith in
    let lengths = subst (IsBefore m) (sym c.length_before-before.ensures) (is_before m two) in
    let v = c.middle-v.result in
    let below = rw c.frames-n.ensures.frames at c.middle-v.ensures.below in
    let sum = halves costs m b s two c.length_before-before.ensures c.table_count-t.ensures.count c.args.steps.now c.requires.steps c.args.tables.now c.requires.tables c.args.i c.args.j v c.requires.from c.requires.to below c.requires.there
    (rw (c.frames-n.ensures.frames, c.table_in-left.ensures, c.table_in-right.ensures, c.second_table.ensures) at c.middle-v.ensures.least) in
    let some = both_some (entry_at costs c.args.tables.now s c.args.i v) (entry_at costs c.args.tables.now (second_table m s) v c.args.j) _ sum c.requires.there in (
      omega (arith, c.decreases, lengths.less),
      (
        c.requires.steps,
        (
          holds_before costs m b s two c.length_before-before.ensures c.table_count-t.ensures.count c.args.steps.now c.requires.steps c.args.tables.now c.requires.tables,
          ((lengths.some, omega (arith, lengths.less)), (c.requires.from, (below, subst (λ k. IsSome (entry_at costs c.args.tables.now k c.args.i v)) c.table_count-t.ensures.count some.0))),
        ),
      ),
    )

pub add_way-requires-2 : goal.add_way-requires-2
add_way-requires-2 t c =
    let costs = c.args.costs.now in
    let m = c.args.length in
    let b = c.length_before-before.result in
    let s = c.table_count-t.result in
    let two : 2 ≤ m = omega arith in
    let lengths = subst (IsBefore m) (sym c.length_before-before.ensures) (is_before m two) in
    let v = c.middle-v.result in
    let below = rw c.frames-n.ensures.frames at c.middle-v.ensures.below in
    let sum = halves costs m b s two c.length_before-before.ensures c.table_count-t.ensures.count c.args.steps.now c.requires.steps c.args.tables.now c.requires.tables c.args.i c.args.j v c.requires.from c.requires.to below c.requires.there
    (rw (c.frames-n.ensures.frames, c.table_in-left.ensures, c.table_in-right.ensures, c.second_table.ensures) at c.middle-v.ensures.least) in
    let some = both_some (entry_at costs c.args.tables.now s c.args.i v) (entry_at costs c.args.tables.now (second_table m s) v c.args.j) _ sum c.requires.there in
    let count = second_count costs m b s two c.length_before-before.ensures c.table_count-t.ensures.count c.args.steps.now c.requires.steps c.args.tables.now c.requires.tables in (
      omega (arith, c.decreases, lengths.some, lengths.less),
      (
        c.requires.steps,
        (
          holds_rest costs m b s two c.length_before-before.ensures c.table_count-t.ensures.count c.args.steps.now c.requires.steps c.args.tables.now c.requires.tables,
          ((omega (arith, lengths.less), omega arith), (below, (c.requires.to, subst (λ k. IsSome (entry_at costs c.args.tables.now k v c.args.j)) count some.1))),
        ),
      ),
    )

pub returns : goal.returns
returns t c =
    let costs = c.args.costs.now in
    let m = c.args.length in
    let b = c.length_before-before.result in
    let s = c.table_count-t.result in
    let two : 2 ≤ m = omega arith in
    let lengths = subst (IsBefore m) (sym c.length_before-before.ensures) (is_before m two) in
    let v = c.middle-v.result in
    let below = rw c.frames-n.ensures.frames at c.middle-v.ensures.below in
    let sum = halves costs m b s two c.length_before-before.ensures c.table_count-t.ensures.count c.args.steps.now c.requires.steps c.args.tables.now c.requires.tables c.args.i c.args.j v c.requires.from c.requires.to below c.requires.there
    (rw (c.frames-n.ensures.frames, c.table_in-left.ensures, c.table_in-right.ensures, c.second_table.ensures) at c.middle-v.ensures.least) in
    let count = second_count costs m b s two c.length_before-before.ensures c.table_count-t.ensures.count c.args.steps.now c.requires.steps c.args.tables.now c.requires.tables in
    let whole = (λ k. sum_if_both (entry_at costs c.args.tables.now (sym c.table_count-t.ensures.count k) c.args.i v) (entry_at costs c.args.tables.now (sym count k) v c.args.j)) ∙ sum in
    on_ok c.add_way-2.result _ (AddsWay costs m c.args.i c.args.j (entry_at costs c.args.tables.now (table_count m) c.args.i c.args.j) c.args.walk.now.items c.add_way-2.new.walk.items)
    (λ (second : AddsWay costs (m - b) v c.args.j (entry_at costs c.args.tables.now (table_count (m - b)) v c.args.j) c.push.new.self.items c.add_way-2.new.walk.items).
    ways_joined costs m b (m - b) c.args.i v c.args.j (entry_at costs c.args.tables.now (table_count b) c.args.i v) (entry_at costs c.args.tables.now (table_count (m - b)) v c.args.j) (entry_at costs c.args.tables.now (table_count m) c.args.i c.args.j)
    c.args.walk.now.items c.add_way.new.walk.items c.push.new.self.items c.add_way-2.new.walk.items (omega (arith, lengths.less)) whole
    (joins_first costs m b s two c.length_before-before.ensures c.table_count-t.ensures.count c.args.steps.now c.requires.steps c.args.tables.now c.requires.tables c.args.i c.args.j v c.requires.from c.requires.to below c.requires.there
    (rw (c.frames-n.ensures.frames, c.table_in-left.ensures, c.table_in-right.ensures, c.second_table.ensures) at c.middle-v.ensures.least)
    (rw (c.frames-n.ensures.frames, c.table_in-left.ensures, c.table_in-right.ensures, c.second_table.ensures) at c.middle-v.ensures.first))
    c.in_ok-add_way.ensures c.in_ok-push.ensures.items second)
    c.add_way-2.ensures

-- a table of so many frames at most is short
table_few : (n : ℕ) → n ≤ 256 → n * n ≤ 65536
table_few n few = omega (arith, mul-le-mul_right n few)

pub overflow_sub-length : goal.overflow_sub-length
overflow_sub-length t c = grind (arith, common_steps)

pub table_in-right-requires-clause-few : goal.table_in-right-requires-clause-few
table_in-right-requires-clause-few t c = rw c.requires.steps.whole (table_few c.args.costs.now.frames c.frames-n.ensures.steps.frames.1)

pub table_in-left-requires-clause-few : goal.table_in-left-requires-clause-few
table_in-left-requires-clause-few t c = rw c.requires.steps.whole (table_few c.args.costs.now.frames c.frames-n.ensures.steps.frames.1)

pub returns-then-length-eq1 : goal.returns-then-length-eq1
returns-then-length-eq1 t c = grind (arith, common_steps)

pub table_in-right-requires-clause-count : goal.table_in-right-requires-clause-count
table_in-right-requires-clause-count t c = grind (arith, common_steps)

pub table_in-left-requires-clause-count : goal.table_in-left-requires-clause-count
table_in-left-requires-clause-count t c = grind (arith, common_steps)
