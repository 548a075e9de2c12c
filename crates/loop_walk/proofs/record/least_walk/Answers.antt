use Rattle.std.proofs.lemmas.Grind.{common_steps}
use Rattle.std.proofs.Common.{◌*◌, length, ap, ◌∙◌, arith}
use Rattle.std.proofs.lemmas.Nat.{mul-add-lt}
use Rattle.loop_walk.specs.Products.{table_in}
use Rattle.loop_walk.proofs.TableLaws.{length-table_in}
use Rattle.loop_walk.proofs.RecordLaws.{finds_least, no_walk, there_is}
use Rattle.loop_walk.proofs.record.least_walk.Goals as goal

pub first_frame-first-requires-clause-whole : goal.first_frame-first-requires-clause-whole
first_frame-first-requires-clause-whole c =
    let area = c.args.costs.now.frames * c.args.costs.now.frames in
    rw c.frames-n.ensures.frames
    (ap length c.table_in-last.ensures
    ∙ length-table_in c.args.costs.now c.args.steps.now c.requires.steps c.args.tables.now c.table_count.result
    (omega (arith, c.requires.tables.made.whole, ap (λ k. k * area) c.table_count.ensures.count)))

pub returns-then-cost-clause-no_loop : goal.returns-then-cost-clause-no_loop
returns-then-cost-clause-no_loop c = λ _.
    let costs = c.args.costs.now in
    no_walk costs c.args.length c.requires.length.0 c.requires.length.1 c.args.steps.now c.requires.steps c.args.tables.now c.requires.tables
    c.table_in-last.result.now (c.table_in-last.ensures ∙ ap (table_in c.args.steps.now c.args.tables.now) c.table_count.ensures.count)
    c.first_frame-first.result (rw c.frames-n.ensures.frames at c.first_frame-first.ensures.below)
    (rw c.frames-n.ensures.frames at c.first_frame-first.ensures.least) (rw c.frames-n.ensures.frames at c.first_frame-first.ensures.first)
    (rw c.frames-n.ensures.frames at c.if-cost.true)

pub returns-clause-found : goal.returns-clause-found
returns-clause-found c =
    let costs = c.args.costs.now in
    rw c.frames-n.ensures.frames
    (finds_least costs c.args.length c.requires.length.0 c.requires.length.1 c.args.steps.now c.requires.steps c.args.tables.now c.requires.tables
    c.table_in-last.result.now (c.table_in-last.ensures ∙ ap (table_in c.args.steps.now c.args.tables.now) c.table_count.ensures.count)
    c.first_frame-first.result (rw c.frames-n.ensures.frames at c.first_frame-first.ensures.below)
    (rw c.frames-n.ensures.frames at c.first_frame-first.ensures.least) (rw c.frames-n.ensures.frames at c.first_frame-first.ensures.first)
    (rw c.frames-n.ensures.frames at c.if-cost.false) c.in_ok-walk.walk.items c.in_ok-walk.ensures)

pub bounds-last-first : goal.bounds-last-first
bounds-last-first c =
    let n = c.args.costs.now.frames in
    let area = n * n in
    let first = c.first_frame-first.result in
    let below = rw c.frames-n.ensures.frames at c.first_frame-first.ensures.below in
    let whole = ap length c.table_in-last.ensures
    ∙ length-table_in c.args.costs.now c.args.steps.now c.requires.steps c.args.tables.now c.table_count.result
    (omega (arith, c.requires.tables.made.whole, ap (λ k. k * area) c.table_count.ensures.count)) in
    rw c.frames-n.ensures.frames (omega (arith, whole, mul-add-lt first n first n below below))

pub walk_from-requires-clause-tables : goal.walk_from-requires-clause-tables
walk_from-requires-clause-tables c = grind (arith, common_steps)

pub walk_from-requires-clause-there : goal.walk_from-requires-clause-there
walk_from-requires-clause-there c =
    there_is c.args.costs.now c.args.length c.requires.length.0 c.requires.length.1 c.args.steps.now c.requires.steps c.args.tables.now c.requires.tables
    c.table_in-last.result.now (c.table_in-last.ensures ∙ ap (table_in c.args.steps.now c.args.tables.now) c.table_count.ensures.count)
    c.first_frame-first.result (rw c.frames-n.ensures.frames at c.first_frame-first.ensures.below)
    (rw c.frames-n.ensures.frames at c.first_frame-first.ensures.least) (rw c.frames-n.ensures.frames at c.first_frame-first.ensures.first)
    (rw c.frames-n.ensures.frames at c.if-cost.false)

pub table_in-last-requires-clause-few : goal.table_in-last-requires-clause-few
table_in-last-requires-clause-few c = grind (arith, common_steps)

pub table_in-last-requires-clause-there : goal.table_in-last-requires-clause-there
table_in-last-requires-clause-there c = grind (arith, common_steps)
