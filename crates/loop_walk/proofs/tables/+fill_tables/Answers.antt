use Rattle.std.proofs.lemmas.Grind.{common_steps}
use Rattle.std.proofs.Common.{◌≡◌, ℕ, ◌+◌, ◌*◌, ◌≤◌, length, ◌^◌, ap, sym, subst, ◌∙◌, arith}
use Rattle.std.proofs.Math.Nat.{mul-le-mul_right}
use Rattle.loop_walk.specs.declared.product.TheConstants.{GREATEST_NUMBER}
use Rattle.loop_walk.specs.Tables.{length_before, table_count, second_table}
use Rattle.loop_walk.specs.Products.{AreSmall, IsProduct, table_in}
use Rattle.loop_walk.proofs.Lengths.{is_before, table_count-more}
use Rattle.loop_walk.proofs.TableLaws.{filled-more, length-table_in, second_le, small_table_in}
use Rattle.loop_walk.proofs.tables.+fill_tables.Goals as goal

-- room for the earlier tables and one more
rooms : (m b area whole : ℕ) → 2 ≤ m → b ≡ length_before m → whole ≡ table_count m * area → whole ≡ table_count b * area + area
rooms m b area whole two is_b is = is ∙ ap (λ k. k * area) (table_count-more m two ∙ ap (λ k. table_count k + 1) (sym is_b)) ∙ omega arith

pub overflow_sub-tables : goal.overflow_sub-tables
overflow_sub-tables t c =
    rw c.frames-n.ensures.frames (omega (arith, rooms c.args.length c.length_before-before.result (c.args.costs.now.frames * c.args.costs.now.frames) (length c.args.tables.now) (omega arith) c.length_before-before.ensures c.requires.whole))

pub fill_tables-requires : goal.fill_tables-requires
fill_tables-requires t c =
    let before = is_before c.args.length (omega arith) in
    let is_b = c.length_before-before.ensures in
    let area = c.args.costs.now.frames * c.args.costs.now.frames in
    let whole = rooms c.args.length c.length_before-before.result area (length c.args.tables.now) (omega arith) is_b c.requires.whole in
    let front = rw c.frames-n.ensures.frames at c.split_at_mut-earlier.ensures.front_len in
    (omega (arith, c.decreases, before.less, is_b), (c.requires.steps, ((omega (arith, before.some, is_b), omega (arith, before.less, is_b)), (omega (arith, whole, front), (c.requires.nears, c.requires.rests)))))

pub fill_product-requires-clause-left : goal.fill_product-requires-clause-left
fill_product-requires-clause-left t c =
    let area = c.args.costs.now.frames * c.args.costs.now.frames in
    let fits : c.table_count-t.result * area ≤ length c.fill_tables.new.tables = omega (arith, c.fill_tables.ensures.made.whole, ap (λ k. k * area) c.table_count-t.ensures.count) in
    rw c.frames-n.ensures.frames (ap length c.table_in-left.ensures ∙ length-table_in c.args.costs.now c.args.steps.now c.requires.steps c.fill_tables.new.tables c.table_count-t.result fits)

pub fill_product-requires-clause-right : goal.fill_product-requires-clause-right
fill_product-requires-clause-right t c =
    let area = c.args.costs.now.frames * c.args.costs.now.frames in
    let second = c.second_table.result in
    let fits : second * area ≤ length c.fill_tables.new.tables =
    omega (arith, c.fill_tables.ensures.made.whole, ap (λ k. k * area) c.table_count-t.ensures.count, mul-le-mul_right area (second_le c.args.costs.now c.args.length c.table_count-t.result), ap (λ k. k * area) c.second_table.ensures) in
    rw c.frames-n.ensures.frames (ap length c.table_in-right.ensures ∙ length-table_in c.args.costs.now c.args.steps.now c.requires.steps c.fill_tables.new.tables second fits)

pub fill_product-requires-clause-made : goal.fill_product-requires-clause-made
fill_product-requires-clause-made t c =
    let area = c.args.costs.now.frames * c.args.costs.now.frames in
    let whole = rooms c.args.length c.length_before-before.result area (length c.args.tables.now) (omega arith) c.length_before-before.ensures c.requires.whole in
    let back = rw c.frames-n.ensures.frames at c.split_at_mut-earlier.ensures.back_len in
    rw c.frames-n.ensures.frames (omega (arith, whole, back))

pub returns : goal.returns
returns t c =
    let costs = c.args.costs.now in
    let n = costs.frames in
    let earlier = c.fill_tables.new.tables in
    let last = c.fill_product.new.made in
    let steps = c.args.steps.now in
    let product : IsProduct n (table_in steps earlier c.table_count-t.result) (table_in steps earlier (second_table c.args.length c.table_count-t.result)) last =
    rw (c.frames-n.ensures.frames, c.table_in-left.ensures, c.table_in-right.ensures, c.second_table.ensures) at c.fill_product.ensures in
    let whole = rooms c.args.length c.length_before-before.result (n * n) (length c.args.tables.now) (omega arith) c.length_before-before.ensures c.requires.whole in
    let back = rw c.frames-n.ensures.frames at c.split_at_mut-earlier.ensures.back_len in
    filled-more costs c.args.length c.length_before-before.result c.table_count-t.result (omega arith) c.requires.length.1 c.length_before-before.ensures c.table_count-t.ensures.count
    steps c.requires.steps earlier last c.fill_tables.ensures (c.fill_product.auto.made ∙ omega (arith, whole, back)) product

pub fill_product-requires-clause-small_left : goal.fill_product-requires-clause-small_left
fill_product-requires-clause-small_left t c =
    let before = is_before c.args.length (omega arith) in
    let area = c.args.costs.now.frames * c.args.costs.now.frames in
    let fits : c.table_count-t.result * area ≤ length c.fill_tables.new.tables = omega (arith, c.fill_tables.ensures.made.whole, ap (λ k. k * area) c.table_count-t.ensures.count) in
    subst (AreSmall GREATEST_NUMBER) (sym c.table_in-left.ensures)
    (small_table_in c.args.costs.now c.args.steps.now c.requires.steps c.fill_tables.new.tables (c.length_before-before.result * 2 ^ 46) GREATEST_NUMBER c.table_count-t.result (omega arith)
    (omega (arith, before.less, c.length_before-before.ensures, c.requires.length.1)) c.fill_tables.ensures.small fits)

pub fill_product-requires-clause-small_right : goal.fill_product-requires-clause-small_right
fill_product-requires-clause-small_right t c =
    let before = is_before c.args.length (omega arith) in
    let area = c.args.costs.now.frames * c.args.costs.now.frames in
    let second = c.second_table.result in
    let fits : second * area ≤ length c.fill_tables.new.tables =
    omega (arith, c.fill_tables.ensures.made.whole, ap (λ k. k * area) c.table_count-t.ensures.count, mul-le-mul_right area (second_le c.args.costs.now c.args.length c.table_count-t.result), ap (λ k. k * area) c.second_table.ensures) in
    subst (AreSmall GREATEST_NUMBER) (sym c.table_in-right.ensures)
    (small_table_in c.args.costs.now c.args.steps.now c.requires.steps c.fill_tables.new.tables (c.length_before-before.result * 2 ^ 46) GREATEST_NUMBER second (omega arith)
    (omega (arith, before.less, c.length_before-before.ensures, c.requires.length.1)) c.fill_tables.ensures.small fits)

pub fill_product-requires-clause-nears : goal.fill_product-requires-clause-nears
fill_product-requires-clause-nears t c = grind (arith, common_steps)

pub fill_product-requires-clause-rests : goal.fill_product-requires-clause-rests
fill_product-requires-clause-rests t c = grind (arith, common_steps)

pub table_in-right-requires-clause-few : goal.table_in-right-requires-clause-few
table_in-right-requires-clause-few t c = grind (arith, common_steps)

pub table_in-left-requires-clause-few : goal.table_in-left-requires-clause-few
table_in-left-requires-clause-few t c = grind (arith, common_steps)

pub table_in-right-requires-clause-there : goal.table_in-right-requires-clause-there
table_in-right-requires-clause-there t c = grind (arith, common_steps)

pub table_in-left-requires-clause-there : goal.table_in-left-requires-clause-there
table_in-left-requires-clause-there t c = grind (arith, common_steps)

pub table_in-right-requires-clause-count : goal.table_in-right-requires-clause-count
table_in-right-requires-clause-count t c = grind (arith, common_steps)

pub table_in-left-requires-clause-count : goal.table_in-left-requires-clause-count
table_in-left-requires-clause-count t c = grind (arith, common_steps)

pub returns-then-length-eq1 : goal.returns-then-length-eq1
returns-then-length-eq1 t c = grind (arith, common_steps)

pub slice_back_joined-tables : goal.slice_back_joined-tables
slice_back_joined-tables t c = grind (arith, common_steps)

pub fill_product-requires-clause-few : goal.fill_product-requires-clause-few
fill_product-requires-clause-few t c = grind (arith, common_steps)

pub both_followed-tables : goal.both_followed-tables
both_followed-tables t c = grind (arith, common_steps)
