use Rattle.std.proofs.lemmas.Grind.{common_steps}
use Rattle.std.proofs.Common.{◌≡◌, ◌*◌, length, subst, arith}
use Rattle.match_error.proofs.Tables.{few_rows}
use Rattle.cells.proofs.BoxLaws.{box_small}
use Rattle.search_squares.proofs.blocks.filled_cells.Goals as goal

pub cells-requires : goal.cells-requires
cells-requires c = box_small c.args.canvas.now.map.size c.args.rect.now.corner c.args.rect.now.size c.map-map.ensures.canvas.map.small c.requires.some c.requires.inside

pub returns-clause-long : goal.returns-clause-long
returns-clause-long c =
    let size = c.args.rect.now.size in
    let all : c.loop-row.row ≡ size.h * size.f = omega (arith, c.loop-row-test.false, c.loop-row.auto.row-end) in
    subst (λ n. length c.loop-row.cells.items ≡ size.w * n) all c.loop-row.invariant.long

pub loop-row-preserved : goal.loop-row-preserved
loop-row-preserved c = c.in_ok-add_filled_row.ensures

pub add_filled_row-requires-clause-filled : goal.add_filled_row-requires-clause-filled
add_filled_row-requires-clause-filled c = c.loop-row.invariant.filled

pub add_filled_row-requires-clause-below : goal.add_filled_row-requires-clause-below
add_filled_row-requires-clause-below c = c.loop-row-test.true

pub add_filled_row-requires-clause-long : goal.add_filled_row-requires-clause-long
add_filled_row-requires-clause-long c = c.loop-row.invariant.long

pub add_filled_row-requires-clause-inside : goal.add_filled_row-requires-clause-inside
add_filled_row-requires-clause-inside c = c.requires.inside

pub add_filled_row-requires-clause-some : goal.add_filled_row-requires-clause-some
add_filled_row-requires-clause-some c = c.requires.some

pub overflow_mul-row-end : goal.overflow_mul-row-end
overflow_mul-row-end c = omega (arith, few_rows c.args.canvas.now.map c.args.rect.now c.map-map.ensures.canvas.map.small c.requires.inside)

pub loop-row-init : goal.loop-row-init
loop-row-init c = grind (arith, common_steps)

pub returns-clause-filled : goal.returns-clause-filled
returns-clause-filled c = grind (arith, common_steps)
