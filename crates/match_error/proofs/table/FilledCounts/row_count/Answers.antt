use Rattle.std.proofs.Common.{arith}
use Rattle.match_error.proofs.Tables.{few_columns, few_rows, four, piece_small}
use Rattle.match_error.proofs.table.FilledCounts.row_count.Goals as goal

pub overflow_sub-result : goal.overflow_sub-result
overflow_sub-result c =
    omega (arith, four c.args.canvas.now.map c.args.self.now.rect c.args.x c.args.w c.args.row c.args.h _ _ _ _ c.before-outer.ensures.count c.before-inner.ensures.count c.before-right.ensures.count c.before-below.ensures.count)

pub returns-clause-count : goal.returns-clause-count
returns-clause-count c =
    omega (arith, four c.args.canvas.now.map c.args.self.now.rect c.args.x c.args.w c.args.row c.args.h _ _ _ _ c.before-outer.ensures.count c.before-inner.ensures.count c.before-right.ensures.count c.before-below.ensures.count)

pub returns-clause-small : goal.returns-clause-small
returns-clause-small c =
    omega (arith, four c.args.canvas.now.map c.args.self.now.rect c.args.x c.args.w c.args.row c.args.h _ _ _ _ c.before-outer.ensures.count c.before-inner.ensures.count c.before-right.ensures.count c.before-below.ensures.count, piece_small c.args.canvas.now.map c.args.self.now.rect c.args.x c.args.w c.args.row c.args.h)

pub overflow_add-row-2 : goal.overflow_add-row-2
overflow_add-row-2 c = omega (arith, c.requires.rows, few_rows c.args.canvas.now.map c.args.self.now.rect c.map-map.ensures.canvas.map.small c.requires.counts.inside)

pub overflow_add-row : goal.overflow_add-row
overflow_add-row c = omega (arith, c.requires.rows, few_rows c.args.canvas.now.map c.args.self.now.rect c.map-map.ensures.canvas.map.small c.requires.counts.inside)

pub overflow_add-x-2 : goal.overflow_add-x-2
overflow_add-x-2 c = omega (arith, c.requires.columns, few_columns c.args.canvas.now.map c.args.self.now.rect c.map-map.ensures.canvas.map.small c.requires.counts.inside)

pub overflow_add-x : goal.overflow_add-x
overflow_add-x c = omega (arith, c.requires.columns, few_columns c.args.canvas.now.map c.args.self.now.rect c.map-map.ensures.canvas.map.small c.requires.counts.inside)
