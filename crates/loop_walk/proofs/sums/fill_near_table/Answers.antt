use Rattle.std.proofs.Common.{◌<◌, ◌∙◌, arith}
use Rattle.loop_walk.proofs.NearLaws.{near_entries, near_row_more}
use Rattle.loop_walk.proofs.sums.fill_near_table.Goals as goal

pub loop-v-preserved : goal.loop-v-preserved
loop-v-preserved c =
    let costs = c.args.costs.now in
    let below : c.loop-v.v < costs.frames = omega (arith, c.frames-v-end.ensures.frames, c.loop-v-test.true) in
    rw c.frames-n.ensures.frames
    (near_row_more costs c.args.tables.now c.args.t c.loop-v.v c.loop-v.nears c.fill_near_row.new.nears below (c.loop-v.auto.nears ∙ c.requires.nears)
    (omega (arith, c.fill_near_row.auto.nears)) c.loop-v.invariant c.fill_near_row.ensures.row)

pub returns-clause-near : goal.returns-clause-near
returns-clause-near c =
    near_entries c.args.costs.now c.args.tables.now c.args.t c.loop-v.nears (c.loop-v.auto.nears ∙ c.requires.nears)
    (λ v j row column. c.loop-v.invariant v j (omega arith) column)
