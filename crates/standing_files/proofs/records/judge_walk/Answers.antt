use Rattle.std.proofs.Common.{arith}
use Rattle.std.proofs.lemmas.Grind.{common_steps}
use Rattle.std.proofs.Common.{◌≡◌, ◌∙◌, ap, subst}
use Rattle.std.specs.Prelude.{None, Some}
use Rattle.frame_distance.specs.Steps.{Steps, steps_of}
use Rattle.frame_distance.specs.Tables.{Distances}
use Rattle.loop_walk.specs.Records.{WalkStands}
use Rattle.standing_files.specs.Standing.{walk_costs}
use Rattle.standing_files.proofs.Judging.{walk_judged}
use Rattle.standing_files.proofs.records.judge_walk.Goals as goal

pub returns-in-Ok : goal.returns-in-Ok
returns-in-Ok c =
    let walk = c.args.walk.now in
    let tables = c.args.tables.now in
    let costs = walk_costs c.args.sample.now c.args.taps c.args.gap in
    let same : c.in_ok-costs.costs ≡ costs = c.in_ok-costs.ensures.steps ∙ ap (λ (table : Distances). steps_of table c.args.taps c.args.gap) c.in_ok-table.ensures.table in
    walk_judged costs walk tables c.args.frames.now (subst (λ (costs : Steps). WalkStands costs walk tables) same c.in-Ok.ensures.stands) (Some c.in-Some.i) c.in-Some.ensures

pub returns-in-None : goal.returns-in-None
returns-in-None c =
    let walk = c.args.walk.now in
    let tables = c.args.tables.now in
    let costs = walk_costs c.args.sample.now c.args.taps c.args.gap in
    let same : c.in_ok-costs.costs ≡ costs = c.in_ok-costs.ensures.steps ∙ ap (λ (table : Distances). steps_of table c.args.taps c.args.gap) c.in_ok-table.ensures.table in
    walk_judged costs walk tables c.args.frames.now (subst (λ (costs : Steps). WalkStands costs walk tables) same c.in-Ok.ensures.stands) None c.in-None.ensures

pub check_loop-requires-clause-tables : goal.check_loop-requires-clause-tables
check_loop-requires-clause-tables c = grind (arith, common_steps)
