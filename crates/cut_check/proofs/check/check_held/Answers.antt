use Rattle.std.proofs.Common.{◌≡◌, arith, rules}
use Rattle.std.proofs.lemmas.Grind.{common_steps}
use Rattle.std.proofs.Common.{subst}
use Rattle.std.specs.Prelude.{OnOk, option_copied}
use Rattle.std.proofs.lemmas.Result.{on_ok_weaker}
use Rattle.costs.specs.Lawful.{held_marks}
use Rattle.cut_check.specs.Records.{CutStands}
use Rattle.cut_check.proofs.Least.{stands_least}
use Rattle.cut_check.proofs.check.check_held.Goals as goal

-- src/check.rt:102:1
pub returns-clause-least : goal.returns-clause-least
returns-clause-least c =
    let marks : c.unwrap_or.result.now ≡ held_marks (option_copied c.args.held) = search rules in
    on_ok_weaker c.check_fitting.result
    (stands_least c.args.canvas.now.map c.args.sample.now c.args.cut.now (option_copied c.args.held) c.requires.held)
    (subst (λ held. OnOk c.check_fitting.result (CutStands (record { map = c.args.canvas.now.map; sample = c.args.sample.now; held = held }) c.args.cut.now))
    marks c.check_fitting.ensures.stands)

pub returns-then-not-fits-clause-fault : goal.returns-then-not-fits-clause-fault
returns-then-not-fits-clause-fault c = grind (arith, common_steps)

pub returns-clause-stands : goal.returns-clause-stands
returns-clause-stands c =
    let marks : c.unwrap_or.result.now ≡ held_marks (option_copied c.args.held) = search rules in
    grind (arith, common_steps, marks)

pub returns-clause-fault : goal.returns-clause-fault
returns-clause-fault c =
    let marks : c.unwrap_or.result.now ≡ held_marks (option_copied c.args.held) = search rules in
    grind (arith, common_steps, marks)
