use Rattle.std.proofs.lemmas.Result.{on_ok_weaker}
use Rattle.cut_check.proofs.Least.{stands_least_alone}
use Rattle.cut_check.proofs.check.check_cut.Goals as goal

-- src/check.rt:124:1
pub returns-clause-least : goal.returns-clause-least
returns-clause-least c = on_ok_weaker c.check_held.result
    (stands_least_alone c.args.canvas.now.map c.args.sample.now c.args.cut.now) c.check_held.ensures.stands
