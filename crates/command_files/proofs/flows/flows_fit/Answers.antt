use Rattle.std.proofs.Common.{take, get_or, subst, sym, arith}
use Rattle.std.proofs.lemmas.List.{take_all, take_more}
use Rattle.std.proofs.lemmas.List.Elements.{All-push}
use Rattle.std.specs.Prelude.{All}
use Rattle.cut_check.specs.Flows.{no_flow}
use Rattle.cert_file.specs.CutForms.{IsShortFlow}
use Rattle.command_files.proofs.flows.flows_fit.Goals as goal

pub loop-flow-init : goal.loop-flow-init
loop-flow-init c = λ i d lt. absurd (omega arith)

pub loop-flow-preserved : goal.loop-flow-preserved
loop-flow-preserved c =
    let items = c.args.flows.now in
    let i = c.loop-flow.flow-index in
    subst (All IsShortFlow) (sym (take_more items i no_flow c.loop-flow-test.true)) (All-push IsShortFlow (take i items) (get_or items i no_flow) c.loop-flow.invariant c.flow_fits.ensures)

pub returns : goal.returns
returns c = subst (All IsShortFlow) (take_all c.loop-flow.flow-index c.args.flows.now c.loop-flow-test.false) c.loop-flow.invariant
