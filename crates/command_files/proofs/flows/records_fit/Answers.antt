use Rattle.std.proofs.Common.{take, get_or, subst, sym, arith}
use Rattle.std.proofs.lemmas.List.{take_all, take_more}
use Rattle.std.proofs.lemmas.List.Elements.{All-push}
use Rattle.std.specs.Prelude.{All}
use Rattle.cert_file.specs.CutForms.{HasShortFlows, IsShortFlow}
use Rattle.command_files.proofs.flows.records_fit.Goals as goal

pub loop-cut-init : goal.loop-cut-init
loop-cut-init c = λ i d lt. absurd (omega arith)

pub loop-cut-preserved : goal.loop-cut-preserved
loop-cut-preserved c =
    let items = c.args.cuts.now in
    let i = c.loop-cut.cut-index in
    let item = c.cut-item.result in
    subst (All HasShortFlows) (sym (take_more items i item c.loop-cut-test.true))
    (All-push HasShortFlows (take i items) (get_or items i item) c.loop-cut.invariant (subst HasShortFlows c.cut-item.is (subst (All IsShortFlow) c.as_slice.ensures c.flows_fit.ensures)))

pub returns : goal.returns
returns c = subst (All HasShortFlows) (take_all c.loop-cut.cut-index c.args.cuts.now c.loop-cut-test.false) c.loop-cut.invariant
