use Rattle.std.proofs.Common.{take, get_or, subst, sym, arith}
use Rattle.std.proofs.lemmas.List.{take_all, take_more}
use Rattle.std.proofs.lemmas.List.Elements.{All-push}
use Rattle.std.specs.List.{flat_map}
use Rattle.std.specs.Prelude.{All}
use Rattle.file_bytes.specs.Writing.{Puts}
use Rattle.file_bytes.proofs.WritingLaws.{put_next, put_none, fields_next}
use Rattle.cert_file.specs.CutForms.{IsShortFlow, flow_field}
use Rattle.cut_check.specs.Flows.{no_flow}
use Rattle.cert_file.proofs.cuts.put_flows.Goals as goal

pub loop-flow-init : goal.loop-flow-init
loop-flow-init g c = record { put = put_none c.args.name.now (g.S.Shelf.state c.args.shelf.now) c.args.file.now; short = λ i d lt. absurd (omega arith) }

pub loop-flow-preserved : goal.loop-flow-preserved
loop-flow-preserved g c =
    let state = g.S.Shelf.state in
    let name = c.args.name.now in
    let field = flow_field in
    let items = c.args.flows.now in
    let i = c.loop-flow.flow-index in
    let item = no_flow in
    record {
      put =
          subst (λ all. Puts name all (state c.args.shelf.now) (state c.put.new.shelf) c.args.file.now c.put.new.self)
          (sym (fields_next field items i item c.loop-flow-test.true))
          (put_next name (flat_map field (take i items)) (field (get_or items i item)) (state c.loop-flow.shelf) (state c.put.new.shelf)
          c.loop-flow.file c.put.new.self c.args.file.now (state c.args.shelf.now) c.loop-flow.invariant.put
          (subst (λ piece. Puts name piece (state c.loop-flow.shelf) (state c.put.new.shelf) c.loop-flow.file c.put.new.self) c.flow_bytes.ensures.bytes c.put.ensures));
      short = subst (All IsShortFlow) (sym (take_more items i item c.loop-flow-test.true)) (All-push IsShortFlow (take i items) (get_or items i item) c.loop-flow.invariant.short c.flow_bytes.ensures.short);
    }

pub returns-clause-put : goal.returns-clause-put
returns-clause-put g c =
    let state = g.S.Shelf.state in
    let field = flow_field in
    subst (λ all. Puts c.args.name.now (flat_map field all) (state c.args.shelf.now) (state c.loop-flow.shelf) c.args.file.now c.loop-flow.file)
    (take_all c.loop-flow.flow-index c.args.flows.now c.loop-flow-test.false) c.loop-flow.invariant.put

pub returns-clause-short : goal.returns-clause-short
returns-clause-short g c = subst (All IsShortFlow) (take_all c.loop-flow.flow-index c.args.flows.now c.loop-flow-test.false) c.loop-flow.invariant.short
