use Rattle.std.proofs.Common.{[], ◌++◌, length, take, get_or, subst, sym, arith}
use Rattle.std.proofs.lemmas.List.{take_all, take_more}
use Rattle.std.proofs.lemmas.List.Elements.{All-push}
use Rattle.std.specs.List.{flat_map}
use Rattle.std.specs.Prelude.{All}
use Rattle.file_bytes.specs.Fields.{field_32}
use Rattle.file_bytes.specs.Writing.{HasPut, Puts}
use Rattle.file_bytes.proofs.WritingLaws.{put_none}
use Rattle.cert_file.specs.CutForms.{HasShortFlows, IsCutInForm, cut_form}
use Rattle.cert_file.proofs.CutsAgain.{cuts_again}
use Rattle.cert_file.proofs.Putting.{one_more_put}
use Rattle.source_map.specs.Heads.{head_form}
use Rattle.cert_file.specs.RecordFiles.{record_magic, cuts_form, cuts_kind}
use Rattle.cert_file.proofs.file.write_cuts.Goals as goal

pub loop-cut-init : goal.loop-cut-init
loop-cut-init g c =
    let state = g.S.Shelf.state in
    let was = state c.args.shelf.now in
    let head = head_form record_magic cuts_kind c.args.head.now in
    record {
      put = put_none c.args.name.now (state c.put_number.new.shelf) c.put_number.new.self was (head ++ field_32 (length c.args.cuts.now)) (c.put_number.ensures was head (c.put_head.ensures was [] c.begin-file.ensures));
      short = λ i d lt. absurd (omega arith);
    }

pub loop-cut-preserved : goal.loop-cut-preserved
loop-cut-preserved g c =
    let state = g.S.Shelf.state in
    let name = c.args.name.now in
    let field = (cut_form c.args.head.now.version c.args.head.now.samples) in
    let items = c.args.cuts.now in
    let i = c.loop-cut.cut-index in
    let item = c.cut-item.result in
    record {
      put =
          one_more_put name (head_form record_magic cuts_kind c.args.head.now ++ field_32 (length items)) field items i item (state c.args.shelf.now) (state c.loop-cut.shelf) (state c.put_cut.new.shelf)
          c.loop-cut.file c.put_cut.new.file c.loop-cut-test.true c.loop-cut.invariant.put
          (subst (λ cut. Puts name (field cut) (state c.loop-cut.shelf) (state c.put_cut.new.shelf) c.loop-cut.file c.put_cut.new.file) c.cut-item.is c.put_cut.ensures.put);
      short = subst (All HasShortFlows) (sym (take_more items i item c.loop-cut-test.true)) (All-push HasShortFlows (take i items) (get_or items i item) c.loop-cut.invariant.short (subst HasShortFlows c.cut-item.is c.put_cut.ensures.short));
    }

pub returns-clause-again : goal.returns-clause-again
returns-clause-again g c = λ limits. cuts_again c.args.head.now c.args.cuts.now limits (subst (All HasShortFlows) (take_all c.loop-cut.cut-index c.args.cuts.now c.loop-cut-test.false) c.loop-cut.invariant.short)

pub returns-clause-writes : goal.returns-clause-writes
returns-clause-writes g c =
    let state = g.S.Shelf.state in
    let was = state c.args.shelf.now in
    c.finish.ensures.writes was (cuts_form c.args.head.now c.args.cuts.now)
    (subst (λ cuts. HasPut c.args.name.now (head_form record_magic cuts_kind c.args.head.now ++ field_32 (length c.args.cuts.now) ++ flat_map (cut_form c.args.head.now.version c.args.head.now.samples) cuts) was (state c.loop-cut.shelf) c.loop-cut.file)
    (take_all c.loop-cut.cut-index c.args.cuts.now c.loop-cut-test.false) c.loop-cut.invariant.put)

pub returns-clause-ok : goal.returns-clause-ok
returns-clause-ok g c =
    let state = g.S.Shelf.state in
    let was = state c.args.shelf.now in
    c.finish.ensures.ok was (cuts_form c.args.head.now c.args.cuts.now)
    (subst (λ cuts. HasPut c.args.name.now (head_form record_magic cuts_kind c.args.head.now ++ field_32 (length c.args.cuts.now) ++ flat_map (cut_form c.args.head.now.version c.args.head.now.samples) cuts) was (state c.loop-cut.shelf) c.loop-cut.file)
    (take_all c.loop-cut.cut-index c.args.cuts.now c.loop-cut-test.false) c.loop-cut.invariant.put)

pub returns-clause-err : goal.returns-clause-err
returns-clause-err g c =
    let state = g.S.Shelf.state in
    let was = state c.args.shelf.now in
    c.finish.ensures.err was (cuts_form c.args.head.now c.args.cuts.now)
    (subst (λ cuts. HasPut c.args.name.now (head_form record_magic cuts_kind c.args.head.now ++ field_32 (length c.args.cuts.now) ++ flat_map (cut_form c.args.head.now.version c.args.head.now.samples) cuts) was (state c.loop-cut.shelf) c.loop-cut.file)
    (take_all c.loop-cut.cut-index c.args.cuts.now c.loop-cut-test.false) c.loop-cut.invariant.put)

pub returns-clause-failed : goal.returns-clause-failed
returns-clause-failed g c =
    let state = g.S.Shelf.state in
    let was = state c.args.shelf.now in
    c.finish.ensures.failed was (cuts_form c.args.head.now c.args.cuts.now)
    (subst (λ cuts. HasPut c.args.name.now (head_form record_magic cuts_kind c.args.head.now ++ field_32 (length c.args.cuts.now) ++ flat_map (cut_form c.args.head.now.version c.args.head.now.samples) cuts) was (state c.loop-cut.shelf) c.loop-cut.file)
    (take_all c.loop-cut.cut-index c.args.cuts.now c.loop-cut-test.false) c.loop-cut.invariant.put)

pub put_cut-requires-clause-cut : goal.put_cut-requires-clause-cut
put_cut-requires-clause-cut g c = subst (IsCutInForm c.args.head.now.samples) (sym c.cut-item.is) (c.requires.each c.loop-cut.cut-index c.cut-item.result c.loop-cut-test.true)
