use Rattle.std.proofs.Common.{◌++◌, subst}
use Rattle.std.specs.List.{flat_map}
use Rattle.std.specs.Prelude.{All}
use Rattle.file_bytes.specs.Writing.{Puts}
use Rattle.file_bytes.proofs.WritingLaws.{put_next}
use Rattle.cert_file.specs.CutForms.{IsShortFlow, choice_field, cut_form, flow_field, from_field}
use Rattle.cert_file.proofs.cuts.put_cut.Goals as goal

pub returns-clause-put : goal.returns-clause-put
unfolding cut_form
returns-clause-put g c =
    let state = g.S.Shelf.state in
    let name = c.args.name.now in
    let a = c.place_bytes.result in
    let b = c.box_size_bytes.result in
    let d = from_field c.args.version c.args.samples.now c.args.cut.now.placement.from in
    let e = choice_field c.as_slice.result.now in
    let f = flat_map flow_field c.as_slice-2.result.now in
    let s0 = state c.args.shelf.now in
    let w0 = c.args.file.now in
    let two = put_next name a b (state c.put.new.shelf) (state c.put-2.new.shelf) c.put.new.self c.put-2.new.self w0 s0 c.put.ensures c.put-2.ensures in
    let three = put_next name (a ++ b) d (state c.put-2.new.shelf) (state c.put_source.new.shelf) c.put-2.new.self c.put_source.new.file w0 s0 two c.put_source.ensures in
    let four = put_next name (a ++ b ++ d) e (state c.put_source.new.shelf) (state c.put_choice.new.shelf) c.put_source.new.file c.put_choice.new.file w0 s0 three c.put_choice.ensures in
    let five = put_next name (a ++ b ++ d ++ e) f (state c.put_choice.new.shelf) (state c.put_flows.new.shelf) c.put_choice.new.file c.put_flows.new.file w0 s0 four c.put_flows.ensures.put in
    subst (λ piece. Puts name piece s0 (state c.put_flows.new.shelf) w0 c.put_flows.new.file)
    (λ k. c.place_bytes.ensures k ++ c.box_size_bytes.ensures k ++ d ++ choice_field (c.as_slice.ensures k) ++ flat_map flow_field (c.as_slice-2.ensures k)) five

pub returns-clause-short : goal.returns-clause-short
returns-clause-short g c = subst (All IsShortFlow) c.as_slice-2.ensures c.put_flows.ensures.short
