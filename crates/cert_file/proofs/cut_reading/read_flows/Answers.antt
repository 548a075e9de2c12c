use Rattle.std.proofs.Common.{◌+◌, ◌-◌, [], ◌∷◌, ◌++◌, length, subst, sym, ap, ◌∙◌, arith, ◌≡◌}
use Rattle.std.specs.Prelude.{Ok, vec_capacity, vec_len}
use Rattle.std.proofs.lemmas.Result.{err_from_is_err_and}
use Rattle.shelf_traits.proofs.FileLaws.{only_reads_then}
use Rattle.file_bytes.proofs.ReadingLaws.{room_made}
use Rattle.source_map.specs.Readings.{Found, list_read}
use Rattle.source_map.proofs.FieldLaws.{field_ruled, field_stops, list_more, list_stops}
use Rattle.cert_file.specs.CutReading.{flow_read, flow_rule}
use Rattle.cert_file.proofs.cut_reading.read_flows.Goals as goal

pub returns-in_err-take-clause-answer : goal.returns-in_err-take-clause-answer
returns-in_err-take-clause-answer g c =
    let state = g.S.Shelf.state in
    let name = c.args.name.now in
    let p = err_from_is_err_and c.from_residual-in_err-take.result c.from_residual-in_err-take.ensures.1 in
    rw (p.1, p.2)
    (list_stops (Unit {0}) name c.args.file.now.at c.loop-i.i c.args.count flow_read (state c.args.shelf.now) (state c.loop-i.shelf) (state c.take.new.shelf) c.loop-i.file c.take.new.self
    c.loop-i.flows.items c.in_err-take.field-0.0 c.loop-i-test.true c.loop-i.invariant.reads c.in_err-take.ensures.reads c.loop-i.invariant.found
    (field_stops (Unit {0}) name 4 flow_rule c.loop-i.file.at (state c.loop-i.shelf) (state c.take.new.shelf) c.take.new.self c.in_err-take.field-0.0 c.in_err-take.ensures.stops))

pub loop-i-preserved : goal.loop-i-preserved
loop-i-preserved g c =
    let state = g.S.Shelf.state in
    let name = c.args.name.now in
    let a = state c.args.shelf.now in
    let b = state c.loop-i.shelf in
    let d = state c.take.new.shelf in
    let so = c.loop-i.invariant in
    let ok = c.in_ok-take.ensures {u = tt} in
    let front = c.loop-i.flows.items in
    let flow = c.flow_of.result in
    let all = c.push_reserved.ensures.items ∙ ap (λ items. items ++ flow ∷ []) c.make_room.ensures.items in
    record {
      count = omega (arith, c.push_reserved.ensures.len, ap length c.make_room.ensures.items, so.count);
      at = omega (arith, ok.took.at_is, so.at);
      found = subst (λ items. Found name c.args.file.now.at d c.take.new.self (list_read flow_read (c.loop-i.i + 1)) items) (sym all)
          (list_more name c.args.file.now.at c.loop-i.i flow_read a b d c.loop-i.file c.take.new.self front flow so.reads ok.reads so.found
          (field_ruled ⊥ name 4 flow_rule c.loop-i.file.at c.take.new.into b d c.take.new.self (Ok flow) (omega arith) (c.flow_of.ensures c.loop-i.file.at) tt ok.took));
      reads = only_reads_then a b d so.reads ok.reads;
    }

pub push_reserved-requires : goal.push_reserved-requires
push_reserved-requires g c =
    let room = c.in_ok-make_room.ensures {u = tt} in
    room_made (vec_len c.loop-i.flows) (vec_len c.make_room.new.items) (vec_capacity c.loop-i.flows) (vec_capacity c.make_room.new.items) (c.args.count - c.loop-i.i)
    (omega (arith, ap length room.items)) room.kept room.grown (omega (arith, c.loop-i-test.true))

pub returns-in_err-take-clause-reads : goal.returns-in_err-take-clause-reads
returns-in_err-take-clause-reads g c =
    let state = g.S.Shelf.state in
    only_reads_then (state c.args.shelf.now) (state c.loop-i.shelf) (state c.take.new.shelf) c.loop-i.invariant.reads c.in_err-take.ensures.reads

pub returns-clause-answer : goal.returns-clause-answer
returns-clause-answer g c =
    let state = g.S.Shelf.state in
    let all : c.loop-i.i ≡ c.args.count = omega (arith, c.loop-i-test.false, c.loop-i.auto.i-end) in
    subst (Found c.args.name.now c.args.file.now.at (state c.loop-i.shelf) c.loop-i.file (list_read flow_read c.args.count)) (sym c.from_vec.ensures)
    (subst (λ n. Found c.args.name.now c.args.file.now.at (state c.loop-i.shelf) c.loop-i.file (list_read flow_read n) c.loop-i.flows.items) all c.loop-i.invariant.found)
