use Rattle.std.proofs.Common.{arith, ◌∙◌}
use Rattle.std.proofs.Common.{ℕ, List, subst}
use Rattle.std.proofs.lemmas.Result.{err_from_is_err_and}
use Rattle.std.specs.Prelude.{Result, Ok, Err}
use Rattle.shelf_traits.specs.declared.fault.ReadError.{ReadError}
use Rattle.shelf_traits.proofs.FileLaws.{only_reads_same, only_reads_then}
use Rattle.cells.specs.declared.place.Size.{Size}
use Rattle.cells.specs.declared.place.At.{At}
use Rattle.source_map.proofs.FieldLaws.{chain, first_stops, made, then_reads, lifted}
use Rattle.cells.specs.Places.{cell_count}
use Rattle.boxes.specs.Pairs.{pair_count}
use Rattle.cut_check.specs.declared.record.CutRecord.{CutRecord}
use Rattle.cut_check.specs.declared.record.Flow.{Flow}
use Rattle.std.specs.Prelude.{Bool}
use Rattle.source_map.specs.Readings.{ReadsFrom, field_read, list_read}
use Rattle.cert_file.specs.CutReading.{box_size_read, choice_read, corner_rule, flow_read, from_read}
use Rattle.cert_file.proofs.PairCounts.{some_cells}
use Rattle.cert_file.proofs.cut_reading.read_cut.Goals as goal

abbrev end : At → Size → At → List Bool → List Flow → ℕ → List ℕ → Result (CutRecord × ℕ) ReadError
end corner size from choice flows at bytes = Ok (record { placement = record { rect = record { corner = corner; size = size }; from = from }; choice = choice; flows = flows }, at)

pub returns-in_err-corner-clause-answer : goal.returns-in_err-corner-clause-answer
returns-in_err-corner-clause-answer g c =
    let state = g.S.Shelf.state in
    let name = c.args.name.now in
    let p = err_from_is_err_and c.from_residual.result c.from_residual.ensures.1 in
    rw (p.1, p.2)
    (first_stops (Unit {0}) name c.args.file.now.at (field_read 6 corner_rule) (λ (v0 : At). chain (box_size_read c.args.before) (λ (v1 : Size). chain (from_read c.args.version c.args.samples.now) (λ (v2 : At). chain (choice_read (cell_count v1)) (λ (v3 : List Bool). chain (list_read flow_read (pair_count v1)) (λ (v4 : List Flow). end v0 v1 v2 v3 v4))))) (state c.args.shelf.now) (state c.read_corner.new.shelf) c.read_corner.new.file c.in_err-corner.field-0.0 (lifted (Unit {0}) name c.args.file.now.at (field_read 6 corner_rule) (state c.args.shelf.now) (state c.read_corner.new.shelf) c.read_corner.new.file (Err c.in_err-corner.field-0.0) c.in_err-corner.ensures.answer))

pub returns-in_err-size-clause-answer : goal.returns-in_err-size-clause-answer
returns-in_err-size-clause-answer g c =
    let state = g.S.Shelf.state in
    let name = c.args.name.now in
    let p = err_from_is_err_and c.from_residual-in_err-size.result c.from_residual-in_err-size.ensures.1 in
    let v0 : At = c.in_ok-corner.corner in
    let ok0 = c.in_ok-corner.ensures {u = tt} in
    rw (p.1, p.2)
    (then_reads (Unit {0}) name c.args.file.now.at (field_read 6 corner_rule) (λ (v0 : At). chain (box_size_read c.args.before) (λ (v1 : Size). chain (from_read c.args.version c.args.samples.now) (λ (v2 : At). chain (choice_read (cell_count v1)) (λ (v3 : List Bool). chain (list_read flow_read (pair_count v1)) (λ (v4 : List Flow). end v0 v1 v2 v3 v4))))) (state c.args.shelf.now) (state c.read_corner.new.shelf) (state c.read_box_size.new.shelf) c.read_corner.new.file c.read_box_size.new.file v0 (Err c.in_err-size.field-0.0)
    ok0.reads c.in_err-size.ensures.reads (lifted (Unit {0}) name c.args.file.now.at (field_read 6 corner_rule) (state c.args.shelf.now) (state c.read_corner.new.shelf) c.read_corner.new.file (Ok v0) ok0.answer)
    (first_stops (Unit {0}) name c.read_corner.new.file.at (box_size_read c.args.before) (λ (v1 : Size). chain (from_read c.args.version c.args.samples.now) (λ (v2 : At). chain (choice_read (cell_count v1)) (λ (v3 : List Bool). chain (list_read flow_read (pair_count v1)) (λ (v4 : List Flow). end v0 v1 v2 v3 v4)))) (state c.read_corner.new.shelf) (state c.read_box_size.new.shelf) c.read_box_size.new.file c.in_err-size.field-0.0 (lifted (Unit {0}) name c.read_corner.new.file.at (box_size_read c.args.before) (state c.read_corner.new.shelf) (state c.read_box_size.new.shelf) c.read_box_size.new.file (Err c.in_err-size.field-0.0) c.in_err-size.ensures.answer)))

pub returns-in_err-from-clause-answer : goal.returns-in_err-from-clause-answer
returns-in_err-from-clause-answer g c =
    let state = g.S.Shelf.state in
    let name = c.args.name.now in
    let p = err_from_is_err_and c.from_residual-in_err-from.result c.from_residual-in_err-from.ensures.1 in
    let v0 : At = c.in_ok-corner.corner in
    let ok0 = c.in_ok-corner.ensures {u = tt} in
    let v1 : Size = c.in_ok-size.size in
    let ok1 = c.in_ok-size.ensures {u = tt} in
    rw (p.1, p.2)
    (then_reads (Unit {0}) name c.args.file.now.at (field_read 6 corner_rule) (λ (v0 : At). chain (box_size_read c.args.before) (λ (v1 : Size). chain (from_read c.args.version c.args.samples.now) (λ (v2 : At). chain (choice_read (cell_count v1)) (λ (v3 : List Bool). chain (list_read flow_read (pair_count v1)) (λ (v4 : List Flow). end v0 v1 v2 v3 v4))))) (state c.args.shelf.now) (state c.read_corner.new.shelf) (state c.read_from.new.shelf) c.read_corner.new.file c.read_from.new.file v0 (Err c.in_err-from.field-0.0)
    ok0.reads (only_reads_then (state c.read_corner.new.shelf) (state c.read_box_size.new.shelf) (state c.read_from.new.shelf) ok1.reads c.in_err-from.ensures.reads) (lifted (Unit {0}) name c.args.file.now.at (field_read 6 corner_rule) (state c.args.shelf.now) (state c.read_corner.new.shelf) c.read_corner.new.file (Ok v0) ok0.answer)
    (then_reads (Unit {0}) name c.read_corner.new.file.at (box_size_read c.args.before) (λ (v1 : Size). chain (from_read c.args.version c.args.samples.now) (λ (v2 : At). chain (choice_read (cell_count v1)) (λ (v3 : List Bool). chain (list_read flow_read (pair_count v1)) (λ (v4 : List Flow). end v0 v1 v2 v3 v4)))) (state c.read_corner.new.shelf) (state c.read_box_size.new.shelf) (state c.read_from.new.shelf) c.read_box_size.new.file c.read_from.new.file v1 (Err c.in_err-from.field-0.0)
    ok1.reads c.in_err-from.ensures.reads (lifted (Unit {0}) name c.read_corner.new.file.at (box_size_read c.args.before) (state c.read_corner.new.shelf) (state c.read_box_size.new.shelf) c.read_box_size.new.file (Ok v1) ok1.answer)
    (first_stops (Unit {0}) name c.read_box_size.new.file.at (from_read c.args.version c.args.samples.now) (λ (v2 : At). chain (choice_read (cell_count v1)) (λ (v3 : List Bool). chain (list_read flow_read (pair_count v1)) (λ (v4 : List Flow). end v0 v1 v2 v3 v4))) (state c.read_box_size.new.shelf) (state c.read_from.new.shelf) c.read_from.new.file c.in_err-from.field-0.0 (lifted (Unit {0}) name c.read_box_size.new.file.at (from_read c.args.version c.args.samples.now) (state c.read_box_size.new.shelf) (state c.read_from.new.shelf) c.read_from.new.file (Err c.in_err-from.field-0.0) c.in_err-from.ensures.answer))))

pub returns-in_err-choice-clause-answer : goal.returns-in_err-choice-clause-answer
returns-in_err-choice-clause-answer g c =
    let state = g.S.Shelf.state in
    let name = c.args.name.now in
    let p = err_from_is_err_and c.from_residual-in_err-choice.result c.from_residual-in_err-choice.ensures.1 in
    let v0 : At = c.in_ok-corner.corner in
    let ok0 = c.in_ok-corner.ensures {u = tt} in
    let v1 : Size = c.in_ok-size.size in
    let ok1 = c.in_ok-size.ensures {u = tt} in
    let v2 : At = c.in_ok-from.from in
    let ok2 = c.in_ok-from.ensures {u = tt} in
    rw (p.1, p.2)
    (then_reads (Unit {0}) name c.args.file.now.at (field_read 6 corner_rule) (λ (v0 : At). chain (box_size_read c.args.before) (λ (v1 : Size). chain (from_read c.args.version c.args.samples.now) (λ (v2 : At). chain (choice_read (cell_count v1)) (λ (v3 : List Bool). chain (list_read flow_read (pair_count v1)) (λ (v4 : List Flow). end v0 v1 v2 v3 v4))))) (state c.args.shelf.now) (state c.read_corner.new.shelf) (state c.read_choice.new.shelf) c.read_corner.new.file c.read_choice.new.file v0 (Err c.in_err-choice.field-0.0)
    ok0.reads (only_reads_then (state c.read_corner.new.shelf) (state c.read_box_size.new.shelf) (state c.read_choice.new.shelf) ok1.reads (only_reads_then (state c.read_box_size.new.shelf) (state c.read_from.new.shelf) (state c.read_choice.new.shelf) ok2.reads c.in_err-choice.ensures.reads)) (lifted (Unit {0}) name c.args.file.now.at (field_read 6 corner_rule) (state c.args.shelf.now) (state c.read_corner.new.shelf) c.read_corner.new.file (Ok v0) ok0.answer)
    (then_reads (Unit {0}) name c.read_corner.new.file.at (box_size_read c.args.before) (λ (v1 : Size). chain (from_read c.args.version c.args.samples.now) (λ (v2 : At). chain (choice_read (cell_count v1)) (λ (v3 : List Bool). chain (list_read flow_read (pair_count v1)) (λ (v4 : List Flow). end v0 v1 v2 v3 v4)))) (state c.read_corner.new.shelf) (state c.read_box_size.new.shelf) (state c.read_choice.new.shelf) c.read_box_size.new.file c.read_choice.new.file v1 (Err c.in_err-choice.field-0.0)
    ok1.reads (only_reads_then (state c.read_box_size.new.shelf) (state c.read_from.new.shelf) (state c.read_choice.new.shelf) ok2.reads c.in_err-choice.ensures.reads) (lifted (Unit {0}) name c.read_corner.new.file.at (box_size_read c.args.before) (state c.read_corner.new.shelf) (state c.read_box_size.new.shelf) c.read_box_size.new.file (Ok v1) ok1.answer)
    (then_reads (Unit {0}) name c.read_box_size.new.file.at (from_read c.args.version c.args.samples.now) (λ (v2 : At). chain (choice_read (cell_count v1)) (λ (v3 : List Bool). chain (list_read flow_read (pair_count v1)) (λ (v4 : List Flow). end v0 v1 v2 v3 v4))) (state c.read_box_size.new.shelf) (state c.read_from.new.shelf) (state c.read_choice.new.shelf) c.read_from.new.file c.read_choice.new.file v2 (Err c.in_err-choice.field-0.0)
    ok2.reads c.in_err-choice.ensures.reads (lifted (Unit {0}) name c.read_box_size.new.file.at (from_read c.args.version c.args.samples.now) (state c.read_box_size.new.shelf) (state c.read_from.new.shelf) c.read_from.new.file (Ok v2) ok2.answer)
    (first_stops (Unit {0}) name c.read_from.new.file.at (choice_read (cell_count v1)) (λ (v3 : List Bool). chain (list_read flow_read (pair_count v1)) (λ (v4 : List Flow). end v0 v1 v2 v3 v4)) (state c.read_from.new.shelf) (state c.read_choice.new.shelf) c.read_choice.new.file c.in_err-choice.field-0.0 (subst (λ n. ReadsFrom (Unit {0}) name c.read_from.new.file.at (state c.read_from.new.shelf) (state c.read_choice.new.shelf) c.read_choice.new.file (choice_read n) (Err c.in_err-choice.field-0.0)) c.cells_of.ensures c.in_err-choice.ensures.answer)))))

pub returns-in_err-flows-clause-answer : goal.returns-in_err-flows-clause-answer
returns-in_err-flows-clause-answer g c =
    let state = g.S.Shelf.state in
    let name = c.args.name.now in
    let p = err_from_is_err_and c.from_residual-in_err-flows.result c.from_residual-in_err-flows.ensures.1 in
    let v0 : At = c.in_ok-corner.corner in
    let ok0 = c.in_ok-corner.ensures {u = tt} in
    let v1 : Size = c.in_ok-size.size in
    let ok1 = c.in_ok-size.ensures {u = tt} in
    let v2 : At = c.in_ok-from.from in
    let ok2 = c.in_ok-from.ensures {u = tt} in
    let v3 : List Bool = c.in_ok-choice.choice in
    let ok3 = c.in_ok-choice.ensures {u = tt} in
    rw (p.1, p.2)
    (then_reads (Unit {0}) name c.args.file.now.at (field_read 6 corner_rule) (λ (v0 : At). chain (box_size_read c.args.before) (λ (v1 : Size). chain (from_read c.args.version c.args.samples.now) (λ (v2 : At). chain (choice_read (cell_count v1)) (λ (v3 : List Bool). chain (list_read flow_read (pair_count v1)) (λ (v4 : List Flow). end v0 v1 v2 v3 v4))))) (state c.args.shelf.now) (state c.read_corner.new.shelf) (state c.read_flows.new.shelf) c.read_corner.new.file c.read_flows.new.file v0 (Err c.in_err-flows.field-0.0)
    ok0.reads (only_reads_then (state c.read_corner.new.shelf) (state c.read_box_size.new.shelf) (state c.read_flows.new.shelf) ok1.reads (only_reads_then (state c.read_box_size.new.shelf) (state c.read_from.new.shelf) (state c.read_flows.new.shelf) ok2.reads (only_reads_then (state c.read_from.new.shelf) (state c.read_choice.new.shelf) (state c.read_flows.new.shelf) ok3.reads c.in_err-flows.ensures.reads))) (lifted (Unit {0}) name c.args.file.now.at (field_read 6 corner_rule) (state c.args.shelf.now) (state c.read_corner.new.shelf) c.read_corner.new.file (Ok v0) ok0.answer)
    (then_reads (Unit {0}) name c.read_corner.new.file.at (box_size_read c.args.before) (λ (v1 : Size). chain (from_read c.args.version c.args.samples.now) (λ (v2 : At). chain (choice_read (cell_count v1)) (λ (v3 : List Bool). chain (list_read flow_read (pair_count v1)) (λ (v4 : List Flow). end v0 v1 v2 v3 v4)))) (state c.read_corner.new.shelf) (state c.read_box_size.new.shelf) (state c.read_flows.new.shelf) c.read_box_size.new.file c.read_flows.new.file v1 (Err c.in_err-flows.field-0.0)
    ok1.reads (only_reads_then (state c.read_box_size.new.shelf) (state c.read_from.new.shelf) (state c.read_flows.new.shelf) ok2.reads (only_reads_then (state c.read_from.new.shelf) (state c.read_choice.new.shelf) (state c.read_flows.new.shelf) ok3.reads c.in_err-flows.ensures.reads)) (lifted (Unit {0}) name c.read_corner.new.file.at (box_size_read c.args.before) (state c.read_corner.new.shelf) (state c.read_box_size.new.shelf) c.read_box_size.new.file (Ok v1) ok1.answer)
    (then_reads (Unit {0}) name c.read_box_size.new.file.at (from_read c.args.version c.args.samples.now) (λ (v2 : At). chain (choice_read (cell_count v1)) (λ (v3 : List Bool). chain (list_read flow_read (pair_count v1)) (λ (v4 : List Flow). end v0 v1 v2 v3 v4))) (state c.read_box_size.new.shelf) (state c.read_from.new.shelf) (state c.read_flows.new.shelf) c.read_from.new.file c.read_flows.new.file v2 (Err c.in_err-flows.field-0.0)
    ok2.reads (only_reads_then (state c.read_from.new.shelf) (state c.read_choice.new.shelf) (state c.read_flows.new.shelf) ok3.reads c.in_err-flows.ensures.reads) (lifted (Unit {0}) name c.read_box_size.new.file.at (from_read c.args.version c.args.samples.now) (state c.read_box_size.new.shelf) (state c.read_from.new.shelf) c.read_from.new.file (Ok v2) ok2.answer)
    (then_reads (Unit {0}) name c.read_from.new.file.at (choice_read (cell_count v1)) (λ (v3 : List Bool). chain (list_read flow_read (pair_count v1)) (λ (v4 : List Flow). end v0 v1 v2 v3 v4)) (state c.read_from.new.shelf) (state c.read_choice.new.shelf) (state c.read_flows.new.shelf) c.read_choice.new.file c.read_flows.new.file v3 (Err c.in_err-flows.field-0.0)
    ok3.reads c.in_err-flows.ensures.reads (subst (λ n. ReadsFrom (Unit {0}) name c.read_from.new.file.at (state c.read_from.new.shelf) (state c.read_choice.new.shelf) c.read_choice.new.file (choice_read n) (Ok v3)) c.cells_of.ensures ok3.answer)
    (first_stops (Unit {0}) name c.read_choice.new.file.at (list_read flow_read (pair_count v1)) (λ (v4 : List Flow). end v0 v1 v2 v3 v4) (state c.read_choice.new.shelf) (state c.read_flows.new.shelf) c.read_flows.new.file c.in_err-flows.field-0.0 (subst (λ n. ReadsFrom (Unit {0}) name c.read_choice.new.file.at (state c.read_choice.new.shelf) (state c.read_flows.new.shelf) c.read_flows.new.file (list_read flow_read n) (Err c.in_err-flows.field-0.0)) c.pairs_of.ensures.pairs c.in_err-flows.ensures.answer))))))

pub returns-clause-answer : goal.returns-clause-answer
returns-clause-answer g c =
    let state = g.S.Shelf.state in
    let name = c.args.name.now in
    let v0 : At = c.in_ok-corner.corner in
    let ok0 = c.in_ok-corner.ensures {u = tt} in
    let v1 : Size = c.in_ok-size.size in
    let ok1 = c.in_ok-size.ensures {u = tt} in
    let v2 : At = c.in_ok-from.from in
    let ok2 = c.in_ok-from.ensures {u = tt} in
    let v3 : List Bool = c.in_ok-choice.choice in
    let ok3 = c.in_ok-choice.ensures {u = tt} in
    let v4 : List Flow = c.in_ok-flows.flows in
    let ok4 = c.in_ok-flows.ensures {u = tt} in
    let value : CutRecord = record { placement = record { rect = record { corner = v0; size = v1 }; from = v2 }; choice = v3; flows = v4 } in
    then_reads (Unit {0}) name c.args.file.now.at (field_read 6 corner_rule) (λ (v0 : At). chain (box_size_read c.args.before) (λ (v1 : Size). chain (from_read c.args.version c.args.samples.now) (λ (v2 : At). chain (choice_read (cell_count v1)) (λ (v3 : List Bool). chain (list_read flow_read (pair_count v1)) (λ (v4 : List Flow). end v0 v1 v2 v3 v4))))) (state c.args.shelf.now) (state c.read_corner.new.shelf) (state c.read_flows.new.shelf) c.read_corner.new.file c.read_flows.new.file v0 (Ok value)
    ok0.reads (only_reads_then (state c.read_corner.new.shelf) (state c.read_box_size.new.shelf) (state c.read_flows.new.shelf) ok1.reads (only_reads_then (state c.read_box_size.new.shelf) (state c.read_from.new.shelf) (state c.read_flows.new.shelf) ok2.reads (only_reads_then (state c.read_from.new.shelf) (state c.read_choice.new.shelf) (state c.read_flows.new.shelf) ok3.reads ok4.reads))) (lifted (Unit {0}) name c.args.file.now.at (field_read 6 corner_rule) (state c.args.shelf.now) (state c.read_corner.new.shelf) c.read_corner.new.file (Ok v0) ok0.answer)
    (then_reads (Unit {0}) name c.read_corner.new.file.at (box_size_read c.args.before) (λ (v1 : Size). chain (from_read c.args.version c.args.samples.now) (λ (v2 : At). chain (choice_read (cell_count v1)) (λ (v3 : List Bool). chain (list_read flow_read (pair_count v1)) (λ (v4 : List Flow). end v0 v1 v2 v3 v4)))) (state c.read_corner.new.shelf) (state c.read_box_size.new.shelf) (state c.read_flows.new.shelf) c.read_box_size.new.file c.read_flows.new.file v1 (Ok value)
    ok1.reads (only_reads_then (state c.read_box_size.new.shelf) (state c.read_from.new.shelf) (state c.read_flows.new.shelf) ok2.reads (only_reads_then (state c.read_from.new.shelf) (state c.read_choice.new.shelf) (state c.read_flows.new.shelf) ok3.reads ok4.reads)) (lifted (Unit {0}) name c.read_corner.new.file.at (box_size_read c.args.before) (state c.read_corner.new.shelf) (state c.read_box_size.new.shelf) c.read_box_size.new.file (Ok v1) ok1.answer)
    (then_reads (Unit {0}) name c.read_box_size.new.file.at (from_read c.args.version c.args.samples.now) (λ (v2 : At). chain (choice_read (cell_count v1)) (λ (v3 : List Bool). chain (list_read flow_read (pair_count v1)) (λ (v4 : List Flow). end v0 v1 v2 v3 v4))) (state c.read_box_size.new.shelf) (state c.read_from.new.shelf) (state c.read_flows.new.shelf) c.read_from.new.file c.read_flows.new.file v2 (Ok value)
    ok2.reads (only_reads_then (state c.read_from.new.shelf) (state c.read_choice.new.shelf) (state c.read_flows.new.shelf) ok3.reads ok4.reads) (lifted (Unit {0}) name c.read_box_size.new.file.at (from_read c.args.version c.args.samples.now) (state c.read_box_size.new.shelf) (state c.read_from.new.shelf) c.read_from.new.file (Ok v2) ok2.answer)
    (then_reads (Unit {0}) name c.read_from.new.file.at (choice_read (cell_count v1)) (λ (v3 : List Bool). chain (list_read flow_read (pair_count v1)) (λ (v4 : List Flow). end v0 v1 v2 v3 v4)) (state c.read_from.new.shelf) (state c.read_choice.new.shelf) (state c.read_flows.new.shelf) c.read_choice.new.file c.read_flows.new.file v3 (Ok value)
    ok3.reads ok4.reads (subst (λ n. ReadsFrom (Unit {0}) name c.read_from.new.file.at (state c.read_from.new.shelf) (state c.read_choice.new.shelf) c.read_choice.new.file (choice_read n) (Ok v3)) c.cells_of.ensures ok3.answer)
    (then_reads (Unit {0}) name c.read_choice.new.file.at (list_read flow_read (pair_count v1)) (λ (v4 : List Flow). end v0 v1 v2 v3 v4) (state c.read_choice.new.shelf) (state c.read_flows.new.shelf) (state c.read_flows.new.shelf) c.read_flows.new.file c.read_flows.new.file v4 (Ok value)
    ok4.reads (only_reads_same (state c.read_flows.new.shelf)) (subst (λ n. ReadsFrom (Unit {0}) name c.read_choice.new.file.at (state c.read_choice.new.shelf) (state c.read_flows.new.shelf) c.read_flows.new.file (list_read flow_read n) (Ok v4)) c.pairs_of.ensures.pairs ok4.answer)
    (made (Unit {0}) name (state c.read_flows.new.shelf) (state c.read_flows.new.shelf) c.read_flows.new.file value ok4.answer.follows)))))

pub returns-in_err-size-clause-reads : goal.returns-in_err-size-clause-reads
returns-in_err-size-clause-reads g c =
    let state = g.S.Shelf.state in
    only_reads_then (state c.args.shelf.now) (state c.read_corner.new.shelf) (state c.read_box_size.new.shelf) (c.in_ok-corner.ensures {u = tt}).reads c.in_err-size.ensures.reads

pub returns-in_err-from-clause-reads : goal.returns-in_err-from-clause-reads
returns-in_err-from-clause-reads g c =
    let state = g.S.Shelf.state in
    only_reads_then (state c.args.shelf.now) (state c.read_corner.new.shelf) (state c.read_from.new.shelf) (c.in_ok-corner.ensures {u = tt}).reads (only_reads_then (state c.read_corner.new.shelf) (state c.read_box_size.new.shelf) (state c.read_from.new.shelf) (c.in_ok-size.ensures {u = tt}).reads c.in_err-from.ensures.reads)

pub returns-in_err-choice-clause-reads : goal.returns-in_err-choice-clause-reads
returns-in_err-choice-clause-reads g c =
    let state = g.S.Shelf.state in
    only_reads_then (state c.args.shelf.now) (state c.read_corner.new.shelf) (state c.read_choice.new.shelf) (c.in_ok-corner.ensures {u = tt}).reads (only_reads_then (state c.read_corner.new.shelf) (state c.read_box_size.new.shelf) (state c.read_choice.new.shelf) (c.in_ok-size.ensures {u = tt}).reads (only_reads_then (state c.read_box_size.new.shelf) (state c.read_from.new.shelf) (state c.read_choice.new.shelf) (c.in_ok-from.ensures {u = tt}).reads c.in_err-choice.ensures.reads))

pub returns-in_err-flows-clause-reads : goal.returns-in_err-flows-clause-reads
returns-in_err-flows-clause-reads g c =
    let state = g.S.Shelf.state in
    only_reads_then (state c.args.shelf.now) (state c.read_corner.new.shelf) (state c.read_flows.new.shelf) (c.in_ok-corner.ensures {u = tt}).reads (only_reads_then (state c.read_corner.new.shelf) (state c.read_box_size.new.shelf) (state c.read_flows.new.shelf) (c.in_ok-size.ensures {u = tt}).reads (only_reads_then (state c.read_box_size.new.shelf) (state c.read_from.new.shelf) (state c.read_flows.new.shelf) (c.in_ok-from.ensures {u = tt}).reads (only_reads_then (state c.read_from.new.shelf) (state c.read_choice.new.shelf) (state c.read_flows.new.shelf) (c.in_ok-choice.ensures {u = tt}).reads c.in_err-flows.ensures.reads)))

pub returns-clause-reads : goal.returns-clause-reads
returns-clause-reads g c =
    let state = g.S.Shelf.state in
    only_reads_then (state c.args.shelf.now) (state c.read_corner.new.shelf) (state c.read_flows.new.shelf) (c.in_ok-corner.ensures {u = tt}).reads (only_reads_then (state c.read_corner.new.shelf) (state c.read_box_size.new.shelf) (state c.read_flows.new.shelf) (c.in_ok-size.ensures {u = tt}).reads (only_reads_then (state c.read_box_size.new.shelf) (state c.read_from.new.shelf) (state c.read_flows.new.shelf) (c.in_ok-from.ensures {u = tt}).reads (only_reads_then (state c.read_from.new.shelf) (state c.read_choice.new.shelf) (state c.read_flows.new.shelf) (c.in_ok-choice.ensures {u = tt}).reads (c.in_ok-flows.ensures {u = tt}).reads)))

pub returns-clause-form : goal.returns-clause-form
returns-clause-form g c =
    record {
      corner = (c.in_ok-corner.ensures {u = tt}).short;
      size = (c.in_ok-size.ensures {u = tt}).within.axes;
      from = (c.in_ok-from.ensures {u = tt}).inside;
      choice = (c.in_ok-choice.ensures {u = tt}).count ∙ c.cells_of.ensures;
      flows = (c.in_ok-flows.ensures {u = tt}).count ∙ c.pairs_of.ensures.pairs;
    }

pub returns-clause-place : goal.returns-clause-place
returns-clause-place g c =
    omega (arith, (c.in_ok-corner.ensures {u = tt}).place, (c.in_ok-size.ensures {u = tt}).place, (c.in_ok-from.ensures {u = tt}).place, (c.in_ok-choice.ensures {u = tt}).place, (c.in_ok-flows.ensures {u = tt}).place, c.cells_of.ensures, c.pairs_of.ensures.few, some_cells c.in_ok-size.size (c.in_ok-size.ensures {u = tt}).within.axes)

pub returns-clause-cells : goal.returns-clause-cells
returns-clause-cells g c = (c.in_ok-size.ensures {u = tt}).within.cells

pub read_flows-requires-clause-room : goal.read_flows-requires-clause-room
read_flows-requires-clause-room g c =
    omega (arith, (c.in_ok-corner.ensures {u = tt}).place, (c.in_ok-size.ensures {u = tt}).place, (c.in_ok-from.ensures {u = tt}).place, (c.in_ok-choice.ensures {u = tt}).place, c.cells_of.ensures, c.pairs_of.ensures.few, (c.in_ok-size.ensures {u = tt}).within.cells, c.requires.room)
