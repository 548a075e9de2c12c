use Rattle.std.proofs.Common.{ℕ, List}
use Rattle.std.proofs.lemmas.Result.{err_from_is_err_and}
use Rattle.std.specs.Prelude.{Result, Err}
use Rattle.shelf_traits.specs.declared.fault.ReadError.{ReadError}
use Rattle.shelf_traits.proofs.FileLaws.{only_reads_same, only_reads_then}
use Rattle.std.specs.Int.{w16}
use Rattle.cells.specs.declared.place.Size.{Size}
use Rattle.source_map.proofs.FieldLaws.{chain, first_stops, then_reads}
use Rattle.source_map.specs.Readings.{number_read}
use Rattle.cert_file.specs.CutReading.{box_axis_rule, box_cells_rule}
use Rattle.cert_file.proofs.Readings.{by_rule, ruled}
use Rattle.cert_file.proofs.block_fields.read_block_size.Goals as goal

abbrev after_1 : ℕ → ℕ → ℕ → ℕ → List ℕ → Result (Size × ℕ) ReadError
after_1 before v0 v1 = ruled (box_cells_rule before (record { w = v0; h = v1; f = 1 }))

abbrev after_0 : ℕ → ℕ → ℕ → List ℕ → Result (Size × ℕ) ReadError
after_0 before v0 = chain (number_read w16 box_axis_rule) (after_1 before v0)

pub returns-in_err-w-clause-answer : goal.returns-in_err-w-clause-answer
returns-in_err-w-clause-answer g c =
    let state = g.S.Shelf.state in
    let name = c.args.name.now in
    let e = c.in_err-w.field-0.0 in
    let p = err_from_is_err_and c.from_residual.result c.from_residual.ensures.1 in
    rw (p.1, p.2)
    (first_stops ⊥ name c.args.file.now.at (number_read w16 box_axis_rule) (after_0 c.args.before) (state c.args.shelf.now) (state c.read_box_axis.new.shelf) c.read_box_axis.new.file e c.in_err-w.ensures.answer)

pub returns-in_err-h-clause-answer : goal.returns-in_err-h-clause-answer
returns-in_err-h-clause-answer g c =
    let state = g.S.Shelf.state in
    let name = c.args.name.now in
    let e = c.in_err-h.field-0.0 in
    let p = err_from_is_err_and c.from_residual-in_err-h.result c.from_residual-in_err-h.ensures.1 in
    let v0 : ℕ = c.in_ok-w.w in
    let ok0 = c.in_ok-w.ensures {u = tt} in
    rw (p.1, p.2)
    (then_reads ⊥ name c.args.file.now.at (number_read w16 box_axis_rule) (after_0 c.args.before) (state c.args.shelf.now) (state c.read_box_axis.new.shelf) (state c.read_box_axis-2.new.shelf) c.read_box_axis.new.file c.read_box_axis-2.new.file v0 (Err e)
    ok0.reads c.in_err-h.ensures.reads ok0.answer
    (first_stops ⊥ name c.read_box_axis.new.file.at (number_read w16 box_axis_rule) (after_1 c.args.before v0) (state c.read_box_axis.new.shelf) (state c.read_box_axis-2.new.shelf) c.read_box_axis-2.new.file e c.in_err-h.ensures.answer))

pub returns-clause-answer : goal.returns-clause-answer
returns-clause-answer g c =
    let state = g.S.Shelf.state in
    let name = c.args.name.now in
    let v0 : ℕ = c.in_ok-w.w in
    let ok0 = c.in_ok-w.ensures {u = tt} in
    let v1 : ℕ = c.in_ok-h.h in
    let ok1 = c.in_ok-h.ensures {u = tt} in
    (then_reads ⊥ name c.args.file.now.at (number_read w16 box_axis_rule) (after_0 c.args.before) (state c.args.shelf.now) (state c.read_box_axis.new.shelf) (state c.read_box_axis-2.new.shelf) c.read_box_axis.new.file c.read_box_axis-2.new.file v0 c.lawful_box.result
    ok0.reads ok1.reads ok0.answer
    (then_reads ⊥ name c.read_box_axis.new.file.at (number_read w16 box_axis_rule) (after_1 c.args.before v0) (state c.read_box_axis.new.shelf) (state c.read_box_axis-2.new.shelf) (state c.read_box_axis-2.new.shelf) c.read_box_axis-2.new.file c.read_box_axis-2.new.file v1 c.lawful_box.result
    ok1.reads (only_reads_same (state c.read_box_axis-2.new.shelf)) ok1.answer
    (by_rule ⊥ name (state c.read_box_axis-2.new.shelf) (state c.read_box_axis-2.new.shelf) c.read_box_axis-2.new.file (box_cells_rule c.args.before (record { w = v0; h = v1; f = 1 })) c.lawful_box.result c.lawful_box.ensures.size c.lawful_box.ensures.refusal ok1.answer.follows)))

pub returns-clause-reads : goal.returns-clause-reads
returns-clause-reads g c =
    let state = g.S.Shelf.state in
    only_reads_then (state c.args.shelf.now) (state c.read_box_axis.new.shelf) (state c.read_box_axis-2.new.shelf) (c.in_ok-w.ensures {u = tt}).reads (c.in_ok-h.ensures {u = tt}).reads
