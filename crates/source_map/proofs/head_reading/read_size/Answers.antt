use Rattle.std.proofs.Common.{ℕ, List}
use Rattle.std.proofs.lemmas.Result.{err_from_is_err_and}
use Rattle.std.specs.Prelude.{Result, Ok, Err}
use Rattle.shelf_traits.specs.declared.fault.ReadError.{ReadError}
use Rattle.shelf_traits.proofs.FileLaws.{only_reads_same, only_reads_then}
use Rattle.cells.specs.declared.place.Size.{Size}
use Rattle.source_map.proofs.FieldLaws.{chain, first_stops, made, then_reads}
use Rattle.std.specs.Int.{w32}
use Rattle.source_map.specs.Heads.{axis_rule}
use Rattle.source_map.specs.Readings.{number_read}
use Rattle.source_map.proofs.head_reading.read_size.Goals as goal

abbrev end : ℕ → ℕ → ℕ → ℕ → List ℕ → Result (Size × ℕ) ReadError
end w h f at bytes = Ok (record { w = w; h = h; f = f }, at)

pub returns-in_err-w-clause-answer : goal.returns-in_err-w-clause-answer
returns-in_err-w-clause-answer g c =
    let state = g.S.Shelf.state in
    let name = c.args.name.now in
    let p = err_from_is_err_and c.from_residual.result c.from_residual.ensures.1 in
    rw (p.1, p.2)
    (first_stops ⊥ name c.args.file.now.at (number_read w32 axis_rule) (λ (v0 : ℕ). chain (number_read w32 axis_rule) (λ (v1 : ℕ). chain (number_read w32 axis_rule) (λ (v2 : ℕ). end v0 v1 v2))) (state c.args.shelf.now) (state c.read_axis.new.shelf) c.read_axis.new.file c.in_err-w.field-0.0 c.in_err-w.ensures.answer)

pub returns-in_err-h-clause-answer : goal.returns-in_err-h-clause-answer
returns-in_err-h-clause-answer g c =
    let state = g.S.Shelf.state in
    let name = c.args.name.now in
    let p = err_from_is_err_and c.from_residual-in_err-h.result c.from_residual-in_err-h.ensures.1 in
    let v0 : ℕ = c.in_ok-w.w in
    let ok0 = c.in_ok-w.ensures {u = tt} in
    rw (p.1, p.2)
    (then_reads ⊥ name c.args.file.now.at (number_read w32 axis_rule) (λ (v0 : ℕ). chain (number_read w32 axis_rule) (λ (v1 : ℕ). chain (number_read w32 axis_rule) (λ (v2 : ℕ). end v0 v1 v2))) (state c.args.shelf.now) (state c.read_axis.new.shelf) (state c.read_axis-2.new.shelf) c.read_axis.new.file c.read_axis-2.new.file v0 (Err c.in_err-h.field-0.0)
    ok0.reads c.in_err-h.ensures.reads ok0.answer
    (first_stops ⊥ name c.read_axis.new.file.at (number_read w32 axis_rule) (λ (v1 : ℕ). chain (number_read w32 axis_rule) (λ (v2 : ℕ). end v0 v1 v2)) (state c.read_axis.new.shelf) (state c.read_axis-2.new.shelf) c.read_axis-2.new.file c.in_err-h.field-0.0 c.in_err-h.ensures.answer))

pub returns-in_err-f-clause-answer : goal.returns-in_err-f-clause-answer
returns-in_err-f-clause-answer g c =
    let state = g.S.Shelf.state in
    let name = c.args.name.now in
    let p = err_from_is_err_and c.from_residual-in_err-f.result c.from_residual-in_err-f.ensures.1 in
    let v0 : ℕ = c.in_ok-w.w in
    let ok0 = c.in_ok-w.ensures {u = tt} in
    let v1 : ℕ = c.in_ok-h.h in
    let ok1 = c.in_ok-h.ensures {u = tt} in
    rw (p.1, p.2)
    (then_reads ⊥ name c.args.file.now.at (number_read w32 axis_rule) (λ (v0 : ℕ). chain (number_read w32 axis_rule) (λ (v1 : ℕ). chain (number_read w32 axis_rule) (λ (v2 : ℕ). end v0 v1 v2))) (state c.args.shelf.now) (state c.read_axis.new.shelf) (state c.read_axis-3.new.shelf) c.read_axis.new.file c.read_axis-3.new.file v0 (Err c.in_err-f.field-0.0)
    ok0.reads (only_reads_then (state c.read_axis.new.shelf) (state c.read_axis-2.new.shelf) (state c.read_axis-3.new.shelf) ok1.reads c.in_err-f.ensures.reads) ok0.answer
    (then_reads ⊥ name c.read_axis.new.file.at (number_read w32 axis_rule) (λ (v1 : ℕ). chain (number_read w32 axis_rule) (λ (v2 : ℕ). end v0 v1 v2)) (state c.read_axis.new.shelf) (state c.read_axis-2.new.shelf) (state c.read_axis-3.new.shelf) c.read_axis-2.new.file c.read_axis-3.new.file v1 (Err c.in_err-f.field-0.0)
    ok1.reads c.in_err-f.ensures.reads ok1.answer
    (first_stops ⊥ name c.read_axis-2.new.file.at (number_read w32 axis_rule) (λ (v2 : ℕ). end v0 v1 v2) (state c.read_axis-2.new.shelf) (state c.read_axis-3.new.shelf) c.read_axis-3.new.file c.in_err-f.field-0.0 c.in_err-f.ensures.answer)))

pub returns-clause-answer : goal.returns-clause-answer
returns-clause-answer g c =
    let state = g.S.Shelf.state in
    let name = c.args.name.now in
    let v0 : ℕ = c.in_ok-w.w in
    let ok0 = c.in_ok-w.ensures {u = tt} in
    let v1 : ℕ = c.in_ok-h.h in
    let ok1 = c.in_ok-h.ensures {u = tt} in
    let v2 : ℕ = c.in_ok-f.f in
    let ok2 = c.in_ok-f.ensures {u = tt} in
    let value : Size = record { w = v0; h = v1; f = v2 } in
    then_reads ⊥ name c.args.file.now.at (number_read w32 axis_rule) (λ (v0 : ℕ). chain (number_read w32 axis_rule) (λ (v1 : ℕ). chain (number_read w32 axis_rule) (λ (v2 : ℕ). end v0 v1 v2))) (state c.args.shelf.now) (state c.read_axis.new.shelf) (state c.read_axis-3.new.shelf) c.read_axis.new.file c.read_axis-3.new.file v0 (Ok value)
    ok0.reads (only_reads_then (state c.read_axis.new.shelf) (state c.read_axis-2.new.shelf) (state c.read_axis-3.new.shelf) ok1.reads ok2.reads) ok0.answer
    (then_reads ⊥ name c.read_axis.new.file.at (number_read w32 axis_rule) (λ (v1 : ℕ). chain (number_read w32 axis_rule) (λ (v2 : ℕ). end v0 v1 v2)) (state c.read_axis.new.shelf) (state c.read_axis-2.new.shelf) (state c.read_axis-3.new.shelf) c.read_axis-2.new.file c.read_axis-3.new.file v1 (Ok value)
    ok1.reads ok2.reads ok1.answer
    (then_reads ⊥ name c.read_axis-2.new.file.at (number_read w32 axis_rule) (λ (v2 : ℕ). end v0 v1 v2) (state c.read_axis-2.new.shelf) (state c.read_axis-3.new.shelf) (state c.read_axis-3.new.shelf) c.read_axis-3.new.file c.read_axis-3.new.file v2 (Ok value)
    ok2.reads (only_reads_same (state c.read_axis-3.new.shelf)) ok2.answer
    (made ⊥ name (state c.read_axis-3.new.shelf) (state c.read_axis-3.new.shelf) c.read_axis-3.new.file value ok2.answer.follows)))

pub returns-clause-reads : goal.returns-clause-reads
returns-clause-reads g c =
    let state = g.S.Shelf.state in
    only_reads_then (state c.args.shelf.now) (state c.read_axis.new.shelf) (state c.read_axis-3.new.shelf) (c.in_ok-w.ensures {u = tt}).reads (only_reads_then (state c.read_axis.new.shelf) (state c.read_axis-2.new.shelf) (state c.read_axis-3.new.shelf) (c.in_ok-h.ensures {u = tt}).reads (c.in_ok-f.ensures {u = tt}).reads)

pub returns-in_err-f-clause-reads : goal.returns-in_err-f-clause-reads
returns-in_err-f-clause-reads g c =
    let state = g.S.Shelf.state in
    only_reads_then (state c.args.shelf.now) (state c.read_axis.new.shelf) (state c.read_axis-3.new.shelf) (c.in_ok-w.ensures {u = tt}).reads (only_reads_then (state c.read_axis.new.shelf) (state c.read_axis-2.new.shelf) (state c.read_axis-3.new.shelf) (c.in_ok-h.ensures {u = tt}).reads c.in_err-f.ensures.reads)
