use Rattle.std.proofs.Common.{ℕ, List}
use Rattle.std.proofs.lemmas.Result.{err_from_is_err_and}
use Rattle.std.specs.Prelude.{Result, Ok, Err}
use Rattle.shelf_traits.specs.declared.fault.ReadError.{ReadError}
use Rattle.shelf_traits.proofs.FileLaws.{only_reads_same, only_reads_then}
use Rattle.source_map.proofs.FieldLaws.{chain, first_stops, made, then_reads}
use Rattle.std.proofs.Common.{subst, sym}
use Rattle.source_map.specs.Readings.{ReadsFrom}
use Rattle.std.specs.Int.{w16}
use Rattle.cells.specs.Places.{spot}
use Rattle.cells.specs.declared.place.At.{At}
use Rattle.source_map.specs.MapFiles.{below_rule}
use Rattle.source_map.specs.Readings.{number_read}
use Rattle.cells.specs.Places.{IsInside}
use Rattle.source_map.proofs.Sources.{spot_inside}
use Rattle.source_map.proofs.map_reading.read_place.Goals as goal

abbrev end : ℕ → ℕ → ℕ → ℕ → List ℕ → Result (At × ℕ) ReadError
end x y f at bytes = Ok (spot x y f, at)

pub returns-in_err-x-clause-answer : goal.returns-in_err-x-clause-answer
returns-in_err-x-clause-answer g c =
    let state = g.S.Shelf.state in
    let name = c.args.name.now in
    let p = err_from_is_err_and c.from_residual.result c.from_residual.ensures.1 in
    rw (p.1, p.2)
    (first_stops ⊥ name c.args.file.now.at (number_read w16 (below_rule c.args.size.w)) (λ (v0 : ℕ). chain (number_read w16 (below_rule c.args.size.h)) (λ (v1 : ℕ). chain (number_read w16 (below_rule c.args.size.f)) (λ (v2 : ℕ). end v0 v1 v2))) (state c.args.shelf.now) (state c.read_below.new.shelf) c.read_below.new.file c.in_err-x.field-0.0 c.in_err-x.ensures.answer)

pub returns-in_err-y-clause-answer : goal.returns-in_err-y-clause-answer
returns-in_err-y-clause-answer g c =
    let state = g.S.Shelf.state in
    let name = c.args.name.now in
    let p = err_from_is_err_and c.from_residual-in_err-y.result c.from_residual-in_err-y.ensures.1 in
    let v0 : ℕ = c.in_ok-x.x in
    let ok0 = c.in_ok-x.ensures {u = tt} in
    rw (p.1, p.2)
    (then_reads ⊥ name c.args.file.now.at (number_read w16 (below_rule c.args.size.w)) (λ (v0 : ℕ). chain (number_read w16 (below_rule c.args.size.h)) (λ (v1 : ℕ). chain (number_read w16 (below_rule c.args.size.f)) (λ (v2 : ℕ). end v0 v1 v2))) (state c.args.shelf.now) (state c.read_below.new.shelf) (state c.read_below-2.new.shelf) c.read_below.new.file c.read_below-2.new.file v0 (Err c.in_err-y.field-0.0)
    ok0.reads c.in_err-y.ensures.reads ok0.answer
    (first_stops ⊥ name c.read_below.new.file.at (number_read w16 (below_rule c.args.size.h)) (λ (v1 : ℕ). chain (number_read w16 (below_rule c.args.size.f)) (λ (v2 : ℕ). end v0 v1 v2)) (state c.read_below.new.shelf) (state c.read_below-2.new.shelf) c.read_below-2.new.file c.in_err-y.field-0.0 c.in_err-y.ensures.answer))

pub returns-in_err-f-clause-answer : goal.returns-in_err-f-clause-answer
returns-in_err-f-clause-answer g c =
    let state = g.S.Shelf.state in
    let name = c.args.name.now in
    let p = err_from_is_err_and c.from_residual-in_err-f.result c.from_residual-in_err-f.ensures.1 in
    let v0 : ℕ = c.in_ok-x.x in
    let ok0 = c.in_ok-x.ensures {u = tt} in
    let v1 : ℕ = c.in_ok-y.y in
    let ok1 = c.in_ok-y.ensures {u = tt} in
    rw (p.1, p.2)
    (then_reads ⊥ name c.args.file.now.at (number_read w16 (below_rule c.args.size.w)) (λ (v0 : ℕ). chain (number_read w16 (below_rule c.args.size.h)) (λ (v1 : ℕ). chain (number_read w16 (below_rule c.args.size.f)) (λ (v2 : ℕ). end v0 v1 v2))) (state c.args.shelf.now) (state c.read_below.new.shelf) (state c.read_below-3.new.shelf) c.read_below.new.file c.read_below-3.new.file v0 (Err c.in_err-f.field-0.0)
    ok0.reads (only_reads_then (state c.read_below.new.shelf) (state c.read_below-2.new.shelf) (state c.read_below-3.new.shelf) ok1.reads c.in_err-f.ensures.reads) ok0.answer
    (then_reads ⊥ name c.read_below.new.file.at (number_read w16 (below_rule c.args.size.h)) (λ (v1 : ℕ). chain (number_read w16 (below_rule c.args.size.f)) (λ (v2 : ℕ). end v0 v1 v2)) (state c.read_below.new.shelf) (state c.read_below-2.new.shelf) (state c.read_below-3.new.shelf) c.read_below-2.new.file c.read_below-3.new.file v1 (Err c.in_err-f.field-0.0)
    ok1.reads c.in_err-f.ensures.reads ok1.answer
    (first_stops ⊥ name c.read_below-2.new.file.at (number_read w16 (below_rule c.args.size.f)) (λ (v2 : ℕ). end v0 v1 v2) (state c.read_below-2.new.shelf) (state c.read_below-3.new.shelf) c.read_below-3.new.file c.in_err-f.field-0.0 c.in_err-f.ensures.answer)))

pub returns-clause-answer : goal.returns-clause-answer
returns-clause-answer g c =
    let state = g.S.Shelf.state in
    let name = c.args.name.now in
    let v0 : ℕ = c.in_ok-x.x in
    let ok0 = c.in_ok-x.ensures {u = tt} in
    let v1 : ℕ = c.in_ok-y.y in
    let ok1 = c.in_ok-y.ensures {u = tt} in
    let v2 : ℕ = c.in_ok-f.f in
    let ok2 = c.in_ok-f.ensures {u = tt} in
    let value : At = spot v0 v1 v2 in
    subst (λ (v : At). ReadsFrom ⊥ name c.args.file.now.at (state c.args.shelf.now) (state c.read_below-3.new.shelf) c.read_below-3.new.file (chain (number_read w16 (below_rule c.args.size.w)) (λ (v0 : ℕ). chain (number_read w16 (below_rule c.args.size.h)) (λ (v1 : ℕ). chain (number_read w16 (below_rule c.args.size.f)) (λ (v2 : ℕ). end v0 v1 v2)))) (Ok v)) (sym c.place_at.ensures)
    (then_reads ⊥ name c.args.file.now.at (number_read w16 (below_rule c.args.size.w)) (λ (v0 : ℕ). chain (number_read w16 (below_rule c.args.size.h)) (λ (v1 : ℕ). chain (number_read w16 (below_rule c.args.size.f)) (λ (v2 : ℕ). end v0 v1 v2))) (state c.args.shelf.now) (state c.read_below.new.shelf) (state c.read_below-3.new.shelf) c.read_below.new.file c.read_below-3.new.file v0 (Ok value)
    ok0.reads (only_reads_then (state c.read_below.new.shelf) (state c.read_below-2.new.shelf) (state c.read_below-3.new.shelf) ok1.reads ok2.reads) ok0.answer
    (then_reads ⊥ name c.read_below.new.file.at (number_read w16 (below_rule c.args.size.h)) (λ (v1 : ℕ). chain (number_read w16 (below_rule c.args.size.f)) (λ (v2 : ℕ). end v0 v1 v2)) (state c.read_below.new.shelf) (state c.read_below-2.new.shelf) (state c.read_below-3.new.shelf) c.read_below-2.new.file c.read_below-3.new.file v1 (Ok value)
    ok1.reads ok2.reads ok1.answer
    (then_reads ⊥ name c.read_below-2.new.file.at (number_read w16 (below_rule c.args.size.f)) (λ (v2 : ℕ). end v0 v1 v2) (state c.read_below-2.new.shelf) (state c.read_below-3.new.shelf) (state c.read_below-3.new.shelf) c.read_below-3.new.file c.read_below-3.new.file v2 (Ok value)
    ok2.reads (only_reads_same (state c.read_below-3.new.shelf)) ok2.answer
    (made ⊥ name (state c.read_below-3.new.shelf) (state c.read_below-3.new.shelf) c.read_below-3.new.file value ok2.answer.follows))))

pub returns-clause-inside : goal.returns-clause-inside
returns-clause-inside g c =
    subst (IsInside c.args.size) (sym c.place_at.ensures) (spot_inside c.args.size c.in_ok-x.x c.in_ok-y.y c.in_ok-f.f
    (c.in_ok-x.ensures {u = tt}).below (c.in_ok-y.ensures {u = tt}).below (c.in_ok-f.ensures {u = tt}).below)

pub returns-clause-reads : goal.returns-clause-reads
returns-clause-reads g c =
    let state = g.S.Shelf.state in
    only_reads_then (state c.args.shelf.now) (state c.read_below.new.shelf) (state c.read_below-3.new.shelf) (c.in_ok-x.ensures {u = tt}).reads (only_reads_then (state c.read_below.new.shelf) (state c.read_below-2.new.shelf) (state c.read_below-3.new.shelf) (c.in_ok-y.ensures {u = tt}).reads (c.in_ok-f.ensures {u = tt}).reads)

pub returns-in_err-f-clause-reads : goal.returns-in_err-f-clause-reads
returns-in_err-f-clause-reads g c =
    let state = g.S.Shelf.state in
    only_reads_then (state c.args.shelf.now) (state c.read_below.new.shelf) (state c.read_below-3.new.shelf) (c.in_ok-x.ensures {u = tt}).reads (only_reads_then (state c.read_below.new.shelf) (state c.read_below-2.new.shelf) (state c.read_below-3.new.shelf) (c.in_ok-y.ensures {u = tt}).reads c.in_err-f.ensures.reads)
