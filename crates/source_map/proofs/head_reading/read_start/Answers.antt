use Rattle.std.proofs.Common.{arith}
use Rattle.std.proofs.lemmas.Grind.{common_steps}
use Rattle.std.proofs.Common.{ℕ, List}
use Rattle.std.proofs.lemmas.Result.{err_from_is_err_and}
use Rattle.std.specs.Prelude.{Result, Ok, Err}
use Rattle.shelf_traits.specs.declared.fault.ReadError.{ReadError}
use Rattle.shelf_traits.proofs.FileLaws.{only_reads_same, only_reads_then}
use Rattle.cells.specs.declared.place.Size.{Size}
use Rattle.source_map.proofs.FieldLaws.{chain, first_stops, made, then_reads}
use Rattle.std.specs.Int.{w8}
use Rattle.source_map.specs.declared.head.Version.{Version}
use Rattle.source_map.specs.declared.head_reading.Start.{Start}
use Rattle.source_map.specs.Heads.{kind_rule, magic_rule, size_read, version_rule}
use Rattle.source_map.specs.Readings.{field_read, number_read}
use Rattle.source_map.proofs.head_reading.read_start.Goals as goal

abbrev end : Version → ℕ → Size → ℕ → List ℕ → Result (Start × ℕ) ReadError
end version kind output at bytes = Ok (record { version = version; kind = kind; output = output }, at)

pub returns-in_err-read_magic-clause-answer : goal.returns-in_err-read_magic-clause-answer
returns-in_err-read_magic-clause-answer g c =
    let state = g.S.Shelf.state in
    let name = c.args.name.now in
    let p = err_from_is_err_and c.from_residual.result c.from_residual.ensures.1 in
    rw (p.1, p.2)
    (first_stops ⊥ name c.args.file.now.at (field_read 8 (magic_rule c.args.magic)) (λ (v0 : Unit {0}). chain (number_read w8 (version_rule c.args.versions)) (λ (v1 : Version). chain (number_read w8 (kind_rule c.args.kinds v1)) (λ (v2 : ℕ). chain size_read (λ (v3 : Size). end v1 v2 v3)))) (state c.args.shelf.now) (state c.read_magic.new.shelf) c.read_magic.new.file c.in_err-read_magic.field-0.0 c.in_err-read_magic.ensures.answer)

pub returns-in_err-version-clause-answer : goal.returns-in_err-version-clause-answer
returns-in_err-version-clause-answer g c =
    let state = g.S.Shelf.state in
    let name = c.args.name.now in
    let p = err_from_is_err_and c.from_residual-in_err-version.result c.from_residual-in_err-version.ensures.1 in
    let v0 : Unit {0} = tt in
    let ok0 = c.in_ok-read_magic.ensures {u = tt} in
    rw (p.1, p.2)
    (then_reads ⊥ name c.args.file.now.at (field_read 8 (magic_rule c.args.magic)) (λ (v0 : Unit {0}). chain (number_read w8 (version_rule c.args.versions)) (λ (v1 : Version). chain (number_read w8 (kind_rule c.args.kinds v1)) (λ (v2 : ℕ). chain size_read (λ (v3 : Size). end v1 v2 v3)))) (state c.args.shelf.now) (state c.read_magic.new.shelf) (state c.read_version.new.shelf) c.read_magic.new.file c.read_version.new.file v0 (Err c.in_err-version.field-0.0)
    ok0.reads c.in_err-version.ensures.reads ok0.answer
    (first_stops ⊥ name c.read_magic.new.file.at (number_read w8 (version_rule c.args.versions)) (λ (v1 : Version). chain (number_read w8 (kind_rule c.args.kinds v1)) (λ (v2 : ℕ). chain size_read (λ (v3 : Size). end v1 v2 v3))) (state c.read_magic.new.shelf) (state c.read_version.new.shelf) c.read_version.new.file c.in_err-version.field-0.0 c.in_err-version.ensures.answer))

pub returns-in_err-kind-clause-answer : goal.returns-in_err-kind-clause-answer
returns-in_err-kind-clause-answer g c =
    let state = g.S.Shelf.state in
    let name = c.args.name.now in
    let p = err_from_is_err_and c.from_residual-in_err-kind.result c.from_residual-in_err-kind.ensures.1 in
    let v0 : Unit {0} = tt in
    let ok0 = c.in_ok-read_magic.ensures {u = tt} in
    let v1 : Version = c.in_ok-version.version in
    let ok1 = c.in_ok-version.ensures {u = tt} in
    rw (p.1, p.2)
    (then_reads ⊥ name c.args.file.now.at (field_read 8 (magic_rule c.args.magic)) (λ (v0 : Unit {0}). chain (number_read w8 (version_rule c.args.versions)) (λ (v1 : Version). chain (number_read w8 (kind_rule c.args.kinds v1)) (λ (v2 : ℕ). chain size_read (λ (v3 : Size). end v1 v2 v3)))) (state c.args.shelf.now) (state c.read_magic.new.shelf) (state c.read_kind.new.shelf) c.read_magic.new.file c.read_kind.new.file v0 (Err c.in_err-kind.field-0.0)
    ok0.reads (only_reads_then (state c.read_magic.new.shelf) (state c.read_version.new.shelf) (state c.read_kind.new.shelf) ok1.reads c.in_err-kind.ensures.reads) ok0.answer
    (then_reads ⊥ name c.read_magic.new.file.at (number_read w8 (version_rule c.args.versions)) (λ (v1 : Version). chain (number_read w8 (kind_rule c.args.kinds v1)) (λ (v2 : ℕ). chain size_read (λ (v3 : Size). end v1 v2 v3))) (state c.read_magic.new.shelf) (state c.read_version.new.shelf) (state c.read_kind.new.shelf) c.read_version.new.file c.read_kind.new.file v1 (Err c.in_err-kind.field-0.0)
    ok1.reads c.in_err-kind.ensures.reads ok1.answer
    (first_stops ⊥ name c.read_version.new.file.at (number_read w8 (kind_rule c.args.kinds v1)) (λ (v2 : ℕ). chain size_read (λ (v3 : Size). end v1 v2 v3)) (state c.read_version.new.shelf) (state c.read_kind.new.shelf) c.read_kind.new.file c.in_err-kind.field-0.0 c.in_err-kind.ensures.answer)))

pub returns-in_err-output-clause-answer : goal.returns-in_err-output-clause-answer
returns-in_err-output-clause-answer g c =
    let state = g.S.Shelf.state in
    let name = c.args.name.now in
    let p = err_from_is_err_and c.from_residual-in_err-output.result c.from_residual-in_err-output.ensures.1 in
    let v0 : Unit {0} = tt in
    let ok0 = c.in_ok-read_magic.ensures {u = tt} in
    let v1 : Version = c.in_ok-version.version in
    let ok1 = c.in_ok-version.ensures {u = tt} in
    let v2 : ℕ = c.in_ok-kind.kind in
    let ok2 = c.in_ok-kind.ensures {u = tt} in
    rw (p.1, p.2)
    (then_reads ⊥ name c.args.file.now.at (field_read 8 (magic_rule c.args.magic)) (λ (v0 : Unit {0}). chain (number_read w8 (version_rule c.args.versions)) (λ (v1 : Version). chain (number_read w8 (kind_rule c.args.kinds v1)) (λ (v2 : ℕ). chain size_read (λ (v3 : Size). end v1 v2 v3)))) (state c.args.shelf.now) (state c.read_magic.new.shelf) (state c.read_size.new.shelf) c.read_magic.new.file c.read_size.new.file v0 (Err c.in_err-output.field-0.0)
    ok0.reads (only_reads_then (state c.read_magic.new.shelf) (state c.read_version.new.shelf) (state c.read_size.new.shelf) ok1.reads (only_reads_then (state c.read_version.new.shelf) (state c.read_kind.new.shelf) (state c.read_size.new.shelf) ok2.reads c.in_err-output.ensures.reads)) ok0.answer
    (then_reads ⊥ name c.read_magic.new.file.at (number_read w8 (version_rule c.args.versions)) (λ (v1 : Version). chain (number_read w8 (kind_rule c.args.kinds v1)) (λ (v2 : ℕ). chain size_read (λ (v3 : Size). end v1 v2 v3))) (state c.read_magic.new.shelf) (state c.read_version.new.shelf) (state c.read_size.new.shelf) c.read_version.new.file c.read_size.new.file v1 (Err c.in_err-output.field-0.0)
    ok1.reads (only_reads_then (state c.read_version.new.shelf) (state c.read_kind.new.shelf) (state c.read_size.new.shelf) ok2.reads c.in_err-output.ensures.reads) ok1.answer
    (then_reads ⊥ name c.read_version.new.file.at (number_read w8 (kind_rule c.args.kinds v1)) (λ (v2 : ℕ). chain size_read (λ (v3 : Size). end v1 v2 v3)) (state c.read_version.new.shelf) (state c.read_kind.new.shelf) (state c.read_size.new.shelf) c.read_kind.new.file c.read_size.new.file v2 (Err c.in_err-output.field-0.0)
    ok2.reads c.in_err-output.ensures.reads ok2.answer
    (first_stops ⊥ name c.read_kind.new.file.at size_read (λ (v3 : Size). end v1 v2 v3) (state c.read_kind.new.shelf) (state c.read_size.new.shelf) c.read_size.new.file c.in_err-output.field-0.0 c.in_err-output.ensures.answer))))

pub returns-clause-answer : goal.returns-clause-answer
returns-clause-answer g c =
    let state = g.S.Shelf.state in
    let name = c.args.name.now in
    let v0 : Unit {0} = tt in
    let ok0 = c.in_ok-read_magic.ensures {u = tt} in
    let v1 : Version = c.in_ok-version.version in
    let ok1 = c.in_ok-version.ensures {u = tt} in
    let v2 : ℕ = c.in_ok-kind.kind in
    let ok2 = c.in_ok-kind.ensures {u = tt} in
    let v3 : Size = c.in_ok-output.output in
    let ok3 = c.in_ok-output.ensures {u = tt} in
    let value : Start = record { version = v1; kind = v2; output = v3 } in
    then_reads ⊥ name c.args.file.now.at (field_read 8 (magic_rule c.args.magic)) (λ (v0 : Unit {0}). chain (number_read w8 (version_rule c.args.versions)) (λ (v1 : Version). chain (number_read w8 (kind_rule c.args.kinds v1)) (λ (v2 : ℕ). chain size_read (λ (v3 : Size). end v1 v2 v3)))) (state c.args.shelf.now) (state c.read_magic.new.shelf) (state c.read_size.new.shelf) c.read_magic.new.file c.read_size.new.file v0 (Ok value)
    ok0.reads (only_reads_then (state c.read_magic.new.shelf) (state c.read_version.new.shelf) (state c.read_size.new.shelf) ok1.reads (only_reads_then (state c.read_version.new.shelf) (state c.read_kind.new.shelf) (state c.read_size.new.shelf) ok2.reads ok3.reads)) ok0.answer
    (then_reads ⊥ name c.read_magic.new.file.at (number_read w8 (version_rule c.args.versions)) (λ (v1 : Version). chain (number_read w8 (kind_rule c.args.kinds v1)) (λ (v2 : ℕ). chain size_read (λ (v3 : Size). end v1 v2 v3))) (state c.read_magic.new.shelf) (state c.read_version.new.shelf) (state c.read_size.new.shelf) c.read_version.new.file c.read_size.new.file v1 (Ok value)
    ok1.reads (only_reads_then (state c.read_version.new.shelf) (state c.read_kind.new.shelf) (state c.read_size.new.shelf) ok2.reads ok3.reads) ok1.answer
    (then_reads ⊥ name c.read_version.new.file.at (number_read w8 (kind_rule c.args.kinds v1)) (λ (v2 : ℕ). chain size_read (λ (v3 : Size). end v1 v2 v3)) (state c.read_version.new.shelf) (state c.read_kind.new.shelf) (state c.read_size.new.shelf) c.read_kind.new.file c.read_size.new.file v2 (Ok value)
    ok2.reads ok3.reads ok2.answer
    (then_reads ⊥ name c.read_kind.new.file.at size_read (λ (v3 : Size). end v1 v2 v3) (state c.read_kind.new.shelf) (state c.read_size.new.shelf) (state c.read_size.new.shelf) c.read_size.new.file c.read_size.new.file v3 (Ok value)
    ok3.reads (only_reads_same (state c.read_size.new.shelf)) ok3.answer
    (made ⊥ name (state c.read_size.new.shelf) (state c.read_size.new.shelf) c.read_size.new.file value ok3.answer.follows))))

pub returns-clause-reads : goal.returns-clause-reads
returns-clause-reads g c =
    let state = g.S.Shelf.state in
    only_reads_then (state c.args.shelf.now) (state c.read_magic.new.shelf) (state c.read_size.new.shelf) (c.in_ok-read_magic.ensures {u = tt}).reads (only_reads_then (state c.read_magic.new.shelf) (state c.read_version.new.shelf) (state c.read_size.new.shelf) (c.in_ok-version.ensures {u = tt}).reads (only_reads_then (state c.read_version.new.shelf) (state c.read_kind.new.shelf) (state c.read_size.new.shelf) (c.in_ok-kind.ensures {u = tt}).reads (c.in_ok-output.ensures {u = tt}).reads))

pub returns-clause-place : goal.returns-clause-place
returns-clause-place g c = grind (arith, common_steps)

pub returns-in_err-output-clause-reads : goal.returns-in_err-output-clause-reads
returns-in_err-output-clause-reads g c =
    let state = g.S.Shelf.state in
    only_reads_then (state c.args.shelf.now) (state c.read_magic.new.shelf) (state c.read_size.new.shelf) (c.in_ok-read_magic.ensures {u = tt}).reads (only_reads_then (state c.read_magic.new.shelf) (state c.read_version.new.shelf) (state c.read_size.new.shelf) (c.in_ok-version.ensures {u = tt}).reads (only_reads_then (state c.read_version.new.shelf) (state c.read_kind.new.shelf) (state c.read_size.new.shelf) (c.in_ok-kind.ensures {u = tt}).reads c.in_err-output.ensures.reads))

pub returns-in_err-kind-clause-reads : goal.returns-in_err-kind-clause-reads
returns-in_err-kind-clause-reads g c =
    let state = g.S.Shelf.state in
    only_reads_then (state c.args.shelf.now) (state c.read_magic.new.shelf) (state c.read_kind.new.shelf) (c.in_ok-read_magic.ensures {u = tt}).reads (only_reads_then (state c.read_magic.new.shelf) (state c.read_version.new.shelf) (state c.read_kind.new.shelf) (c.in_ok-version.ensures {u = tt}).reads c.in_err-kind.ensures.reads)
