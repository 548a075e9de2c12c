use Rattle.std.proofs.Common.{arith}
use Rattle.std.proofs.lemmas.Grind.{common_steps}
use Rattle.std.proofs.Common.{ℕ}
use Rattle.std.proofs.lemmas.Result.{err_from_is_err_and}
use Rattle.std.specs.Prelude.{Err}
use Rattle.shelf_traits.proofs.FileLaws.{only_reads_then}
use Rattle.source_map.proofs.FieldLaws.{chain, first_stops, then_reads}
use Rattle.std.specs.Int.{w8}
use Rattle.source_map.specs.Heads.{magic_rule, size_read}
use Rattle.source_map.specs.MapFiles.{map_magic, same_rule}
use Rattle.source_map.specs.Readings.{field_read, number_read}
use Rattle.turned_map.proofs.turned_reading.read_start.Goals as goal

pub returns-in_err-read_magic-clause-answer : goal.returns-in_err-read_magic-clause-answer
returns-in_err-read_magic-clause-answer g c =
    let state = g.S.Shelf.state in
    let name = c.args.name.now in
    let p = err_from_is_err_and c.from_residual.result c.from_residual.ensures.1 in
    rw (p.1, p.2)
    (first_stops ⊥ name c.args.file.now.at (field_read 8 (magic_rule map_magic)) (λ (v0 : Unit {0}). chain (number_read w8 (same_rule 2)) (λ (v1 : ℕ). chain (number_read w8 (same_rule 2)) (λ (v2 : ℕ). size_read))) (state c.args.shelf.now) (state c.read_magic.new.shelf) c.read_magic.new.file c.in_err-read_magic.field-0.0 c.in_err-read_magic.ensures.answer)

pub returns-in_err-_version-clause-answer : goal.returns-in_err-_version-clause-answer
returns-in_err-_version-clause-answer g c =
    let state = g.S.Shelf.state in
    let name = c.args.name.now in
    let p = err_from_is_err_and c.from_residual-in_err-_version.result c.from_residual-in_err-_version.ensures.1 in
    let v0 : Unit {0} = tt in
    let ok0 = c.in_ok-read_magic.ensures {u = tt} in
    rw (p.1, p.2)
    (then_reads ⊥ name c.args.file.now.at (field_read 8 (magic_rule map_magic)) (λ (v0 : Unit {0}). chain (number_read w8 (same_rule 2)) (λ (v1 : ℕ). chain (number_read w8 (same_rule 2)) (λ (v2 : ℕ). size_read))) (state c.args.shelf.now) (state c.read_magic.new.shelf) (state c.read_mark.new.shelf) c.read_magic.new.file c.read_mark.new.file v0 (Err c.in_err-_version.field-0.0)
    ok0.reads c.in_err-_version.ensures.reads ok0.answer
    (first_stops ⊥ name c.read_magic.new.file.at (number_read w8 (same_rule 2)) (λ (v1 : ℕ). chain (number_read w8 (same_rule 2)) (λ (v2 : ℕ). size_read)) (state c.read_magic.new.shelf) (state c.read_mark.new.shelf) c.read_mark.new.file c.in_err-_version.field-0.0 c.in_err-_version.ensures.answer))

pub returns-in_err-_kind-clause-answer : goal.returns-in_err-_kind-clause-answer
returns-in_err-_kind-clause-answer g c =
    let state = g.S.Shelf.state in
    let name = c.args.name.now in
    let p = err_from_is_err_and c.from_residual-in_err-_kind.result c.from_residual-in_err-_kind.ensures.1 in
    let v0 : Unit {0} = tt in
    let ok0 = c.in_ok-read_magic.ensures {u = tt} in
    let v1 : ℕ = c.in_ok-_version._version in
    let ok1 = c.in_ok-_version.ensures {u = tt} in
    rw (p.1, p.2)
    (then_reads ⊥ name c.args.file.now.at (field_read 8 (magic_rule map_magic)) (λ (v0 : Unit {0}). chain (number_read w8 (same_rule 2)) (λ (v1 : ℕ). chain (number_read w8 (same_rule 2)) (λ (v2 : ℕ). size_read))) (state c.args.shelf.now) (state c.read_magic.new.shelf) (state c.read_mark-2.new.shelf) c.read_magic.new.file c.read_mark-2.new.file v0 (Err c.in_err-_kind.field-0.0)
    ok0.reads (only_reads_then (state c.read_magic.new.shelf) (state c.read_mark.new.shelf) (state c.read_mark-2.new.shelf) ok1.reads c.in_err-_kind.ensures.reads) ok0.answer
    (then_reads ⊥ name c.read_magic.new.file.at (number_read w8 (same_rule 2)) (λ (v1 : ℕ). chain (number_read w8 (same_rule 2)) (λ (v2 : ℕ). size_read)) (state c.read_magic.new.shelf) (state c.read_mark.new.shelf) (state c.read_mark-2.new.shelf) c.read_mark.new.file c.read_mark-2.new.file v1 (Err c.in_err-_kind.field-0.0)
    ok1.reads c.in_err-_kind.ensures.reads ok1.answer
    (first_stops ⊥ name c.read_mark.new.file.at (number_read w8 (same_rule 2)) (λ (v2 : ℕ). size_read) (state c.read_mark.new.shelf) (state c.read_mark-2.new.shelf) c.read_mark-2.new.file c.in_err-_kind.field-0.0 c.in_err-_kind.ensures.answer)))

pub returns-clause-answer : goal.returns-clause-answer
returns-clause-answer g c =
    let state = g.S.Shelf.state in
    let name = c.args.name.now in
    let v0 : Unit {0} = tt in
    let ok0 = c.in_ok-read_magic.ensures {u = tt} in
    let v1 : ℕ = c.in_ok-_version._version in
    let ok1 = c.in_ok-_version.ensures {u = tt} in
    let v2 : ℕ = c.in_ok-_kind._kind in
    let ok2 = c.in_ok-_kind.ensures {u = tt} in
    then_reads ⊥ name c.args.file.now.at (field_read 8 (magic_rule map_magic)) (λ (v0 : Unit {0}). chain (number_read w8 (same_rule 2)) (λ (v1 : ℕ). chain (number_read w8 (same_rule 2)) (λ (v2 : ℕ). size_read))) (state c.args.shelf.now) (state c.read_magic.new.shelf) (state c.read_size.new.shelf) c.read_magic.new.file c.read_size.new.file v0 c.read_size.result
    ok0.reads (only_reads_then (state c.read_magic.new.shelf) (state c.read_mark.new.shelf) (state c.read_size.new.shelf) ok1.reads (only_reads_then (state c.read_mark.new.shelf) (state c.read_mark-2.new.shelf) (state c.read_size.new.shelf) ok2.reads c.read_size.ensures.reads)) ok0.answer
    (then_reads ⊥ name c.read_magic.new.file.at (number_read w8 (same_rule 2)) (λ (v1 : ℕ). chain (number_read w8 (same_rule 2)) (λ (v2 : ℕ). size_read)) (state c.read_magic.new.shelf) (state c.read_mark.new.shelf) (state c.read_size.new.shelf) c.read_mark.new.file c.read_size.new.file v1 c.read_size.result
    ok1.reads (only_reads_then (state c.read_mark.new.shelf) (state c.read_mark-2.new.shelf) (state c.read_size.new.shelf) ok2.reads c.read_size.ensures.reads) ok1.answer
    (then_reads ⊥ name c.read_mark.new.file.at (number_read w8 (same_rule 2)) (λ (v2 : ℕ). size_read) (state c.read_mark.new.shelf) (state c.read_mark-2.new.shelf) (state c.read_size.new.shelf) c.read_mark-2.new.file c.read_size.new.file v2 c.read_size.result
    ok2.reads c.read_size.ensures.reads ok2.answer
    c.read_size.ensures.answer))

pub returns-clause-reads : goal.returns-clause-reads
returns-clause-reads g c = grind (arith, common_steps)

pub returns-clause-place : goal.returns-clause-place
returns-clause-place g c = grind (arith, common_steps)

pub returns-in_err-_kind-clause-reads : goal.returns-in_err-_kind-clause-reads
returns-in_err-_kind-clause-reads g c = grind (arith, common_steps)
