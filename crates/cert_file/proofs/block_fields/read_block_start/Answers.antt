use Rattle.std.proofs.Common.{◌∙◌, ap, arith}
use Rattle.std.proofs.lemmas.Grind.{common_steps}
use Rattle.std.proofs.Common.{ℕ, List}
use Rattle.std.proofs.lemmas.Result.{err_from_is_err_and}
use Rattle.std.specs.Prelude.{Result, Ok, Err}
use Rattle.shelf_traits.specs.declared.fault.ReadError.{ReadError}
use Rattle.shelf_traits.proofs.FileLaws.{only_reads_same, only_reads_then}
use Rattle.std.specs.Int.{w8}
use Rattle.cells.specs.declared.place.At.{At}
use Rattle.cells.specs.declared.place.Size.{Size}
use Rattle.source_map.proofs.FieldLaws.{chain, field_stops, first_stops, made, number_8, then_reads, value_alone}
use Rattle.source_map.specs.Readings.{number_read, number_rule}
use Rattle.cert_file.specs.declared.block_fields.BlockStart.{BlockStart}
use Rattle.cert_file.specs.BlockReading.{block_size_read, flags_rule, spot_read}
use Rattle.cert_file.proofs.block_fields.read_block_start.Goals as goal

abbrev after_3 : ℕ → At → Size → At → ℕ → ℕ → List ℕ → Result (BlockStart × ℕ) ReadError
after_3 before v0 v1 v2 v3 = value_alone (record { placement = record { rect = record { corner = v0; size = v1 }; from = v2 }; flags = v3 })

abbrev after_2 : ℕ → At → Size → At → ℕ → List ℕ → Result (BlockStart × ℕ) ReadError
after_2 before v0 v1 v2 = chain (number_read w8 flags_rule) (after_3 before v0 v1 v2)

abbrev after_1 : ℕ → At → Size → ℕ → List ℕ → Result (BlockStart × ℕ) ReadError
after_1 before v0 v1 = chain (spot_read) (after_2 before v0 v1)

abbrev after_0 : ℕ → At → ℕ → List ℕ → Result (BlockStart × ℕ) ReadError
after_0 before v0 = chain (block_size_read before) (after_1 before v0)

pub returns-in_err-corner-clause-answer : goal.returns-in_err-corner-clause-answer
returns-in_err-corner-clause-answer g c =
    let state = g.S.Shelf.state in
    let name = c.args.name.now in
    let e = c.in_err-corner.field-0.0 in
    let p = err_from_is_err_and c.from_residual.result c.from_residual.ensures.1 in
    rw (p.1, p.2)
    (first_stops ⊥ name c.args.file.now.at (spot_read) (after_0 c.args.before) (state c.args.shelf.now) (state c.read_spot.new.shelf) c.read_spot.new.file e c.in_err-corner.ensures.answer)

pub returns-in_err-size-clause-answer : goal.returns-in_err-size-clause-answer
returns-in_err-size-clause-answer g c =
    let state = g.S.Shelf.state in
    let name = c.args.name.now in
    let e = c.in_err-size.field-0.0 in
    let p = err_from_is_err_and c.from_residual-in_err-size.result c.from_residual-in_err-size.ensures.1 in
    let v0 : At = c.in_ok-corner.corner in
    let ok0 = c.in_ok-corner.ensures {u = tt} in
    rw (p.1, p.2)
    (then_reads ⊥ name c.args.file.now.at (spot_read) (after_0 c.args.before) (state c.args.shelf.now) (state c.read_spot.new.shelf) (state c.read_block_size.new.shelf) c.read_spot.new.file c.read_block_size.new.file v0 (Err e)
    ok0.reads c.in_err-size.ensures.reads ok0.answer
    (first_stops ⊥ name c.read_spot.new.file.at (block_size_read c.args.before) (after_1 c.args.before v0) (state c.read_spot.new.shelf) (state c.read_block_size.new.shelf) c.read_block_size.new.file e c.in_err-size.ensures.answer))

pub returns-in_err-from-clause-answer : goal.returns-in_err-from-clause-answer
returns-in_err-from-clause-answer g c =
    let state = g.S.Shelf.state in
    let name = c.args.name.now in
    let e = c.in_err-from.field-0.0 in
    let p = err_from_is_err_and c.from_residual-in_err-from.result c.from_residual-in_err-from.ensures.1 in
    let v0 : At = c.in_ok-corner.corner in
    let ok0 = c.in_ok-corner.ensures {u = tt} in
    let v1 : Size = c.in_ok-size.size in
    let ok1 = c.in_ok-size.ensures {u = tt} in
    rw (p.1, p.2)
    (then_reads ⊥ name c.args.file.now.at (spot_read) (after_0 c.args.before) (state c.args.shelf.now) (state c.read_spot.new.shelf) (state c.read_spot-2.new.shelf) c.read_spot.new.file c.read_spot-2.new.file v0 (Err e)
    ok0.reads (only_reads_then (state c.read_spot.new.shelf) (state c.read_block_size.new.shelf) (state c.read_spot-2.new.shelf) ok1.reads c.in_err-from.ensures.reads) ok0.answer
    (then_reads ⊥ name c.read_spot.new.file.at (block_size_read c.args.before) (after_1 c.args.before v0) (state c.read_spot.new.shelf) (state c.read_block_size.new.shelf) (state c.read_spot-2.new.shelf) c.read_block_size.new.file c.read_spot-2.new.file v1 (Err e)
    ok1.reads c.in_err-from.ensures.reads ok1.answer
    (first_stops ⊥ name c.read_block_size.new.file.at (spot_read) (after_2 c.args.before v0 v1) (state c.read_block_size.new.shelf) (state c.read_spot-2.new.shelf) c.read_spot-2.new.file e c.in_err-from.ensures.answer)))

pub returns-in_err-n-clause-answer : goal.returns-in_err-n-clause-answer
returns-in_err-n-clause-answer g c =
    let state = g.S.Shelf.state in
    let name = c.args.name.now in
    let e = c.in_err-n.field-0.0 in
    let p = err_from_is_err_and c.from_residual-in_err-n.result c.from_residual-in_err-n.ensures.1 in
    let v0 : At = c.in_ok-corner.corner in
    let ok0 = c.in_ok-corner.ensures {u = tt} in
    let v1 : Size = c.in_ok-size.size in
    let ok1 = c.in_ok-size.ensures {u = tt} in
    let v2 : At = c.in_ok-from.from in
    let ok2 = c.in_ok-from.ensures {u = tt} in
    rw (p.1, p.2)
    (then_reads ⊥ name c.args.file.now.at (spot_read) (after_0 c.args.before) (state c.args.shelf.now) (state c.read_spot.new.shelf) (state c.u8.new.shelf) c.read_spot.new.file c.u8.new.self v0 (Err e)
    ok0.reads (only_reads_then (state c.read_spot.new.shelf) (state c.read_block_size.new.shelf) (state c.u8.new.shelf) ok1.reads (only_reads_then (state c.read_block_size.new.shelf) (state c.read_spot-2.new.shelf) (state c.u8.new.shelf) ok2.reads c.in_err-n.ensures.reads)) ok0.answer
    (then_reads ⊥ name c.read_spot.new.file.at (block_size_read c.args.before) (after_1 c.args.before v0) (state c.read_spot.new.shelf) (state c.read_block_size.new.shelf) (state c.u8.new.shelf) c.read_block_size.new.file c.u8.new.self v1 (Err e)
    ok1.reads (only_reads_then (state c.read_block_size.new.shelf) (state c.read_spot-2.new.shelf) (state c.u8.new.shelf) ok2.reads c.in_err-n.ensures.reads) ok1.answer
    (then_reads ⊥ name c.read_block_size.new.file.at (spot_read) (after_2 c.args.before v0 v1) (state c.read_block_size.new.shelf) (state c.read_spot-2.new.shelf) (state c.u8.new.shelf) c.read_spot-2.new.file c.u8.new.self v2 (Err e)
    ok2.reads c.in_err-n.ensures.reads ok2.answer
    (first_stops ⊥ name c.read_spot-2.new.file.at (number_read w8 flags_rule) (after_3 c.args.before v0 v1 v2) (state c.read_spot-2.new.shelf) (state c.u8.new.shelf) c.u8.new.self e (field_stops ⊥ name 1 (number_rule w8 flags_rule) c.read_spot-2.new.file.at (state c.read_spot-2.new.shelf) (state c.u8.new.shelf) c.u8.new.self e c.in_err-n.ensures.stops)))))

pub returns-in_err-flags-clause-answer : goal.returns-in_err-flags-clause-answer
returns-in_err-flags-clause-answer g c =
    let state = g.S.Shelf.state in
    let name = c.args.name.now in
    let e = c.in_err-flags.field-0.0 in
    let p = err_from_is_err_and c.from_residual-in_err-flags.result c.from_residual-in_err-flags.ensures.1 in
    let v0 : At = c.in_ok-corner.corner in
    let ok0 = c.in_ok-corner.ensures {u = tt} in
    let v1 : Size = c.in_ok-size.size in
    let ok1 = c.in_ok-size.ensures {u = tt} in
    let v2 : At = c.in_ok-from.from in
    let ok2 = c.in_ok-from.ensures {u = tt} in
    rw (p.1, p.2)
    (then_reads ⊥ name c.args.file.now.at (spot_read) (after_0 c.args.before) (state c.args.shelf.now) (state c.read_spot.new.shelf) (state c.u8.new.shelf) c.read_spot.new.file c.u8.new.self v0 (Err e)
    ok0.reads (only_reads_then (state c.read_spot.new.shelf) (state c.read_block_size.new.shelf) (state c.u8.new.shelf) ok1.reads (only_reads_then (state c.read_block_size.new.shelf) (state c.read_spot-2.new.shelf) (state c.u8.new.shelf) ok2.reads (c.in_ok-n.ensures {u = tt}).reads)) ok0.answer
    (then_reads ⊥ name c.read_spot.new.file.at (block_size_read c.args.before) (after_1 c.args.before v0) (state c.read_spot.new.shelf) (state c.read_block_size.new.shelf) (state c.u8.new.shelf) c.read_block_size.new.file c.u8.new.self v1 (Err e)
    ok1.reads (only_reads_then (state c.read_block_size.new.shelf) (state c.read_spot-2.new.shelf) (state c.u8.new.shelf) ok2.reads (c.in_ok-n.ensures {u = tt}).reads) ok1.answer
    (then_reads ⊥ name c.read_block_size.new.file.at (spot_read) (after_2 c.args.before v0 v1) (state c.read_block_size.new.shelf) (state c.read_spot-2.new.shelf) (state c.u8.new.shelf) c.read_spot-2.new.file c.u8.new.self v2 (Err e)
    ok2.reads (c.in_ok-n.ensures {u = tt}).reads ok2.answer
    (first_stops ⊥ name c.read_spot-2.new.file.at (number_read w8 flags_rule) (after_3 c.args.before v0 v1 v2) (state c.read_spot-2.new.shelf) (state c.u8.new.shelf) c.u8.new.self e (number_8 ⊥ name flags_rule c.read_spot-2.new.file.at c.in_ok-n.n (state c.read_spot-2.new.shelf) (state c.u8.new.shelf) c.u8.new.self (Err e) (c.in_err-flags.ensures.flags ∙ ap (λ at. flags_rule at c.in_ok-n.n) c.place-at.ensures) c.in_err-flags.ensures.refusal (c.in_ok-n.ensures {u = tt}).took)))))

pub returns-clause-answer : goal.returns-clause-answer
returns-clause-answer g c =
    let state = g.S.Shelf.state in
    let name = c.args.name.now in
    let v0 : At = c.in_ok-corner.corner in
    let ok0 = c.in_ok-corner.ensures {u = tt} in
    let v1 : Size = c.in_ok-size.size in
    let ok1 = c.in_ok-size.ensures {u = tt} in
    let v2 : At = c.in_ok-from.from in
    let ok2 = c.in_ok-from.ensures {u = tt} in
    let v3 : ℕ = c.in_ok-flags.flags in
    let ok3 = c.in_ok-n.ensures {u = tt} in
    let found = (number_8 ⊥ name flags_rule c.read_spot-2.new.file.at c.in_ok-n.n (state c.read_spot-2.new.shelf) (state c.u8.new.shelf) c.u8.new.self (Ok v3) ((c.in_ok-flags.ensures {u = tt}).flags ∙ ap (λ at. flags_rule at c.in_ok-n.n) c.place-at.ensures) (c.in_ok-flags.ensures {u = tt}).refusal (c.in_ok-n.ensures {u = tt}).took) in
    let value : BlockStart = record { placement = record { rect = record { corner = v0; size = v1 }; from = v2 }; flags = v3 } in
    (then_reads ⊥ name c.args.file.now.at (spot_read) (after_0 c.args.before) (state c.args.shelf.now) (state c.read_spot.new.shelf) (state c.u8.new.shelf) c.read_spot.new.file c.u8.new.self v0 (Ok value)
    ok0.reads (only_reads_then (state c.read_spot.new.shelf) (state c.read_block_size.new.shelf) (state c.u8.new.shelf) ok1.reads (only_reads_then (state c.read_block_size.new.shelf) (state c.read_spot-2.new.shelf) (state c.u8.new.shelf) ok2.reads ok3.reads)) ok0.answer
    (then_reads ⊥ name c.read_spot.new.file.at (block_size_read c.args.before) (after_1 c.args.before v0) (state c.read_spot.new.shelf) (state c.read_block_size.new.shelf) (state c.u8.new.shelf) c.read_block_size.new.file c.u8.new.self v1 (Ok value)
    ok1.reads (only_reads_then (state c.read_block_size.new.shelf) (state c.read_spot-2.new.shelf) (state c.u8.new.shelf) ok2.reads ok3.reads) ok1.answer
    (then_reads ⊥ name c.read_block_size.new.file.at (spot_read) (after_2 c.args.before v0 v1) (state c.read_block_size.new.shelf) (state c.read_spot-2.new.shelf) (state c.u8.new.shelf) c.read_spot-2.new.file c.u8.new.self v2 (Ok value)
    ok2.reads ok3.reads ok2.answer
    (then_reads ⊥ name c.read_spot-2.new.file.at (number_read w8 flags_rule) (after_3 c.args.before v0 v1 v2) (state c.read_spot-2.new.shelf) (state c.u8.new.shelf) (state c.u8.new.shelf) c.u8.new.self c.u8.new.self v3 (Ok value)
    ok3.reads (only_reads_same (state c.u8.new.shelf)) found
    (made ⊥ name (state c.u8.new.shelf) (state c.u8.new.shelf) c.u8.new.self value found.follows)))))

pub returns-clause-within : goal.returns-clause-within
returns-clause-within g c = record { corner = (c.in_ok-corner.ensures {u = tt}).short; box = (c.in_ok-size.ensures {u = tt}).within; frame = (c.in_ok-size.ensures {u = tt}).frame; from = (c.in_ok-from.ensures {u = tt}).short }

pub returns-clause-reads : goal.returns-clause-reads
returns-clause-reads g c =
    let state = g.S.Shelf.state in
    only_reads_then (state c.args.shelf.now) (state c.read_spot.new.shelf) (state c.u8.new.shelf) (c.in_ok-corner.ensures {u = tt}).reads (only_reads_then (state c.read_spot.new.shelf) (state c.read_block_size.new.shelf) (state c.u8.new.shelf) (c.in_ok-size.ensures {u = tt}).reads (only_reads_then (state c.read_block_size.new.shelf) (state c.read_spot-2.new.shelf) (state c.u8.new.shelf) (c.in_ok-from.ensures {u = tt}).reads (c.in_ok-n.ensures {u = tt}).reads))

pub returns-clause-place : goal.returns-clause-place
returns-clause-place g c = grind (arith, common_steps)

pub returns-in_err-n-clause-reads : goal.returns-in_err-n-clause-reads
returns-in_err-n-clause-reads g c =
    let state = g.S.Shelf.state in
    only_reads_then (state c.args.shelf.now) (state c.read_spot.new.shelf) (state c.u8.new.shelf) (c.in_ok-corner.ensures {u = tt}).reads (only_reads_then (state c.read_spot.new.shelf) (state c.read_block_size.new.shelf) (state c.u8.new.shelf) (c.in_ok-size.ensures {u = tt}).reads (only_reads_then (state c.read_block_size.new.shelf) (state c.read_spot-2.new.shelf) (state c.u8.new.shelf) (c.in_ok-from.ensures {u = tt}).reads c.in_err-n.ensures.reads))

pub returns-in_err-flags-clause-reads : goal.returns-in_err-flags-clause-reads
returns-in_err-flags-clause-reads g c =
    let state = g.S.Shelf.state in
    only_reads_then (state c.args.shelf.now) (state c.read_spot.new.shelf) (state c.u8.new.shelf) (c.in_ok-corner.ensures {u = tt}).reads (only_reads_then (state c.read_spot.new.shelf) (state c.read_block_size.new.shelf) (state c.u8.new.shelf) (c.in_ok-size.ensures {u = tt}).reads (only_reads_then (state c.read_block_size.new.shelf) (state c.read_spot-2.new.shelf) (state c.u8.new.shelf) (c.in_ok-from.ensures {u = tt}).reads (c.in_ok-n.ensures {u = tt}).reads))
