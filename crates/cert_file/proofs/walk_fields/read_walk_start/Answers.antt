use Rattle.std.proofs.Common.{◌∙◌, ℕ, List, ap, arith}
use Rattle.std.proofs.lemmas.Grind.{common_steps}
use Rattle.std.proofs.lemmas.Result.{err_from_is_err_and}
use Rattle.std.specs.Prelude.{Result, Ok, Err}
use Rattle.std.specs.Int.{w8, w16, w32}
use Rattle.shelf_traits.specs.declared.fault.ReadError.{ReadError}
use Rattle.shelf_traits.proofs.FileLaws.{only_reads_same, only_reads_then}
use Rattle.cells.specs.declared.place.Taps.{Taps}
use Rattle.source_map.proofs.FieldLaws.{chain, field_stops, first_stops, made, number_8, number_16, number_32, then_reads}
use Rattle.source_map.specs.Readings.{number_read, number_rule}
use Rattle.cert_file.specs.declared.walk_fields.WalkStart.{WalkStart}
use Rattle.cert_file.specs.WalkReading.{gap_rule, length_rule, taps_rule}
use Rattle.cert_file.proofs.walk_fields.read_walk_start.Goals as goal

abbrev after_gap : ℕ → Taps → ℕ → ℕ → List ℕ → Result (WalkStart × ℕ) ReadError
after_gap length taps gap at bytes = Ok (record { length = length; taps = taps; gap = gap }, at)

abbrev after_taps : ℕ → Taps → ℕ → List ℕ → Result (WalkStart × ℕ) ReadError
after_taps length taps = chain (number_read w16 gap_rule) (after_gap length taps)

abbrev after_length : ℕ → ℕ → List ℕ → Result (WalkStart × ℕ) ReadError
after_length length = chain (number_read w8 taps_rule) (after_taps length)

pub returns-in_err-n-clause-answer : goal.returns-in_err-n-clause-answer
returns-in_err-n-clause-answer g c =
    let state = g.S.Shelf.state in
    let name = c.args.name.now in
    let r0 = c.args.file.now in
    let s0 = state c.args.shelf.now in
    let r1 = c.number.new.self in
    let s1 = state c.number.new.shelf in
    let e = c.in_err-n.field-0.0 in
    let p = err_from_is_err_and c.from_residual.result c.from_residual.ensures.1 in
    rw (p.1, p.2)
    (first_stops ⊥ name r0.at (number_read w32 length_rule) after_length s0 s1 r1 e (field_stops ⊥ name 4 (number_rule w32 length_rule) r0.at s0 s1 r1 e c.in_err-n.ensures.stops))

pub returns-in_err-length-clause-answer : goal.returns-in_err-length-clause-answer
returns-in_err-length-clause-answer g c =
    let state = g.S.Shelf.state in
    let name = c.args.name.now in
    let r0 = c.args.file.now in
    let s0 = state c.args.shelf.now in
    let r1 = c.number.new.self in
    let s1 = state c.number.new.shelf in
    let e = c.in_err-length.field-0.0 in
    let p = err_from_is_err_and c.from_residual-in_err-length.result c.from_residual-in_err-length.ensures.1 in
    let n1 = c.in_ok-n in
    let ok1 = n1.ensures {u = tt} in
    rw (p.1, p.2)
    (first_stops ⊥ name r0.at (number_read w32 length_rule) after_length s0 s1 r1 e
    (number_32 ⊥ name length_rule r0.at n1.n s0 s1 r1 (Err e) (omega arith) (c.in_err-length.ensures.len ∙ ap (λ at. length_rule at n1.n) c.place-at.ensures) c.in_err-length.ensures.refusal ok1.took))

pub returns-in_err-n-2-clause-answer : goal.returns-in_err-n-2-clause-answer
returns-in_err-n-2-clause-answer g c =
    let state = g.S.Shelf.state in
    let name = c.args.name.now in
    let r0 = c.args.file.now in
    let s0 = state c.args.shelf.now in
    let r1 = c.number.new.self in
    let s1 = state c.number.new.shelf in
    let r2 = c.u8.new.self in
    let s2 = state c.u8.new.shelf in
    let e = c.in_err-n-2.field-0.0 in
    let p = err_from_is_err_and c.from_residual-in_err-n-2.result c.from_residual-in_err-n-2.ensures.1 in
    let n1 = c.in_ok-n in
    let ok1 = n1.ensures {u = tt} in
    let v1 : ℕ = c.in_ok-length.length in
    let found1 = (number_32 ⊥ name length_rule r0.at n1.n s0 s1 r1 (Ok v1) (omega arith) ((c.in_ok-length.ensures {u = tt}).len ∙ ap (λ at. length_rule at n1.n) c.place-at.ensures) (c.in_ok-length.ensures {u = tt}).refusal ok1.took) in
    rw (p.1, p.2)
    (then_reads ⊥ name r0.at (number_read w32 length_rule) after_length s0 s1 s2 r1 r2 v1 (Err e) ok1.reads c.in_err-n-2.ensures.reads found1
    (first_stops ⊥ name r1.at (number_read w8 taps_rule) (after_taps v1) s1 s2 r2 e (field_stops ⊥ name 1 (number_rule w8 taps_rule) r1.at s1 s2 r2 e c.in_err-n-2.ensures.stops)))

pub returns-in_err-n-2-clause-reads : goal.returns-in_err-n-2-clause-reads
returns-in_err-n-2-clause-reads g c =
    let state = g.S.Shelf.state in
    let name = c.args.name.now in
    let r0 = c.args.file.now in
    let s0 = state c.args.shelf.now in
    let r1 = c.number.new.self in
    let s1 = state c.number.new.shelf in
    let r2 = c.u8.new.self in
    let s2 = state c.u8.new.shelf in
    let n1 = c.in_ok-n in
    let ok1 = n1.ensures {u = tt} in
    (only_reads_then s0 s1 s2 ok1.reads c.in_err-n-2.ensures.reads)

pub returns-in_err-taps-clause-answer : goal.returns-in_err-taps-clause-answer
returns-in_err-taps-clause-answer g c =
    let state = g.S.Shelf.state in
    let name = c.args.name.now in
    let r0 = c.args.file.now in
    let s0 = state c.args.shelf.now in
    let r1 = c.number.new.self in
    let s1 = state c.number.new.shelf in
    let r2 = c.u8.new.self in
    let s2 = state c.u8.new.shelf in
    let e = c.in_err-taps.field-0.0 in
    let p = err_from_is_err_and c.from_residual-in_err-taps.result c.from_residual-in_err-taps.ensures.1 in
    let n1 = c.in_ok-n in
    let ok1 = n1.ensures {u = tt} in
    let v1 : ℕ = c.in_ok-length.length in
    let found1 = (number_32 ⊥ name length_rule r0.at n1.n s0 s1 r1 (Ok v1) (omega arith) ((c.in_ok-length.ensures {u = tt}).len ∙ ap (λ at. length_rule at n1.n) c.place-at.ensures) (c.in_ok-length.ensures {u = tt}).refusal ok1.took) in
    let n2 = c.in_ok-n-2 in
    let ok2 = n2.ensures {u = tt} in
    rw (p.1, p.2)
    (then_reads ⊥ name r0.at (number_read w32 length_rule) after_length s0 s1 s2 r1 r2 v1 (Err e) ok1.reads ok2.reads found1
    (first_stops ⊥ name r1.at (number_read w8 taps_rule) (after_taps v1) s1 s2 r2 e
    (number_8 ⊥ name taps_rule r1.at n2.n s1 s2 r2 (Err e) (c.in_err-taps.ensures.taps ∙ ap (λ at. taps_rule at n2.n) c.place-at-2.ensures) c.in_err-taps.ensures.refusal ok2.took)))

pub returns-in_err-taps-clause-reads : goal.returns-in_err-taps-clause-reads
returns-in_err-taps-clause-reads g c =
    let state = g.S.Shelf.state in
    let name = c.args.name.now in
    let r0 = c.args.file.now in
    let s0 = state c.args.shelf.now in
    let r1 = c.number.new.self in
    let s1 = state c.number.new.shelf in
    let r2 = c.u8.new.self in
    let s2 = state c.u8.new.shelf in
    let n1 = c.in_ok-n in
    let ok1 = n1.ensures {u = tt} in
    let n2 = c.in_ok-n-2 in
    let ok2 = n2.ensures {u = tt} in
    (only_reads_then s0 s1 s2 ok1.reads ok2.reads)

pub returns-in_err-n-3-clause-answer : goal.returns-in_err-n-3-clause-answer
returns-in_err-n-3-clause-answer g c =
    let state = g.S.Shelf.state in
    let name = c.args.name.now in
    let r0 = c.args.file.now in
    let s0 = state c.args.shelf.now in
    let r1 = c.number.new.self in
    let s1 = state c.number.new.shelf in
    let r2 = c.u8.new.self in
    let s2 = state c.u8.new.shelf in
    let r3 = c.number-2.new.self in
    let s3 = state c.number-2.new.shelf in
    let e = c.in_err-n-3.field-0.0 in
    let p = err_from_is_err_and c.from_residual-in_err-n-3.result c.from_residual-in_err-n-3.ensures.1 in
    let n1 = c.in_ok-n in
    let ok1 = n1.ensures {u = tt} in
    let v1 : ℕ = c.in_ok-length.length in
    let found1 = (number_32 ⊥ name length_rule r0.at n1.n s0 s1 r1 (Ok v1) (omega arith) ((c.in_ok-length.ensures {u = tt}).len ∙ ap (λ at. length_rule at n1.n) c.place-at.ensures) (c.in_ok-length.ensures {u = tt}).refusal ok1.took) in
    let n2 = c.in_ok-n-2 in
    let ok2 = n2.ensures {u = tt} in
    let v2 : Taps = c.in_ok-taps.taps in
    let found2 = (number_8 ⊥ name taps_rule r1.at n2.n s1 s2 r2 (Ok v2) ((c.in_ok-taps.ensures {u = tt}).taps ∙ ap (λ at. taps_rule at n2.n) c.place-at-2.ensures) (c.in_ok-taps.ensures {u = tt}).refusal ok2.took) in
    rw (p.1, p.2)
    (then_reads ⊥ name r0.at (number_read w32 length_rule) after_length s0 s1 s3 r1 r3 v1 (Err e) ok1.reads (only_reads_then s1 s2 s3 ok2.reads c.in_err-n-3.ensures.reads) found1
    (then_reads ⊥ name r1.at (number_read w8 taps_rule) (after_taps v1) s1 s2 s3 r2 r3 v2 (Err e) ok2.reads c.in_err-n-3.ensures.reads found2
    (first_stops ⊥ name r2.at (number_read w16 gap_rule) (after_gap v1 v2) s2 s3 r3 e (field_stops ⊥ name 2 (number_rule w16 gap_rule) r2.at s2 s3 r3 e c.in_err-n-3.ensures.stops))))

pub returns-in_err-n-3-clause-reads : goal.returns-in_err-n-3-clause-reads
returns-in_err-n-3-clause-reads g c =
    let state = g.S.Shelf.state in
    let name = c.args.name.now in
    let r0 = c.args.file.now in
    let s0 = state c.args.shelf.now in
    let r1 = c.number.new.self in
    let s1 = state c.number.new.shelf in
    let r2 = c.u8.new.self in
    let s2 = state c.u8.new.shelf in
    let r3 = c.number-2.new.self in
    let s3 = state c.number-2.new.shelf in
    let n1 = c.in_ok-n in
    let ok1 = n1.ensures {u = tt} in
    let n2 = c.in_ok-n-2 in
    let ok2 = n2.ensures {u = tt} in
    (only_reads_then s0 s1 s3 ok1.reads (only_reads_then s1 s2 s3 ok2.reads c.in_err-n-3.ensures.reads))

pub returns-in_err-gap-clause-answer : goal.returns-in_err-gap-clause-answer
returns-in_err-gap-clause-answer g c =
    let state = g.S.Shelf.state in
    let name = c.args.name.now in
    let r0 = c.args.file.now in
    let s0 = state c.args.shelf.now in
    let r1 = c.number.new.self in
    let s1 = state c.number.new.shelf in
    let r2 = c.u8.new.self in
    let s2 = state c.u8.new.shelf in
    let r3 = c.number-2.new.self in
    let s3 = state c.number-2.new.shelf in
    let e = c.in_err-gap.field-0.0 in
    let p = err_from_is_err_and c.from_residual-in_err-gap.result c.from_residual-in_err-gap.ensures.1 in
    let n1 = c.in_ok-n in
    let ok1 = n1.ensures {u = tt} in
    let v1 : ℕ = c.in_ok-length.length in
    let found1 = (number_32 ⊥ name length_rule r0.at n1.n s0 s1 r1 (Ok v1) (omega arith) ((c.in_ok-length.ensures {u = tt}).len ∙ ap (λ at. length_rule at n1.n) c.place-at.ensures) (c.in_ok-length.ensures {u = tt}).refusal ok1.took) in
    let n2 = c.in_ok-n-2 in
    let ok2 = n2.ensures {u = tt} in
    let v2 : Taps = c.in_ok-taps.taps in
    let found2 = (number_8 ⊥ name taps_rule r1.at n2.n s1 s2 r2 (Ok v2) ((c.in_ok-taps.ensures {u = tt}).taps ∙ ap (λ at. taps_rule at n2.n) c.place-at-2.ensures) (c.in_ok-taps.ensures {u = tt}).refusal ok2.took) in
    let n3 = c.in_ok-n-3 in
    let ok3 = n3.ensures {u = tt} in
    rw (p.1, p.2)
    (then_reads ⊥ name r0.at (number_read w32 length_rule) after_length s0 s1 s3 r1 r3 v1 (Err e) ok1.reads (only_reads_then s1 s2 s3 ok2.reads ok3.reads) found1
    (then_reads ⊥ name r1.at (number_read w8 taps_rule) (after_taps v1) s1 s2 s3 r2 r3 v2 (Err e) ok2.reads ok3.reads found2
    (first_stops ⊥ name r2.at (number_read w16 gap_rule) (after_gap v1 v2) s2 s3 r3 e
    (number_16 ⊥ name gap_rule r2.at n3.n s2 s3 r3 (Err e) (omega arith) (c.in_err-gap.ensures.gap ∙ ap (λ at. gap_rule at n3.n) c.place-at-3.ensures) c.in_err-gap.ensures.refusal ok3.took))))

pub returns-in_err-gap-clause-reads : goal.returns-in_err-gap-clause-reads
returns-in_err-gap-clause-reads g c =
    let state = g.S.Shelf.state in
    let name = c.args.name.now in
    let r0 = c.args.file.now in
    let s0 = state c.args.shelf.now in
    let r1 = c.number.new.self in
    let s1 = state c.number.new.shelf in
    let r2 = c.u8.new.self in
    let s2 = state c.u8.new.shelf in
    let r3 = c.number-2.new.self in
    let s3 = state c.number-2.new.shelf in
    let n1 = c.in_ok-n in
    let ok1 = n1.ensures {u = tt} in
    let n2 = c.in_ok-n-2 in
    let ok2 = n2.ensures {u = tt} in
    let n3 = c.in_ok-n-3 in
    let ok3 = n3.ensures {u = tt} in
    (only_reads_then s0 s1 s3 ok1.reads (only_reads_then s1 s2 s3 ok2.reads ok3.reads))

pub returns-clause-answer : goal.returns-clause-answer
returns-clause-answer g c =
    let state = g.S.Shelf.state in
    let name = c.args.name.now in
    let r0 = c.args.file.now in
    let s0 = state c.args.shelf.now in
    let r1 = c.number.new.self in
    let s1 = state c.number.new.shelf in
    let r2 = c.u8.new.self in
    let s2 = state c.u8.new.shelf in
    let r3 = c.number-2.new.self in
    let s3 = state c.number-2.new.shelf in
    let n1 = c.in_ok-n in
    let ok1 = n1.ensures {u = tt} in
    let v1 : ℕ = c.in_ok-length.length in
    let found1 = (number_32 ⊥ name length_rule r0.at n1.n s0 s1 r1 (Ok v1) (omega arith) ((c.in_ok-length.ensures {u = tt}).len ∙ ap (λ at. length_rule at n1.n) c.place-at.ensures) (c.in_ok-length.ensures {u = tt}).refusal ok1.took) in
    let n2 = c.in_ok-n-2 in
    let ok2 = n2.ensures {u = tt} in
    let v2 : Taps = c.in_ok-taps.taps in
    let found2 = (number_8 ⊥ name taps_rule r1.at n2.n s1 s2 r2 (Ok v2) ((c.in_ok-taps.ensures {u = tt}).taps ∙ ap (λ at. taps_rule at n2.n) c.place-at-2.ensures) (c.in_ok-taps.ensures {u = tt}).refusal ok2.took) in
    let n3 = c.in_ok-n-3 in
    let ok3 = n3.ensures {u = tt} in
    let v3 : ℕ = c.in_ok-gap.gap in
    let found3 = (number_16 ⊥ name gap_rule r2.at n3.n s2 s3 r3 (Ok v3) (omega arith) ((c.in_ok-gap.ensures {u = tt}).gap ∙ ap (λ at. gap_rule at n3.n) c.place-at-3.ensures) (c.in_ok-gap.ensures {u = tt}).refusal ok3.took) in
    let value : WalkStart = record { length = v1; taps = v2; gap = v3 } in
    (then_reads ⊥ name r0.at (number_read w32 length_rule) after_length s0 s1 s3 r1 r3 v1 (Ok value) ok1.reads (only_reads_then s1 s2 s3 ok2.reads ok3.reads) found1
    (then_reads ⊥ name r1.at (number_read w8 taps_rule) (after_taps v1) s1 s2 s3 r2 r3 v2 (Ok value) ok2.reads ok3.reads found2
    (then_reads ⊥ name r2.at (number_read w16 gap_rule) (after_gap v1 v2) s2 s3 s3 r3 r3 v3 (Ok value) ok3.reads (only_reads_same s3) found3 (made ⊥ name s3 s3 r3 value found3.follows))))

pub returns-clause-reads : goal.returns-clause-reads
returns-clause-reads g c =
    let state = g.S.Shelf.state in
    let name = c.args.name.now in
    let r0 = c.args.file.now in
    let s0 = state c.args.shelf.now in
    let r1 = c.number.new.self in
    let s1 = state c.number.new.shelf in
    let r2 = c.u8.new.self in
    let s2 = state c.u8.new.shelf in
    let r3 = c.number-2.new.self in
    let s3 = state c.number-2.new.shelf in
    let n1 = c.in_ok-n in
    let ok1 = n1.ensures {u = tt} in
    let n2 = c.in_ok-n-2 in
    let ok2 = n2.ensures {u = tt} in
    let n3 = c.in_ok-n-3 in
    let ok3 = n3.ensures {u = tt} in
    (only_reads_then s0 s1 s3 ok1.reads (only_reads_then s1 s2 s3 ok2.reads ok3.reads))

pub returns-clause-place : goal.returns-clause-place
returns-clause-place g c = grind (arith, common_steps)
