use Rattle.std.proofs.Common.{arith, ap, ◌∙◌, ◌≡◌, ◌≤◌, ◌<◌, ◌+◌, ◌^◌, length, sym, subst}
use Rattle.std.proofs.lemmas.Grind.{common_steps}
use Rattle.std.proofs.Common.{ℕ, List, ◌*◌}
use Rattle.std.proofs.lemmas.Result.{err_from_is_err_and}
use Rattle.std.specs.Prelude.{All, Option, Some, Result, Ok, Err}
use Rattle.shelf_traits.specs.declared.fault.ReadError.{ReadError}
use Rattle.shelf_traits.proofs.FileLaws.{only_reads_same, only_reads_then}
use Rattle.std.specs.Int.{w16, w32}
use Rattle.strip_boundary.specs.declared.boundary.BoundaryRecord.{BoundaryRecord}
use Rattle.source_map.proofs.FieldLaws.{chain, field_stops, first_stops, made, number_16, then_reads, value_alone}
use Rattle.source_map.specs.Readings.{ReadsFrom, list_read, number_read, number_rule}
use Rattle.cert_file.specs.BlockReading.{boundary_read, cols_rule, side_read}
use Rattle.cert_file.specs.Rules.{any_rule}
use Rattle.cert_file.proofs.NumberLists.{list_lacks, long_32, vec_32}
use Rattle.std.proofs.Math.Nat.{mul-le-mul_left}
use Rattle.cert_file.proofs.block_fields.read_side.Goals as goal

abbrev after_2 : ℕ → ℕ → ℕ → List ℕ → List ℕ → ℕ → List ℕ → Result (BoundaryRecord × ℕ) ReadError
after_2 rows most v0 v1 v2 = value_alone (record { path = v1; sums = v2 })

abbrev after_1 : ℕ → ℕ → ℕ → List ℕ → ℕ → List ℕ → Result (BoundaryRecord × ℕ) ReadError
after_1 rows most v0 v1 = chain (list_read (number_read w32 any_rule) (rows * v0)) (after_2 rows most v0 v1)

abbrev after_0 : ℕ → ℕ → ℕ → ℕ → List ℕ → Result (BoundaryRecord × ℕ) ReadError
after_0 rows most v0 = chain (list_read (number_read w16 any_rule) rows) (after_1 rows most v0)

-- the boundary, as that of the side
abbrev as_side : BoundaryRecord → ℕ → List ℕ → Result (Option BoundaryRecord × ℕ) ReadError
as_side boundary = value_alone (Some boundary)

pub returns-in_err-n-clause-answer : goal.returns-in_err-n-clause-answer
returns-in_err-n-clause-answer g c =
    let state = g.S.Shelf.state in
    let name = c.args.name.now in
    let e = c.in_err-n.field-0.0 in
    let p = err_from_is_err_and c.from_residual.result c.from_residual.ensures.1 in
    rw (p.1, p.2)
    (subst (λ present. ReadsFrom (Unit {0}) name c.args.file.now.at (state c.args.shelf.now) (state c.number.new.shelf) c.number.new.self (side_read present c.args.rows c.args.most) (Err e)) (sym c.if-not-present.false)
    (first_stops (Unit {0}) name c.args.file.now.at (boundary_read c.args.rows c.args.most) as_side (state c.args.shelf.now) (state c.number.new.shelf) c.number.new.self e
    (first_stops (Unit {0}) name c.args.file.now.at (number_read w16 (cols_rule c.args.most)) (after_0 c.args.rows c.args.most) (state c.args.shelf.now) (state c.number.new.shelf) c.number.new.self e (field_stops (Unit {0}) name 2 (number_rule w16 (cols_rule c.args.most)) c.args.file.now.at (state c.args.shelf.now) (state c.number.new.shelf) c.number.new.self e c.in_err-n.ensures.stops))))

pub returns-in_err-cols-clause-answer : goal.returns-in_err-cols-clause-answer
returns-in_err-cols-clause-answer g c =
    let state = g.S.Shelf.state in
    let name = c.args.name.now in
    let e = c.in_err-cols.field-0.0 in
    let p = err_from_is_err_and c.from_residual-in_err-cols.result c.from_residual-in_err-cols.ensures.1 in
    rw (p.1, p.2)
    (subst (λ present. ReadsFrom (Unit {0}) name c.args.file.now.at (state c.args.shelf.now) (state c.number.new.shelf) c.number.new.self (side_read present c.args.rows c.args.most) (Err e)) (sym c.if-not-present.false)
    (first_stops (Unit {0}) name c.args.file.now.at (boundary_read c.args.rows c.args.most) as_side (state c.args.shelf.now) (state c.number.new.shelf) c.number.new.self e
    (first_stops (Unit {0}) name c.args.file.now.at (number_read w16 (cols_rule c.args.most)) (after_0 c.args.rows c.args.most) (state c.args.shelf.now) (state c.number.new.shelf) c.number.new.self e (number_16 (Unit {0}) name (cols_rule c.args.most) c.args.file.now.at c.in_ok-n.n (state c.args.shelf.now) (state c.number.new.shelf) c.number.new.self (Err e) (omega arith) (c.in_err-cols.ensures.cols ∙ ap (λ at. cols_rule c.args.most at c.in_ok-n.n) c.place-at.ensures) c.in_err-cols.ensures.refusal (c.in_ok-n.ensures {u = tt}).took))))

pub returns-in_err-path-clause-answer : goal.returns-in_err-path-clause-answer
returns-in_err-path-clause-answer g c =
    let state = g.S.Shelf.state in
    let name = c.args.name.now in
    let e = c.in_err-path.field-0.0 in
    let p = err_from_is_err_and c.from_residual-in_err-path.result c.from_residual-in_err-path.ensures.1 in
    let v0 : ℕ = c.in_ok-cols.cols in
    let ok0 = c.in_ok-n.ensures {u = tt} in
    let found0 = (number_16 (Unit {0}) name (cols_rule c.args.most) c.args.file.now.at c.in_ok-n.n (state c.args.shelf.now) (state c.number.new.shelf) c.number.new.self (Ok v0) (omega arith) ((c.in_ok-cols.ensures {u = tt}).cols ∙ ap (λ at. cols_rule c.args.most at c.in_ok-n.n) c.place-at.ensures) (c.in_ok-cols.ensures {u = tt}).refusal (c.in_ok-n.ensures {u = tt}).took) in
    rw (p.1, p.2)
    (subst (λ present. ReadsFrom (Unit {0}) name c.args.file.now.at (state c.args.shelf.now) (state c.read_list_16.new.shelf) c.read_list_16.new.file (side_read present c.args.rows c.args.most) (Err e)) (sym c.if-not-present.false)
    (first_stops (Unit {0}) name c.args.file.now.at (boundary_read c.args.rows c.args.most) as_side (state c.args.shelf.now) (state c.read_list_16.new.shelf) c.read_list_16.new.file e
    (then_reads (Unit {0}) name c.args.file.now.at (number_read w16 (cols_rule c.args.most)) (after_0 c.args.rows c.args.most) (state c.args.shelf.now) (state c.number.new.shelf) (state c.read_list_16.new.shelf) c.number.new.self c.read_list_16.new.file v0 (Err e)
    ok0.reads c.in_err-path.ensures.reads found0
    (first_stops (Unit {0}) name c.number.new.self.at (list_read (number_read w16 any_rule) c.args.rows) (after_1 c.args.rows c.args.most v0) (state c.number.new.shelf) (state c.read_list_16.new.shelf) c.read_list_16.new.file e c.in_err-path.ensures.answer))))

pub returns-in_err-sums-clause-answer : goal.returns-in_err-sums-clause-answer
returns-in_err-sums-clause-answer g c =
    let state = g.S.Shelf.state in
    let name = c.args.name.now in
    let e = c.in_err-sums.field-0.0 in
    let p = err_from_is_err_and c.from_residual-in_err-sums.result c.from_residual-in_err-sums.ensures.1 in
    let v0 : ℕ = c.in_ok-cols.cols in
    let ok0 = c.in_ok-n.ensures {u = tt} in
    let found0 = (number_16 (Unit {0}) name (cols_rule c.args.most) c.args.file.now.at c.in_ok-n.n (state c.args.shelf.now) (state c.number.new.shelf) c.number.new.self (Ok v0) (omega arith) ((c.in_ok-cols.ensures {u = tt}).cols ∙ ap (λ at. cols_rule c.args.most at c.in_ok-n.n) c.place-at.ensures) (c.in_ok-cols.ensures {u = tt}).refusal (c.in_ok-n.ensures {u = tt}).took) in
    let v1 : List ℕ = c.in_ok-path.path in
    let ok1 = c.in_ok-path.ensures {u = tt} in
    rw (p.1, p.2)
    (subst (λ present. ReadsFrom (Unit {0}) name c.args.file.now.at (state c.args.shelf.now) (state c.list.new.shelf) c.list.new.self (side_read present c.args.rows c.args.most) (Err e)) (sym c.if-not-present.false)
    (first_stops (Unit {0}) name c.args.file.now.at (boundary_read c.args.rows c.args.most) as_side (state c.args.shelf.now) (state c.list.new.shelf) c.list.new.self e
    (then_reads (Unit {0}) name c.args.file.now.at (number_read w16 (cols_rule c.args.most)) (after_0 c.args.rows c.args.most) (state c.args.shelf.now) (state c.number.new.shelf) (state c.list.new.shelf) c.number.new.self c.list.new.self v0 (Err e)
    ok0.reads (only_reads_then (state c.number.new.shelf) (state c.read_list_16.new.shelf) (state c.list.new.shelf) ok1.reads c.in_err-sums.ensures.reads) found0
    (then_reads (Unit {0}) name c.number.new.self.at (list_read (number_read w16 any_rule) c.args.rows) (after_1 c.args.rows c.args.most v0) (state c.number.new.shelf) (state c.read_list_16.new.shelf) (state c.list.new.shelf) c.read_list_16.new.file c.list.new.self v1 (Err e)
    ok1.reads c.in_err-sums.ensures.reads ok1.answer
    (first_stops (Unit {0}) name c.read_list_16.new.file.at (list_read (number_read w32 any_rule) (c.args.rows * v0)) (after_2 c.args.rows c.args.most v0 v1) (state c.read_list_16.new.shelf) (state c.list.new.shelf) c.list.new.self e (list_lacks name w32 (c.args.rows * v0) (state c.read_list_16.new.shelf) (state c.list.new.shelf) c.read_list_16.new.file c.list.new.self e ok1.answer.follows c.in_err-sums.ensures.reads c.in_err-sums.ensures.stops))))))

pub returns-clause-answer : goal.returns-clause-answer
returns-clause-answer g c =
    let state = g.S.Shelf.state in
    let name = c.args.name.now in
    let v0 : ℕ = c.in_ok-cols.cols in
    let ok0 = c.in_ok-n.ensures {u = tt} in
    let found0 = (number_16 (Unit {0}) name (cols_rule c.args.most) c.args.file.now.at c.in_ok-n.n (state c.args.shelf.now) (state c.number.new.shelf) c.number.new.self (Ok v0) (omega arith) ((c.in_ok-cols.ensures {u = tt}).cols ∙ ap (λ at. cols_rule c.args.most at c.in_ok-n.n) c.place-at.ensures) (c.in_ok-cols.ensures {u = tt}).refusal (c.in_ok-n.ensures {u = tt}).took) in
    let v1 : List ℕ = c.in_ok-path.path in
    let ok1 = c.in_ok-path.ensures {u = tt} in
    let v2 : List ℕ = c.from_vec-sums.result in
    let ok2 = c.in_ok-sums.ensures {u = tt} in
    let sums = c.in_ok-sums.sums.items in
    let count : length sums ≡ c.args.rows * v0 = omega (arith, ok2.count) in
    let found = vec_32 name (c.args.rows * v0) c.read_list_16.new.file.at sums v2 (state c.list.new.shelf) c.list.new.self c.from_vec-sums.ensures count (subst (All (λ n. n < 2 ^ 32)) c.deref.ensures.value c.fit_32.ensures) ok2.took in
    let value : BoundaryRecord = record { path = v1; sums = v2 } in
    let all = only_reads_then (state c.args.shelf.now) (state c.number.new.shelf) (state c.list.new.shelf) ok0.reads (only_reads_then (state c.number.new.shelf) (state c.read_list_16.new.shelf) (state c.list.new.shelf) ok1.reads ok2.reads) in
    subst (λ present. ReadsFrom (Unit {0}) name c.args.file.now.at (state c.args.shelf.now) (state c.list.new.shelf) c.list.new.self (side_read present c.args.rows c.args.most) (Ok (Some value))) (sym c.if-not-present.false)
    (then_reads (Unit {0}) name c.args.file.now.at (boundary_read c.args.rows c.args.most) as_side (state c.args.shelf.now) (state c.list.new.shelf) (state c.list.new.shelf) c.list.new.self c.list.new.self value (Ok (Some value)) all (only_reads_same (state c.list.new.shelf))
    (then_reads (Unit {0}) name c.args.file.now.at (number_read w16 (cols_rule c.args.most)) (after_0 c.args.rows c.args.most) (state c.args.shelf.now) (state c.number.new.shelf) (state c.list.new.shelf) c.number.new.self c.list.new.self v0 (Ok value)
    ok0.reads (only_reads_then (state c.number.new.shelf) (state c.read_list_16.new.shelf) (state c.list.new.shelf) ok1.reads ok2.reads) found0
    (then_reads (Unit {0}) name c.number.new.self.at (list_read (number_read w16 any_rule) c.args.rows) (after_1 c.args.rows c.args.most v0) (state c.number.new.shelf) (state c.read_list_16.new.shelf) (state c.list.new.shelf) c.read_list_16.new.file c.list.new.self v1 (Ok value)
    ok1.reads ok2.reads ok1.answer
    (then_reads (Unit {0}) name c.read_list_16.new.file.at (list_read (number_read w32 any_rule) (c.args.rows * v0)) (after_2 c.args.rows c.args.most v0 v1) (state c.read_list_16.new.shelf) (state c.list.new.shelf) (state c.list.new.shelf) c.list.new.self c.list.new.self v2 (Ok value)
    ok2.reads (only_reads_same (state c.list.new.shelf)) found
    (made (Unit {0}) name (state c.list.new.shelf) (state c.list.new.shelf) c.list.new.self value found.follows))))
    (made (Unit {0}) name (state c.list.new.shelf) (state c.list.new.shelf) c.list.new.self (Some value) found.follows))

pub returns-clause-place : goal.returns-clause-place
returns-clause-place g c =
    let cols = (c.in_ok-cols.ensures {u = tt}).within in
    let read = c.in_ok-sums.ensures {u = tt} in
    let place : c.list.new.self.at ≡ c.read_list_16.new.file.at + 4 * (c.args.rows * c.in_ok-cols.cols) = omega (arith, read.took.at_is, read.count, long_32 c.in_ok-sums.sums.items) in
    let one : 1 ≤ c.args.most = omega (arith, cols.0, cols.1) in
    omega (arith, (c.in_ok-n.ensures {u = tt}).took.at_is, (c.in_ok-path.ensures {u = tt}).place, place, mul-le-mul_left c.args.rows cols.1, mul-le-mul_left c.args.rows one, c.requires.some)

pub returns-clause-reads : goal.returns-clause-reads
returns-clause-reads g c =
    let state = g.S.Shelf.state in
    only_reads_then (state c.args.shelf.now) (state c.number.new.shelf) (state c.list.new.shelf) (c.in_ok-n.ensures {u = tt}).reads (only_reads_then (state c.number.new.shelf) (state c.read_list_16.new.shelf) (state c.list.new.shelf) (c.in_ok-path.ensures {u = tt}).reads (c.in_ok-sums.ensures {u = tt}).reads)

pub list-requires-clause-room : goal.list-requires-clause-room
list-requires-clause-room g c = grind (arith, common_steps)

pub returns-in_err-sums-clause-reads : goal.returns-in_err-sums-clause-reads
returns-in_err-sums-clause-reads g c =
    let state = g.S.Shelf.state in
    only_reads_then (state c.args.shelf.now) (state c.number.new.shelf) (state c.list.new.shelf) (c.in_ok-n.ensures {u = tt}).reads (only_reads_then (state c.number.new.shelf) (state c.read_list_16.new.shelf) (state c.list.new.shelf) (c.in_ok-path.ensures {u = tt}).reads c.in_err-sums.ensures.reads)

pub returns-clause-form : goal.returns-clause-form
returns-clause-form g c =
    let cols = c.in_ok-cols.cols in
    let within = (c.in_ok-cols.ensures {u = tt}).within in
    let sums = c.in_ok-sums.ensures {u = tt} in
    let count : length c.from_vec-sums.result ≡ c.args.rows * cols = ap length c.from_vec-sums.ensures ∙ omega (arith, sums.count) in
    record { path = (c.in_ok-path.ensures {u = tt}).count; columns = record { cols = cols; some = within.0; most_of = within.1; count = count } }
