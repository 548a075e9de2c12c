use Rattle.std.proofs.Common.{ℕ, List}
use Rattle.std.proofs.lemmas.Result.{err_from_is_err_and}
use Rattle.std.specs.Prelude.{Result, Ok, Err}
use Rattle.shelf_traits.specs.declared.fault.ReadError.{ReadError}
use Rattle.shelf_traits.proofs.FileLaws.{only_reads_same, only_reads_then}
use Rattle.cells.specs.declared.place.Size.{Size}
use Rattle.source_map.proofs.FieldLaws.{chain, first_stops, made, then_reads}
use Rattle.source_map.specs.declared.head.Head.{Head}
use Rattle.source_map.specs.declared.head_reading.Start.{Start}
use Rattle.source_map.specs.Heads.{start_read, sizes_read}
use Rattle.source_map.proofs.head_reading.read_head.Goals as goal

abbrev end : Start → List Size → ℕ → List ℕ → Result ((Head × ℕ) × ℕ) ReadError
end start samples at bytes = Ok ((record { output = start.output; samples = samples; version = start.version }, start.kind), at)

pub returns-in_err-start-clause-answer : goal.returns-in_err-start-clause-answer
returns-in_err-start-clause-answer g c =
    let state = g.S.Shelf.state in
    let name = c.args.name.now in
    let p = err_from_is_err_and c.from_residual.result c.from_residual.ensures.1 in
    rw (p.1, p.2)
    (first_stops ⊥ name c.args.file.now.at (start_read c.args.magic c.args.versions c.args.kinds) (λ (v0 : Start). chain (sizes_read v0.version) (λ (v1 : List Size). end v0 v1)) (state c.args.shelf.now) (state c.read_start.new.shelf) c.read_start.new.file c.in_err-start.field-0.0 c.in_err-start.ensures.answer)

pub returns-in_err-samples-clause-answer : goal.returns-in_err-samples-clause-answer
returns-in_err-samples-clause-answer g c =
    let state = g.S.Shelf.state in
    let name = c.args.name.now in
    let p = err_from_is_err_and c.from_residual-in_err-samples.result c.from_residual-in_err-samples.ensures.1 in
    let v0 : Start = c.in_ok-start.start in
    let ok0 = c.in_ok-start.ensures {u = tt} in
    rw (p.1, p.2)
    (then_reads ⊥ name c.args.file.now.at (start_read c.args.magic c.args.versions c.args.kinds) (λ (v0 : Start). chain (sizes_read v0.version) (λ (v1 : List Size). end v0 v1)) (state c.args.shelf.now) (state c.read_start.new.shelf) (state c.read_samples.new.shelf) c.read_start.new.file c.read_samples.new.file v0 (Err c.in_err-samples.field-0.0)
    ok0.reads c.in_err-samples.ensures.reads ok0.answer
    (first_stops ⊥ name c.read_start.new.file.at (sizes_read v0.version) (λ (v1 : List Size). end v0 v1) (state c.read_start.new.shelf) (state c.read_samples.new.shelf) c.read_samples.new.file c.in_err-samples.field-0.0 c.in_err-samples.ensures.answer))

pub returns-clause-answer : goal.returns-clause-answer
returns-clause-answer g c =
    let state = g.S.Shelf.state in
    let name = c.args.name.now in
    let v0 : Start = c.in_ok-start.start in
    let ok0 = c.in_ok-start.ensures {u = tt} in
    let v1 : List Size = c.in_ok-samples.samples in
    let ok1 = c.in_ok-samples.ensures {u = tt} in
    let value : Head × ℕ = (record { output = v0.output; samples = v1; version = v0.version }, v0.kind) in
    then_reads ⊥ name c.args.file.now.at (start_read c.args.magic c.args.versions c.args.kinds) (λ (v0 : Start). chain (sizes_read v0.version) (λ (v1 : List Size). end v0 v1)) (state c.args.shelf.now) (state c.read_start.new.shelf) (state c.read_samples.new.shelf) c.read_start.new.file c.read_samples.new.file v0 (Ok value)
    ok0.reads ok1.reads ok0.answer
    (then_reads ⊥ name c.read_start.new.file.at (sizes_read v0.version) (λ (v1 : List Size). end v0 v1) (state c.read_start.new.shelf) (state c.read_samples.new.shelf) (state c.read_samples.new.shelf) c.read_samples.new.file c.read_samples.new.file v1 (Ok value)
    ok1.reads (only_reads_same (state c.read_samples.new.shelf)) ok1.answer
    (made ⊥ name (state c.read_samples.new.shelf) (state c.read_samples.new.shelf) c.read_samples.new.file value ok1.answer.follows))

pub returns-clause-reads : goal.returns-clause-reads
returns-clause-reads g c =
    let state = g.S.Shelf.state in
    only_reads_then (state c.args.shelf.now) (state c.read_start.new.shelf) (state c.read_samples.new.shelf) (c.in_ok-start.ensures {u = tt}).reads (c.in_ok-samples.ensures {u = tt}).reads
