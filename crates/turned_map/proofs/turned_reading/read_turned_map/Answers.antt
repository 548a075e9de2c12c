use Rattle.std.proofs.Common.{ℕ, List, subst}
use Rattle.std.proofs.lemmas.Result.{err_from_is_err_and}
use Rattle.std.specs.Prelude.{Ok, Err}
use Rattle.shelf_traits.proofs.FileLaws.{only_reads_then}
use Rattle.file_bytes.specs.Reading.{Reading}
use Rattle.shelf_traits.specs.Files.{ShelfState}
use Rattle.shelf_traits.specs.declared.fault.ReadError.{ReadError}
use Rattle.shelf_traits.specs.declared.fault.ReadError.TheVariants.{ReadFault, Bad, Limit, NoMemory}
use Rattle.source_map.specs.Readings.{Found}
use Rattle.source_map.proofs.FieldLaws.{then_reads}
use Rattle.source_map.proofs.WholeMaps.{RefusedAs, read_whole, refused_on}
use Rattle.turned_map.specs.TurnedFiles.{TurnedReadsAs, turned_body_read, turned_map_read, turned_start_read, turned_value_read}
use Rattle.turned_map.proofs.turned_reading.read_turned_map.Goals as goal

refuses_turned : (name : List ℕ) (was now : ShelfState) (error : ReadError) → RefusedAs turned_map_read name was now error → TurnedReadsAs name was now (Err error)
refuses_turned name was now ReadFault so = so
refuses_turned name was now NoMemory so = so
refuses_turned name was now (Bad fault) so = so
refuses_turned name was now (Limit what number bound) so = so

pub returns-clause-answer : goal.returns-clause-answer
returns-clause-answer g c =
    let state = g.S.Shelf.state in
    let name = c.args.name.now in
    let was = state c.args.shelf.now in
    let b = state c.read_body.new.shelf in
    let start = c.in_ok-output.ensures {u = tt} in
    let value = c.in_ok-value.ensures {u = tt} in
    read_whole name turned_value_read was b (state c.end.new.shelf) c.read_body.new.file c.in_ok-value.value (only_reads_then was (state c.read_start.new.shelf) b start.reads value.reads) c.end.ensures.reads
    (subst (λ (r : Reading). Found name r.at b c.read_body.new.file turned_value_read c.in_ok-value.value) c.new-file.ensures
    (then_reads (Unit {0}) name c.new-file.result.at turned_start_read turned_body_read was (state c.read_start.new.shelf) b c.read_start.new.file c.read_body.new.file c.in_ok-output.output (Ok c.in_ok-value.value)
    start.reads value.reads start.answer value.answer))
    (c.in_ok-end.ensures {u = tt}).stops

pub returns-in_err-end-clause-answer : goal.returns-in_err-end-clause-answer
returns-in_err-end-clause-answer g c =
    let state = g.S.Shelf.state in
    let name = c.args.name.now in
    let was = state c.args.shelf.now in
    let b = state c.read_body.new.shelf in
    let start = c.in_ok-output.ensures {u = tt} in
    let value = c.in_ok-value.ensures {u = tt} in
    let e = c.in_err-end.field-0.0 in
    let p = err_from_is_err_and c.from_residual-in_err-end.result c.from_residual-in_err-end.ensures.1 in
    rw (p.1, p.2)
    (refuses_turned name was (state c.end.new.shelf) e
    (refused_on name turned_value_read was b (state c.end.new.shelf) c.read_body.new.file c.in_ok-value.value e (only_reads_then was (state c.read_start.new.shelf) b start.reads value.reads) c.in_err-end.ensures.reads
    (subst (λ (r : Reading). Found name r.at b c.read_body.new.file turned_value_read c.in_ok-value.value) c.new-file.ensures
    (then_reads (Unit {0}) name c.new-file.result.at turned_start_read turned_body_read was (state c.read_start.new.shelf) b c.read_start.new.file c.read_body.new.file c.in_ok-output.output (Ok c.in_ok-value.value)
    start.reads value.reads start.answer value.answer))
    c.in_err-end.ensures.stops))

pub returns-clause-reads : goal.returns-clause-reads
returns-clause-reads g c =
    let state = g.S.Shelf.state in
    let name = c.args.name.now in
    let was = state c.args.shelf.now in
    let b = state c.read_body.new.shelf in
    let start = c.in_ok-output.ensures {u = tt} in
    let value = c.in_ok-value.ensures {u = tt} in
    only_reads_then was b (state c.end.new.shelf) (only_reads_then was (state c.read_start.new.shelf) b start.reads value.reads) (c.in_ok-end.ensures {u = tt}).reads

pub returns-in_err-end-clause-reads : goal.returns-in_err-end-clause-reads
returns-in_err-end-clause-reads g c =
    let state = g.S.Shelf.state in
    let name = c.args.name.now in
    let was = state c.args.shelf.now in
    let b = state c.read_body.new.shelf in
    let start = c.in_ok-output.ensures {u = tt} in
    let value = c.in_ok-value.ensures {u = tt} in
    only_reads_then was b (state c.end.new.shelf) (only_reads_then was (state c.read_start.new.shelf) b start.reads value.reads) c.in_err-end.ensures.reads
