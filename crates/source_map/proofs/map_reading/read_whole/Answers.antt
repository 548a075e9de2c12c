use Rattle.std.proofs.Common.{◌≤◌, subst}
use Rattle.std.proofs.lemmas.Result.{err_from_is_err_and}
use Rattle.std.specs.Prelude.{Ok}
use Rattle.shelf_traits.proofs.FileLaws.{only_reads_then}
use Rattle.file_bytes.specs.Reading.{Reading}
use Rattle.source_map.specs.Heads.{IsKind, start_read, version_number}
use Rattle.source_map.specs.MapFiles.{body_read, map_magic}
use Rattle.source_map.specs.Readings.{Found}
use Rattle.source_map.specs.Whole.{most_read}
use Rattle.source_map.proofs.Fewer.{version_alone, zero_alone}
use Rattle.source_map.proofs.FieldLaws.{then_reads}
use Rattle.source_map.proofs.WholeMaps.{read_whole, read_on}
use Rattle.source_map.proofs.map_reading.read_whole.Goals as goal

pub returns-clause-answer : goal.returns-clause-answer
returns-clause-answer g c =
    let state = g.S.Shelf.state in
    let name = c.args.name.now in
    let was = state c.args.shelf.now in
    let b = state c.read_body.new.shelf in
    let start = c.in_ok-start.ensures {u = tt} in
    let value = c.in_ok-value.ensures {u = tt} in
    read_whole name (most_read c.args.most) was b (state c.end.new.shelf) c.read_body.new.file c.in_ok-value.value (only_reads_then was (state c.read_start.new.shelf) b start.reads value.reads) c.end.ensures.reads
    (subst (λ (r : Reading). Found name r.at b c.read_body.new.file (most_read c.args.most) c.in_ok-value.value) c.new-file.ensures
    (then_reads (Unit {0}) name c.new-file.result.at (start_read map_magic c.args.most c.args.most) body_read was (state c.read_start.new.shelf) b c.read_start.new.file c.read_body.new.file c.in_ok-start.start (Ok c.in_ok-value.value)
    start.reads value.reads start.answer value.answer))
    (c.in_ok-end.ensures {u = tt}).stops

pub returns-in_err-end-clause-answer : goal.returns-in_err-end-clause-answer
returns-in_err-end-clause-answer g c =
    let state = g.S.Shelf.state in
    let name = c.args.name.now in
    let was = state c.args.shelf.now in
    let b = state c.read_body.new.shelf in
    let start = c.in_ok-start.ensures {u = tt} in
    let value = c.in_ok-value.ensures {u = tt} in
    let e = c.in_err-end.field-0.0 in
    let p = err_from_is_err_and c.from_residual-in_err-end.result c.from_residual-in_err-end.ensures.1 in
    rw (p.1, p.2)
    (read_on name (most_read c.args.most) was b (state c.end.new.shelf) c.read_body.new.file c.in_ok-value.value e (only_reads_then was (state c.read_start.new.shelf) b start.reads value.reads) c.in_err-end.ensures.reads
    (subst (λ (r : Reading). Found name r.at b c.read_body.new.file (most_read c.args.most) c.in_ok-value.value) c.new-file.ensures
    (then_reads (Unit {0}) name c.new-file.result.at (start_read map_magic c.args.most c.args.most) body_read was (state c.read_start.new.shelf) b c.read_start.new.file c.read_body.new.file c.in_ok-start.start (Ok c.in_ok-value.value)
    start.reads value.reads start.answer value.answer))
    c.in_err-end.ensures.stops)

pub returns-clause-reads : goal.returns-clause-reads
returns-clause-reads g c =
    let state = g.S.Shelf.state in
    let name = c.args.name.now in
    let was = state c.args.shelf.now in
    let b = state c.read_body.new.shelf in
    let start = c.in_ok-start.ensures {u = tt} in
    let value = c.in_ok-value.ensures {u = tt} in
    only_reads_then was b (state c.end.new.shelf) (only_reads_then was (state c.read_start.new.shelf) b start.reads value.reads) (c.in_ok-end.ensures {u = tt}).reads

pub returns-in_err-end-clause-reads : goal.returns-in_err-end-clause-reads
returns-in_err-end-clause-reads g c =
    let state = g.S.Shelf.state in
    let name = c.args.name.now in
    let was = state c.args.shelf.now in
    let b = state c.read_body.new.shelf in
    let start = c.in_ok-start.ensures {u = tt} in
    let value = c.in_ok-value.ensures {u = tt} in
    only_reads_then was b (state c.end.new.shelf) (only_reads_then was (state c.read_start.new.shelf) b start.reads value.reads) c.in_err-end.ensures.reads

pub returns-clause-version : goal.returns-clause-version
returns-clause-version g c one =
    let start = c.in_ok-start.ensures {u = tt} in
    let s = c.in_ok-start.start in
    (c.in_ok-value.ensures {u = tt}).version (version_alone s.version (subst (λ n. version_number s.version ≤ n) one start.version))
    (zero_alone s.version s.kind (subst (λ n. IsKind n s.version s.kind) one start.kind))
