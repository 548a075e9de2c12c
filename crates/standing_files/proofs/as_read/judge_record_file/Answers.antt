use Rattle.std.proofs.Common.{◌≡◌, ℕ, ap}
use Rattle.std.specs.Prelude.{Ok, Err}
use Rattle.std.proofs.lemmas.Result.{err_from_is_err_and}
use Rattle.shelf_traits.proofs.FileLaws.{only_reads_then}
use Rattle.file_bytes.specs.Reading.{Reading}
use Rattle.cert_file.specs.RecordFiles.{blocks_file_read, cuts_file_read, records_read}
use Rattle.cert_file.specs.WalkReading.{walk_file_read}
use Rattle.standing_files.proofs.Concluding.{read_as_walk, whole_judged, whole_read}
use Rattle.standing_files.proofs.as_read.judge_record_file.Goals as goal

pub returns-in_ok-verdict-clause-answer : goal.returns-in_ok-verdict-clause-answer
returns-in_ok-verdict-clause-answer g c =
    let state = g.S.Shelf.state in
    let start : c.new-file.result.at ≡ 0 = ap (λ (r : Reading). r.at) c.new-file.ensures in
    let kind : ℕ = c.in_ok-head.kind in
    let head = c.in_ok-head.head in
    let file = c.in_ok-record_file.record_file in
    let top = c.in_ok-head.ensures {u = tt} in
    let its = c.in_ok-record_file.ensures {u = tt} in (
      file,
      whole_read c.args.name.now c.new-file.result.at start (state c.args.shelf.now) (state c.read_record_head.new.shelf) (state c.read_walk_file.new.shelf) c.read_record_head.new.file head kind (walk_file_read head) top.reads its.reads
          top.answer (λ at bytes. read_as_walk kind head at bytes c.if-kind-eq-CUTS.false c.if-kind-eq-BLOCKS.false) (Ok file) its.answer,
      c.in_ok-verdict.ensures {u = tt},
    )

pub returns-in_err-record_file-clause-answer : goal.returns-in_err-record_file-clause-answer
returns-in_err-record_file-clause-answer g c =
    let state = g.S.Shelf.state in
    let start : c.new-file.result.at ≡ 0 = ap (λ (r : Reading). r.at) c.new-file.ensures in
    let kind : ℕ = c.in_ok-head.kind in
    let head = c.in_ok-head.head in
    let e = c.in_err-record_file.field-0.0 in
    let p = err_from_is_err_and c.from_residual-in_err-record_file.result c.from_residual-in_err-record_file.ensures.1 in
    let top = c.in_ok-head.ensures {u = tt} in
    let its = c.in_err-record_file.ensures in
    rw (p.1, p.2)
    (whole_read c.args.name.now c.new-file.result.at start (state c.args.shelf.now) (state c.read_record_head.new.shelf) (state c.read_walk_file.new.shelf) c.read_record_head.new.file head kind (walk_file_read head) top.reads its.reads
    top.answer (λ at bytes. read_as_walk kind head at bytes c.if-kind-eq-CUTS.false c.if-kind-eq-BLOCKS.false) (Err e) its.answer)

pub returns-then-kind-eq-CUTS-clause-answer : goal.returns-then-kind-eq-CUTS-clause-answer
returns-then-kind-eq-CUTS-clause-answer g c =
    let state = g.S.Shelf.state in
    let start : c.new-file.result.at ≡ 0 = ap (λ (r : Reading). r.at) c.new-file.ensures in
    let head = c.in_ok-head.head in
    let judged = c.judge_cells-verdict in
    let top = c.in_ok-head.ensures {u = tt} in
    whole_judged c.args.name.now c.new-file.result.at start (state c.args.shelf.now) (state c.read_record_head.new.shelf) (state judged.new.shelf) c.read_record_head.new.file head c.in_ok-head.kind (cuts_file_read head) top.reads judged.ensures.reads
    top.answer (λ at bytes. ap (λ kind. records_read kind head at bytes) c.if-kind-eq-CUTS.true) c.args.samples.now c.args.out.now c.args.map_file.now judged.result judged.ensures.answer

pub returns-then-kind-eq-BLOCKS-clause-answer : goal.returns-then-kind-eq-BLOCKS-clause-answer
returns-then-kind-eq-BLOCKS-clause-answer g c =
    let state = g.S.Shelf.state in
    let start : c.new-file.result.at ≡ 0 = ap (λ (r : Reading). r.at) c.new-file.ensures in
    let head = c.in_ok-head.head in
    let judged = c.judge_cells-verdict-then-kind-eq-BLOCKS in
    let top = c.in_ok-head.ensures {u = tt} in
    whole_judged c.args.name.now c.new-file.result.at start (state c.args.shelf.now) (state c.read_record_head.new.shelf) (state judged.new.shelf) c.read_record_head.new.file head c.in_ok-head.kind (blocks_file_read head) top.reads judged.ensures.reads
    top.answer (λ at bytes. ap (λ kind. records_read kind head at bytes) c.if-kind-eq-BLOCKS.true) c.args.samples.now c.args.out.now c.args.map_file.now judged.result judged.ensures.answer

pub returns-then-kind-eq-CUTS-clause-reads : goal.returns-then-kind-eq-CUTS-clause-reads
returns-then-kind-eq-CUTS-clause-reads g c =
    let state = g.S.Shelf.state in
    only_reads_then (state c.args.shelf.now) (state c.read_record_head.new.shelf) (state c.judge_cells-verdict.new.shelf) (c.in_ok-head.ensures {u = tt}).reads c.judge_cells-verdict.ensures.reads

pub returns-then-kind-eq-BLOCKS-clause-reads : goal.returns-then-kind-eq-BLOCKS-clause-reads
returns-then-kind-eq-BLOCKS-clause-reads g c =
    let state = g.S.Shelf.state in
    only_reads_then (state c.args.shelf.now) (state c.read_record_head.new.shelf) (state c.judge_cells-verdict-then-kind-eq-BLOCKS.new.shelf) (c.in_ok-head.ensures {u = tt}).reads c.judge_cells-verdict-then-kind-eq-BLOCKS.ensures.reads

pub returns-in_ok-verdict-clause-reads : goal.returns-in_ok-verdict-clause-reads
returns-in_ok-verdict-clause-reads g c =
    let state = g.S.Shelf.state in
    only_reads_then (state c.args.shelf.now) (state c.read_record_head.new.shelf) (state c.read_walk_file.new.shelf) (c.in_ok-head.ensures {u = tt}).reads (c.in_ok-record_file.ensures {u = tt}).reads

pub returns-in_err-verdict-clause-reads : goal.returns-in_err-verdict-clause-reads
returns-in_err-verdict-clause-reads g c =
    let state = g.S.Shelf.state in
    only_reads_then (state c.args.shelf.now) (state c.read_record_head.new.shelf) (state c.read_walk_file.new.shelf) (c.in_ok-head.ensures {u = tt}).reads (c.in_ok-record_file.ensures {u = tt}).reads
