use Rattle.std.proofs.Common.{arith, ℕ, length, ◌≡◌}
use Rattle.std.proofs.lemmas.Grind.{common_steps}
use Rattle.std.proofs.Common.{ℕ, List}
use Rattle.std.proofs.lemmas.Result.{err_from_is_err_and}
use Rattle.std.specs.Prelude.{Result, Ok, Err, Option, Some, None, IfSome}
use Rattle.shelf_traits.specs.declared.fault.ReadError.{ReadError}
use Rattle.shelf_traits.proofs.FileLaws.{only_reads_same, only_reads_then}
use Rattle.strip_boundary.specs.declared.boundary.BoundaryRecord.{BoundaryRecord}
use Rattle.block_check.specs.declared.block.BlockRecord.{BlockRecord}
use Rattle.source_map.proofs.FieldLaws.{chain, first_stops, lifted, made, then_reads, value_alone}
use Rattle.cert_file.specs.declared.block_fields.BlockStart.{BlockStart}
use Rattle.cert_file.specs.BlockReading.{block_start_read, left_read, top_read, IsBoundaryRead}
use Rattle.cert_file.proofs.PairCounts.{flat_cells, some_cells}
use Rattle.block_check.specs.Blocks.{HasColumns}
use Rattle.cert_file.proofs.blocks.read_block.Goals as goal

abbrev after_2 : ℕ → BlockStart → Option BoundaryRecord → Option BoundaryRecord → ℕ → List ℕ → Result (BlockRecord × ℕ) ReadError
after_2 before v0 v1 v2 = value_alone (record { placement = v0.placement; left = v1; top = v2 })

abbrev after_1 : ℕ → BlockStart → Option BoundaryRecord → ℕ → List ℕ → Result (BlockRecord × ℕ) ReadError
after_1 before v0 v1 = chain (top_read v0) (after_2 before v0 v1)

abbrev after_0 : ℕ → BlockStart → ℕ → List ℕ → Result (BlockRecord × ℕ) ReadError
after_0 before v0 = chain (left_read v0) (after_1 before v0)

-- what a side that was read has of the form
side_formed : (rows most : ℕ) (side : Option BoundaryRecord) → IfSome side (IsBoundaryRead rows most) → IfSome side (HasColumns rows most)
side_formed rows most None read = tt
side_formed rows most (Some boundary) read = read.columns

side_whole : (rows most : ℕ) (side : Option BoundaryRecord) → IfSome side (IsBoundaryRead rows most) → IfSome side (λ boundary. length boundary.path ≡ rows)
side_whole rows most None read = tt
side_whole rows most (Some boundary) read = read.path

pub returns-in_err-start-clause-answer : goal.returns-in_err-start-clause-answer
returns-in_err-start-clause-answer g c =
    let state = g.S.Shelf.state in
    let name = c.args.name.now in
    let e = c.in_err-start.field-0.0 in
    let p = err_from_is_err_and c.from_residual.result c.from_residual.ensures.1 in
    rw (p.1, p.2)
    (first_stops (Unit {0}) name c.args.file.now.at (block_start_read c.args.before) (after_0 c.args.before) (state c.args.shelf.now) (state c.read_block_start.new.shelf) c.read_block_start.new.file e (lifted (Unit {0}) name c.args.file.now.at (block_start_read c.args.before) (state c.args.shelf.now) (state c.read_block_start.new.shelf) c.read_block_start.new.file (Err e) c.in_err-start.ensures.answer))

pub returns-in_err-left-clause-answer : goal.returns-in_err-left-clause-answer
returns-in_err-left-clause-answer g c =
    let state = g.S.Shelf.state in
    let name = c.args.name.now in
    let e = c.in_err-left.field-0.0 in
    let p = err_from_is_err_and c.from_residual-in_err-left.result c.from_residual-in_err-left.ensures.1 in
    let v0 : BlockStart = c.in_ok-start.start in
    let ok0 = c.in_ok-start.ensures {u = tt} in
    rw (p.1, p.2)
    (then_reads (Unit {0}) name c.args.file.now.at (block_start_read c.args.before) (after_0 c.args.before) (state c.args.shelf.now) (state c.read_block_start.new.shelf) (state c.read_side.new.shelf) c.read_block_start.new.file c.read_side.new.file v0 (Err e)
    ok0.reads c.in_err-left.ensures.reads (lifted (Unit {0}) name c.args.file.now.at (block_start_read c.args.before) (state c.args.shelf.now) (state c.read_block_start.new.shelf) c.read_block_start.new.file (Ok v0) ok0.answer)
    (first_stops (Unit {0}) name c.read_block_start.new.file.at (left_read v0) (after_1 c.args.before v0) (state c.read_block_start.new.shelf) (state c.read_side.new.shelf) c.read_side.new.file e c.in_err-left.ensures.answer))

pub returns-in_err-top-clause-answer : goal.returns-in_err-top-clause-answer
returns-in_err-top-clause-answer g c =
    let state = g.S.Shelf.state in
    let name = c.args.name.now in
    let e = c.in_err-top.field-0.0 in
    let p = err_from_is_err_and c.from_residual-in_err-top.result c.from_residual-in_err-top.ensures.1 in
    let v0 : BlockStart = c.in_ok-start.start in
    let ok0 = c.in_ok-start.ensures {u = tt} in
    let v1 : Option BoundaryRecord = c.in_ok-left.left in
    let ok1 = c.in_ok-left.ensures {u = tt} in
    rw (p.1, p.2)
    (then_reads (Unit {0}) name c.args.file.now.at (block_start_read c.args.before) (after_0 c.args.before) (state c.args.shelf.now) (state c.read_block_start.new.shelf) (state c.read_side-2.new.shelf) c.read_block_start.new.file c.read_side-2.new.file v0 (Err e)
    ok0.reads (only_reads_then (state c.read_block_start.new.shelf) (state c.read_side.new.shelf) (state c.read_side-2.new.shelf) ok1.reads c.in_err-top.ensures.reads) (lifted (Unit {0}) name c.args.file.now.at (block_start_read c.args.before) (state c.args.shelf.now) (state c.read_block_start.new.shelf) c.read_block_start.new.file (Ok v0) ok0.answer)
    (then_reads (Unit {0}) name c.read_block_start.new.file.at (left_read v0) (after_1 c.args.before v0) (state c.read_block_start.new.shelf) (state c.read_side.new.shelf) (state c.read_side-2.new.shelf) c.read_side.new.file c.read_side-2.new.file v1 (Err e)
    ok1.reads c.in_err-top.ensures.reads ok1.answer
    (first_stops (Unit {0}) name c.read_side.new.file.at (top_read v0) (after_2 c.args.before v0 v1) (state c.read_side.new.shelf) (state c.read_side-2.new.shelf) c.read_side-2.new.file e c.in_err-top.ensures.answer)))

pub returns-clause-answer : goal.returns-clause-answer
returns-clause-answer g c =
    let state = g.S.Shelf.state in
    let name = c.args.name.now in
    let v0 : BlockStart = c.in_ok-start.start in
    let ok0 = c.in_ok-start.ensures {u = tt} in
    let v1 : Option BoundaryRecord = c.in_ok-left.left in
    let ok1 = c.in_ok-left.ensures {u = tt} in
    let v2 : Option BoundaryRecord = c.in_ok-top.top in
    let ok2 = c.in_ok-top.ensures {u = tt} in
    let value : BlockRecord = record { placement = v0.placement; left = v1; top = v2 } in
    (then_reads (Unit {0}) name c.args.file.now.at (block_start_read c.args.before) (after_0 c.args.before) (state c.args.shelf.now) (state c.read_block_start.new.shelf) (state c.read_side-2.new.shelf) c.read_block_start.new.file c.read_side-2.new.file v0 (Ok value)
    ok0.reads (only_reads_then (state c.read_block_start.new.shelf) (state c.read_side.new.shelf) (state c.read_side-2.new.shelf) ok1.reads ok2.reads) (lifted (Unit {0}) name c.args.file.now.at (block_start_read c.args.before) (state c.args.shelf.now) (state c.read_block_start.new.shelf) c.read_block_start.new.file (Ok v0) ok0.answer)
    (then_reads (Unit {0}) name c.read_block_start.new.file.at (left_read v0) (after_1 c.args.before v0) (state c.read_block_start.new.shelf) (state c.read_side.new.shelf) (state c.read_side-2.new.shelf) c.read_side.new.file c.read_side-2.new.file v1 (Ok value)
    ok1.reads ok2.reads ok1.answer
    (then_reads (Unit {0}) name c.read_side.new.file.at (top_read v0) (after_2 c.args.before v0 v1) (state c.read_side.new.shelf) (state c.read_side-2.new.shelf) (state c.read_side-2.new.shelf) c.read_side-2.new.file c.read_side-2.new.file v2 (Ok value)
    ok2.reads (only_reads_same (state c.read_side-2.new.shelf)) ok2.answer
    (made (Unit {0}) name (state c.read_side-2.new.shelf) (state c.read_side-2.new.shelf) c.read_side-2.new.file value ok2.answer.follows))))

pub returns-clause-place : goal.returns-clause-place
returns-clause-place g c =
    let size = c.in_ok-start.start.placement.rect.size in
    let start = (c.in_ok-start.ensures {u = tt}).within in
    omega (arith, (c.in_ok-start.ensures {u = tt}).place, (c.in_ok-left.ensures {u = tt}).place, (c.in_ok-top.ensures {u = tt}).place, flat_cells size start.frame, some_cells size start.box.axes)

pub returns-in_err-top-clause-reads : goal.returns-in_err-top-clause-reads
returns-in_err-top-clause-reads g c =
    let state = g.S.Shelf.state in
    only_reads_then (state c.args.shelf.now) (state c.read_block_start.new.shelf) (state c.read_side-2.new.shelf) (c.in_ok-start.ensures {u = tt}).reads (only_reads_then (state c.read_block_start.new.shelf) (state c.read_side.new.shelf) (state c.read_side-2.new.shelf) (c.in_ok-left.ensures {u = tt}).reads c.in_err-top.ensures.reads)

pub read_side-requires-2-clause-few : goal.read_side-requires-2-clause-few
read_side-requires-2-clause-few g c = grind (arith, common_steps)

pub returns-clause-form : goal.returns-clause-form
returns-clause-form g c =
    let size = c.in_ok-start.start.placement.rect.size in
    let start = (c.in_ok-start.ensures {u = tt}).within in
    let axes = start.box.axes in
    let left = (c.in_ok-left.ensures {u = tt}).form in
    let top = (c.in_ok-top.ensures {u = tt}).form in
    record {
      formed = record {
        w = axes.w.0;
        h = axes.h.0;
        first_frame = start.corner.frame;
        one_frame = start.frame;
        left = side_formed size.h size.w c.in_ok-left.left left;
        top = side_formed size.w size.h c.in_ok-top.top top;
      };
      corner = start.corner.short;
      w = axes.w.1;
      h = axes.h.1;
      from = start.from.short;
      from_frame = start.from.frame;
      left = side_whole size.h size.w c.in_ok-left.left left;
      top = side_whole size.w size.h c.in_ok-top.top top;
    }

pub returns-clause-reads : goal.returns-clause-reads
returns-clause-reads g c =
    let state = g.S.Shelf.state in
    only_reads_then (state c.args.shelf.now) (state c.read_block_start.new.shelf) (state c.read_side-2.new.shelf) (c.in_ok-start.ensures {u = tt}).reads (only_reads_then (state c.read_block_start.new.shelf) (state c.read_side.new.shelf) (state c.read_side-2.new.shelf) (c.in_ok-left.ensures {u = tt}).reads (c.in_ok-top.ensures {u = tt}).reads)

pub read_side-requires-clause-few : goal.read_side-requires-clause-few
read_side-requires-clause-few g c =
    let start = (c.in_ok-start.ensures {u = tt}).within in
    omega (arith, flat_cells c.in_ok-start.start.placement.rect.size start.frame, start.box.cells)

pub read_side-requires-2-clause-room : goal.read_side-requires-2-clause-room
read_side-requires-2-clause-room g c = grind (arith, common_steps)
