use Rattle.std.proofs.Common.{arith, ◌≡◌, ◌≤◌, ◌<◌, ◌^◌, ◌*◌, ◌∙◌, length, ap, sym, subst}
use Rattle.std.proofs.lemmas.Grind.{common_steps}
use Rattle.std.proofs.Common.{ℕ, List, ◌*◌, subst}
use Rattle.std.proofs.lemmas.Result.{err_from_is_err_and}
use Rattle.std.specs.Int.{w16, w64}
use Rattle.std.specs.Prelude.{All, Option, Some, unwrap_or, Ok, Err}
use Rattle.shelf_traits.proofs.FileLaws.{only_reads_same, only_reads_then}
use Rattle.cells.specs.SizeLists.{size_of_part}
use Rattle.cells.specs.declared.place.Size.{Size}
use Rattle.loop_walk.specs.Tables.{table_count, IsLength}
use Rattle.source_map.specs.declared.head.Head.{Head}
use Rattle.source_map.specs.MapFiles.{no_size}
use Rattle.source_map.specs.Readings.{ReadsFrom, list_read, number_read}
use Rattle.source_map.proofs.FieldLaws.{lifted}
use Rattle.cert_file.specs.declared.file.RecordFile.TheVariants.{Walk}
use Rattle.cert_file.specs.declared.walk_fields.WalkStart.{WalkStart}
use Rattle.cert_file.specs.RecordFiles.{ReadsToEnd}
use Rattle.cert_file.specs.WalkForms.{frames_of}
use Rattle.cert_file.specs.Rules.{any_rule}
use Rattle.cert_file.specs.WalkReading.{few_frames_read, frames_rule, walk_start_read}
use Rattle.cert_file.proofs.NumberLists.{list_lacks, vec_64}
use Rattle.cert_file.proofs.Readings.{by_rule}
use Rattle.cert_file.proofs.RecordReading.{chain_to_end, ends, ends_not, then_to_end, to_end_stops, value_at_end}
use Rattle.limits.specs.declared.bounds.TheConstants.{MOST_LOOP_FRAMES}
use Rattle.cert_file.proofs.walks.read_walk_file.Goals as goal

-- the frames of the one sample
frames_is : (head : Head) (size : Size) → Some size ≡ size_of_part head.samples 1 → size.f ≡ frames_of head
frames_is head size is = ap (λ (o : Option Size). (unwrap_or o no_size).f) is

pub returns-in_err-lawful_frames-clause-answer : goal.returns-in_err-lawful_frames-clause-answer
returns-in_err-lawful_frames-clause-answer g c =
    let state = g.S.Shelf.state in
    let name = c.args.name.now in
    let n = c.at-n.result.f in
    let e = c.in_err-lawful_frames.field-0.0 in
    let p = err_from_is_err_and c.from_residual.result c.from_residual.ensures.1 in
    rw (p.1, p.2)
    (subst (λ m. ReadsToEnd (Unit {0}) name c.args.file.now.at (state c.args.shelf.now) (state c.args.shelf.now) (chain_to_end (few_frames_read m) (λ (v0 : Unit {0}). chain_to_end walk_start_read (λ (v1 : WalkStart). chain_to_end (list_read (number_read w16 any_rule) v1.length) (λ (v2 : List ℕ). chain_to_end (list_read (number_read w64 any_rule) (table_count v1.length * (m * m))) (λ (v3 : List ℕ). value_at_end (Walk c.args.head v1.taps v1.gap v2 v3)))))) (Err e)) (frames_is c.args.head c.at-n.result c.at-n.ensures.size)
    (to_end_stops (Unit {0}) name c.args.file.now.at (few_frames_read n) (λ (v0 : Unit {0}). chain_to_end (walk_start_read) (λ (v1 : WalkStart). chain_to_end (list_read (number_read w16 any_rule) v1.length) (λ (v2 : List ℕ). chain_to_end (list_read (number_read w64 any_rule) (table_count v1.length * (n * n))) (λ (v3 : List ℕ). value_at_end (Walk c.args.head v1.taps v1.gap v2 v3))))) (state c.args.shelf.now) (state c.args.shelf.now) c.args.file.now e (by_rule (Unit {0}) name (state c.args.shelf.now) (state c.args.shelf.now) c.args.file.now (frames_rule n) (Err e) c.in_err-lawful_frames.ensures.frames c.in_err-lawful_frames.ensures.refusal c.requires.follows)))

pub returns-in_err-start-clause-answer : goal.returns-in_err-start-clause-answer
returns-in_err-start-clause-answer g c =
    let state = g.S.Shelf.state in
    let name = c.args.name.now in
    let n = c.at-n.result.f in
    let e = c.in_err-start.field-0.0 in
    let p = err_from_is_err_and c.from_residual-in_err-start.result c.from_residual-in_err-start.ensures.1 in
    let v0 : Unit {0} = tt in
    let ok0 = c.in_ok-lawful_frames.ensures {u = tt} in
    let first = by_rule (Unit {0}) name (state c.args.shelf.now) (state c.args.shelf.now) c.args.file.now (frames_rule n) (Ok tt) ok0.frames tt c.requires.follows in
    rw (p.1, p.2)
    (subst (λ m. ReadsToEnd (Unit {0}) name c.args.file.now.at (state c.args.shelf.now) (state c.read_walk_start.new.shelf) (chain_to_end (few_frames_read m) (λ (v0 : Unit {0}). chain_to_end walk_start_read (λ (v1 : WalkStart). chain_to_end (list_read (number_read w16 any_rule) v1.length) (λ (v2 : List ℕ). chain_to_end (list_read (number_read w64 any_rule) (table_count v1.length * (m * m))) (λ (v3 : List ℕ). value_at_end (Walk c.args.head v1.taps v1.gap v2 v3)))))) (Err e)) (frames_is c.args.head c.at-n.result c.at-n.ensures.size)
    (then_to_end (Unit {0}) name c.args.file.now.at (few_frames_read n) (λ (v0 : Unit {0}). chain_to_end (walk_start_read) (λ (v1 : WalkStart). chain_to_end (list_read (number_read w16 any_rule) v1.length) (λ (v2 : List ℕ). chain_to_end (list_read (number_read w64 any_rule) (table_count v1.length * (n * n))) (λ (v3 : List ℕ). value_at_end (Walk c.args.head v1.taps v1.gap v2 v3))))) (state c.args.shelf.now) (state c.args.shelf.now) (state c.read_walk_start.new.shelf) c.args.file.now v0 (Err e)
    (only_reads_same (state c.args.shelf.now)) c.in_err-start.ensures.reads first
    (to_end_stops (Unit {0}) name c.args.file.now.at (walk_start_read) (λ (v1 : WalkStart). chain_to_end (list_read (number_read w16 any_rule) v1.length) (λ (v2 : List ℕ). chain_to_end (list_read (number_read w64 any_rule) (table_count v1.length * (n * n))) (λ (v3 : List ℕ). value_at_end (Walk c.args.head v1.taps v1.gap v2 v3)))) (state c.args.shelf.now) (state c.read_walk_start.new.shelf) c.read_walk_start.new.file e (lifted (Unit {0}) name c.args.file.now.at walk_start_read (state c.args.shelf.now) (state c.read_walk_start.new.shelf) c.read_walk_start.new.file (Err e) c.in_err-start.ensures.answer))))

pub returns-in_err-walk-clause-answer : goal.returns-in_err-walk-clause-answer
returns-in_err-walk-clause-answer g c =
    let state = g.S.Shelf.state in
    let name = c.args.name.now in
    let n = c.at-n.result.f in
    let e = c.in_err-walk.field-0.0 in
    let p = err_from_is_err_and c.from_residual-in_err-walk.result c.from_residual-in_err-walk.ensures.1 in
    let v0 : Unit {0} = tt in
    let ok0 = c.in_ok-lawful_frames.ensures {u = tt} in
    let first = by_rule (Unit {0}) name (state c.args.shelf.now) (state c.args.shelf.now) c.args.file.now (frames_rule n) (Ok tt) ok0.frames tt c.requires.follows in
    let v1 : WalkStart = c.in_ok-start.start in
    let ok1 = c.in_ok-start.ensures {u = tt} in
    rw (p.1, p.2)
    (subst (λ m. ReadsToEnd (Unit {0}) name c.args.file.now.at (state c.args.shelf.now) (state c.read_list_16.new.shelf) (chain_to_end (few_frames_read m) (λ (v0 : Unit {0}). chain_to_end walk_start_read (λ (v1 : WalkStart). chain_to_end (list_read (number_read w16 any_rule) v1.length) (λ (v2 : List ℕ). chain_to_end (list_read (number_read w64 any_rule) (table_count v1.length * (m * m))) (λ (v3 : List ℕ). value_at_end (Walk c.args.head v1.taps v1.gap v2 v3)))))) (Err e)) (frames_is c.args.head c.at-n.result c.at-n.ensures.size)
    (then_to_end (Unit {0}) name c.args.file.now.at (few_frames_read n) (λ (v0 : Unit {0}). chain_to_end (walk_start_read) (λ (v1 : WalkStart). chain_to_end (list_read (number_read w16 any_rule) v1.length) (λ (v2 : List ℕ). chain_to_end (list_read (number_read w64 any_rule) (table_count v1.length * (n * n))) (λ (v3 : List ℕ). value_at_end (Walk c.args.head v1.taps v1.gap v2 v3))))) (state c.args.shelf.now) (state c.args.shelf.now) (state c.read_list_16.new.shelf) c.args.file.now v0 (Err e)
    (only_reads_same (state c.args.shelf.now)) (only_reads_then (state c.args.shelf.now) (state c.read_walk_start.new.shelf) (state c.read_list_16.new.shelf) ok1.reads c.in_err-walk.ensures.reads) first
    (then_to_end (Unit {0}) name c.args.file.now.at (walk_start_read) (λ (v1 : WalkStart). chain_to_end (list_read (number_read w16 any_rule) v1.length) (λ (v2 : List ℕ). chain_to_end (list_read (number_read w64 any_rule) (table_count v1.length * (n * n))) (λ (v3 : List ℕ). value_at_end (Walk c.args.head v1.taps v1.gap v2 v3)))) (state c.args.shelf.now) (state c.read_walk_start.new.shelf) (state c.read_list_16.new.shelf) c.read_walk_start.new.file v1 (Err e)
    ok1.reads c.in_err-walk.ensures.reads ok1.answer
    (to_end_stops (Unit {0}) name c.read_walk_start.new.file.at (list_read (number_read w16 any_rule) v1.length) (λ (v2 : List ℕ). chain_to_end (list_read (number_read w64 any_rule) (table_count v1.length * (n * n))) (λ (v3 : List ℕ). value_at_end (Walk c.args.head v1.taps v1.gap v2 v3))) (state c.read_walk_start.new.shelf) (state c.read_list_16.new.shelf) c.read_list_16.new.file e c.in_err-walk.ensures.answer))))

pub returns-in_err-tables-clause-answer : goal.returns-in_err-tables-clause-answer
returns-in_err-tables-clause-answer g c =
    let state = g.S.Shelf.state in
    let name = c.args.name.now in
    let n = c.at-n.result.f in
    let e = c.in_err-tables.field-0.0 in
    let p = err_from_is_err_and c.from_residual-in_err-tables.result c.from_residual-in_err-tables.ensures.1 in
    let v0 : Unit {0} = tt in
    let ok0 = c.in_ok-lawful_frames.ensures {u = tt} in
    let first = by_rule (Unit {0}) name (state c.args.shelf.now) (state c.args.shelf.now) c.args.file.now (frames_rule n) (Ok tt) ok0.frames tt c.requires.follows in
    let v1 : WalkStart = c.in_ok-start.start in
    let ok1 = c.in_ok-start.ensures {u = tt} in
    let v2 : List ℕ = c.in_ok-walk.walk in
    let ok2 = c.in_ok-walk.ensures {u = tt} in
    rw (p.1, p.2)
    (subst (λ m. ReadsToEnd (Unit {0}) name c.args.file.now.at (state c.args.shelf.now) (state c.list.new.shelf) (chain_to_end (few_frames_read m) (λ (v0 : Unit {0}). chain_to_end walk_start_read (λ (v1 : WalkStart). chain_to_end (list_read (number_read w16 any_rule) v1.length) (λ (v2 : List ℕ). chain_to_end (list_read (number_read w64 any_rule) (table_count v1.length * (m * m))) (λ (v3 : List ℕ). value_at_end (Walk c.args.head v1.taps v1.gap v2 v3)))))) (Err e)) (frames_is c.args.head c.at-n.result c.at-n.ensures.size)
    (then_to_end (Unit {0}) name c.args.file.now.at (few_frames_read n) (λ (v0 : Unit {0}). chain_to_end (walk_start_read) (λ (v1 : WalkStart). chain_to_end (list_read (number_read w16 any_rule) v1.length) (λ (v2 : List ℕ). chain_to_end (list_read (number_read w64 any_rule) (table_count v1.length * (n * n))) (λ (v3 : List ℕ). value_at_end (Walk c.args.head v1.taps v1.gap v2 v3))))) (state c.args.shelf.now) (state c.args.shelf.now) (state c.list.new.shelf) c.args.file.now v0 (Err e)
    (only_reads_same (state c.args.shelf.now)) (only_reads_then (state c.args.shelf.now) (state c.read_walk_start.new.shelf) (state c.list.new.shelf) ok1.reads (only_reads_then (state c.read_walk_start.new.shelf) (state c.read_list_16.new.shelf) (state c.list.new.shelf) ok2.reads c.in_err-tables.ensures.reads)) first
    (then_to_end (Unit {0}) name c.args.file.now.at (walk_start_read) (λ (v1 : WalkStart). chain_to_end (list_read (number_read w16 any_rule) v1.length) (λ (v2 : List ℕ). chain_to_end (list_read (number_read w64 any_rule) (table_count v1.length * (n * n))) (λ (v3 : List ℕ). value_at_end (Walk c.args.head v1.taps v1.gap v2 v3)))) (state c.args.shelf.now) (state c.read_walk_start.new.shelf) (state c.list.new.shelf) c.read_walk_start.new.file v1 (Err e)
    ok1.reads (only_reads_then (state c.read_walk_start.new.shelf) (state c.read_list_16.new.shelf) (state c.list.new.shelf) ok2.reads c.in_err-tables.ensures.reads) ok1.answer
    (then_to_end (Unit {0}) name c.read_walk_start.new.file.at (list_read (number_read w16 any_rule) v1.length) (λ (v2 : List ℕ). chain_to_end (list_read (number_read w64 any_rule) (table_count v1.length * (n * n))) (λ (v3 : List ℕ). value_at_end (Walk c.args.head v1.taps v1.gap v2 v3))) (state c.read_walk_start.new.shelf) (state c.read_list_16.new.shelf) (state c.list.new.shelf) c.read_list_16.new.file v2 (Err e)
    ok2.reads c.in_err-tables.ensures.reads ok2.answer
    (to_end_stops (Unit {0}) name c.read_list_16.new.file.at (list_read (number_read w64 any_rule) (table_count v1.length * (n * n))) (λ (v3 : List ℕ). value_at_end (Walk c.args.head v1.taps v1.gap v2 v3)) (state c.read_list_16.new.shelf) (state c.list.new.shelf) c.list.new.self e (subst (λ m. ReadsFrom (Unit {0}) name c.read_list_16.new.file.at (state c.read_list_16.new.shelf) (state c.list.new.shelf) c.list.new.self (list_read (number_read w64 any_rule) m) (Err e)) c.entry_count.ensures.count (list_lacks name w64 c.entry_count.result (state c.read_list_16.new.shelf) (state c.list.new.shelf) c.read_list_16.new.file c.list.new.self e ok2.answer.follows c.in_err-tables.ensures.reads c.in_err-tables.ensures.stops)))))))

pub returns-in_err-end-clause-answer : goal.returns-in_err-end-clause-answer
returns-in_err-end-clause-answer g c =
    let state = g.S.Shelf.state in
    let name = c.args.name.now in
    let n = c.at-n.result.f in
    let e = c.in_err-end.field-0.0 in
    let p = err_from_is_err_and c.from_residual-in_err-end.result c.from_residual-in_err-end.ensures.1 in
    let v0 : Unit {0} = tt in
    let ok0 = c.in_ok-lawful_frames.ensures {u = tt} in
    let first = by_rule (Unit {0}) name (state c.args.shelf.now) (state c.args.shelf.now) c.args.file.now (frames_rule n) (Ok tt) ok0.frames tt c.requires.follows in
    let v1 : WalkStart = c.in_ok-start.start in
    let ok1 = c.in_ok-start.ensures {u = tt} in
    let v2 : List ℕ = c.in_ok-walk.walk in
    let ok2 = c.in_ok-walk.ensures {u = tt} in
    let v3 : List ℕ = c.from_vec-tables.result in
    let ok3 = c.in_ok-tables.ensures {u = tt} in
    let tables = c.in_ok-tables.tables.items in
    let count : length tables ≡ c.entry_count.result = omega (arith, ok3.count) in
    let found = vec_64 name c.entry_count.result c.read_list_16.new.file.at tables v3 (state c.list.new.shelf) c.list.new.self c.from_vec-tables.ensures count (subst (All (λ n. n < 2 ^ 64)) c.deref.ensures.value c.fit_64.ensures) ok3.took in
    rw (p.1, p.2)
    (subst (λ m. ReadsToEnd (Unit {0}) name c.args.file.now.at (state c.args.shelf.now) (state c.end.new.shelf) (chain_to_end (few_frames_read m) (λ (v0 : Unit {0}). chain_to_end walk_start_read (λ (v1 : WalkStart). chain_to_end (list_read (number_read w16 any_rule) v1.length) (λ (v2 : List ℕ). chain_to_end (list_read (number_read w64 any_rule) (table_count v1.length * (m * m))) (λ (v3 : List ℕ). value_at_end (Walk c.args.head v1.taps v1.gap v2 v3)))))) (Err e)) (frames_is c.args.head c.at-n.result c.at-n.ensures.size)
    (then_to_end (Unit {0}) name c.args.file.now.at (few_frames_read n) (λ (v0 : Unit {0}). chain_to_end (walk_start_read) (λ (v1 : WalkStart). chain_to_end (list_read (number_read w16 any_rule) v1.length) (λ (v2 : List ℕ). chain_to_end (list_read (number_read w64 any_rule) (table_count v1.length * (n * n))) (λ (v3 : List ℕ). value_at_end (Walk c.args.head v1.taps v1.gap v2 v3))))) (state c.args.shelf.now) (state c.args.shelf.now) (state c.end.new.shelf) c.args.file.now v0 (Err e)
    (only_reads_same (state c.args.shelf.now)) (only_reads_then (state c.args.shelf.now) (state c.read_walk_start.new.shelf) (state c.end.new.shelf) ok1.reads (only_reads_then (state c.read_walk_start.new.shelf) (state c.read_list_16.new.shelf) (state c.end.new.shelf) ok2.reads (only_reads_then (state c.read_list_16.new.shelf) (state c.list.new.shelf) (state c.end.new.shelf) ok3.reads c.in_err-end.ensures.reads))) first
    (then_to_end (Unit {0}) name c.args.file.now.at (walk_start_read) (λ (v1 : WalkStart). chain_to_end (list_read (number_read w16 any_rule) v1.length) (λ (v2 : List ℕ). chain_to_end (list_read (number_read w64 any_rule) (table_count v1.length * (n * n))) (λ (v3 : List ℕ). value_at_end (Walk c.args.head v1.taps v1.gap v2 v3)))) (state c.args.shelf.now) (state c.read_walk_start.new.shelf) (state c.end.new.shelf) c.read_walk_start.new.file v1 (Err e)
    ok1.reads (only_reads_then (state c.read_walk_start.new.shelf) (state c.read_list_16.new.shelf) (state c.end.new.shelf) ok2.reads (only_reads_then (state c.read_list_16.new.shelf) (state c.list.new.shelf) (state c.end.new.shelf) ok3.reads c.in_err-end.ensures.reads)) ok1.answer
    (then_to_end (Unit {0}) name c.read_walk_start.new.file.at (list_read (number_read w16 any_rule) v1.length) (λ (v2 : List ℕ). chain_to_end (list_read (number_read w64 any_rule) (table_count v1.length * (n * n))) (λ (v3 : List ℕ). value_at_end (Walk c.args.head v1.taps v1.gap v2 v3))) (state c.read_walk_start.new.shelf) (state c.read_list_16.new.shelf) (state c.end.new.shelf) c.read_list_16.new.file v2 (Err e)
    ok2.reads (only_reads_then (state c.read_list_16.new.shelf) (state c.list.new.shelf) (state c.end.new.shelf) ok3.reads c.in_err-end.ensures.reads) ok2.answer
    (then_to_end (Unit {0}) name c.read_list_16.new.file.at (list_read (number_read w64 any_rule) (table_count v1.length * (n * n))) (λ (v3 : List ℕ). value_at_end (Walk c.args.head v1.taps v1.gap v2 v3)) (state c.read_list_16.new.shelf) (state c.list.new.shelf) (state c.end.new.shelf) c.list.new.self v3 (Err e)
    ok3.reads c.in_err-end.ensures.reads (subst (λ m. ReadsFrom (Unit {0}) name c.read_list_16.new.file.at (state c.read_list_16.new.shelf) (state c.list.new.shelf) c.list.new.self (list_read (number_read w64 any_rule) m) (Ok v3)) c.entry_count.ensures.count found)
    (ends_not (Unit {0}) name c.list.new.self.at (state c.list.new.shelf) (state c.end.new.shelf) (Walk c.args.head v1.taps v1.gap v2 v3) e c.in_err-end.ensures.stops))))))

pub returns-clause-answer : goal.returns-clause-answer
returns-clause-answer g c =
    let state = g.S.Shelf.state in
    let name = c.args.name.now in
    let n = c.at-n.result.f in
    let v0 : Unit {0} = tt in
    let ok0 = c.in_ok-lawful_frames.ensures {u = tt} in
    let first = by_rule (Unit {0}) name (state c.args.shelf.now) (state c.args.shelf.now) c.args.file.now (frames_rule n) (Ok tt) ok0.frames tt c.requires.follows in
    let v1 : WalkStart = c.in_ok-start.start in
    let ok1 = c.in_ok-start.ensures {u = tt} in
    let v2 : List ℕ = c.in_ok-walk.walk in
    let ok2 = c.in_ok-walk.ensures {u = tt} in
    let v3 : List ℕ = c.from_vec-tables.result in
    let ok3 = c.in_ok-tables.ensures {u = tt} in
    let tables = c.in_ok-tables.tables.items in
    let count : length tables ≡ c.entry_count.result = omega (arith, ok3.count) in
    let found = vec_64 name c.entry_count.result c.read_list_16.new.file.at tables v3 (state c.list.new.shelf) c.list.new.self c.from_vec-tables.ensures count (subst (All (λ n. n < 2 ^ 64)) c.deref.ensures.value c.fit_64.ensures) ok3.took in
    let ok4 = c.in_ok-end.ensures {u = tt} in
    let value = Walk c.args.head v1.taps v1.gap v2 v3 in
    subst (λ m. ReadsToEnd (Unit {0}) name c.args.file.now.at (state c.args.shelf.now) (state c.end.new.shelf) (chain_to_end (few_frames_read m) (λ (v0 : Unit {0}). chain_to_end walk_start_read (λ (v1 : WalkStart). chain_to_end (list_read (number_read w16 any_rule) v1.length) (λ (v2 : List ℕ). chain_to_end (list_read (number_read w64 any_rule) (table_count v1.length * (m * m))) (λ (v3 : List ℕ). value_at_end (Walk c.args.head v1.taps v1.gap v2 v3)))))) (Ok value)) (frames_is c.args.head c.at-n.result c.at-n.ensures.size)
    (then_to_end (Unit {0}) name c.args.file.now.at (few_frames_read n) (λ (v0 : Unit {0}). chain_to_end (walk_start_read) (λ (v1 : WalkStart). chain_to_end (list_read (number_read w16 any_rule) v1.length) (λ (v2 : List ℕ). chain_to_end (list_read (number_read w64 any_rule) (table_count v1.length * (n * n))) (λ (v3 : List ℕ). value_at_end (Walk c.args.head v1.taps v1.gap v2 v3))))) (state c.args.shelf.now) (state c.args.shelf.now) (state c.end.new.shelf) c.args.file.now v0 (Ok value)
    (only_reads_same (state c.args.shelf.now)) (only_reads_then (state c.args.shelf.now) (state c.read_walk_start.new.shelf) (state c.end.new.shelf) ok1.reads (only_reads_then (state c.read_walk_start.new.shelf) (state c.read_list_16.new.shelf) (state c.end.new.shelf) ok2.reads (only_reads_then (state c.read_list_16.new.shelf) (state c.list.new.shelf) (state c.end.new.shelf) ok3.reads ok4.reads))) first
    (then_to_end (Unit {0}) name c.args.file.now.at (walk_start_read) (λ (v1 : WalkStart). chain_to_end (list_read (number_read w16 any_rule) v1.length) (λ (v2 : List ℕ). chain_to_end (list_read (number_read w64 any_rule) (table_count v1.length * (n * n))) (λ (v3 : List ℕ). value_at_end (Walk c.args.head v1.taps v1.gap v2 v3)))) (state c.args.shelf.now) (state c.read_walk_start.new.shelf) (state c.end.new.shelf) c.read_walk_start.new.file v1 (Ok value)
    ok1.reads (only_reads_then (state c.read_walk_start.new.shelf) (state c.read_list_16.new.shelf) (state c.end.new.shelf) ok2.reads (only_reads_then (state c.read_list_16.new.shelf) (state c.list.new.shelf) (state c.end.new.shelf) ok3.reads ok4.reads)) ok1.answer
    (then_to_end (Unit {0}) name c.read_walk_start.new.file.at (list_read (number_read w16 any_rule) v1.length) (λ (v2 : List ℕ). chain_to_end (list_read (number_read w64 any_rule) (table_count v1.length * (n * n))) (λ (v3 : List ℕ). value_at_end (Walk c.args.head v1.taps v1.gap v2 v3))) (state c.read_walk_start.new.shelf) (state c.read_list_16.new.shelf) (state c.end.new.shelf) c.read_list_16.new.file v2 (Ok value)
    ok2.reads (only_reads_then (state c.read_list_16.new.shelf) (state c.list.new.shelf) (state c.end.new.shelf) ok3.reads ok4.reads) ok2.answer
    (then_to_end (Unit {0}) name c.read_list_16.new.file.at (list_read (number_read w64 any_rule) (table_count v1.length * (n * n))) (λ (v3 : List ℕ). value_at_end (Walk c.args.head v1.taps v1.gap v2 v3)) (state c.read_list_16.new.shelf) (state c.list.new.shelf) (state c.end.new.shelf) c.list.new.self v3 (Ok value)
    ok3.reads ok4.reads (subst (λ m. ReadsFrom (Unit {0}) name c.read_list_16.new.file.at (state c.read_list_16.new.shelf) (state c.list.new.shelf) c.list.new.self (list_read (number_read w64 any_rule) m) (Ok v3)) c.entry_count.ensures.count found)
    (ends (Unit {0}) name c.list.new.self.at (state c.list.new.shelf) (state c.end.new.shelf) value ok4.stops)))))

pub returns-clause-form : goal.returns-clause-form
returns-clause-form g c =
    let start = (c.in_ok-start.ensures {u = tt}).within in
    let count = (c.in_ok-walk.ensures {u = tt}).count in
    let whole : length c.in_ok-tables.tables.items ≡ c.entry_count.result = omega (arith, (c.in_ok-tables.ensures {u = tt}).count) in
    record {
      head_is = c.requires.head.0;
      version = c.requires.head.1;
      frames = subst (λ n. n ≤ MOST_LOOP_FRAMES) (frames_is c.args.head c.at-n.result c.at-n.ensures.size) (c.in_ok-lawful_frames.ensures {u = tt}).few;
      len = subst IsLength (sym count) start.len;
      gap_from = start.gap.0;
      gap_to = start.gap.1;
      entries = ap length c.from_vec-tables.ensures ∙ whole ∙ c.entry_count.ensures.count ∙ (λ k. table_count (sym count k) * (frames_is c.args.head c.at-n.result c.at-n.ensures.size k * frames_is c.args.head c.at-n.result c.at-n.ensures.size k));
    }

pub returns-clause-reads : goal.returns-clause-reads
returns-clause-reads g c =
    let state = g.S.Shelf.state in
    only_reads_then (state c.args.shelf.now) (state c.read_walk_start.new.shelf) (state c.end.new.shelf) (c.in_ok-start.ensures {u = tt}).reads (only_reads_then (state c.read_walk_start.new.shelf) (state c.read_list_16.new.shelf) (state c.end.new.shelf) (c.in_ok-walk.ensures {u = tt}).reads (only_reads_then (state c.read_list_16.new.shelf) (state c.list.new.shelf) (state c.end.new.shelf) (c.in_ok-tables.ensures {u = tt}).reads (c.in_ok-end.ensures {u = tt}).reads))

pub returns-in_err-end-clause-reads : goal.returns-in_err-end-clause-reads
returns-in_err-end-clause-reads g c =
    let state = g.S.Shelf.state in
    only_reads_then (state c.args.shelf.now) (state c.read_walk_start.new.shelf) (state c.end.new.shelf) (c.in_ok-start.ensures {u = tt}).reads (only_reads_then (state c.read_walk_start.new.shelf) (state c.read_list_16.new.shelf) (state c.end.new.shelf) (c.in_ok-walk.ensures {u = tt}).reads (only_reads_then (state c.read_list_16.new.shelf) (state c.list.new.shelf) (state c.end.new.shelf) (c.in_ok-tables.ensures {u = tt}).reads c.in_err-end.ensures.reads))

pub returns-in_err-tables-clause-reads : goal.returns-in_err-tables-clause-reads
returns-in_err-tables-clause-reads g c =
    let state = g.S.Shelf.state in
    only_reads_then (state c.args.shelf.now) (state c.read_walk_start.new.shelf) (state c.list.new.shelf) (c.in_ok-start.ensures {u = tt}).reads (only_reads_then (state c.read_walk_start.new.shelf) (state c.read_list_16.new.shelf) (state c.list.new.shelf) (c.in_ok-walk.ensures {u = tt}).reads c.in_err-tables.ensures.reads)

pub returns-in_err-walk-clause-reads : goal.returns-in_err-walk-clause-reads
returns-in_err-walk-clause-reads g c =
    let state = g.S.Shelf.state in
    only_reads_then (state c.args.shelf.now) (state c.read_walk_start.new.shelf) (state c.read_list_16.new.shelf) (c.in_ok-start.ensures {u = tt}).reads c.in_err-walk.ensures.reads

pub end-requires : goal.end-requires
end-requires g c = grind (arith, common_steps)
