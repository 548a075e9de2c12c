use Rattle.std.proofs.lemmas.Grind.{common_steps}
use Rattle.std.proofs.Common.{◌≡◌, ◌≤◌, ◌<◌, ◌-◌, ◌++◌, ◌∷◌, [], ◌+◌, ◌∙◌, ◌^◌, ℕ, List, length, ap, sym, subst, arith}
use Rattle.std.specs.Int.{w32}
use Rattle.std.specs.Prelude.{All, Result, Ok, Err, vec_capacity, vec_len}
use Rattle.std.proofs.lemmas.List.Elements.{All-push}
use Rattle.std.proofs.lemmas.Result.{err_from_is_err_and}
use Rattle.cells.specs.Places.{cell_count}
use Rattle.limits.specs.declared.bounds.TheConstants.{MOST_BOX_CELLS}
use Rattle.shelf_traits.specs.declared.fault.ReadError.{ReadError}
use Rattle.shelf_traits.proofs.FileLaws.{only_reads_then}
use Rattle.cut_check.specs.declared.record.CutRecord.{CutRecord}
use Rattle.cut_check.specs.Records.{box_cells}
use Rattle.file_bytes.proofs.ReadingLaws.{room_made}
use Rattle.source_map.specs.Readings.{Found, ReadsFrom, number_read}
use Rattle.source_map.proofs.FieldLaws.{lifted}
use Rattle.source_map.specs.declared.head.Head.{Head}
use Rattle.cert_file.specs.declared.file.RecordFile.{RecordFile}
use Rattle.cert_file.specs.declared.file.RecordFile.TheVariants.{Cuts}
use Rattle.cert_file.specs.CutForms.{IsCutInForm}
use Rattle.cert_file.specs.CutReading.{cut_read, cuts_read}
use Rattle.cert_file.specs.RecordFiles.{AreCutsInLimits, ReadsToEnd, cuts_file_read}
use Rattle.cert_file.specs.Rules.{any_rule}
use Rattle.cert_file.proofs.Bits.{box_cells-append}
use Rattle.cert_file.proofs.Readings.{each_more, each_stops, place_more}
use Rattle.cert_file.proofs.RecordReading.{chain_to_end, ends, ends_not, then_to_end, to_end_stops, value_at_end}
use Rattle.cert_file.proofs.cut_reading.read_cuts_file.Goals as goal

abbrev end : Head → List CutRecord → ℕ → List ℕ → Result RecordFile ReadError
end head cuts = value_at_end (Cuts head cuts)

abbrev rest : Head → ℕ → ℕ → List ℕ → Result RecordFile ReadError
rest head count = chain_to_end (cuts_read head.version head.samples count) (end head)

pub returns-in_err-count-clause-answer : goal.returns-in_err-count-clause-answer
returns-in_err-count-clause-answer g c =
    let state = g.S.Shelf.state in
    let name = c.args.name.now in
    let e = c.in_err-count.field-0.0 in
    let p = err_from_is_err_and c.from_residual.result c.from_residual.ensures.1 in
    rw (p.1, p.2)
    (to_end_stops (Unit {0}) name c.args.file.now.at (number_read w32 any_rule) (rest c.args.head) (state c.args.shelf.now) (state c.read_count.new.shelf) c.read_count.new.file e
    (lifted (Unit {0}) name c.args.file.now.at (number_read w32 any_rule) (state c.args.shelf.now) (state c.read_count.new.shelf) c.read_count.new.file (Err e) c.in_err-count.ensures.answer))

pub loop-i-init : goal.loop-i-init
loop-i-init g c = grind (arith, common_steps)

pub loop-i-preserved : goal.loop-i-preserved
loop-i-preserved g c =
    let state = g.S.Shelf.state in
    let name = c.args.name.now in
    let start = c.read_count.new in
    let read = cut_read c.args.head.version c.args.head.samples in
    let cut = c.in_ok-cut.cut in
    let ok = c.in_ok-cut.ensures {u = tt} in
    let so = c.loop-i.invariant in
    let all = c.push_reserved.ensures.items ∙ ap (λ items. items ++ cut ∷ []) c.make_room.ensures.items in
    record {
      count = omega (arith, c.push_reserved.ensures.len, ap length c.make_room.ensures.items, so.count);
      at = place_more 34 start.file.at c.loop-i.file.at c.read_cut.new.file.at c.loop-i.before (cell_count cut.placement.rect.size) c.cells_of.result c.cells_of.ensures so.at ok.place;
      few = subst (λ n. c.loop-i.before + n ≤ MOST_BOX_CELLS) (sym c.cells_of.ensures) ok.cells;
      before = (λ k. so.before k + c.cells_of.ensures k) ∙ sym (box_cells-append c.loop-i.cuts.items cut) ∙ ap box_cells (sym all);
      each = subst (All (IsCutInForm c.args.head.samples)) (sym all) (All-push (IsCutInForm c.args.head.samples) c.loop-i.cuts.items cut so.each ok.form);
      found = subst (λ items. Found name start.file.at (state c.read_cut.new.shelf) c.read_cut.new.file (cuts_read c.args.head.version c.args.head.samples (c.loop-i.i + 1)) items) (sym all)
          (each_more name start.file.at c.loop-i.i (λ front. read (box_cells front)) (state start.shelf) (state c.loop-i.shelf) (state c.read_cut.new.shelf) c.loop-i.file c.read_cut.new.file
          c.loop-i.cuts.items cut so.reads ok.reads so.found
          (subst (λ n. Found name c.loop-i.file.at (state c.read_cut.new.shelf) c.read_cut.new.file (read n) cut) so.before ok.answer));
      reads = only_reads_then (state start.shelf) (state c.loop-i.shelf) (state c.read_cut.new.shelf) so.reads ok.reads;
    }

pub push_reserved-requires : goal.push_reserved-requires
push_reserved-requires g c =
    let room = c.in_ok-make_room.ensures {u = tt} in
    room_made (vec_len c.loop-i.cuts) (vec_len c.make_room.new.items) (vec_capacity c.loop-i.cuts) (vec_capacity c.make_room.new.items) (c.in_ok-count.count - c.loop-i.i)
    (omega (arith, ap length room.items)) room.kept room.grown (omega (arith, c.loop-i-test.true))

pub returns-in_err-cut-clause-answer : goal.returns-in_err-cut-clause-answer
returns-in_err-cut-clause-answer g c =
    let state = g.S.Shelf.state in
    let name = c.args.name.now in
    let e = c.in_err-cut.field-0.0 in
    let start = c.read_count.new in
    let count : ℕ = c.in_ok-count.count in
    let ok0 = c.in_ok-count.ensures {u = tt} in
    let read = cut_read c.args.head.version c.args.head.samples in
    let so = c.loop-i.invariant in
    let p = err_from_is_err_and c.from_residual-in_err-cut.result c.from_residual-in_err-cut.ensures.1 in
    rw (p.1, p.2)
    (then_to_end (Unit {0}) name c.args.file.now.at (number_read w32 any_rule) (rest c.args.head) (state c.args.shelf.now) (state start.shelf) (state c.read_cut.new.shelf) start.file count (Err e)
    ok0.reads (only_reads_then (state start.shelf) (state c.loop-i.shelf) (state c.read_cut.new.shelf) so.reads c.in_err-cut.ensures.reads) ok0.answer
    (to_end_stops (Unit {0}) name start.file.at (cuts_read c.args.head.version c.args.head.samples count) (end c.args.head) (state start.shelf) (state c.read_cut.new.shelf) c.read_cut.new.file e
    (each_stops (Unit {0}) name start.file.at c.loop-i.i count (λ front. read (box_cells front)) (state start.shelf) (state c.loop-i.shelf) (state c.read_cut.new.shelf) c.loop-i.file c.read_cut.new.file
    c.loop-i.cuts.items e c.loop-i-test.true so.reads c.in_err-cut.ensures.reads so.found
    (subst (λ n. ReadsFrom (Unit {0}) name c.loop-i.file.at (state c.loop-i.shelf) (state c.read_cut.new.shelf) c.read_cut.new.file (read n) (Err e)) so.before c.in_err-cut.ensures.answer))))

pub returns-in_err-end-clause-answer : goal.returns-in_err-end-clause-answer
returns-in_err-end-clause-answer g c =
    let state = g.S.Shelf.state in
    let name = c.args.name.now in
    let e = c.in_err-end.field-0.0 in
    let start = c.read_count.new in
    let count : ℕ = c.in_ok-count.count in
    let ok0 = c.in_ok-count.ensures {u = tt} in
    let so = c.loop-i.invariant in
    let cuts : List CutRecord = c.loop-i.cuts.items in
    let all : c.loop-i.i ≡ count = omega (arith, c.loop-i-test.false, c.loop-i.auto.i-end) in
    let found = subst (λ n. Found name start.file.at (state c.loop-i.shelf) c.loop-i.file (cuts_read c.args.head.version c.args.head.samples n) cuts) all so.found in
    let p = err_from_is_err_and c.from_residual-in_err-end.result c.from_residual-in_err-end.ensures.1 in
    rw (p.1, p.2)
    (then_to_end (Unit {0}) name c.args.file.now.at (number_read w32 any_rule) (rest c.args.head) (state c.args.shelf.now) (state start.shelf) (state c.end.new.shelf) start.file count (Err e)
    ok0.reads (only_reads_then (state start.shelf) (state c.loop-i.shelf) (state c.end.new.shelf) so.reads c.in_err-end.ensures.reads) ok0.answer
    (then_to_end (Unit {0}) name start.file.at (cuts_read c.args.head.version c.args.head.samples count) (end c.args.head) (state start.shelf) (state c.loop-i.shelf) (state c.end.new.shelf) c.loop-i.file cuts (Err e)
    so.reads c.in_err-end.ensures.reads found
    (ends_not (Unit {0}) name c.loop-i.file.at (state c.loop-i.shelf) (state c.end.new.shelf) (Cuts c.args.head cuts) e c.in_err-end.ensures.stops)))

pub returns-clause-answer : goal.returns-clause-answer
returns-clause-answer g c =
    let state = g.S.Shelf.state in
    let name = c.args.name.now in
    let start = c.read_count.new in
    let count : ℕ = c.in_ok-count.count in
    let ok0 = c.in_ok-count.ensures {u = tt} in
    let so = c.loop-i.invariant in
    let cuts : List CutRecord = c.loop-i.cuts.items in
    let all : c.loop-i.i ≡ count = omega (arith, c.loop-i-test.false, c.loop-i.auto.i-end) in
    let found = subst (λ n. Found name start.file.at (state c.loop-i.shelf) c.loop-i.file (cuts_read c.args.head.version c.args.head.samples n) cuts) all so.found in
    let ok2 = c.in_ok-end.ensures {u = tt} in
    subst (λ (cuts : List CutRecord). ReadsToEnd (Unit {0}) name c.args.file.now.at (state c.args.shelf.now) (state c.end.new.shelf) (cuts_file_read c.args.head) (Ok (Cuts c.args.head cuts))) (sym c.from_vec-cuts.ensures)
    (then_to_end (Unit {0}) name c.args.file.now.at (number_read w32 any_rule) (rest c.args.head) (state c.args.shelf.now) (state start.shelf) (state c.end.new.shelf) start.file count (Ok (Cuts c.args.head cuts))
    ok0.reads (only_reads_then (state start.shelf) (state c.loop-i.shelf) (state c.end.new.shelf) so.reads ok2.reads) ok0.answer
    (then_to_end (Unit {0}) name start.file.at (cuts_read c.args.head.version c.args.head.samples count) (end c.args.head) (state start.shelf) (state c.loop-i.shelf) (state c.end.new.shelf) c.loop-i.file cuts (Ok (Cuts c.args.head cuts))
    so.reads ok2.reads found
    (ends (Unit {0}) name c.loop-i.file.at (state c.loop-i.shelf) (state c.end.new.shelf) (Cuts c.args.head cuts) ok2.stops)))

pub returns-clause-form : goal.returns-clause-form
returns-clause-form g c =
    let so = c.loop-i.invariant in
    let below : length c.loop-i.cuts.items < 2 ^ 32 = omega (arith, so.count, c.loop-i-test.false, c.loop-i.auto.i-end) in
    subst (λ (cuts : List CutRecord). AreCutsInLimits c.args.head cuts) (sym c.from_vec-cuts.ensures)
    (record { form = record { head_is = c.requires.head; count = below; each = so.each }; cells = subst (λ n. n ≤ MOST_BOX_CELLS) so.before so.few })

pub returns-clause-reads : goal.returns-clause-reads
returns-clause-reads g c =
    let state = g.S.Shelf.state in
    only_reads_then (state c.args.shelf.now) (state c.read_count.new.shelf) (state c.end.new.shelf) (c.in_ok-count.ensures {u = tt}).reads (only_reads_then (state c.read_count.new.shelf) (state c.loop-i.shelf) (state c.end.new.shelf) c.loop-i.invariant.reads (c.in_ok-end.ensures {u = tt}).reads)

pub returns-in_err-end-clause-reads : goal.returns-in_err-end-clause-reads
returns-in_err-end-clause-reads g c =
    let state = g.S.Shelf.state in
    only_reads_then (state c.args.shelf.now) (state c.read_count.new.shelf) (state c.end.new.shelf) (c.in_ok-count.ensures {u = tt}).reads (only_reads_then (state c.read_count.new.shelf) (state c.loop-i.shelf) (state c.end.new.shelf) c.loop-i.invariant.reads c.in_err-end.ensures.reads)

pub returns-in_err-cut-clause-reads : goal.returns-in_err-cut-clause-reads
returns-in_err-cut-clause-reads g c =
    let state = g.S.Shelf.state in
    only_reads_then (state c.args.shelf.now) (state c.read_count.new.shelf) (state c.read_cut.new.shelf) (c.in_ok-count.ensures {u = tt}).reads (only_reads_then (state c.read_count.new.shelf) (state c.loop-i.shelf) (state c.read_cut.new.shelf) c.loop-i.invariant.reads c.in_err-cut.ensures.reads)

pub returns-in_err-make_room-clause-reads : goal.returns-in_err-make_room-clause-reads
returns-in_err-make_room-clause-reads g c =
    let state = g.S.Shelf.state in
    only_reads_then (state c.args.shelf.now) (state c.read_count.new.shelf) (state c.loop-i.shelf) (c.in_ok-count.ensures {u = tt}).reads c.loop-i.invariant.reads
