use Rattle.std.proofs.lemmas.Grind.{common_steps}
use Rattle.std.proofs.Common.{◌≡◌, ◌++◌, ◌∷◌, [], ◌+◌, ◌∙◌, ℕ, List, refl, sym, subst, arith}
use Rattle.std.proofs.lemmas.List.{length-append}
use Rattle.std.proofs.lemmas.Result.{err_from_is_err_and}
use Rattle.std.specs.Int.{w32}
use Rattle.std.specs.Prelude.{Result, Ok, Err}
use Rattle.shelf_traits.specs.declared.fault.ReadError.{ReadError}
use Rattle.shelf_traits.proofs.FileLaws.{only_reads_then}
use Rattle.cut_check.specs.declared.record.CutRecord.{CutRecord}
use Rattle.cut_check.specs.Records.{box_cells}
use Rattle.source_map.specs.Readings.{Found, ReadsFrom, number_read}
use Rattle.source_map.proofs.FieldLaws.{lifted}
use Rattle.source_map.specs.declared.head.Head.{Head}
use Rattle.cert_file.specs.declared.file.RecordFile.{RecordFile}
use Rattle.cert_file.specs.declared.file.RecordFile.TheVariants.{Cuts}
use Rattle.cert_file.specs.CutReading.{cut_read, cuts_read}
use Rattle.cert_file.specs.Rules.{any_rule}
use Rattle.cert_file.proofs.Bits.{box_cells-append}
use Rattle.cert_file.proofs.Readings.{each_more, each_stops}
use Rattle.cert_file.proofs.RecordReading.{chain_to_end, ends, ends_not, then_to_end, to_end_stops, value_at_end}
use Rattle.standing_files.proofs.Finding.{cut_found}
use Rattle.standing_files.proofs.cuts_as_read.judge_cuts_to_end.Goals as goal

abbrev end : Head → List CutRecord → ℕ → List ℕ → Result RecordFile ReadError
end head cuts = value_at_end (Cuts head cuts)

abbrev rest : Head → ℕ → ℕ → List ℕ → Result RecordFile ReadError
rest head count = chain_to_end (cuts_read head.version head.samples count) (end head)

pub returns-in_err-count-clause-answer : goal.returns-in_err-count-clause-answer
returns-in_err-count-clause-answer g c =
    let state = g.S.Shelf.state in
    let name = c.args.name.now in
    let e = c.in_err-count.field-0.0 in
    let p = err_from_is_err_and c.from_residual.result c.from_residual.ensures.1 in
    rw (p.1, p.2)
    (to_end_stops (Unit {0}) name c.args.file.now.at (number_read w32 any_rule) (rest c.args.head.now) (state c.args.shelf.now) (state c.read_count.new.shelf) c.read_count.new.file e
    (lifted (Unit {0}) name c.args.file.now.at (number_read w32 any_rule) (state c.args.shelf.now) (state c.read_count.new.shelf) c.read_count.new.file (Err e) c.in_err-count.ensures.answer))

pub loop-i-init : goal.loop-i-init
loop-i-init g c = grind (arith, common_steps)

pub loop-i-preserved : goal.loop-i-preserved
loop-i-preserved g c =
    let state = g.S.Shelf.state in
    let name = c.args.name.now in
    let start = c.read_count.new in
    let read = cut_read c.args.head.now.version c.args.head.now.samples in
    let cut = c.in_ok-cut.cut in
    let ok = c.in_ok-cut.ensures {u = tt} in
    let inv = c.loop-i.invariant in
    let so = inv.so_far in
    record {
      at = omega (arith, ok.place, inv.at, c.cells_of.ensures);
      few = omega (arith, ok.cells, c.cells_of.ensures);
      so_far = record {
        cuts = so.cuts ++ cut ∷ [];
        count = omega (arith, length-append so.cuts (cut ∷ []), so.count);
        cells_are = (λ k. so.cells_are k + c.cells_of.ensures k) ∙ sym (box_cells-append so.cuts cut);
        found = each_more name start.file.at c.loop-i.i (λ front. read (box_cells front)) (state start.shelf) (state c.loop-i.shelf) (state c.read_cut.new.shelf) c.loop-i.file c.read_cut.new.file
            so.cuts cut inv.reads ok.reads so.found
            (subst (λ n. Found name c.loop-i.file.at (state c.read_cut.new.shelf) c.read_cut.new.file (read n) cut) so.cells_are ok.answer);
        judged = cut_found c.args.samples.now c.args.canvas.now.map.size so.cuts cut c.loop-i.i so.count c.loop-i.canvas.map c.judge_cut-verdict.new.canvas.map c.args.before c.loop-i.verdict c.judge_cut-verdict.result
            so.judged c.judge_cut-verdict.ensures.found;
      };
      over = c.judge_cut-verdict.ensures.over;
      canvas = c.judge_cut-verdict.ensures.canvas;
      reads = only_reads_then (state start.shelf) (state c.loop-i.shelf) (state c.read_cut.new.shelf) inv.reads ok.reads;
    }

pub returns-in_err-cut-clause-answer : goal.returns-in_err-cut-clause-answer
returns-in_err-cut-clause-answer g c =
    let state = g.S.Shelf.state in
    let name = c.args.name.now in
    let e = c.in_err-cut.field-0.0 in
    let start = c.read_count.new in
    let count : ℕ = c.in_ok-count.count in
    let ok0 = c.in_ok-count.ensures {u = tt} in
    let read = cut_read c.args.head.now.version c.args.head.now.samples in
    let so = c.loop-i.invariant.so_far in
    let p = err_from_is_err_and c.from_residual-in_err-cut.result c.from_residual-in_err-cut.ensures.1 in
    rw (p.1, p.2)
    (then_to_end (Unit {0}) name c.args.file.now.at (number_read w32 any_rule) (rest c.args.head.now) (state c.args.shelf.now) (state start.shelf) (state c.read_cut.new.shelf) start.file count (Err e)
    ok0.reads (only_reads_then (state start.shelf) (state c.loop-i.shelf) (state c.read_cut.new.shelf) c.loop-i.invariant.reads c.in_err-cut.ensures.reads) ok0.answer
    (to_end_stops (Unit {0}) name start.file.at (cuts_read c.args.head.now.version c.args.head.now.samples count) (end c.args.head.now) (state start.shelf) (state c.read_cut.new.shelf) c.read_cut.new.file e
    (each_stops (Unit {0}) name start.file.at c.loop-i.i count (λ front. read (box_cells front)) (state start.shelf) (state c.loop-i.shelf) (state c.read_cut.new.shelf) c.loop-i.file c.read_cut.new.file
    so.cuts e c.loop-i-test.true c.loop-i.invariant.reads c.in_err-cut.ensures.reads so.found
    (subst (λ n. ReadsFrom (Unit {0}) name c.loop-i.file.at (state c.loop-i.shelf) (state c.read_cut.new.shelf) c.read_cut.new.file (read n) (Err e)) so.cells_are c.in_err-cut.ensures.answer))))

pub returns-in_err-end-clause-answer : goal.returns-in_err-end-clause-answer
returns-in_err-end-clause-answer g c =
    let state = g.S.Shelf.state in
    let name = c.args.name.now in
    let e = c.in_err-end.field-0.0 in
    let start = c.read_count.new in
    let count : ℕ = c.in_ok-count.count in
    let ok0 = c.in_ok-count.ensures {u = tt} in
    let inv = c.loop-i.invariant in
    let cuts : List CutRecord = inv.so_far.cuts in
    let all : c.loop-i.i ≡ count = omega (arith, c.loop-i-test.false, c.loop-i.auto.i-end) in
    let found = subst (λ n. Found name start.file.at (state c.loop-i.shelf) c.loop-i.file (cuts_read c.args.head.now.version c.args.head.now.samples n) cuts) all inv.so_far.found in
    let p = err_from_is_err_and c.from_residual-in_err-end.result c.from_residual-in_err-end.ensures.1 in
    rw (p.1, p.2)
    (then_to_end (Unit {0}) name c.args.file.now.at (number_read w32 any_rule) (rest c.args.head.now) (state c.args.shelf.now) (state start.shelf) (state c.end.new.shelf) start.file count (Err e)
    ok0.reads (only_reads_then (state start.shelf) (state c.loop-i.shelf) (state c.end.new.shelf) inv.reads c.in_err-end.ensures.reads) ok0.answer
    (then_to_end (Unit {0}) name start.file.at (cuts_read c.args.head.now.version c.args.head.now.samples count) (end c.args.head.now) (state start.shelf) (state c.loop-i.shelf) (state c.end.new.shelf) c.loop-i.file cuts (Err e)
    inv.reads c.in_err-end.ensures.reads found
    (ends_not (Unit {0}) name c.loop-i.file.at (state c.loop-i.shelf) (state c.end.new.shelf) (Cuts c.args.head.now cuts) e c.in_err-end.ensures.stops)))

pub returns-clause-answer : goal.returns-clause-answer
returns-clause-answer g c =
    let state = g.S.Shelf.state in
    let name = c.args.name.now in
    let start = c.read_count.new in
    let count : ℕ = c.in_ok-count.count in
    let ok0 = c.in_ok-count.ensures {u = tt} in
    let inv = c.loop-i.invariant in
    let cuts : List CutRecord = inv.so_far.cuts in
    let all : c.loop-i.i ≡ count = omega (arith, c.loop-i-test.false, c.loop-i.auto.i-end) in
    let found = subst (λ n. Found name start.file.at (state c.loop-i.shelf) c.loop-i.file (cuts_read c.args.head.now.version c.args.head.now.samples n) cuts) all inv.so_far.found in
    let ok2 = c.in_ok-end.ensures {u = tt} in (
      Cuts c.args.head.now cuts,
      then_to_end (Unit {0}) name c.args.file.now.at (number_read w32 any_rule) (rest c.args.head.now) (state c.args.shelf.now) (state start.shelf) (state c.end.new.shelf) start.file count (Ok (Cuts c.args.head.now cuts))
          ok0.reads (only_reads_then (state start.shelf) (state c.loop-i.shelf) (state c.end.new.shelf) inv.reads ok2.reads) ok0.answer
          (then_to_end (Unit {0}) name start.file.at (cuts_read c.args.head.now.version c.args.head.now.samples count) (end c.args.head.now) (state start.shelf) (state c.loop-i.shelf) (state c.end.new.shelf) c.loop-i.file cuts (Ok (Cuts c.args.head.now cuts))
          inv.reads ok2.reads found
          (ends (Unit {0}) name c.loop-i.file.at (state c.loop-i.shelf) (state c.end.new.shelf) (Cuts c.args.head.now cuts) ok2.stops)),
      (refl, inv.so_far.judged),
    )

pub returns-clause-reads : goal.returns-clause-reads
returns-clause-reads g c =
    let state = g.S.Shelf.state in
    only_reads_then (state c.args.shelf.now) (state c.read_count.new.shelf) (state c.end.new.shelf) (c.in_ok-count.ensures {u = tt}).reads (only_reads_then (state c.read_count.new.shelf) (state c.loop-i.shelf) (state c.end.new.shelf) c.loop-i.invariant.reads (c.in_ok-end.ensures {u = tt}).reads)

pub returns-in_err-end-clause-reads : goal.returns-in_err-end-clause-reads
returns-in_err-end-clause-reads g c =
    let state = g.S.Shelf.state in
    only_reads_then (state c.args.shelf.now) (state c.read_count.new.shelf) (state c.end.new.shelf) (c.in_ok-count.ensures {u = tt}).reads (only_reads_then (state c.read_count.new.shelf) (state c.loop-i.shelf) (state c.end.new.shelf) c.loop-i.invariant.reads c.in_err-end.ensures.reads)

pub returns-in_err-cut-clause-reads : goal.returns-in_err-cut-clause-reads
returns-in_err-cut-clause-reads g c =
    let state = g.S.Shelf.state in
    only_reads_then (state c.args.shelf.now) (state c.read_count.new.shelf) (state c.read_cut.new.shelf) (c.in_ok-count.ensures {u = tt}).reads (only_reads_then (state c.read_count.new.shelf) (state c.loop-i.shelf) (state c.read_cut.new.shelf) c.loop-i.invariant.reads c.in_err-cut.ensures.reads)
