use Rattle.std.proofs.Common.{◌≡◌, ◌<◌, ◌+◌, ◌-◌, ◌++◌, [], ◌∷◌, ◌∙◌, length, ap, subst, sym, arith}
use Rattle.std.proofs.lemmas.List.{length-append}
use Rattle.std.proofs.lemmas.List.Elements.{All-push}
use Rattle.std.proofs.lemmas.Result.{err_from_is_err_and}
use Rattle.std.specs.Prelude.{Err, All, IfSome, IsSomeAnd, Option, vec_capacity, vec_len}
use Rattle.shelf_traits.proofs.FileLaws.{only_reads_then}
use Rattle.cells.specs.declared.place.At.{At}
use Rattle.cells.specs.Places.{cell_count}
use Rattle.source_map.specs.MapFiles.{source_read, IsInSamples}
use Rattle.source_map.specs.Readings.{Found, list_read}
use Rattle.source_map.specs.Waiting.{AreSourcesIn}
use Rattle.source_map.proofs.FieldLaws.{first_stops, lifted, list_more, list_stops, room_made}
use Rattle.source_map.proofs.SourceLists.{map_end, sources_end}
use Rattle.map_canvas.specs.Maps.{IsMap, IsSource, SourceMap}
use Rattle.source_map.proofs.source_reading.read_sources.Goals as goal

pub reading-preserved-then-take_sources-gt0 : goal.reading-preserved-then-take_sources-gt0
reading-preserved-then-take_sources-gt0 g c =
    let state = g.S.Shelf.state in
    let name = c.args.name.now in
    let b = state c.reading.shelf in
    let so = c.reading.invariant in
    let took = c.take_sources.ensures in
    let same = c.make_room.ensures.items in
    record {
      found = took.grows name b c.args.file.now.at (subst (λ items. Found name c.args.file.now.at b c.reading.file (list_read (source_read c.args.version c.args.samples.now) (length items)) items) (sym same) so.found);
      few = omega (arith, took.count, took.most, ap length same, so.few, c.reading-test.true, c.len.ensures, c.len-in-reading.ensures);
      at = omega (arith, took.count, took.place, ap length same, so.at);
      sources = took.sources (subst (AreSourcesIn c.args.samples.now) (sym same) so.sources);
      reads = so.reads;
    }

pub reading-preserved : goal.reading-preserved
reading-preserved g c =
    let state = g.S.Shelf.state in
    let name = c.args.name.now in
    let read = source_read c.args.version c.args.samples.now in
    let place = c.args.file.now.at in
    let a = state c.args.shelf.now in
    let b = state c.reading.shelf in
    let d = state c.read_source.new.shelf in
    let later = c.read_source.new.file in
    let so = c.reading.invariant in
    let took = c.take_sources.ensures in
    let ok = c.in_ok-source.ensures {u = tt} in
    let same = c.make_room.ensures.items in
    let front = c.take_sources.new.sources.items in
    let source = c.in_ok-source.source in
    let IsSound : Option At → Type 0 = λ source. IfSome source IsSource in
    let IsIn : Option At → Type 0 = λ source. IsSomeAnd source (IsInSamples c.args.samples.now) in
    let all = c.push_reserved.ensures.items ∙ (λ k. front ++ c.new.ensures k ∷ []) in
    let count : length front + 1 ≡ length (front ++ source ∷ []) = omega (arith, length-append front (source ∷ [])) in
    let found = took.grows name b place (subst (λ items. Found name place b c.reading.file (list_read read (length items)) items) (sym same) so.found) in
    let are = took.sources (subst (AreSourcesIn c.args.samples.now) (sym same) so.sources) in
    record {
      found = subst (λ items. Found name place d later (list_read read (length items)) items) (sym all)
          (subst (λ k. Found name place d later (list_read read k) (front ++ source ∷ [])) count
          (list_more name place (length front) read a b d c.take_sources.new.file later front source so.reads ok.reads found ok.answer));
      few = omega (arith, c.push_reserved.ensures.len, took.count, c.if-take_sources-gt0.false, ap length same, so.few, c.reading-test.true, c.len.ensures, c.len-in-reading.ensures);
      at = omega (arith, ok.place, c.push_reserved.ensures.len, took.count, took.place, ap length same, so.at);
      sources = (
        subst (All IsSound) (sym all) (All-push IsSound front source are.0 ok.source),
        subst (All IsIn) (sym all) (All-push IsIn front source are.1 ok.inside),
      );
      reads = only_reads_then a b d so.reads ok.reads;
    }

pub returns-in_err-source-clause-answer : goal.returns-in_err-source-clause-answer
returns-in_err-source-clause-answer g c =
    let state = g.S.Shelf.state in
    let name = c.args.name.now in
    let p = err_from_is_err_and c.from_residual-in_err-source.result c.from_residual-in_err-source.ensures.1 in
    let read = source_read c.args.version c.args.samples.now in
    let place = c.args.file.now.at in
    let a = state c.args.shelf.now in
    let b = state c.reading.shelf in
    let d = state c.read_source.new.shelf in
    let e = c.in_err-source.field-0.0 in
    let so = c.reading.invariant in
    let took = c.take_sources.ensures in
    let same = c.make_room.ensures.items in
    let count = cell_count c.args.size in
    let front = c.take_sources.new.sources.items in
    let more : length front < count = omega (arith, took.count, c.if-take_sources-gt0.false, ap length same, c.reading-test.true, c.len.ensures, c.cells-count.ensures) in
    rw (p.1, p.2)
    (first_stops (Unit {0}) name place (list_read read count) (map_end c.args.size) a d c.read_source.new.file e
    (list_stops (Unit {0}) name place (length front) count read a b d c.take_sources.new.file c.read_source.new.file front e
    more so.reads c.in_err-source.ensures.reads
    (took.grows name b place (subst (λ items. Found name place b c.reading.file (list_read read (length items)) items) (sym same) so.found))
    (lifted (Unit {0}) name c.take_sources.new.file.at read b d c.read_source.new.file (Err e) c.in_err-source.ensures.answer)))

pub returns-in_err-source-clause-reads : goal.returns-in_err-source-clause-reads
returns-in_err-source-clause-reads g c =
    let state = g.S.Shelf.state in
    only_reads_then (state c.args.shelf.now) (state c.reading.shelf) (state c.read_source.new.shelf) c.reading.invariant.reads c.in_err-source.ensures.reads

pub reading-smaller : goal.reading-smaller
reading-smaller g c = omega (arith, c.push_reserved.ensures.len, c.take_sources.ensures.count, ap length c.make_room.ensures.items, c.reading-test.true, c.len-in-reading.ensures)

pub returns-clause-map : goal.returns-clause-map
returns-clause-map g c =
    let all : length c.reading.sources.items ≡ cell_count c.args.size = omega (arith, c.reading.invariant.few, c.len.ensures, c.reading-test.false, c.cells-count.ensures) in
    subst IsMap (sym c.from_sources.ensures) (record { small = c.requires.small; count = all; sources = c.reading.invariant.sources.0 })

pub returns-clause-inside : goal.returns-clause-inside
returns-clause-inside g c =
    subst (λ (m : SourceMap). All (λ source. IsSomeAnd source (IsInSamples c.args.samples.now)) m.sources) (sym c.from_sources.ensures) c.reading.invariant.sources.1

pub returns-clause-answer : goal.returns-clause-answer
returns-clause-answer g c =
    let state = g.S.Shelf.state in
    let all : length c.reading.sources.items ≡ cell_count c.args.size = omega (arith, c.reading.invariant.few, c.len.ensures, c.reading-test.false, c.cells-count.ensures) in
    sources_end c.args.name.now c.args.file.now.at (length c.reading.sources.items) (cell_count c.args.size) (source_read c.args.version c.args.samples.now) c.args.size (state c.args.shelf.now) (state c.reading.shelf)
    c.reading.file c.reading.sources.items c.from_sources.result all c.from_sources.ensures c.reading.invariant.reads c.reading.invariant.found

pub push_reserved-requires : goal.push_reserved-requires
push_reserved-requires g c =
    let took = c.take_sources.ensures in
    let more = room_made (vec_len c.reading.sources) (vec_capacity c.reading.sources) (vec_capacity c.make_room.new.items) (c.cells-count.result - c.len-in-reading.result)
    c.make_room.ensures.kept (c.in_ok-make_room.ensures {u = tt}).grown (omega (arith, c.reading-test.true, c.len.ensures, c.len-in-reading.ensures)) in
    omega (arith, took.count, took.capacity, c.if-take_sources-gt0.false, ap length c.make_room.ensures.items, more)
