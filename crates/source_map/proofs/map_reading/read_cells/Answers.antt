use Rattle.std.proofs.Common.{◌≤◌, ℕ, List, subst, sym}
use Rattle.std.proofs.lemmas.Result.{err_from_is_err_and}
use Rattle.std.specs.Prelude.{Result, Ok, Err}
use Rattle.shelf_traits.specs.declared.fault.ReadError.{ReadError}
use Rattle.shelf_traits.proofs.FileLaws.{only_reads_same, only_reads_then}
use Rattle.cells.specs.declared.place.Size.{Size}
use Rattle.cells.specs.Places.{cell_count}
use Rattle.limits.specs.declared.bounds.TheConstants.{MOST_MAP_CELLS}
use Rattle.map_canvas.specs.Maps.{SourceMap}
use Rattle.source_map.specs.declared.head.Version.{Version}
use Rattle.source_map.specs.declared.map_file.MapFile.{MapFile}
use Rattle.source_map.specs.declared.map_file.MapFile.TheVariants.{Cells}
use Rattle.source_map.specs.Heads.{sizes_read}
use Rattle.source_map.specs.MapFiles.{cells_rule, samples_read, sources_read}
use Rattle.source_map.specs.Readings.{◌>>=◌}
use Rattle.source_map.proofs.FieldLaws.{chain, first_stops, lifted, made, test_passes, test_stops, then_reads}
use Rattle.source_map.proofs.Sources.{writable_of}
use Rattle.source_map.proofs.map_reading.read_cells.Goals as goal

abbrev end : Version → List Size → SourceMap → ℕ → List ℕ → Result (MapFile × ℕ) ReadError
end version samples m at bytes = Ok (Cells m samples version, at)

abbrev rest : Version → Size → List Size → ℕ → List ℕ → Result (MapFile × ℕ) ReadError
rest version output samples = chain (sources_read version samples output) (end version samples)

pub returns-in_err-samples-clause-answer : goal.returns-in_err-samples-clause-answer
returns-in_err-samples-clause-answer g c =
    let name = c.args.name.now in
    let place = c.args.file.now.at in
    let version = c.args.version in
    let output = c.args.size in
    let was = g.S.Shelf.state c.args.shelf.now in
    let now = g.S.Shelf.state c.read_samples.new.shelf in
    let r = c.read_samples.new.file in
    let e = c.in_err-samples.field-0.0 in
    let p = err_from_is_err_and c.from_residual.result c.from_residual.ensures.1 in
    rw (p.1, p.2)
    (first_stops (Unit {0}) name place (samples_read version output) (rest version output) was now r e
    (first_stops (Unit {0}) name place (sizes_read version) (λ (samples : List Size) (at : ℕ) (bytes : List ℕ). cells_rule output >>= λ few. Ok (samples, at)) was now r e
    (lifted (Unit {0}) name place (sizes_read version) was now r (Err e) c.in_err-samples.ensures.answer)))

pub returns-in_err-few_cells-clause-answer : goal.returns-in_err-few_cells-clause-answer
returns-in_err-few_cells-clause-answer g c =
    let name = c.args.name.now in
    let place = c.args.file.now.at in
    let version = c.args.version in
    let output = c.args.size in
    let was = g.S.Shelf.state c.args.shelf.now in
    let now = g.S.Shelf.state c.read_samples.new.shelf in
    let r = c.read_samples.new.file in
    let e = c.in_err-few_cells.field-0.0 in
    let p = err_from_is_err_and c.from_residual-in_err-few_cells.result c.from_residual-in_err-few_cells.ensures.1 in
    rw (p.1, p.2)
    (first_stops (Unit {0}) name place (samples_read version output) (rest version output) was now r e
    (lifted (Unit {0}) name place (samples_read version output) was now r (Err e)
    (test_stops name place (sizes_read version) (cells_rule output) was now r c.in_ok-samples.samples e c.in_err-few_cells.ensures.rule c.in_err-few_cells.ensures.refusal (c.in_ok-samples.ensures {u = tt}).answer)))

pub returns-in_err-map-clause-answer : goal.returns-in_err-map-clause-answer
returns-in_err-map-clause-answer g c =
    let state = g.S.Shelf.state in
    let name = c.args.name.now in
    let place = c.args.file.now.at in
    let version = c.args.version in
    let output = c.args.size in
    let was = state c.args.shelf.now in
    let b = state c.read_samples.new.shelf in
    let d = state c.read_sources.new.shelf in
    let r = c.read_samples.new.file in
    let v = c.in_ok-samples.samples in
    let e = c.in_err-map.field-0.0 in
    let samples = c.in_ok-samples.ensures {u = tt} in
    let p = err_from_is_err_and c.from_residual-in_err-map.result c.from_residual-in_err-map.ensures.1 in
    rw (p.1, p.2)
    (then_reads (Unit {0}) name place (samples_read version output) (rest version output) was b d r c.read_sources.new.file v (Err e) samples.reads c.in_err-map.ensures.reads
    (test_passes name place (sizes_read version) (cells_rule output) b r v (c.in_ok-few_cells.ensures {u = tt}).rule samples.answer)
    (first_stops (Unit {0}) name r.at (sources_read version v output) (end version v) b d c.read_sources.new.file e c.in_err-map.ensures.answer))

pub returns-clause-answer : goal.returns-clause-answer
returns-clause-answer g c =
    let state = g.S.Shelf.state in
    let name = c.args.name.now in
    let place = c.args.file.now.at in
    let version = c.args.version in
    let output = c.args.size in
    let was = state c.args.shelf.now in
    let b = state c.read_samples.new.shelf in
    let d = state c.read_sources.new.shelf in
    let r = c.read_samples.new.file in
    let r' = c.read_sources.new.file in
    let v = c.in_ok-samples.samples in
    let m = c.in_ok-map.map in
    let samples = c.in_ok-samples.ensures {u = tt} in
    let map = c.in_ok-map.ensures {u = tt} in
    let value : MapFile = Cells m v version in
    then_reads (Unit {0}) name place (samples_read version output) (rest version output) was b d r r' v (Ok value) samples.reads map.reads
    (test_passes name place (sizes_read version) (cells_rule output) b r v (c.in_ok-few_cells.ensures {u = tt}).rule samples.answer)
    (then_reads (Unit {0}) name r.at (sources_read version v output) (end version v) b d d r' r' m (Ok value) map.reads (only_reads_same d) map.answer
    (made (Unit {0}) name d d r' value map.answer.follows))

pub returns-clause-lawful : goal.returns-clause-lawful
returns-clause-lawful g c =
    let read = c.in_ok-map.ensures {u = tt} in (
      read.map,
      writable_of c.in_ok-map.map c.in_ok-samples.samples c.args.version read.map (c.in_ok-samples.ensures {u = tt}).samples
          (subst (λ (size : Size). cell_count size ≤ MOST_MAP_CELLS) (sym read.size) (c.in_ok-few_cells.ensures {u = tt}).few) read.inside,
    )

pub returns-clause-reads : goal.returns-clause-reads
returns-clause-reads g c =
    let state = g.S.Shelf.state in
    only_reads_then (state c.args.shelf.now) (state c.read_samples.new.shelf) (state c.read_sources.new.shelf) (c.in_ok-samples.ensures {u = tt}).reads (c.in_ok-map.ensures {u = tt}).reads
