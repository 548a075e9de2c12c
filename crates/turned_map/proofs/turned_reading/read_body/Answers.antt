use Rattle.std.proofs.Common.{◌≡◌, ◌≤◌, ◌∙◌, ℕ, List, ap, subst, sym}
use Rattle.std.proofs.lemmas.Result.{err_from_is_err_and}
use Rattle.std.specs.Int.{w16}
use Rattle.std.specs.Prelude.{Result, Ok, Err}
use Rattle.shelf_traits.specs.Files.{ShelfState}
use Rattle.shelf_traits.specs.declared.fault.ReadError.{ReadError}
use Rattle.shelf_traits.specs.declared.fault.ReadError.TheVariants.{ReadFault, Bad, Limit, NoMemory}
use Rattle.shelf_traits.proofs.FileLaws.{only_reads_same, only_reads_then}
use Rattle.cells.specs.declared.place.Size.{Size}
use Rattle.cells.specs.Places.{cell_count}
use Rattle.file_bytes.specs.Reading.{Reading}
use Rattle.map_canvas.specs.Maps.{SourceMap}
use Rattle.source_map.specs.Heads.{size_read}
use Rattle.source_map.specs.MapFiles.{cells_rule, part_rule}
use Rattle.source_map.specs.Readings.{◌>>=◌, Found, IsRefusal, ReadsFrom, list_read, number_read}
use Rattle.source_map.proofs.FieldLaws.{chain, first_stops, lifted, made, then_reads, weaker}
use Rattle.turned_map.proofs.Entries.{turned_map_of}
use Rattle.turned_map.specs.declared.turned_file.TurnedFile.{TurnedFile}
use Rattle.turned_map.specs.TurnedFiles.{turned_samples_read, turned_sizes_read, turned_sources_read}
use Rattle.turned_map.proofs.turned_reading.read_body.Goals as goal

abbrev end : List Size → SourceMap → ℕ → List ℕ → Result (TurnedFile × ℕ) ReadError
end samples m at bytes = Ok (record { map = m; samples = samples }, at)

abbrev rest : Size → List Size → ℕ → List ℕ → Result (TurnedFile × ℕ) ReadError
rest output samples = chain (turned_sources_read samples output) (end samples)

-- the limit on the output's cells, after sizes that were read
few_pass : (name : List ℕ) (place : ℕ) (output : Size) (now : ShelfState) (r : Reading) (samples : List Size) → Ok tt ≡ cells_rule output
    → Found name place now r turned_sizes_read samples → Found name place now r (turned_samples_read output) samples
few_pass name place output now r samples rule found = record {
  follows = found.follows;
  is = weaker name (λ bytes. turned_sizes_read place bytes ≡ Ok (samples, r.at)) (λ bytes. turned_samples_read output place bytes ≡ Ok (samples, r.at)) now.files
      (λ bytes is. ap (λ s. s >>= λ samples. cells_rule output >>= λ few. Ok samples) is ∙ ap (λ f. f >>= λ few. Ok (samples, r.at)) (sym rule)) found.is;
}

few_stop : (name : List ℕ) (place : ℕ) (output : Size) (was now : ShelfState) (r : Reading) (samples : List Size) (e : ReadError) → Err e ≡ cells_rule output → IsRefusal e
    → Found name place now r turned_sizes_read samples → ReadsFrom ⊥ name place was now r (turned_samples_read output) (Err e)
few_stop name place output was now r samples ReadFault rule refusal found = absurd refusal
few_stop name place output was now r samples NoMemory rule refusal found = absurd refusal
few_stop name place output was now r samples (Bad fault) rule refusal found =
    weaker name (λ bytes. turned_sizes_read place bytes ≡ Ok (samples, r.at)) (λ bytes. turned_samples_read output place bytes ≡ Err (Bad fault)) now.files
    (λ bytes is. ap (λ s. s >>= λ samples. cells_rule output >>= λ few. Ok samples) is ∙ ap (λ f. f >>= λ few. Ok (samples, r.at)) (sym rule)) found.is
few_stop name place output was now r samples (Limit what number bound) rule refusal found =
    weaker name (λ bytes. turned_sizes_read place bytes ≡ Ok (samples, r.at)) (λ bytes. turned_samples_read output place bytes ≡ Err (Limit what number bound)) now.files
    (λ bytes is. ap (λ s. s >>= λ samples. cells_rule output >>= λ few. Ok samples) is ∙ ap (λ f. f >>= λ few. Ok (samples, r.at)) (sym rule)) found.is

pub returns-in_err-count-clause-answer : goal.returns-in_err-count-clause-answer
returns-in_err-count-clause-answer g c =
    let name = c.args.name.now in
    let place = c.args.file.now.at in
    let was = g.S.Shelf.state c.args.shelf.now in
    let now = g.S.Shelf.state c.read_part.new.shelf in
    let r = c.read_part.new.file in
    let e = c.in_err-count.field-0.0 in
    let p = err_from_is_err_and c.from_residual.result c.from_residual.ensures.1 in
    rw (p.1, p.2)
    (first_stops (Unit {0}) name place (turned_samples_read c.args.output) (rest c.args.output) was now r e
    (first_stops (Unit {0}) name place turned_sizes_read (λ (samples : List Size) (at : ℕ) (bytes : List ℕ). cells_rule c.args.output >>= λ few. Ok (samples, at)) was now r e
    (first_stops (Unit {0}) name place (number_read w16 (part_rule 2)) (λ (n : ℕ). list_read size_read n) was now r e
    (lifted (Unit {0}) name place (number_read w16 (part_rule 2)) was now r (Err e) c.in_err-count.ensures.answer))))

pub returns-in_err-samples-clause-answer : goal.returns-in_err-samples-clause-answer
returns-in_err-samples-clause-answer g c =
    let state = g.S.Shelf.state in
    let name = c.args.name.now in
    let place = c.args.file.now.at in
    let was = state c.args.shelf.now in
    let a = state c.read_part.new.shelf in
    let b = state c.read_sizes.new.shelf in
    let r = c.read_sizes.new.file in
    let e = c.in_err-samples.field-0.0 in
    let count = c.in_ok-count.ensures {u = tt} in
    let p = err_from_is_err_and c.from_residual-in_err-samples.result c.from_residual-in_err-samples.ensures.1 in
    rw (p.1, p.2)
    (first_stops (Unit {0}) name place (turned_samples_read c.args.output) (rest c.args.output) was b r e
    (first_stops (Unit {0}) name place turned_sizes_read (λ (samples : List Size) (at : ℕ) (bytes : List ℕ). cells_rule c.args.output >>= λ few. Ok (samples, at)) was b r e
    (lifted (Unit {0}) name place turned_sizes_read was b r (Err e)
    (then_reads ⊥ name place (number_read w16 (part_rule 2)) (λ (n : ℕ). list_read size_read n) was a b c.read_part.new.file r c.in_ok-count.count (Err e) count.reads c.in_err-samples.ensures.reads count.answer c.in_err-samples.ensures.answer))))

pub returns-in_err-few_cells-clause-answer : goal.returns-in_err-few_cells-clause-answer
returns-in_err-few_cells-clause-answer g c =
    let state = g.S.Shelf.state in
    let name = c.args.name.now in
    let place = c.args.file.now.at in
    let was = state c.args.shelf.now in
    let a = state c.read_part.new.shelf in
    let b = state c.read_sizes.new.shelf in
    let r = c.read_sizes.new.file in
    let e = c.in_err-few_cells.field-0.0 in
    let count = c.in_ok-count.ensures {u = tt} in
    let samples = c.in_ok-samples.ensures {u = tt} in
    let p = err_from_is_err_and c.from_residual-in_err-few_cells.result c.from_residual-in_err-few_cells.ensures.1 in
    rw (p.1, p.2)
    (first_stops (Unit {0}) name place (turned_samples_read c.args.output) (rest c.args.output) was b r e
    (lifted (Unit {0}) name place (turned_samples_read c.args.output) was b r (Err e)
    (few_stop name place c.args.output was b r c.in_ok-samples.samples e c.in_err-few_cells.ensures.rule c.in_err-few_cells.ensures.refusal
    (then_reads ⊥ name place (number_read w16 (part_rule 2)) (λ (n : ℕ). list_read size_read n) was a b c.read_part.new.file r c.in_ok-count.count (Ok c.in_ok-samples.samples) count.reads samples.reads count.answer samples.answer))))

pub returns-in_err-map-clause-answer : goal.returns-in_err-map-clause-answer
returns-in_err-map-clause-answer g c =
    let state = g.S.Shelf.state in
    let name = c.args.name.now in
    let place = c.args.file.now.at in
    let was = state c.args.shelf.now in
    let a = state c.read_part.new.shelf in
    let b = state c.read_sizes.new.shelf in
    let d = state c.read_sources.new.shelf in
    let r = c.read_sizes.new.file in
    let v = c.in_ok-samples.samples in
    let e = c.in_err-map.field-0.0 in
    let count = c.in_ok-count.ensures {u = tt} in
    let samples = c.in_ok-samples.ensures {u = tt} in
    let p = err_from_is_err_and c.from_residual-in_err-map.result c.from_residual-in_err-map.ensures.1 in
    rw (p.1, p.2)
    (then_reads (Unit {0}) name place (turned_samples_read c.args.output) (rest c.args.output) was b d r c.read_sources.new.file v (Err e) (only_reads_then was a b count.reads samples.reads) c.in_err-map.ensures.reads
    (few_pass name place c.args.output b r v (c.in_ok-few_cells.ensures {u = tt}).rule
    (then_reads ⊥ name place (number_read w16 (part_rule 2)) (λ (n : ℕ). list_read size_read n) was a b c.read_part.new.file r c.in_ok-count.count (Ok v) count.reads samples.reads count.answer samples.answer))
    (first_stops (Unit {0}) name r.at (turned_sources_read v c.args.output) (end v) b d c.read_sources.new.file e c.in_err-map.ensures.answer))

pub returns-clause-answer : goal.returns-clause-answer
returns-clause-answer g c =
    let state = g.S.Shelf.state in
    let name = c.args.name.now in
    let place = c.args.file.now.at in
    let was = state c.args.shelf.now in
    let a = state c.read_part.new.shelf in
    let b = state c.read_sizes.new.shelf in
    let d = state c.read_sources.new.shelf in
    let r = c.read_sizes.new.file in
    let r' = c.read_sources.new.file in
    let v = c.in_ok-samples.samples in
    let m = c.in_ok-map.map in
    let count = c.in_ok-count.ensures {u = tt} in
    let samples = c.in_ok-samples.ensures {u = tt} in
    let map = c.in_ok-map.ensures {u = tt} in
    let value : TurnedFile = record { map = m; samples = v } in
    then_reads (Unit {0}) name place (turned_samples_read c.args.output) (rest c.args.output) was b d r r' v (Ok value) (only_reads_then was a b count.reads samples.reads) map.reads
    (few_pass name place c.args.output b r v (c.in_ok-few_cells.ensures {u = tt}).rule
    (then_reads ⊥ name place (number_read w16 (part_rule 2)) (λ (n : ℕ). list_read size_read n) was a b c.read_part.new.file r c.in_ok-count.count (Ok v) count.reads samples.reads count.answer samples.answer))
    (then_reads (Unit {0}) name r.at (turned_sources_read v c.args.output) (end v) b d d r' r' m (Ok value) map.reads (only_reads_same d) map.answer
    (made (Unit {0}) name d d r' value map.answer.follows))

pub returns-clause-lawful : goal.returns-clause-lawful
returns-clause-lawful g c =
    let read = c.in_ok-map.ensures {u = tt} in
    let samples = c.in_ok-samples.ensures {u = tt} in
    let few = c.in_ok-few_cells.ensures {u = tt} in
    turned_map_of c.in_ok-map.map c.in_ok-samples.samples read.map samples.sizes (subst (λ n. n ≤ 2) (sym samples.count) (c.in_ok-count.ensures {u = tt}).within.1)
    (subst (λ (size : Size). cell_count size ≤ 1048576) (sym read.size) few.few) read.inside

pub returns-clause-reads : goal.returns-clause-reads
returns-clause-reads g c =
    let state = g.S.Shelf.state in
    let was = state c.args.shelf.now in
    let a = state c.read_part.new.shelf in
    let b = state c.read_sizes.new.shelf in
    only_reads_then was b (state c.read_sources.new.shelf) (only_reads_then was a b (c.in_ok-count.ensures {u = tt}).reads (c.in_ok-samples.ensures {u = tt}).reads) (c.in_ok-map.ensures {u = tt}).reads
