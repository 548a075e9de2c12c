use Rattle.std.proofs.Common.{◌≡◌, ℕ, List, ap, length, refl, subst, sym}
use Rattle.std.proofs.lemmas.Result.{err_from_is_err_and}
use Rattle.std.specs.Int.{w16}
use Rattle.std.specs.Prelude.{Option, Some, Result, Ok, Err, unwrap_or}
use Rattle.shelf_traits.specs.declared.fault.ReadError.{ReadError}
use Rattle.shelf_traits.proofs.FileLaws.{only_reads_same, only_reads_then}
use Rattle.cells.specs.declared.place.At.{At}
use Rattle.cells.specs.declared.place.Size.{Size}
use Rattle.cells.specs.SizeLists.{stock_place}
use Rattle.map_canvas.specs.Maps.{IsSource}
use Rattle.source_map.specs.declared.head.Version.{Version}
use Rattle.source_map.specs.MapFiles.{IsInSamples, no_size, numbered_size, part_rule, place_read, source_read}
use Rattle.source_map.specs.Readings.{ReadsFrom, number_read}
use Rattle.source_map.proofs.FieldLaws.{chain, first_stops, made, then_reads}
use Rattle.source_map.proofs.Sources.{inside_source, one_in, stock_in, stock_source}
use Rattle.source_map.proofs.map_reading.read_source.Goals as goal

abbrev end : List Size → ℕ → At → ℕ → List ℕ → Result (Option At × ℕ) ReadError
end samples part from at bytes = Ok (Some (stock_place samples part from), at)

pub returns-in_ok-from-in-One-clause-source : goal.returns-in_ok-from-in-One-clause-source
returns-in_ok-from-in-One-clause-source g c = inside_source c.at.result c.at.ensures.axes c.in_ok-from-in-One.from (c.in_ok-from-in-One.ensures {u = tt}).inside

pub returns-in_ok-from-in-One-clause-inside : goal.returns-in_ok-from-in-One-clause-inside
returns-in_ok-from-in-One-clause-inside g c = one_in c.args.samples.now 1 c.at.result c.in_ok-from-in-One.from refl c.at.ensures.size (c.in_ok-from-in-One.ensures {u = tt}).inside

pub returns-in_err-at-in-Two-clause-answer : goal.returns-in_err-at-in-Two-clause-answer
returns-in_err-at-in-Two-clause-answer g c =
    let state = g.S.Shelf.state in
    let name = c.args.name.now in
    let samples = c.args.samples.now in
    let was = state c.args.shelf.now in
    let now = state c.read_place-in-Two.new.shelf in
    let e = c.in_err-at-in-Two.field-0.0 in
    let p = err_from_is_err_and c.from_residual-in_err-at-in-Two.result c.from_residual-in_err-at-in-Two.ensures.1 in
    let part : ℕ = c.in_ok-part-in-Two.part in
    let first = c.in_ok-part-in-Two.ensures {u = tt} in
    let sized : c.at-in-Two.result ≡ numbered_size samples part = ap (λ o. unwrap_or o no_size) c.at-in-Two.ensures.size in
    rw (p.1, p.2)
    (subst (λ (version : Version). ReadsFrom ⊥ name c.args.file.now.at was now c.read_place-in-Two.new.file (source_read version samples) (Err e)) (sym c.in-Two.is)
    (then_reads ⊥ name c.args.file.now.at (number_read w16 (part_rule (length samples))) (λ (v0 : ℕ). chain (place_read (numbered_size samples v0)) (λ (v1 : At). end samples v0 v1)) was (state c.read_part.new.shelf) now c.read_part.new.file c.read_place-in-Two.new.file part (Err e)
    first.reads c.in_err-at-in-Two.ensures.reads (subst (λ n. ReadsFrom ⊥ name c.args.file.now.at was (state c.read_part.new.shelf) c.read_part.new.file (number_read w16 (part_rule n)) (Ok part)) c.len.ensures.len first.answer)
    (first_stops ⊥ name c.read_part.new.file.at (place_read (numbered_size samples part)) (λ (v1 : At). end samples part v1) (state c.read_part.new.shelf) now c.read_place-in-Two.new.file e
    (subst (λ (size : Size). ReadsFrom ⊥ name c.read_part.new.file.at (state c.read_part.new.shelf) now c.read_place-in-Two.new.file (place_read size) (Err e)) sized c.in_err-at-in-Two.ensures.answer))))

pub returns-in_ok-at-in-Two-clause-answer : goal.returns-in_ok-at-in-Two-clause-answer
returns-in_ok-at-in-Two-clause-answer g c =
    let state = g.S.Shelf.state in
    let name = c.args.name.now in
    let samples = c.args.samples.now in
    let was = state c.args.shelf.now in
    let now = state c.read_place-in-Two.new.shelf in
    let file = c.read_place-in-Two.new.file in
    let part : ℕ = c.in_ok-part-in-Two.part in
    let at : At = c.in_ok-at-in-Two.at in
    let first = c.in_ok-part-in-Two.ensures {u = tt} in
    let second = c.in_ok-at-in-Two.ensures {u = tt} in
    let sized : c.at-in-Two.result ≡ numbered_size samples part = ap (λ o. unwrap_or o no_size) c.at-in-Two.ensures.size in
    let placed = subst (λ (size : Size). ReadsFrom ⊥ name c.read_part.new.file.at (state c.read_part.new.shelf) now file (place_read size) (Ok at)) sized second.answer in
    let value : Option At = Some (stock_place samples part at) in
    subst (λ (version : Version). ReadsFrom ⊥ name c.args.file.now.at was now file (source_read version samples) (Ok (Some c.stock.result))) (sym c.in-Two.is)
    (subst (λ (v : Option At). ReadsFrom ⊥ name c.args.file.now.at was now file (chain (number_read w16 (part_rule (length samples))) (λ (v0 : ℕ). chain (place_read (numbered_size samples v0)) (λ (v1 : At). end samples v0 v1))) (Ok v)) (sym (ap Some c.stock.ensures))
    (then_reads ⊥ name c.args.file.now.at (number_read w16 (part_rule (length samples))) (λ (v0 : ℕ). chain (place_read (numbered_size samples v0)) (λ (v1 : At). end samples v0 v1)) was (state c.read_part.new.shelf) now c.read_part.new.file file part (Ok value)
    first.reads second.reads (subst (λ n. ReadsFrom ⊥ name c.args.file.now.at was (state c.read_part.new.shelf) c.read_part.new.file (number_read w16 (part_rule n)) (Ok part)) c.len.ensures.len first.answer)
    (then_reads ⊥ name c.read_part.new.file.at (place_read (numbered_size samples part)) (λ (v1 : At). end samples part v1) (state c.read_part.new.shelf) now now file file at (Ok value)
    second.reads (only_reads_same now) placed (made ⊥ name now now file value placed.follows))))

pub returns-in_ok-at-in-Two-clause-reads : goal.returns-in_ok-at-in-Two-clause-reads
returns-in_ok-at-in-Two-clause-reads g c =
    let state = g.S.Shelf.state in
    only_reads_then (state c.args.shelf.now) (state c.read_part.new.shelf) (state c.read_place-in-Two.new.shelf) (c.in_ok-part-in-Two.ensures {u = tt}).reads (c.in_ok-at-in-Two.ensures {u = tt}).reads

pub returns-in_ok-at-in-Two-clause-source : goal.returns-in_ok-at-in-Two-clause-source
returns-in_ok-at-in-Two-clause-source g c =
    let at = c.at-in-Two.ensures in
    subst IsSource (sym c.stock.ensures)
    (stock_source c.args.samples.now c.in_ok-part-in-Two.part c.at-in-Two.result c.in_ok-at-in-Two.at c.requires.samples at.axes at.size (c.in_ok-at-in-Two.ensures {u = tt}).inside)

pub returns-in_ok-at-in-Two-clause-inside : goal.returns-in_ok-at-in-Two-clause-inside
returns-in_ok-at-in-Two-clause-inside g c =
    subst (IsInSamples c.args.samples.now) (sym c.stock.ensures)
    (stock_in c.args.samples.now c.in_ok-part-in-Two.part c.at-in-Two.result c.in_ok-at-in-Two.at (c.in_ok-part-in-Two.ensures {u = tt}).within.0 c.at-in-Two.ensures.size (c.in_ok-at-in-Two.ensures {u = tt}).inside)
