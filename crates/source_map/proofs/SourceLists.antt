-- The map that is made of the sources of all cells, when the last one was read.
use Rattle.std.proofs.Common.{◌≡◌, ℕ, List, sym, subst}
use Rattle.std.specs.Prelude.{Option, Result, Ok}
use Rattle.shelf_traits.specs.Files.{ShelfState, OnlyReads}
use Rattle.shelf_traits.specs.declared.fault.ReadError.{ReadError}
use Rattle.shelf_traits.proofs.FileLaws.{only_reads_same}
use Rattle.file_bytes.specs.Reading.{Reading}
use Rattle.cells.specs.declared.place.At.{At}
use Rattle.cells.specs.declared.place.Size.{Size}
use Rattle.map_canvas.specs.Maps.{SourceMap}
use Rattle.source_map.specs.Readings.{Found, ReadsFrom, list_read}
use Rattle.source_map.proofs.FieldLaws.{chain, made, then_reads}

abbrev pub map_end : Size → List (Option At) → ℕ → List ℕ → Result (SourceMap × ℕ) ReadError
map_end size sources at bytes = Ok (record { size = size; sources = sources }, at)

pub sources_end : {names : List (List ℕ)} (name : List ℕ) (place i count : ℕ) (read : ℕ → List ℕ → Result (Option At × ℕ) ReadError) (size : Size) (a b : ShelfState) (r : Reading) (sources : List (Option At)) (m : SourceMap)
    → i ≡ count → m ≡ record { size = size; sources = sources } → OnlyReads names a b → Found name place b r (list_read read i) sources
    → ReadsFrom (Unit {0}) name place a b r (chain (list_read read count) (map_end size)) (Ok m)
sources_end name place i count read size a b r sources m all is reads so_far =
    let value : SourceMap = record { size = size; sources = sources } in
    subst (λ n. ReadsFrom (Unit {0}) name place a b r (chain (list_read read n) (map_end size)) (Ok m)) all
    (subst (λ n. ReadsFrom (Unit {0}) name place a b r (chain (list_read read i) (map_end size)) (Ok n)) (sym is)
    (then_reads (Unit {0}) name place (list_read read i) (map_end size) a b b r r sources (Ok value) reads (only_reads_same b) so_far (made (Unit {0}) name b b r value so_far.follows)))
