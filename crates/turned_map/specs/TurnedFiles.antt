-- What a reader has to trust: the file of a map over turned samples, its one spelling, and how a list of
-- bytes is read. It is a map file of version 2 and kind 2. (Own.)
use Rattle.std.specs.Prelude.{◌≡◌, ◌≤◌, ◌+◌, ◌-◌, ◌/◌, ◌%◌, ◌++◌, ℕ, List, [], length, Option, Some, None, Result, Ok, Err}
use Rattle.std.specs.Int.{w16, w8}
use Rattle.std.specs.List.{flat_map}
use Rattle.cells.specs.declared.place.At.{At}
use Rattle.cells.specs.declared.place.Size.{Size}
use Rattle.cells.specs.declared.sizes.PartPlace.{PartPlace}
use Rattle.cells.specs.Places.{cell_count}
use Rattle.cells.specs.SizeLists.{AreSizes}
use Rattle.file_bytes.specs.Fields.{field_16}
use Rattle.map_canvas.specs.Maps.{IsMap, SourceMap}
use Rattle.shelf_traits.specs.Files.{InFile, ReadsRose, ShelfState}
use Rattle.shelf_traits.specs.declared.fault.ReadError.{ReadError}
use Rattle.shelf_traits.specs.declared.fault.ReadError.TheVariants.{NoMemory, ReadFault}
use Rattle.source_map.specs.declared.head.Head.{Head}
use Rattle.source_map.specs.declared.head.Version.TheVariants.{Two}
use Rattle.source_map.specs.Heads.{head_form, magic_rule, size_read}
use Rattle.source_map.specs.MapFiles.{IsWritable, below_rule, cells_rule, end_read, map_magic, part_from, part_rule, place_field, place_read, same_rule}
use Rattle.source_map.specs.Readings.{◌>>=◌, field_read, list_read, number_read}
use Rattle.turned.specs.declared.places.Turned.{Turned}
use Rattle.turned.specs.declared.places.TheConstants.{MOST_TURNED}
use Rattle.turned.specs.declared.turn.TheConstants.{TURNS}
use Rattle.turned.specs.Turns.{turn_from}
use Rattle.turned.specs.TurnedParts.{turned_sizes_of}
use Rattle.turned.specs.TurnedPlaces.{sample_size, turned_place}
use Rattle.turned_map.specs.declared.turned_file.TurnedFile.{TurnedFile}
use Rattle.turned_map.specs.declared.turned_file.TheConstants.{TURNED_KIND, TURNED_VERSION}

-- a cell of a sample and its turn: number, turn, and the place as it is before the turn
abbrev pub turned_field : Turned → List ℕ
turned_field there = field_16 there.sample ++ field_16 there.turn ++ place_field there.at

-- what a place of a turned part is, by the part's number
abbrev pub untouched_in : List Size → PartPlace → Turned
untouched_in samples there = record {
  sample = (there.part - 1) / TURNS + 1;
  turn = (there.part - 1) % TURNS;
  at = turn_from ((there.part - 1) % TURNS)
      (sample_size samples ((there.part - 1) / TURNS + 1)) there.at;
}

-- the cell that is moved to a place of the turned samples
abbrev pub untouched_of : List Size → At → Turned
untouched_of samples p = untouched_in samples (part_from 1 (turned_sizes_of samples) p)

-- the source of one cell
abbrev pub turned_source : List Size → Option At → List ℕ
turned_source samples None = []
turned_source samples (Some from) = turned_field (untouched_of samples from)

abbrev pub turned_head : SourceMap → List Size → Head
turned_head m samples = record { output = m.size; samples = samples; version = Two }

-- the one spelling of a map whose sources are places of the turned samples; the sizes are those of the
-- samples as they are before
abbrev pub turned_map_form : SourceMap → List Size → List ℕ
turned_map_form m samples =
    head_form map_magic TURNED_KIND (turned_head m samples)
    ++ flat_map (turned_source samples) m.sources

-- a map that can be written: over 1 or 2 samples, full, of no more cells than a file may have, with
-- sources inside the turned samples
pub record IsTurnedMap (m : SourceMap) (samples : List Size) : Type 0 where
  pub few : length samples ≤ MOST_TURNED
  pub sizes : AreSizes samples
  pub map : IsMap m
  pub writable : IsWritable m (turned_sizes_of samples) Two

abbrev pub IsTurnedFile : TurnedFile → Type 0
IsTurnedFile value = IsTurnedMap value.map value.samples

-- the bytes are the spelling of the value
pub record IsTurnedFileOf (bytes : List ℕ) (value : TurnedFile) : Type 0 where
  pub lawful : IsTurnedFile value
  pub spelled : bytes ≡ turned_map_form value.map value.samples

-- what comes before the samples, of which the output's size alone is known
abbrev pub turned_start_read : ℕ → List ℕ → Result (Size × ℕ) ReadError
turned_start_read at bytes =
    field_read 8 (magic_rule map_magic) at bytes >>= λ magic.
    number_read w8 (same_rule TURNED_VERSION) magic.1 bytes >>= λ version.
    number_read w8 (same_rule TURNED_KIND) version.1 bytes >>= λ kind.
    size_read kind.1 bytes

-- the samples' sizes, and then the limit on the output's cells
abbrev pub turned_sizes_read : ℕ → List ℕ → Result (List Size × ℕ) ReadError
turned_sizes_read at bytes =
    number_read w16 (part_rule MOST_TURNED) at bytes >>= λ count.
    list_read size_read count.0 count.1 bytes

abbrev pub turned_samples_read : Size → ℕ → List ℕ → Result (List Size × ℕ) ReadError
turned_samples_read output at bytes =
    turned_sizes_read at bytes >>= λ samples. cells_rule output >>= λ few. Ok samples

-- the source of a cell, as a place of the turned samples
abbrev pub turned_source_read : List Size → ℕ → List ℕ → Result (Option At × ℕ) ReadError
turned_source_read samples at bytes =
    number_read w16 (part_rule (length samples)) at bytes >>= λ sample.
    number_read w16 (below_rule TURNS) sample.1 bytes >>= λ turn.
    place_read (sample_size samples sample.0) turn.1 bytes >>= λ from.
    Ok (
      Some (turned_place samples (record { sample = sample.0; turn = turn.0; at = from.0 })),
      from.1,
    )

-- the sources of all cells of an output
abbrev pub turned_sources_read : List Size → Size → ℕ → List ℕ → Result (SourceMap × ℕ) ReadError
turned_sources_read samples output at bytes =
    list_read (turned_source_read samples) (cell_count output) at bytes >>= λ sources.
    Ok (record { size = output; sources = sources.0 }, sources.1)

-- what follows the output's size
abbrev pub turned_body_read : Size → ℕ → List ℕ → Result (TurnedFile × ℕ) ReadError
turned_body_read output at bytes =
    turned_samples_read output at bytes >>= λ samples.
    turned_sources_read samples.0 output samples.1 bytes >>= λ m.
    Ok (record { map = m.0; samples = samples.0 }, m.1)

abbrev pub turned_value_read : ℕ → List ℕ → Result (TurnedFile × ℕ) ReadError
turned_value_read at bytes =
    turned_start_read at bytes >>= λ output. turned_body_read output.0 output.1 bytes

-- the value of a whole list of bytes, or its first refusal
abbrev pub turned_map_read : List ℕ → Result TurnedFile ReadError
turned_map_read bytes =
    turned_value_read 0 bytes >>= λ value. end_read value.1 bytes >>= λ end. Ok value.0

-- what a reader of the named file leaves and answers. A read fault has its cause, and out of memory is
-- free
abbrev pub TurnedReadsAs : List ℕ → ShelfState → ShelfState → Result TurnedFile ReadError → Type 0
TurnedReadsAs name was now (Err ReadFault) = ReadsRose name was now
TurnedReadsAs name was now (Err NoMemory) = Unit {0}
TurnedReadsAs name was now (Err refusal) =
    InFile name was now (λ bytes. turned_map_read bytes ≡ Err refusal)
TurnedReadsAs name was now (Ok value) =
    InFile name was now (λ bytes. turned_map_read bytes ≡ Ok value)
