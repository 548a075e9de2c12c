-- A map over turned samples that is spelled is read again.
use Rattle.std.proofs.Common.{◌≡◌, true, ℕ, suc, ◌+◌, ◌≤◌, ◌<◌, List, [], ◌∷◌, ◌++◌, length, refl, sym, ap, ◌∙◌, subst, append_assoc, arith}
use Rattle.std.proofs.lemmas.Bool.{le-leb, eq-eqb}
use Rattle.std.proofs.lemmas.List.{append-nil, take_all}
use Rattle.std.proofs.lemmas.List.Elements.{All-from_recursion}
use Rattle.std.specs.Int.{w16, w8}
use Rattle.std.specs.List.{flat_map}
use Rattle.std.specs.Prelude.{Option, Some, None, IsSomeAnd, Result, Ok, Err, nat_eq, nat_lt, nat_le}
use Rattle.shelf_traits.specs.declared.fault.ReadError.{ReadError}
use Rattle.cells.specs.declared.place.At.{At}
use Rattle.cells.specs.declared.place.Size.{Size}
use Rattle.cells.specs.Places.{HasAxes, cell_count}
use Rattle.cells.specs.SizeLists.{AreSizes, stock_place}
use Rattle.map_canvas.specs.Maps.{SourceMap}
use Rattle.file_bytes.specs.Fields.{field_16}
use Rattle.file_bytes.specs.Reading.{StandsAt}
use Rattle.source_map.specs.declared.head.Version.TheVariants.{Two}
use Rattle.source_map.specs.Heads.{magic_rule, size_field, size_read, sizes_field, start_form}
use Rattle.source_map.specs.MapFiles.{below_rule, cells_rule, end_read, map_magic, part_rule, place_field, place_read, same_rule}
use Rattle.source_map.specs.Readings.{◌>>=◌, field_read, list_read, number_read}
use Rattle.source_map.proofs.FieldLaws.{chain, value_alone}
use Rattle.source_map.proofs.Again.{Spells, alone_spells, field_spells, list_spells, spells_16, spells_8, then_spells}
use Rattle.source_map.proofs.HeadsAgain.{size_spells}
use Rattle.source_map.proofs.MapWriting.{all_inside}
use Rattle.source_map.proofs.MapsAgain.{part_ok, there_spells}
use Rattle.source_map.proofs.MapsSpelled.{there_is}
use Rattle.turned.specs.declared.places.Turned.{Turned}
use Rattle.turned.specs.TurnedParts.{turned_sizes_of}
use Rattle.turned.specs.TurnedPlaces.{IsInTurned, IsUntouched, sample_size, turned_place}
use Rattle.turned.proofs.TurnedPlaces.{untouched_back}
use Rattle.turned.proofs.TurnedLists.{sample_bounds}
use Rattle.turned_map.specs.declared.turned_file.TurnedFile.{TurnedFile}
use Rattle.turned_map.specs.TurnedFiles.{IsTurnedFile, IsTurnedFileOf, IsTurnedMap, turned_body_read, turned_field, turned_map_form, turned_map_read, turned_samples_read, turned_sizes_read, turned_source, turned_source_read, turned_sources_read, turned_start_read, turned_value_read, untouched_of}
use Rattle.turned_map.proofs.Entries.{untouched_is}

turn_spells : (t : ℕ) → t < 8 → Spells (number_read w16 (below_rule 8)) (field_16 t) t
turn_spells t lt =
    let low : nat_lt t 8 ≡ true = le-leb (suc t) 8 (omega arith) in
    spells_16 (below_rule 8) t t (omega (arith, lt)) (λ at. rw low refl)

entry_spells : (samples : List Size) → AreSizes samples → length samples ≤ 2 → (from : At) → IsInTurned samples from → Spells (turned_source_read samples) (turned_source samples (Some from)) (Some from)
entry_spells samples are few from inside =
    let there : Turned = untouched_of samples from in
    let u : IsUntouched samples from there = untouched_is samples from inside in
    let bounds = sample_bounds samples there.sample (sample_size samples there.sample) u.is.sample in
    let end = λ (sample turn : ℕ) (at : At). value_alone {A = Option At} (Some (turned_place samples (record { sample = sample; turn = turn; at = at }))) in
    let numbers : ℕ → List ℕ → Result (ℕ × ℕ) ReadError = number_read w16 (part_rule (length samples)) in
    let turns : ℕ → List ℕ → Result (ℕ × ℕ) ReadError = number_read w16 (below_rule 8) in
    let place = place_field there.at in
    let value : Option At = Some (turned_place samples there) in
    let all : field_16 there.sample ++ (field_16 there.turn ++ (place ++ [])) ≡ turned_field there =
    ap (λ t. field_16 there.sample ++ (field_16 there.turn ++ t)) (append-nil place) ∙ sym (append_assoc (field_16 there.sample) (field_16 there.turn) place) in
    let spelled = then_spells numbers (λ sample. chain turns (λ turn. chain (place_read (sample_size samples sample)) (end sample turn))) (field_16 there.sample) (field_16 there.turn ++ (place ++ [])) there.sample value
    (spells_16 (part_rule (length samples)) there.sample there.sample (omega (arith, bounds.1, few)) (λ at. part_ok (length samples) there.sample at bounds.0 bounds.1))
    (then_spells turns (λ turn. chain (place_read (sample_size samples there.sample)) (end there.sample turn)) (field_16 there.turn) (place ++ []) there.turn value (turn_spells there.turn u.is.turn)
    (then_spells (place_read (sample_size samples there.sample)) (end there.sample there.turn) place [] there.at value
    (there_spells samples are (stock_place samples there.sample there.at) (record { part = there.sample; at = there.at })
    (there_is samples there.sample (sample_size samples there.sample) there.at bounds.0 (sym u.is.sample) u.is.inside)) (alone_spells value))) in
    subst (λ v. Spells (turned_source_read samples) (turned_field there) (Some v)) (untouched_back samples from there u)
    (subst (λ piece. Spells (turned_source_read samples) piece value) all spelled)

optional_spells : (samples : List Size) → AreSizes samples → length samples ≤ 2 → (source : Option At) → IsSomeAnd source (IsInTurned samples) → Spells (turned_source_read samples) (turned_source samples source) source
optional_spells samples are few None inside = absurd inside
optional_spells samples are few (Some from) inside = entry_spells samples are few from inside

sources_spell : (m : SourceMap) (samples : List Size) → IsTurnedMap m samples → Spells (turned_sources_read samples m.size) (flat_map (turned_source samples) m.sources) m
sources_spell m samples lawful =
    let read = turned_source_read samples in
    let sources = flat_map (turned_source samples) m.sources in
    let inside = all_inside m (turned_sizes_of samples) Two lawful.map lawful.writable in
    let items = list_spells read (turned_source samples) m.sources (λ i d lt. optional_spells samples lawful.sizes lawful.few _ (inside i d lt)) in
    subst (λ piece. Spells (turned_sources_read samples m.size) piece m) (append-nil sources)
    (then_spells (list_read read (cell_count m.size)) (λ xs. value_alone {A = SourceMap} (record { size = m.size; sources = xs })) sources [] m.sources m
    (subst (λ n. Spells (list_read read n) sources m.sources) lawful.map.count items) (alone_spells m))

sizes_spell : (samples : List Size) → AreSizes samples → length samples ≤ 2 → Spells turned_sizes_read (sizes_field Two samples) samples
sizes_spell samples are few =
    then_spells (number_read w16 (part_rule 2)) (list_read size_read) (field_16 (length samples)) (flat_map size_field samples) (length samples) samples
    (spells_16 (part_rule 2) (length samples) (length samples) (omega (arith, few)) (λ at. part_ok 2 (length samples) at are.some few))
    (list_spells size_read size_field samples (λ i d lt. size_spells _ (All-from_recursion HasAxes samples are.axes i d lt)))

samples_spell : (output : Size) (samples : List Size) → AreSizes samples → length samples ≤ 2 → cell_count output ≤ 1048576 → Spells (turned_samples_read output) (sizes_field Two samples) samples
samples_spell output samples are few cells at bytes stands =
    let low : nat_le (cell_count output) 1048576 ≡ true = le-leb (cell_count output) 1048576 cells in
    let limit : cells_rule output ≡ Ok tt = rw low refl in
    ap (λ r. r >>= λ s. cells_rule output >>= λ few. Ok s) (sizes_spell samples are few at bytes stands)
    ∙ ap (λ r. r >>= λ few. Ok (samples, at + length (sizes_field Two samples))) limit

mark_spells : Spells (number_read w8 (same_rule 2)) (2 ∷ []) 2
mark_spells = spells_8 (same_rule 2) 2 2 (λ at. refl)

start_spells : (output : Size) → HasAxes output → Spells turned_start_read (start_form map_magic 2 Two output) output
start_spells output axes =
    let size = size_field output in
    let mark : ℕ → List ℕ → Result (ℕ × ℕ) ReadError = number_read w8 (same_rule 2) in
    let all : map_magic ++ 2 ∷ 2 ∷ size ≡ map_magic ++ 2 ∷ 2 ∷ [] ++ size = sym (append_assoc map_magic (2 ∷ 2 ∷ []) size) in
    subst (λ piece. Spells turned_start_read piece output) all
    (then_spells (field_read 8 (magic_rule map_magic)) (λ m. chain mark (λ v. chain mark (λ k. size_read))) map_magic (2 ∷ 2 ∷ size) tt output (field_spells 8 (magic_rule map_magic) map_magic tt refl (λ at. refl))
    (then_spells mark (λ v. chain mark (λ k. size_read)) (2 ∷ []) (2 ∷ size) 2 output mark_spells
    (then_spells mark (λ k. size_read) (2 ∷ []) size 2 output mark_spells (size_spells output axes))))

value_spells : (value : TurnedFile) → IsTurnedFile value → Spells turned_value_read (turned_map_form value.map value.samples) value
value_spells value lawful =
    let m = value.map in
    let samples = value.samples in
    let sizes = sizes_field Two samples in
    let sources = flat_map (turned_source samples) m.sources in
    let head = start_form map_magic 2 Two m.size in
    let body : Spells (turned_body_read m.size) (sizes ++ (sources ++ [])) value =
    then_spells (turned_samples_read m.size) (λ s. chain (turned_sources_read s m.size) (λ m. value_alone {A = TurnedFile} (record { map = m; samples = s }))) sizes (sources ++ []) samples value
    (samples_spell m.size samples lawful.sizes lawful.few lawful.writable.cells)
    (then_spells (turned_sources_read samples m.size) (λ m. value_alone {A = TurnedFile} (record { map = m; samples = samples })) sources [] m value (sources_spell m samples lawful) (alone_spells value)) in
    let all : head ++ (sizes ++ (sources ++ [])) ≡ head ++ sizes ++ sources = ap (λ t. head ++ (sizes ++ t)) (append-nil sources) ∙ sym (append_assoc head sizes sources) in
    subst (λ piece. Spells turned_value_read piece value) all
    (then_spells turned_start_read turned_body_read head (sizes ++ (sources ++ [])) m.size value (start_spells m.size lawful.map.small.axes) body)

pub read_again : (value : TurnedFile) → IsTurnedFile value → turned_map_read (turned_map_form value.map value.samples) ≡ Ok value
read_again value lawful =
    let bytes = turned_map_form value.map value.samples in
    let whole : StandsAt 0 bytes bytes = record { is = sym (take_all (length bytes) bytes (omega arith)); within = omega arith } in
    let end : nat_eq (length bytes) (0 + length bytes) ≡ true = eq-eqb (length bytes) (0 + length bytes) (omega arith) in
    ap (λ r. r >>= λ v. end_read v.1 bytes >>= λ end. Ok v.0) (value_spells value lawful 0 bytes whole) ∙ rw end refl

read_of : (bytes : List ℕ) (value : TurnedFile) → IsTurnedFileOf bytes value → turned_map_read bytes ≡ Ok value
read_of bytes value is = ap turned_map_read is.spelled ∙ read_again value is.lawful

abbrev as_read : TurnedFile → Result TurnedFile ReadError
as_read value = Ok value

pub one_value : (bytes : List ℕ) (first second : TurnedFile) → IsTurnedFileOf bytes first → IsTurnedFileOf bytes second → first ≡ second
one_value bytes first second is is' =
    let both : as_read first ≡ as_read second = sym (read_of bytes first is) ∙ read_of bytes second is' in
    cc

pub not_refused : (bytes : List ℕ) (value : TurnedFile) (refusal : ReadError) → IsTurnedFileOf bytes value → turned_map_read bytes ≡ Err refusal → ⊥
not_refused bytes value refusal is refused = cc (sym (read_of bytes value is) ∙ refused)
