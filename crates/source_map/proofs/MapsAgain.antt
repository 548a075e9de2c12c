-- A map that is spelled is read again.
use Rattle.std.proofs.Common.{◌≡◌, true, false, ℕ, suc, ◌+◌, ◌≤◌, ◌<◌, ◌^◌, List, [], ◌++◌, length, refl, sym, ap, ◌∙◌, subst, append_assoc, arith}
use Rattle.std.proofs.lemmas.Bool.{le-leb, lt-leb, eq-eqb}
use Rattle.std.proofs.lemmas.List.{append-nil, take_all}
use Rattle.std.proofs.lemmas.Option.{slice_get_within}
use Rattle.std.specs.Int.{w16, w32}
use Rattle.std.specs.List.{flat_map}
use Rattle.std.specs.Prelude.{Option, Some, None, IsSomeAnd, Result, Ok, Err, nat_eq, nat_lt, nat_le, unwrap_or}
use Rattle.limits.specs.declared.bounds.TheConstants.{GREATEST_AXIS, MOST_MAP_CELLS}
use Rattle.shelf_traits.specs.declared.fault.ReadError.{ReadError}
use Rattle.cells.specs.declared.place.At.{At}
use Rattle.cells.specs.declared.place.Size.{Size}
use Rattle.cells.specs.declared.sizes.PartPlace.{PartPlace}
use Rattle.cells.specs.Places.{HasAxes, IsInside, cell_count, index_in, spot}
use Rattle.cells.specs.SizeLists.{AreSizes, IsPartPlace, stock_place}
use Rattle.cells.proofs.Raster.{index_parts, has_index}
use Rattle.map_canvas.specs.Maps.{IsMap, SourceMap}
use Rattle.file_bytes.specs.Fields.{field_16, field_32, fields_16}
use Rattle.file_bytes.specs.Reading.{StandsAt}
use Rattle.source_map.specs.declared.head.Version.{Version}
use Rattle.source_map.specs.declared.head.Version.TheVariants.{One, Two}
use Rattle.source_map.specs.declared.map_file.MapFile.{MapFile}
use Rattle.source_map.specs.declared.map_file.MapFile.TheVariants.{Cells, Frames}
use Rattle.source_map.specs.Heads.{AreSamples, IsKind, IsVersion, axis_rule, size_field, sizes_field, start_form, start_read}
use Rattle.source_map.specs.MapFiles.{IsInSamples, IsMapFile, IsMapOf, IsWritable, below_rule, body_read, cells_read, cells_rule, end_read, frames_read, map_form, map_magic, map_read, no_size, numbered_field, numbered_size, part_rule, place_field, place_read, same_rule, sample_read, samples_read, source_field, source_read, sources_read, value_read}
use Rattle.source_map.specs.Readings.{◌>>=◌, list_read, number_read}
use Rattle.source_map.proofs.FieldLaws.{chain, value_alone}
use Rattle.source_map.proofs.PartLaws.{part_is}
use Rattle.source_map.proofs.MapWriting.{all_inside, axes_of, one_place}
use Rattle.source_map.proofs.Again.{Spells, alone_spells, list_spells, not_equal, spells_16, spells_32, stands_split, then_spells}
use Rattle.source_map.proofs.Spelled.{same_first}
use Rattle.source_map.proofs.HeadsAgain.{axis_spells, sizes_spell, start_spells}

below_spells : (n m : ℕ) → m < n → m < 2 ^ 16 → Spells (number_read w16 (below_rule n)) (field_16 m) m
below_spells n m lt small =
    let low : nat_lt m n ≡ true = le-leb (suc m) n (omega arith) in
    spells_16 (below_rule n) m m small (λ at. rw low refl)

place_spells : (size : Size) → HasAxes size → (p : At) → IsInside size p → Spells (place_read size) (place_field p) p
place_spells size axes p inside =
    let at = index_parts size p _ (has_index (index_in size p) 0 inside) in
    let same : spot at.x at.y at.f ≡ p = λ i. record { x = sym at.x_on.is i; y = sym at.y_on.is i; f = sym at.f_on.is i } in
    subst (λ q. Spells (place_read size) (place_field q) q) same (counts at.x at.y at.f at.x_on.below at.y_on.below at.f_on.below)
  where
    counts : (x y f : ℕ) → x < size.w → y < size.h → f < size.f → Spells (place_read size) (place_field (spot x y f)) (spot x y f)
    counts x y f x_lt y_lt f_lt =
        let end = λ (x y f : ℕ). value_alone (spot x y f) in
        let a = field_16 x in
        let b = field_16 y in
        let c = field_16 f in
        let ra : ℕ → List ℕ → Result (ℕ × ℕ) ReadError = number_read w16 (below_rule size.w) in
        let rb : ℕ → List ℕ → Result (ℕ × ℕ) ReadError = number_read w16 (below_rule size.h) in
        let rc : ℕ → List ℕ → Result (ℕ × ℕ) ReadError = number_read w16 (below_rule size.f) in
        let all : a ++ (b ++ (c ++ [])) ≡ a ++ b ++ c = ap (λ t. a ++ (b ++ t)) (append-nil c) ∙ sym (append_assoc a b c) in
        subst (λ piece. Spells (place_read size) piece (spot x y f)) all
        (then_spells ra (λ x. chain rb (λ y. chain rc (end x y))) a (b ++ (c ++ [])) x (spot x y f) (below_spells size.w x x_lt (omega (arith, x_lt, axes.w.1)))
        (then_spells rb (λ y. chain rc (end x y)) b (c ++ []) y (spot x y f) (below_spells size.h y y_lt (omega (arith, y_lt, axes.h.1)))
        (then_spells rc (end x y) c [] f (spot x y f) (below_spells size.f f f_lt (omega (arith, f_lt, axes.f.1))) (alone_spells (spot x y f)))))

-- a place of a part, by the part's number
pub size_there : (samples : List Size) (from : At) (there : PartPlace) → (has : IsPartPlace samples from there) → numbered_size samples there.part ≡ has.size
size_there samples from there has =
    let number : there.part ≡ suc has.before = omega (arith, has.part) in
    ap (numbered_size samples) number ∙ ap (λ o. unwrap_or o no_size) has.is

pub stock_there : (samples : List Size) (from : At) (there : PartPlace) → IsPartPlace samples from there → stock_place samples there.part there.at ≡ from
stock_there samples from there has =
    let number : there.part ≡ suc has.before = omega (arith, has.part) in
    ap (λ n. stock_place samples n there.at) number ∙ has.stock

pub there_spells : (samples : List Size) → AreSizes samples → (from : At) (there : PartPlace) → IsPartPlace samples from there
    → Spells (place_read (numbered_size samples there.part)) (place_field there.at) there.at
there_spells samples are from there has =
    subst (λ size. Spells (place_read size) (place_field there.at) there.at) (sym (size_there samples from there has))
    (place_spells has.size (axes_of samples has.before has.size are.axes has.is) there.at has.inside)

pub part_ok : (n m at : ℕ) → 1 ≤ m → m ≤ n → part_rule n at m ≡ Ok m
part_ok n m at lo hi =
    let some : nat_eq m 0 ≡ false = not_equal m 0 (λ e. omega arith) in
    let low : nat_lt n m ≡ false = lt-leb (suc n) m (omega arith) in
    rw (some, low) refl

source_spells : (version : Version) (samples : List Size) → AreSamples version samples → (from : At) → IsInSamples samples from
    → Spells (source_read version samples) (source_field version samples (Some from)) (Some from)
source_spells One samples are from inside =
    let there = inside.0 in
    let within = slice_get_within samples inside.1.before inside.1.size inside.1.is in
    let one = are.one refl in
    let first : there.part ≡ 1 = omega (arith, within, one, inside.1.part) in
    let place = subst (λ p. Spells (place_read (numbered_size samples there.part)) (place_field p) p) (one_place samples from there one inside.1)
    (there_spells samples are.sizes_are from there inside.1) in
    subst (λ piece. Spells (source_read One samples) piece (Some from)) (append-nil (place_field from))
    (then_spells (place_read (numbered_size samples 1)) (λ p. value_alone (Some p)) (place_field from) [] from (Some from)
    (subst (λ n. Spells (place_read (numbered_size samples n)) (place_field from) from) first place) (alone_spells (Some from)))
source_spells Two samples are from inside =
    let there = inside.0 in
    let has = inside.1 in
    let within = slice_get_within samples has.before has.size has.is in
    let end = λ (part : ℕ) (p : At). value_alone (Some (stock_place samples part p)) in
    let number : ℕ → List ℕ → Result (ℕ × ℕ) ReadError = number_read w16 (part_rule (length samples)) in
    let place = place_field there.at in
    let value = Some (stock_place samples there.part there.at) in
    let all : field_16 there.part ++ (place ++ []) ≡ numbered_field there = ap (λ t. field_16 there.part ++ t) (append-nil place) in
    let spelled = then_spells number (λ part. chain (place_read (numbered_size samples part)) (end part)) (field_16 there.part) (place ++ []) there.part value
    (spells_16 (part_rule (length samples)) there.part there.part (omega (arith, within, has.part, are.sizes_are.few))
    (λ at. part_ok (length samples) there.part at (omega (arith, has.part)) (omega (arith, within, has.part))))
    (then_spells (place_read (numbered_size samples there.part)) (end there.part) place [] there.at value (there_spells samples are.sizes_are from there has) (alone_spells value)) in
    subst (λ t. Spells (source_read Two samples) (numbered_field t) (Some from)) (sym (part_is samples from there has))
    (subst (λ v. Spells (source_read Two samples) (numbered_field there) (Some v)) (stock_there samples from there has)
    (subst (λ piece. Spells (source_read Two samples) piece value) all spelled))

optional_spells : (version : Version) (samples : List Size) → AreSamples version samples → (source : Option At) → IsSomeAnd source (IsInSamples samples)
    → Spells (source_read version samples) (source_field version samples source) source
optional_spells version samples are None inside = absurd inside
optional_spells version samples are (Some from) inside = source_spells version samples are from inside

sources_spell : (m : SourceMap) (samples : List Size) (version : Version) → IsMap m → IsWritable m samples version
    → Spells (sources_read version samples m.size) (flat_map (source_field version samples) m.sources) m
sources_spell m samples version is writable =
    let read = source_read version samples in
    let sources = flat_map (source_field version samples) m.sources in
    let inside = all_inside m samples version is writable in
    let items = list_spells read (source_field version samples) m.sources (λ i d lt. optional_spells version samples writable.samples_are _ (inside i d lt)) in
    subst (λ piece. Spells (sources_read version samples m.size) piece m) (append-nil sources)
    (then_spells (list_read read (cell_count m.size)) (λ xs. value_alone {A = SourceMap} (record { size = m.size; sources = xs })) sources [] m.sources m
    (subst (λ n. Spells (list_read read n) sources m.sources) is.count items) (alone_spells m))

samples_spell : (version : Version) (output : Size) (samples : List Size) → AreSamples version samples → cell_count output ≤ MOST_MAP_CELLS
    → Spells (samples_read version output) (sizes_field version samples) samples
samples_spell version output samples are few at bytes stands =
    let low : nat_le (cell_count output) MOST_MAP_CELLS ≡ true = le-leb (cell_count output) MOST_MAP_CELLS few in
    let limit : cells_rule output ≡ Ok tt = rw low refl in
    ap (λ r. r >>= λ s. cells_rule output >>= λ few. Ok s) (sizes_spell version samples are at bytes stands)
    ∙ ap (λ r. r >>= λ few. Ok (samples, at + length (sizes_field version samples))) limit

same_spells : (n m : ℕ) → m ≡ n → m < 2 ^ 32 → Spells (number_read w32 (same_rule n)) (field_32 m) m
same_spells n m same small =
    let equal : nat_eq m n ≡ true = eq-eqb m n same in
    spells_32 (same_rule n) m m small (λ at. rw equal refl)

sample_spells : (output sample : Size) → HasAxes sample → sample.w ≡ output.w → sample.h ≡ output.h → Spells (sample_read output) (size_field sample) sample
sample_spells output sample axes same_w same_h =
    let end = λ (w h f : ℕ). value_alone {A = Size} (record { w = w; h = h; f = f }) in
    let rw' : ℕ → List ℕ → Result (ℕ × ℕ) ReadError = number_read w32 (same_rule output.w) in
    let rh : ℕ → List ℕ → Result (ℕ × ℕ) ReadError = number_read w32 (same_rule output.h) in
    let rf : ℕ → List ℕ → Result (ℕ × ℕ) ReadError = number_read w32 axis_rule in
    let w = field_32 sample.w in
    let h = field_32 sample.h in
    let f = field_32 sample.f in
    let all : w ++ (h ++ (f ++ [])) ≡ w ++ h ++ f = ap (λ t. w ++ (h ++ t)) (append-nil f) ∙ sym (append_assoc w h f) in
    subst (λ piece. Spells (sample_read output) piece sample) all
    (then_spells rw' (λ a. chain rh (λ b. chain rf (end a b))) w (h ++ (f ++ [])) sample.w sample (same_spells output.w sample.w same_w (omega (arith, axes.w.1)))
    (then_spells rh (λ b. chain rf (end sample.w b)) h (f ++ []) sample.h sample (same_spells output.h sample.h same_h (omega (arith, axes.h.1)))
    (then_spells rf (end sample.w sample.h) f [] sample.f sample (axis_spells sample.f axes.f.0 axes.f.1) (alone_spells sample))))

value_spells : (value : MapFile) → IsMapFile value → Spells value_read (map_form value) value
value_spells (Cells m samples version) lawful =
    let is = lawful.0 in
    let can = lawful.1 in
    let value = Cells m samples version in
    let sizes = sizes_field version samples in
    let sources = flat_map (source_field version samples) m.sources in
    let head = start_form map_magic 0 version m.size in
    let kind = kind_zero version in
    let body : Spells (cells_read version m.size) (sizes ++ (sources ++ [])) value =
    then_spells (samples_read version m.size) (λ s. chain (sources_read version s m.size) (λ m. value_alone (Cells m s version))) sizes (sources ++ []) samples value
    (samples_spell version m.size samples can.samples_are can.cells)
    (then_spells (sources_read version samples m.size) (λ m. value_alone (Cells m samples version)) sources [] m value (sources_spell m samples version is can) (alone_spells value)) in
    let all : head ++ (sizes ++ (sources ++ [])) ≡ head ++ sizes ++ sources = ap (λ t. head ++ (sizes ++ t)) (append-nil sources) ∙ sym (append_assoc head sizes sources) in
    subst (λ piece. Spells value_read piece value) all
    (then_spells (start_read map_magic 2 2) body_read head (sizes ++ (sources ++ [])) (record { version = version; kind = 0; output = m.size }) value
    (start_spells map_magic 2 2 0 version m.size refl refl (taken version) kind is.small.axes) body)
  where
    taken : (version : Version) → IsVersion 2 version
    taken One = omega arith
    taken Two = omega arith

    kind_zero : (version : Version) → IsKind 2 version 0
    kind_zero One = refl
    kind_zero Two = refl
value_spells (Frames size sample frames) lawful =
    let value = Frames size sample frames in
    let head = start_form map_magic 1 One size in
    let s = size_field sample in
    let entries = fields_16 frames in
    let read : ℕ → List ℕ → Result (ℕ × ℕ) ReadError = number_read w16 (below_rule sample.f) in
    let items = list_spells read field_16 frames (λ i d lt. below_spells sample.f _ (lawful.entries i d lt) (small _ sample.f (lawful.entries i d lt) lawful.sample_axes.f.1)) in
    let body : Spells (frames_read size) (s ++ (entries ++ [])) value =
    then_spells (sample_read size) (λ sample. chain (list_read (number_read w16 (below_rule sample.f)) size.f) (λ frames. value_alone (Frames size sample frames))) s (entries ++ []) sample value
    (sample_spells size sample lawful.sample_axes lawful.w lawful.h)
    (then_spells (list_read read size.f) (λ frames. value_alone (Frames size sample frames)) entries [] frames value
    (subst (λ n. Spells (list_read read n) entries frames) lawful.count items) (alone_spells value)) in
    let all : head ++ (s ++ (entries ++ [])) ≡ head ++ s ++ entries = ap (λ t. head ++ (s ++ t)) (append-nil entries) ∙ sym (append_assoc head s entries) in
    subst (λ piece. Spells value_read piece value) all
    (then_spells (start_read map_magic 2 2) body_read head (s ++ (entries ++ [])) (record { version = One; kind = 1; output = size }) value
    (start_spells map_magic 2 2 1 One size refl refl (omega arith) refl lawful.size_axes) body)
  where
    small : (e f : ℕ) → e < f → f ≤ GREATEST_AXIS → e < 2 ^ 16
    small e f lt le = omega arith

pub read_again : (value : MapFile) → IsMapFile value → map_read (map_form value) ≡ Ok value
read_again value lawful =
    let bytes = map_form value in
    let whole : StandsAt 0 bytes bytes = record { is = sym (take_all (length bytes) bytes (omega arith)); within = omega arith } in
    let end : nat_eq (length bytes) (0 + length bytes) ≡ true = eq-eqb (length bytes) (0 + length bytes) (omega arith) in
    ap (λ r. r >>= λ v. end_read v.1 bytes >>= λ end. Ok v.0) (value_spells value lawful 0 bytes whole) ∙ rw end refl

-- whatever comes after the spelling of a map, the map is read
begins : (value : MapFile) → IsMapFile value → (more : List ℕ) → value_read 0 (map_form value ++ more) ≡ Ok (value, 0 + length (map_form value))
begins value lawful more =
    let bytes = map_form value ++ more in
    let whole : StandsAt 0 bytes bytes = record { is = sym (take_all (length bytes) bytes (omega arith)); within = omega arith } in
    value_spells value lawful 0 bytes (stands_split 0 (map_form value) more bytes whole).0

pub begins_alone : (first second : MapFile) (more : List ℕ) → IsMapFile first → IsMapFile second → map_form first ++ more ≡ map_form second → first ≡ second
begins_alone first second more is is' same =
    let other = begins second is' [] in
    let both = sym (begins first is more) ∙ ap (value_read 0) (same ∙ sym (append-nil (map_form second))) ∙ other in
    same_first first second (0 + length (map_form first)) (0 + length (map_form second)) both

read_of : (bytes : List ℕ) (value : MapFile) → IsMapOf bytes value → map_read bytes ≡ Ok value
read_of bytes value is = ap map_read is.spelled ∙ read_again value is.lawful

abbrev as_read : MapFile → Result MapFile ReadError
as_read value = Ok value

pub one_value : (bytes : List ℕ) (first second : MapFile) → IsMapOf bytes first → IsMapOf bytes second → first ≡ second
one_value bytes first second is is' =
    let both : as_read first ≡ as_read second = sym (read_of bytes first is) ∙ read_of bytes second is' in
    cc

pub not_refused : (bytes : List ℕ) (value : MapFile) (refusal : ReadError) → IsMapOf bytes value → map_read bytes ≡ Err refusal → ⊥
not_refused bytes value refusal is refused = cc (sym (read_of bytes value is) ∙ refused)
