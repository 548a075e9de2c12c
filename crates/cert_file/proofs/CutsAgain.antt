-- Cut records that are spelled are read again.
use Rattle.std.proofs.Common.{◌≡◌, true, false, ℕ, zero, suc, ◌+◌, ◌≤◌, ◌<◌, ◌^◌, List, [], ◌∷◌, ◌++◌, length, take, get_or, refl, sym, ap, ◌∙◌, subst, append_assoc, arith}
use Rattle.std.proofs.Math.Numerals.{add-one}
use Rattle.std.proofs.lemmas.Bool.{le-leb}
use Rattle.std.proofs.lemmas.Int.{ints, to_z-of_z}
use Rattle.std.proofs.lemmas.List.{append-nil, length-append, take_all, take_more}
use Rattle.std.proofs.lemmas.Nat.{from_be_bytes-to_be_bytes_2}
use Rattle.std.proofs.lemmas.Option.{slice_get_within}
use Rattle.std.specs.Int.{cast_signed, cast_unsigned, w16, w32}
use Rattle.std.specs.Int.RustNames.{FitsSigned}
use Rattle.std.specs.List.{flat_map}
use Rattle.std.specs.Prelude.{ℤ, pos, negsuc, Bool, All, Result, Ok, nat_eq, nat_le}
use Rattle.shelf_traits.specs.declared.fault.ReadError.{ReadError}
use Rattle.cells.specs.declared.place.At.{At}
use Rattle.cells.specs.declared.place.Size.{Size}
use Rattle.cells.specs.declared.sizes.PartPlace.{PartPlace}
use Rattle.cells.specs.Places.{cell_count}
use Rattle.cells.specs.SizeLists.{AreSizes, stock_place}
use Rattle.boxes.specs.Pairs.{pair_count}
use Rattle.cut_check.specs.declared.record.CutRecord.{CutRecord}
use Rattle.cut_check.specs.declared.record.Flow.{Flow}
use Rattle.cut_check.specs.Records.{box_cells}
use Rattle.file_bytes.specs.Fields.{field_16, field_32}
use Rattle.file_bytes.specs.Reading.{StandsAt}
use Rattle.file_bytes.proofs.WritingLaws.{fields_next}
use Rattle.source_map.specs.declared.head.Head.{Head}
use Rattle.source_map.specs.declared.head.Version.{Version}
use Rattle.source_map.specs.declared.head_reading.Start.{Start}
use Rattle.source_map.specs.declared.head.Version.TheVariants.{One, Two}
use Rattle.source_map.specs.Heads.{AreSamples, IsHead, IsKind, IsVersion, head_form, head_read, sizes_field, sizes_read, start_form, start_read}
use Rattle.source_map.specs.MapFiles.{IsInSamples, IsShort, IsShortCoordinate, numbered_field, numbered_size, part_rule, place_field, place_read}
use Rattle.source_map.specs.Readings.{◌>>=◌, field_read, list_read, number_read}
use Rattle.source_map.proofs.Again.{Spells, alone_spells, field_spells, list_spells, not_equal, spells_16, spells_32, stands_split, then_spells}
use Rattle.source_map.proofs.FieldLaws.{behind, chain, value_alone}
use Rattle.source_map.proofs.HeadsAgain.{sizes_spell, start_spells}
use Rattle.source_map.proofs.MapWriting.{one_place}
use Rattle.source_map.proofs.MapsAgain.{part_ok, stock_there, there_spells}
use Rattle.source_map.proofs.PartLaws.{part_is}
use Rattle.cert_file.specs.declared.file.RecordFile.{RecordFile}
use Rattle.cert_file.specs.declared.file.RecordFile.TheVariants.{Cuts}
use Rattle.cert_file.specs.CutForms.{HasShortFlows, IsBoxSize, IsCutInForm, IsShortFlow, box_size_field, choice_field, cut_form, flow_field, from_field, signed_field}
use Rattle.cert_file.specs.CutReading.{box_axis_rule, box_cells_rule, box_size_read, choice_read, choice_rule, corner_rule, cut_read, cuts_read, each_read, flow_read, flow_rule, from_read, number_of_two, part_read}
use Rattle.cert_file.specs.RecordFiles.{AreCutsInLimits, AreReadAgain, record_file_read, cuts_form, cuts_kind, kinds, record_magic, records_read, versions}
use Rattle.cert_file.specs.Rules.{any_rule, end_rule}
use Rattle.source_map.proofs.Spelled.{peel, same_value}
use Rattle.cert_file.proofs.ChoiceBits.{bits_taken, bits_unused}
use Rattle.cert_file.proofs.Readings.{ruled}
use Rattle.cert_file.proofs.RecordReading.{chain_to_end, value_at_end}
use Rattle.std.proofs.lemmas.List.FromFn.{length-map-range_with_len}
use Rattle.limits.specs.declared.bounds.TheConstants.{MOST_BOX_CELLS}

-- the corner of a box
pub record IsCount (z : ℤ) : Type 0 where
  pub n : ℕ
  pub is : z ≡ pos n
  pub below : n < 2 ^ 16

pub count_of : (z : ℤ) → IsShortCoordinate z → IsCount z
count_of (pos n) short = record { n = n; is = refl; below = omega (arith, ints, short.1) }
count_of (negsuc n) short = absurd (omega (arith, ints, short.0))

corner_spells : (p : At) → IsShort p → Spells (field_read 6 corner_rule) (place_field p) p
corner_spells p short =
    let x = count_of p.x short.x in
    let y = count_of p.y short.y in
    let f = count_of p.f short.f in
    let same : record { x = pos x.n; y = pos y.n; f = pos f.n } ≡ p = λ i. record { x = sym x.is i; y = sym y.is i; f = sym f.is i } in
    subst (λ q. Spells (field_read 6 corner_rule) (place_field q) q) same (counts x.n y.n f.n x.below y.below f.below)
  where
    counts : (x y f : ℕ) → x < 2 ^ 16 → y < 2 ^ 16 → f < 2 ^ 16
        → Spells (field_read 6 corner_rule) (field_16 x ++ field_16 y ++ field_16 f) (record { x = pos x; y = pos y; f = pos f })
    counts x y f x_lt y_lt f_lt =
        field_spells 6 corner_rule (field_16 x ++ field_16 y ++ field_16 f) (record { x = pos x; y = pos y; f = pos f }) refl
        (λ at i. Ok (record { x = pos (from_be_bytes-to_be_bytes_2 x x_lt i); y = pos (from_be_bytes-to_be_bytes_2 y y_lt i); f = pos (from_be_bytes-to_be_bytes_2 f f_lt i) }))

-- the size of a box
pub ruled_spells : {A : Type 0} (rule : Result A ReadError) (x : A) → rule ≡ Ok x → Spells (ruled rule) [] x
ruled_spells {A = A} rule x is at bytes stands =
    ap (λ (o : Result A ReadError). o >>= λ y. Ok (y, at)) is ∙ alone_spells x at bytes stands

pub box_axis_spells : (n : ℕ) → 1 ≤ n → n < 2 ^ 16 → Spells (number_read w16 box_axis_rule) (field_16 n) n
box_axis_spells n lo small =
    let some : nat_eq n 0 ≡ false = not_equal n 0 (λ e. omega arith) in
    spells_16 box_axis_rule n n small (λ at. rw some refl)

box_spells : (before : ℕ) (size : Size) → IsBoxSize size → before + cell_count size ≤ MOST_BOX_CELLS → Spells (box_size_read before) (box_size_field size) size
box_spells before size axes few =
    let axis : ℕ → List ℕ → Result (ℕ × ℕ) ReadError = number_read w16 box_axis_rule in
    let end = λ (w h f : ℕ). ruled (box_cells_rule before (record { w = w; h = h; f = f })) in
    let w = field_16 size.w in
    let h = field_16 size.h in
    let f = field_16 size.f in
    let low : nat_le (before + cell_count size) MOST_BOX_CELLS ≡ true = le-leb (before + cell_count size) MOST_BOX_CELLS few in
    let lawful : box_cells_rule before size ≡ Ok size = rw low refl in
    let all : w ++ (h ++ (f ++ [])) ≡ w ++ h ++ f = ap (λ t. w ++ (h ++ t)) (append-nil f) ∙ sym (append_assoc w h f) in
    subst (λ piece. Spells (box_size_read before) piece size) all
    (then_spells axis (λ a. chain axis (λ b. chain axis (end a b))) w (h ++ (f ++ [])) size.w size (box_axis_spells size.w axes.w.0 axes.w.1)
    (then_spells axis (λ b. chain axis (end size.w b)) h (f ++ []) size.h size (box_axis_spells size.h axes.h.0 axes.h.1)
    (then_spells axis (end size.w size.h) f [] size.f size (box_axis_spells size.f axes.f.0 axes.f.1) (ruled_spells (box_cells_rule before size) size lawful))))

-- where the new sources begin
from_spells : (version : Version) (samples : List Size) → AreSamples version samples → (from : At) → IsInSamples samples from
    → Spells (from_read version samples) (from_field version samples from) from
from_spells version samples are from inside = by version are
  where
    there : PartPlace
    there = inside.0

    end : ℕ → At → ℕ → List ℕ → Result (At × ℕ) ReadError
    end part p = value_alone (stock_place samples part p)

    place : AreSizes samples → Spells (chain (place_read (numbered_size samples there.part)) (end there.part)) (place_field there.at ++ []) from
    place are =
        subst (λ v. Spells (chain (place_read (numbered_size samples there.part)) (end there.part)) (place_field there.at ++ []) v) (stock_there samples from there inside.1)
        (then_spells (place_read (numbered_size samples there.part)) (end there.part) (place_field there.at) [] there.at (stock_place samples there.part there.at)
        (there_spells samples are from there inside.1) (alone_spells (stock_place samples there.part there.at)))

    by : (version : Version) → AreSamples version samples → Spells (from_read version samples) (from_field version samples from) from
    by One are =
        let within = slice_get_within samples inside.1.before inside.1.size inside.1.is in
        let one = are.one refl in
        let first : there.part ≡ 1 = omega (arith, within, one, inside.1.part) in
        let same : place_field there.at ++ [] ≡ place_field from = append-nil (place_field there.at) ∙ ap place_field (one_place samples from there one inside.1) in
        subst (λ piece. Spells (from_read One samples) piece from) same
        (then_spells (part_read One (length samples)) (λ part. chain (place_read (numbered_size samples part)) (end part)) [] (place_field there.at ++ []) there.part from
        (subst (λ n. Spells (part_read One (length samples)) [] n) (sym first) (alone_spells 1)) (place are.sizes_are))
    by Two are =
        let has = inside.1 in
        let within = slice_get_within samples has.before has.size has.is in
        let number : ℕ → List ℕ → Result (ℕ × ℕ) ReadError = number_read w16 (part_rule (length samples)) in
        let all : field_16 there.part ++ (place_field there.at ++ []) ≡ numbered_field there = ap (λ t. field_16 there.part ++ t) (append-nil (place_field there.at)) in
        subst (λ t. Spells (from_read Two samples) (numbered_field t) from) (sym (part_is samples from there has))
        (subst (λ piece. Spells (from_read Two samples) piece from) all
        (then_spells number (λ part. chain (place_read (numbered_size samples part)) (end part)) (field_16 there.part) (place_field there.at ++ []) there.part from
        (spells_16 (part_rule (length samples)) there.part there.part (omega (arith, within, has.part, are.sizes_are.few))
        (λ at. part_ok (length samples) there.part at (omega (arith, has.part)) (omega (arith, within, has.part))))
        (place are.sizes_are)))

-- a choice
choice_spells : (choice : List Bool) → Spells (choice_read (length choice)) (choice_field choice) choice
choice_spells choice =
    let n = length choice in
    field_spells _ (choice_rule n) (choice_field choice) choice (length-map-range_with_len _ 0 _)
    (λ at. rw (bits_unused choice) (ap (λ bits. Ok bits) (bits_taken choice)))

-- flows
unsigned_small : (z : ℤ) → FitsSigned w16 z → cast_unsigned w16 z < 2 ^ 16
unsigned_small (pos n) fits = omega (arith, ints, fits)
unsigned_small (negsuc n) fits = omega (arith, ints, fits)

flow_spells : (flow : Flow) → IsShortFlow flow → Spells flow_read (flow_field flow) flow
flow_spells flow short =
    field_spells 4 flow_rule (flow_field flow) flow refl
    (λ at i. Ok (record { x = back flow.x short.0 i; y = back flow.y short.1 i }))
  where
    back : (z : ℤ) → FitsSigned w16 z → cast_signed w16 (number_of_two (signed_field z) 0) ≡ z
    back z fits = ap (cast_signed w16) (from_be_bytes-to_be_bytes_2 (cast_unsigned w16 z) (unsigned_small z fits)) ∙ to_z-of_z w16 z fits

-- a cut record, after boxes of so many cells
cut_spells : (version : Version) (samples : List Size) (before : ℕ) → AreSamples version samples → (cut : CutRecord) → IsCutInForm samples cut → HasShortFlows cut
    → before + cell_count cut.placement.rect.size ≤ MOST_BOX_CELLS → Spells (cut_read version samples before) (cut_form version samples cut) cut
unfolding cut_form
cut_spells version samples before are cut lawful short few =
    let corner = cut.placement.rect.corner in
    let size = cut.placement.rect.size in
    let from = cut.placement.from in
    let a = place_field corner in
    let b = box_size_field size in
    let c = from_field version samples from in
    let d = choice_field cut.choice in
    let e = flat_map flow_field cut.flows in
    let end = λ (p : At) (s : Size) (q : At) (xs : List Bool) (fs : List Flow).
    value_alone {A = CutRecord} (record { placement = record { rect = record { corner = p; size = s }; from = q }; choice = xs; flows = fs }) in
    let read_flows = λ (s : Size). list_read flow_read (pair_count s) in
    let read_choice = λ (s : Size). choice_read (cell_count s) in
    let read_from : ℕ → List ℕ → Result (At × ℕ) ReadError = from_read version samples in
    let read_box : ℕ → List ℕ → Result (Size × ℕ) ReadError = box_size_read before in
    let flows : Spells (read_flows size) e cut.flows =
    subst (λ n. Spells (list_read flow_read n) e cut.flows) lawful.flows (list_spells flow_read flow_field cut.flows (λ i x lt. flow_spells _ (short i x lt))) in
    let choice : Spells (read_choice size) d cut.choice = subst (λ n. Spells (choice_read n) d cut.choice) lawful.choice (choice_spells cut.choice) in
    let all : a ++ (b ++ (c ++ (d ++ (e ++ [])))) ≡ a ++ b ++ c ++ d ++ e =
    ap (λ t. a ++ (b ++ (c ++ (d ++ t)))) (append-nil e) ∙ ap (λ t. a ++ (b ++ t)) (sym (append_assoc c d e))
    ∙ ap (λ t. a ++ t) (sym (append_assoc b (c ++ d) e) ∙ ap (λ t. t ++ e) (sym (append_assoc b c d)))
    ∙ sym (append_assoc a (b ++ c ++ d) e) ∙ ap (λ t. t ++ e) (sym (append_assoc a (b ++ c) d) ∙ ap (λ t. t ++ d) (sym (append_assoc a b c))) in
    subst (λ piece. Spells (cut_read version samples before) piece cut) all
    (then_spells (field_read 6 corner_rule) (λ p. chain read_box (λ s. chain read_from (λ q. chain (read_choice s) (λ xs. chain (read_flows s) (end p s q xs)))))
    a (b ++ (c ++ (d ++ (e ++ [])))) corner cut (corner_spells corner lawful.corner)
    (then_spells read_box (λ s. chain read_from (λ q. chain (read_choice s) (λ xs. chain (read_flows s) (end corner s q xs))))
    b (c ++ (d ++ (e ++ []))) size cut (box_spells before size lawful.size few)
    (then_spells read_from (λ q. chain (read_choice size) (λ xs. chain (read_flows size) (end corner size q xs)))
    c (d ++ (e ++ [])) from cut (from_spells version samples are from lawful.from)
    (then_spells (read_choice size) (λ xs. chain (read_flows size) (end corner size from xs)) d (e ++ []) cut.choice cut choice
    (then_spells (read_flows size) (end corner size from cut.choice) e [] cut.flows cut flows (alone_spells cut))))))

-- a list, each of whose items is spelled in the light of those before
pub each_spells : {A : Type 0} (read : List A → ℕ → List ℕ → Result (A × ℕ) ReadError) (field : A → List ℕ) (xs : List A)
    → ((i : ℕ) (d : A) → i < length xs → Spells (read (take i xs)) (field (get_or xs i d)) (get_or xs i d))
    → Spells (each_read read (length xs)) (flat_map field xs) xs
each_spells {A = A} read field [] all = alone_spells []
each_spells {A = A} read field (x0 ∷ xs') all =
    subst (λ ys. Spells (each_read read (length xs)) (flat_map field ys) ys) (take_all (length xs) xs (omega arith)) (front (length xs) (omega arith))
  where
    xs : List A
    xs = x0 ∷ xs'

    front : (i : ℕ) → i ≤ length xs → Spells (each_read read i) (flat_map field (take i xs)) (take i xs)
    front zero le = alone_spells []
    front (suc i) le =
        let lt : i < length xs = omega arith in
        let x = get_or xs i x0 in
        let one = all i x0 lt in
        let more = then_spells (each_read read i) (λ ys. chain (read ys) (behind ys)) (flat_map field (take i xs)) (field x ++ []) (take i xs) (take i xs ++ x ∷ [])
        (front i (omega arith)) (then_spells (read (take i xs)) (behind (take i xs)) (field x) [] x (take i xs ++ x ∷ []) one (alone_spells (take i xs ++ x ∷ []))) in
        let next : take (suc i) xs ≡ take i xs ++ x ∷ [] = ap (λ n. take n xs) (sym (add-one i)) ∙ take_more xs i x0 lt in
        let spelled : flat_map field (take i xs) ++ (field x ++ []) ≡ flat_map field (take (suc i) xs) =
        ap (λ p. flat_map field (take i xs) ++ p) (append-nil (field x)) ∙ sym (fields_next field xs i x0 lt) ∙ ap (λ n. flat_map field (take n xs)) (add-one i) in
        subst (λ piece. Spells (each_read read (suc i)) piece (take (suc i) xs)) spelled
        (subst (λ ys. Spells (each_read read (suc i)) (flat_map field (take i xs) ++ (field x ++ [])) ys) (sym next) more)

-- the cells of the boxes up to one
cells_up_to : (cuts : List CutRecord) (i : ℕ) (d : CutRecord) → i < length cuts → box_cells (take i cuts) + cell_count (get_or cuts i d).placement.rect.size ≤ box_cells cuts
cells_up_to [] i d lt = absurd (omega arith)
cells_up_to (cut ∷ cuts) zero d lt = omega arith
cells_up_to (cut ∷ cuts) (suc i) d lt = omega (arith, cells_up_to cuts i d (omega arith))

cuts_spell : (head : Head) (cuts : List CutRecord) → AreCutsInLimits head cuts → All HasShortFlows cuts
    → Spells (cuts_read head.version head.samples (length cuts)) (flat_map (cut_form head.version head.samples) cuts) cuts
cuts_spell head cuts lawful short =
    each_spells (λ front. cut_read head.version head.samples (box_cells front)) (cut_form head.version head.samples) cuts
    (λ i d lt.
    cut_spells head.version head.samples (box_cells (take i cuts)) lawful.form.head_is.samples_are (get_or cuts i d) (lawful.form.each i d lt) (short i d lt)
    (omega (arith, cells_up_to cuts i d lt, lawful.cells)))

any_version : (version : Version) → IsVersion versions version
any_version One = omega arith
any_version Two = omega arith

-- the head and its kind
pub head_spells : (kind : ℕ) (head : Head) → IsHead head → IsKind kinds head.version kind → Spells (head_read record_magic versions kinds) (head_form record_magic kind head) (head, kind)
head_spells kind head is kind_is =
    let taken = any_version head.version in
    let start : Start = record { version = head.version; kind = kind; output = head.output } in
    let value : Head × ℕ = (head, kind) in
    let end = λ (s : Start) (samples : List Size). value_alone {A = Head × ℕ} (record { output = s.output; samples = samples; version = s.version }, s.kind) in
    let form = start_form record_magic kind head.version head.output in
    let sizes = sizes_field head.version head.samples in
    subst (λ piece. Spells (head_read record_magic versions kinds) piece value) (ap (λ t. form ++ t) (append-nil sizes))
    (then_spells (start_read record_magic versions kinds) (λ s. chain (sizes_read s.version) (end s)) form (sizes ++ []) start value
    (start_spells record_magic versions kinds kind head.version head.output refl refl taken kind_is is.output_axes)
    (then_spells (sizes_read head.version) (end start) sizes [] head.samples value (sizes_spell head.version head.samples is.samples_are) (alone_spells value)))

cuts_kind_is : (version : Version) → IsKind kinds version cuts_kind
cuts_kind_is One = refl
cuts_kind_is Two = refl

-- wherever the piece is, its value is read where it ends the bytes, and no other value is read
pub record EndsAs {A : Type 0} (read : ℕ → List ℕ → Result A ReadError) (piece : List ℕ) (x : A) : Type 0 where
  pub whole : (at : ℕ) (bytes : List ℕ) → StandsAt at piece bytes → length bytes ≡ at + length piece → read at bytes ≡ Ok x
  pub alone : (at : ℕ) (bytes : List ℕ) (other : A) → StandsAt at piece bytes → read at bytes ≡ Ok other → x ≡ other

pub then_ends : {A B : Type 0} (first : ℕ → List ℕ → Result (A × ℕ) ReadError) (second : A → ℕ → List ℕ → Result B ReadError) (p q : List ℕ) (x : A) (y : B)
    → Spells first p x → EndsAs (second x) q y → EndsAs (chain_to_end first second) (p ++ q) y
then_ends {B = B} first second p q x y one two = record { whole = whole; alone = alone }
  where
    both : (at : ℕ) (bytes : List ℕ) → StandsAt at (p ++ q) bytes → chain_to_end first second at bytes ≡ second x (at + length p) bytes
    both at bytes stands = ap (λ r. r >>= λ z. second z.0 z.1 bytes) (one at bytes (stands_split at p q bytes stands).0)

    whole : (at : ℕ) (bytes : List ℕ) → StandsAt at (p ++ q) bytes → length bytes ≡ at + length (p ++ q) → chain_to_end first second at bytes ≡ Ok y
    whole at bytes stands end =
        both at bytes stands ∙ two.whole (at + length p) bytes (stands_split at p q bytes stands).1 (omega (arith, end, length-append p q))

    alone : (at : ℕ) (bytes : List ℕ) (other : B) → StandsAt at (p ++ q) bytes → chain_to_end first second at bytes ≡ Ok other → y ≡ other
    alone at bytes other stands is = two.alone (at + length p) bytes other (stands_split at p q bytes stands).1 (sym (both at bytes stands) ∙ is)

pub value_ends : {A : Type 0} (x : A) → EndsAs (value_at_end x) [] x
value_ends {A = A} x = record { whole = whole; alone = alone }
  where
    whole : (at : ℕ) (bytes : List ℕ) → StandsAt at [] bytes → length bytes ≡ at + 0 → value_at_end x at bytes ≡ Ok x
    whole at bytes stands end = let here : nat_le (length bytes) at ≡ true = le-leb (length bytes) at (omega (arith, end)) in rw here refl

    alone : (at : ℕ) (bytes : List ℕ) (other : A) → StandsAt at [] bytes → value_at_end x at bytes ≡ Ok other → x ≡ other
    alone at bytes other stands is = same_value x other (peel {A = Unit {0}} {C = A} (end_rule at bytes) (λ end. Ok x) other is).two

-- a whole file
abbrev pub IsFileOf : List ℕ → RecordFile → Type 0
IsFileOf piece value = EndsAs (chain_to_end (head_read record_magic versions kinds) (λ head. records_read head.1 head.0)) piece value

pub file_again : (bytes : List ℕ) (value : RecordFile) → IsFileOf bytes value → record_file_read bytes ≡ Ok value
file_again bytes value is =
    let whole : StandsAt 0 bytes bytes = record { is = sym (take_all (length bytes) bytes (omega arith)); within = omega arith } in
    is.whole 0 bytes whole (omega arith)

pub file_alone : (piece more : List ℕ) (value other : RecordFile) → IsFileOf piece value → record_file_read (piece ++ more) ≡ Ok other → value ≡ other
file_alone piece more value other is read =
    let bytes = piece ++ more in
    let whole : StandsAt 0 bytes bytes = record { is = sym (take_all (length bytes) bytes (omega arith)); within = omega arith } in
    is.alone 0 bytes other (stands_split 0 piece more bytes whole).0 read

pub cuts_end : (head : Head) (cuts : List CutRecord) → AreCutsInLimits head cuts → All HasShortFlows cuts → IsFileOf (cuts_form head cuts) (Cuts head cuts)
cuts_end head cuts lawful short =
    let form = cut_form head.version head.samples in
    let value = Cuts head cuts in
    let h = head_form record_magic cuts_kind head in
    let n = field_32 (length cuts) in
    let c = flat_map form cuts in
    let all : h ++ (n ++ (c ++ [])) ≡ cuts_form head cuts = ap (λ t. h ++ (n ++ t)) (append-nil c) ∙ sym (append_assoc h n c) in
    let read : IsFileOf (h ++ (n ++ (c ++ []))) value =
    then_ends (head_read record_magic versions kinds) (λ head. records_read head.1 head.0) h (n ++ (c ++ [])) (head, cuts_kind) value (head_spells cuts_kind head lawful.form.head_is (cuts_kind_is head.version))
    (then_ends (number_read w32 any_rule) (λ n. chain_to_end (cuts_read head.version head.samples n) (λ cuts. value_at_end (Cuts head cuts))) n (c ++ []) (length cuts) value
    (spells_32 any_rule (length cuts) (length cuts) lawful.form.count (λ at. refl))
    (then_ends (cuts_read head.version head.samples (length cuts)) (λ cuts. value_at_end (Cuts head cuts)) c [] cuts value (cuts_spell head cuts lawful short) (value_ends value))) in
    subst (λ bytes. IsFileOf bytes value) all read

pub cuts_again : (head : Head) (cuts : List CutRecord) → AreReadAgain head cuts
cuts_again head cuts lawful short = file_again (cuts_form head cuts) (Cuts head cuts) (cuts_end head cuts lawful short)
