-- A walk record that is spelled is read again.
use Rattle.std.proofs.Common.{◌≡◌, true, false, ℕ, ◌+◌, ◌≤◌, List, [], ◌∷◌, ◌++◌, length, refl, sym, ap, ◌∙◌, subst, append_assoc, arith}
use Rattle.std.proofs.lemmas.Bool.{le-leb, lt-leb}
use Rattle.std.proofs.lemmas.List.{append-nil}
use Rattle.std.specs.Bool.{nat_eq}
use Rattle.std.specs.Int.{w8, w16, w32, w64}
use Rattle.std.specs.Prelude.{Result, Ok, nat_le, nat_lt}
use Rattle.limits.specs.declared.bounds.TheConstants.{LONGEST_LOOP, MOST_LOOP_FRAMES, WIDEST_GAP}
use Rattle.shelf_traits.specs.declared.fault.ReadError.{ReadError}
use Rattle.cells.specs.declared.place.Taps.{Taps}
use Rattle.cells.specs.declared.place.Taps.TheVariants.{Four, None0, Two}
use Rattle.file_bytes.specs.Fields.{field_16, field_32, fields_16, fields_64}
use Rattle.source_map.specs.declared.head.Head.{Head}
use Rattle.source_map.specs.Heads.{IsKind, head_form, head_read}
use Rattle.source_map.specs.Readings.{list_read, number_read}
use Rattle.source_map.proofs.Again.{Spells, alone_spells, not_equal, spells_16, spells_32, spells_8, then_spells}
use Rattle.source_map.proofs.FieldLaws.{chain, value_alone}
use Rattle.cert_file.specs.declared.file.RecordFile.TheVariants.{Walk}
use Rattle.cert_file.specs.declared.walk_fields.WalkStart.{WalkStart}
use Rattle.cert_file.specs.RecordFiles.{IsWalkReadAgain, kinds, record_magic, records_read, versions, walk_file_form, walk_kind}
use Rattle.cert_file.specs.Rules.{any_rule}
use Rattle.cert_file.specs.WalkForms.{AreWide, IsWalkInForm, table_entries, frames_of, taps_number, walk_form, walk_start_form}
use Rattle.cert_file.specs.WalkReading.{few_frames_read, frames_rule, gap_rule, length_rule, taps_rule, walk_file_read, walk_start_read}
use Rattle.cert_file.proofs.CutsAgain.{EndsAs, IsFileOf, file_again, head_spells, ruled_spells, then_ends, value_ends}
use Rattle.cert_file.proofs.NumberLists.{spells_all_16, spells_all_64}
use Rattle.cert_file.proofs.RecordReading.{chain_to_end, value_at_end}

length_spells : (n : ℕ) → 1 ≤ n → n ≤ LONGEST_LOOP → Spells (number_read w32 length_rule) (field_32 n) n
length_spells n lo hi =
    let some : nat_eq n 0 ≡ false = not_equal n 0 (λ e. omega arith) in
    let low : nat_le n LONGEST_LOOP ≡ true = le-leb n LONGEST_LOOP hi in
    spells_32 length_rule n n (omega arith) (λ at. rw (some, low) refl)

taps_spell : (taps : Taps) → Spells (number_read w8 taps_rule) (taps_number taps ∷ []) taps
taps_spell None0 = spells_8 taps_rule 0 None0 (λ at. refl)
taps_spell Two = spells_8 taps_rule 2 Two (λ at. refl)
taps_spell Four = spells_8 taps_rule 4 Four (λ at. refl)

gap_spells : (n : ℕ) → 1 ≤ n → n ≤ WIDEST_GAP → Spells (number_read w16 gap_rule) (field_16 n) n
gap_spells n lo hi =
    let some : nat_eq n 0 ≡ false = not_equal n 0 (λ e. omega arith) in
    let low : nat_lt WIDEST_GAP n ≡ false = lt-leb (WIDEST_GAP + 1) n (omega arith) in
    spells_16 gap_rule n n (omega arith) (λ at. rw (some, low) refl)

start_spells : (len : ℕ) (taps : Taps) (gap : ℕ) → 1 ≤ len → len ≤ LONGEST_LOOP → 1 ≤ gap → gap ≤ WIDEST_GAP
    → Spells walk_start_read (walk_start_form len taps gap) (record { length = len; taps = taps; gap = gap })
start_spells len taps gap len_lo len_hi gap_lo gap_hi =
    let value : WalkStart = record { length = len; taps = taps; gap = gap } in
    let end = λ (len : ℕ) (taps : Taps) (gap : ℕ). value_alone {A = WalkStart} (record { length = len; taps = taps; gap = gap }) in
    let ra : ℕ → List ℕ → Result (ℕ × ℕ) ReadError = number_read w32 length_rule in
    let rb : ℕ → List ℕ → Result (Taps × ℕ) ReadError = number_read w8 taps_rule in
    let rc : ℕ → List ℕ → Result (ℕ × ℕ) ReadError = number_read w16 gap_rule in
    let a = field_32 len in
    let b = taps_number taps ∷ [] in
    let c = field_16 gap in
    let all : a ++ (b ++ (c ++ [])) ≡ a ++ b ++ c = ap (λ t. a ++ (b ++ t)) (append-nil c) ∙ sym (append_assoc a b c) in
    subst (λ piece. Spells walk_start_read piece value) all
    (then_spells ra (λ x. chain rb (λ y. chain rc (end x y))) a (b ++ (c ++ [])) len value (length_spells len len_lo len_hi)
    (then_spells rb (λ y. chain rc (end len y)) b (c ++ []) taps value (taps_spell taps)
    (then_spells rc (end len taps) c [] gap value (gap_spells gap gap_lo gap_hi) (alone_spells value))))

pub walk_end : (head : Head) (taps : Taps) (gap : ℕ) (walk tables : List ℕ) → IsWalkInForm head gap walk tables → AreWide walk tables
    → IsFileOf (walk_file_form head taps gap walk tables) (Walk head taps gap walk tables)
unfolding walk_form
walk_end head taps gap walk tables lawful wide =
    let value = Walk head taps gap walk tables in
    let start : WalkStart = record { length = length walk; taps = taps; gap = gap } in
    let h = head_form record_magic walk_kind head in
    let s = walk_start_form (length walk) taps gap in
    let a = fields_16 walk in
    let b = fields_64 tables in
    let few : nat_le (frames_of head) MOST_LOOP_FRAMES ≡ true = le-leb (frames_of head) MOST_LOOP_FRAMES lawful.frames in
    let fits : frames_rule (frames_of head) ≡ Ok tt = rw few refl in
    let read_walk = λ (n : ℕ). list_read (number_read w16 any_rule) n in
    let read_tables = λ (n : ℕ). list_read (number_read w64 any_rule) (table_entries head n) in
    let end = λ (start : WalkStart) (walk tables : List ℕ). value_at_end (Walk head start.taps start.gap walk tables) in
    let all : h ++ (s ++ (a ++ (b ++ []))) ≡ walk_file_form head taps gap walk tables =
    ap (λ t. h ++ (s ++ (a ++ t))) (append-nil b) ∙ ap (λ t. h ++ t) (sym (append_assoc s a b)) in
    let walk_is : Spells (read_walk (length walk)) a walk = spells_all_16 walk wide.frames in
    let tables_are : Spells (read_tables (length walk)) b tables =
    subst (λ n. Spells (list_read (number_read w64 any_rule) n) b tables) lawful.entries (spells_all_64 tables wide.entries) in
    let body : EndsAs (walk_file_read head) (s ++ (a ++ (b ++ []))) value =
    then_ends (few_frames_read (frames_of head)) (λ few. chain_to_end walk_start_read (λ s. chain_to_end (read_walk s.length) (λ w. chain_to_end (read_tables s.length) (end s w)))) [] (s ++ (a ++ (b ++ []))) tt value
    (ruled_spells (frames_rule (frames_of head)) tt fits)
    (then_ends walk_start_read (λ s. chain_to_end (read_walk s.length) (λ w. chain_to_end (read_tables s.length) (end s w))) s (a ++ (b ++ [])) start value
    (start_spells (length walk) taps gap lawful.len.0 lawful.len.1 lawful.gap_from lawful.gap_to)
    (then_ends (read_walk (length walk)) (λ w. chain_to_end (read_tables (length walk)) (end start w)) a (b ++ []) walk value walk_is
    (then_ends (read_tables (length walk)) (end start walk) b [] tables value tables_are (value_ends value)))) in
    let read : IsFileOf (h ++ (s ++ (a ++ (b ++ [])))) value =
    then_ends (head_read record_magic versions kinds) (λ head. records_read head.1 head.0) h (s ++ (a ++ (b ++ []))) (head, walk_kind) value
    (head_spells walk_kind head lawful.head_is (subst (λ v. IsKind kinds v walk_kind) (sym lawful.version) refl)) body in
    subst (λ bytes. IsFileOf bytes value) all read

pub walk_again : (head : Head) (taps : Taps) (gap : ℕ) (walk tables : List ℕ) → IsWalkReadAgain head taps gap walk tables
walk_again head taps gap walk tables lawful wide =
    file_again (walk_file_form head taps gap walk tables) (Walk head taps gap walk tables) (walk_end head taps gap walk tables lawful wide)
