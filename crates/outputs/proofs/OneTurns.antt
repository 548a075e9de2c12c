-- A map file is in its form with one value of `turns` alone: with turns it is of version 2 and kind 2,
-- and without them of version 1 or of kind 0.
use Rattle.std.proofs.Common.{◌≡◌, ℕ, ◌+◌, Bool, true, false, List, [], ◌∷◌, ◌++◌, length, refl, sym, ap, ◌∙◌, subst, arith}
use Rattle.std.proofs.lemmas.List.{take_all}
use Rattle.std.specs.Int.{w8, from_be_bytes}
use Rattle.std.specs.List.{flat_map}
use Rattle.std.specs.Prelude.{Result, Ok, Err}
use Rattle.cells.specs.declared.place.Size.{Size}
use Rattle.file_bytes.specs.Reading.{StandsAt}
use Rattle.map_canvas.specs.Maps.{SourceMap}
use Rattle.shelf_traits.specs.declared.fault.FormFault.TheVariants.{Form}
use Rattle.shelf_traits.specs.declared.fault.ReadError.{ReadError}
use Rattle.shelf_traits.specs.declared.fault.ReadError.TheVariants.{Bad}
use Rattle.source_map.specs.declared.head.Version.{Version}
use Rattle.source_map.specs.declared.head.Version.TheVariants.{One, Two}
use Rattle.source_map.specs.declared.head_reading.Start.{Start}
use Rattle.source_map.specs.declared.map_file.MapFile.{MapFile}
use Rattle.source_map.specs.Heads.{kind_rule, magic_rule, size_field, size_read, sizes_field, version_number, version_rule}
use Rattle.source_map.specs.MapFiles.{body_read, cell_map_form, end_read, map_magic, map_read, same_rule, source_field, value_read}
use Rattle.source_map.specs.Readings.{◌>>=◌, field_read, number_read, number_rule}
use Rattle.source_map.proofs.Again.{Spells, field_spells, spells_8, stands_split}
use Rattle.source_map.proofs.FieldLaws.{chain, field_whole, value_alone}
use Rattle.turned_map.specs.declared.turned_file.TurnedFile.{TurnedFile}
use Rattle.turned_map.specs.TurnedFiles.{turned_body_read, turned_map_form, turned_map_read, turned_source, turned_value_read}
use Rattle.check_command.specs.Checks.{of_turned, run_map_read}
use Rattle.outputs.specs.GrownMaps.{map_text, version_of}

abbrev Fails : {A : Type 0} → Result A ReadError → Type 0
Fails (Ok x) = ⊥
Fails (Err refusal) = Unit {0}

-- wherever the piece is, it is refused
abbrev Refused : {A : Type 0} → (ℕ → List ℕ → Result (A × ℕ) ReadError) → List ℕ → Type 0
Refused read piece = (at : ℕ) (bytes : List ℕ) → StandsAt at piece bytes → Fails (read at bytes)

fails_on : {A B : Type 0} (r : Result A ReadError) (next : A → Result B ReadError) → Fails r → Fails (r >>= next)
fails_on (Ok x) next fails = absurd fails
fails_on (Err refusal) next fails = tt

then_refused : {A B : Type 0} (first : ℕ → List ℕ → Result (A × ℕ) ReadError) (second : A → ℕ → List ℕ → Result (B × ℕ) ReadError) (p q : List ℕ) (x : A)
    → Spells first p x → Refused (second x) q → Refused (chain first second) (p ++ q)
then_refused first second p q x one two at bytes stands =
    let parts = stands_split at p q bytes stands in
    subst (λ r. Fails (r >>= λ z. second z.0 z.1 bytes)) (sym (one at bytes parts.0)) (two (at + length p) bytes parts.1)

first_refused : {A B : Type 0} (first : ℕ → List ℕ → Result (A × ℕ) ReadError) (second : A → ℕ → List ℕ → Result (B × ℕ) ReadError) (p q : List ℕ)
    → Refused first p → Refused (chain first second) (p ++ q)
first_refused first second p q one at bytes stands =
    fails_on (first at bytes) (λ z. second z.0 z.1 bytes) (one at bytes (stands_split at p q bytes stands).0)

mark_refused : {A : Type 0} (rule : ℕ → ℕ → Result A ReadError) (k : ℕ) → ((at : ℕ) → rule at k ≡ Err (Bad (Form at))) → Refused (number_read w8 rule) (k ∷ [])
mark_refused rule k is at bytes stands =
    let same : from_be_bytes w8 (k ∷ []) ≡ k = omega arith in
    subst Fails (sym (field_whole 1 at (number_rule w8 rule) (k ∷ []) bytes (Err (Bad (Form at))) refl stands (sym (ap (rule at) same ∙ is at)))) tt

whole : (bytes : List ℕ) → StandsAt 0 bytes bytes
whole bytes = record { is = sym (take_all (length bytes) bytes (omega arith)); within = omega arith }

-- what follows the magic
after_magic : {B : Type 0} (next : ℕ → List ℕ → Result (B × ℕ) ReadError) (rest : List ℕ) → Refused next rest → Refused (chain (field_read 8 (magic_rule map_magic)) (λ magic. next)) (map_magic ++ rest)
after_magic next rest refused =
    then_refused (field_read 8 (magic_rule map_magic)) (λ magic. next) map_magic rest tt (field_spells 8 (magic_rule map_magic) map_magic tt refl (λ at. refl)) refused

-- A map with turns isn't one without them.

turned_refused : (m : SourceMap) (samples : List Size) → Fails (map_read (turned_map_form m samples))
turned_refused m samples =
    let rest = (size_field m.size ++ sizes_field Two samples) ++ flat_map (turned_source samples) m.sources in
    let bytes = map_magic ++ ((2 ∷ []) ++ ((2 ∷ []) ++ rest)) in
    let output = λ (version : Version) (kind : ℕ). chain size_read (λ size. value_alone {A = Start} (record { version = version; kind = kind; output = size })) in
    let kinds = λ (version : Version). chain (number_read w8 (kind_rule 2 version)) (output version) in
    let start = after_magic (chain (number_read w8 (version_rule 2)) kinds) ((2 ∷ []) ++ ((2 ∷ []) ++ rest))
    (then_refused (number_read w8 (version_rule 2)) kinds (2 ∷ []) ((2 ∷ []) ++ rest) Two (spells_8 (version_rule 2) 2 Two (λ at. refl))
    (first_refused (number_read w8 (kind_rule 2 Two)) (output Two) (2 ∷ []) rest (mark_refused (kind_rule 2 Two) 2 (λ at. refl)))) in
    fails_on (value_read 0 bytes) (λ value. end_read value.1 bytes >>= λ end. Ok value.0)
    (fails_on (chain (field_read 8 (magic_rule map_magic)) (λ magic. chain (number_read w8 (version_rule 2)) kinds) 0 bytes) (λ begins. body_read begins.0 begins.1 bytes) (start 0 bytes (whole bytes)))

-- A map without turns isn't one with them.

mark : ℕ → List ℕ → Result (ℕ × ℕ) ReadError
mark = number_read w8 (same_rule 2)

cells_start : (version : Version) (rest : List ℕ) → Refused (chain mark (λ version. chain mark (λ kind. size_read))) ((version_number version ∷ []) ++ ((0 ∷ []) ++ rest))
unfolding mark
cells_start One rest = first_refused mark (λ version. chain mark (λ kind. size_read)) (1 ∷ []) ((0 ∷ []) ++ rest) (mark_refused (same_rule 2) 1 (λ at. refl))
cells_start Two rest =
    then_refused mark (λ version. chain mark (λ kind. size_read)) (2 ∷ []) ((0 ∷ []) ++ rest) 2 (spells_8 (same_rule 2) 2 2 (λ at. refl))
    (first_refused mark (λ kind. size_read) (0 ∷ []) rest (mark_refused (same_rule 2) 0 (λ at. refl)))

cells_refused : (m : SourceMap) (samples : List Size) (version : Version) → Fails (turned_map_read (cell_map_form m samples version))
unfolding mark
cells_refused m samples version =
    let rest = size_field m.size ++ (sizes_field version samples ++ flat_map (source_field version samples) m.sources) in
    let bytes = map_magic ++ ((version_number version ∷ []) ++ ((0 ∷ []) ++ rest)) in
    let marks = chain mark (λ version. chain mark (λ kind. size_read)) in
    fails_on (turned_value_read 0 bytes) (λ value. end_read value.1 bytes >>= λ end. Ok value.0)
    (fails_on (chain (field_read 8 (magic_rule map_magic)) (λ magic. marks) 0 bytes) (λ output. turned_body_read output.0 output.1 bytes)
    (after_magic marks ((version_number version ∷ []) ++ ((0 ∷ []) ++ rest)) (cells_start version rest) 0 bytes (whole bytes)))

of_turned_fails : (r : Result TurnedFile ReadError) → Fails r → Fails (of_turned r)
of_turned_fails (Ok file) fails = fails
of_turned_fails (Err refusal) fails = tt

pub one_turns : (turns other : Bool) (m : SourceMap) (samples : List Size) (value : MapFile) → run_map_read other (map_text turns m samples) ≡ Ok value → other ≡ turns
one_turns false false m samples value is = refl
one_turns true true m samples value is = refl
one_turns true false m samples value is = absurd (subst Fails is (turned_refused m samples))
one_turns false true m samples value is =
    absurd (subst Fails is (of_turned_fails (turned_map_read (cell_map_form m samples (version_of samples))) (cells_refused m samples (version_of samples))))
