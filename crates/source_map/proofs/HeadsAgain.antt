-- A head that is spelled is read again.
use Rattle.std.proofs.Common.{◌≡◌, true, false, ℕ, suc, ◌≤◌, List, [], ◌∷◌, ◌++◌, length, refl, sym, ap, ◌∙◌, subst, append_assoc, arith}
use Rattle.std.proofs.lemmas.Bool.{le-leb, lt-leb}
use Rattle.std.proofs.lemmas.List.{append-nil}
use Rattle.std.proofs.lemmas.List.Elements.{All-from_recursion}
use Rattle.std.specs.Bool.{nat_eq}
use Rattle.std.specs.Cmp.Lexicographic.{pointwise}
use Rattle.std.specs.Int.{w8, w16, w32}
use Rattle.std.specs.List.{flat_map, AllByRecursion}
use Rattle.std.specs.Prelude.{Result, Ok, Err, nat_lt, nat_le, if◌then◌else◌}
use Rattle.limits.specs.declared.bounds.TheConstants.{GREATEST_AXIS}
use Rattle.shelf_traits.specs.declared.fault.FormFault.TheVariants.{Form}
use Rattle.shelf_traits.specs.declared.fault.ReadError.{ReadError}
use Rattle.shelf_traits.specs.declared.fault.ReadError.TheVariants.{Bad}
use Rattle.cells.specs.declared.place.Size.{Size}
use Rattle.cells.specs.Places.{HasAxes}
use Rattle.file_bytes.specs.Fields.{field_16, field_32}
use Rattle.source_map.specs.declared.head.Version.{Version}
use Rattle.source_map.specs.declared.head.Version.TheVariants.{One, Two}
use Rattle.source_map.specs.declared.head_reading.Start.{Start}
use Rattle.source_map.specs.Heads.{AreSamples, IsKind, IsVersion, axis_rule, count_rule, kind_rule, magic_rule, size_field, size_read, sizes_field, sizes_read, start_form, start_read, version_number, version_rule}
use Rattle.source_map.specs.Readings.{field_read, list_read, number_read}
use Rattle.source_map.proofs.FieldLaws.{chain, value_alone}
use Rattle.source_map.proofs.Again.{Spells, alone_spells, field_spells, list_spells, not_equal, spells_16, spells_32, spells_8, then_spells}

axis_ok : (n at : ℕ) → 1 ≤ n → n ≤ GREATEST_AXIS → axis_rule at n ≡ Ok n
axis_ok n at lo hi =
    let some : nat_eq n 0 ≡ false = not_equal n 0 (λ e. omega arith) in
    let low : nat_le n GREATEST_AXIS ≡ true = le-leb n GREATEST_AXIS hi in
    rw (some, low) refl

pub axis_spells : (n : ℕ) → 1 ≤ n → n ≤ GREATEST_AXIS → Spells (number_read w32 axis_rule) (field_32 n) n
axis_spells n lo hi = spells_32 axis_rule n n (omega arith) (λ at. axis_ok n at lo hi)

pub size_spells : (size : Size) → HasAxes size → Spells size_read (size_field size) size
size_spells size axes =
    let axis : ℕ → List ℕ → Result (ℕ × ℕ) ReadError = number_read w32 axis_rule in
    let end = λ (w h f : ℕ). value_alone {A = Size} (record { w = w; h = h; f = f }) in
    let w = field_32 size.w in
    let h = field_32 size.h in
    let f = field_32 size.f in
    let all : w ++ (h ++ (f ++ [])) ≡ w ++ h ++ f = ap (λ t. w ++ (h ++ t)) (append-nil f) ∙ sym (append_assoc w h f) in
    subst (λ piece. Spells size_read piece size) all
    (then_spells axis (λ a. chain axis (λ b. chain axis (end a b))) w (h ++ (f ++ [])) size.w size (axis_spells size.w axes.w.0 axes.w.1)
    (then_spells axis (λ b. chain axis (end size.w b)) h (f ++ []) size.h size (axis_spells size.h axes.h.0 axes.h.1)
    (then_spells axis (end size.w size.h) f [] size.f size (axis_spells size.f axes.f.0 axes.f.1) (alone_spells size))))

list_of_sizes : (sizes : List Size) → AllByRecursion HasAxes sizes → Spells (list_read size_read (length sizes)) (flat_map size_field sizes) sizes
list_of_sizes sizes axes = list_spells size_read size_field sizes (λ i d lt. size_spells _ (All-from_recursion HasAxes sizes axes i d lt))

count_ok : (n at : ℕ) → 1 ≤ n → n ≤ 16 → count_rule at n ≡ Ok n
count_ok n at lo hi =
    let some : nat_eq n 0 ≡ false = not_equal n 0 (λ e. omega arith) in
    let low : nat_lt 16 n ≡ false = lt-leb 17 n (omega arith) in
    rw (some, low) refl

pub sizes_spell : (version : Version) (sizes : List Size) → AreSamples version sizes → Spells (sizes_read version) (sizes_field version sizes) sizes
sizes_spell One sizes are = subst (λ n. Spells (list_read size_read n) (flat_map size_field sizes) sizes) (are.one refl) (list_of_sizes sizes are.sizes_are.axes)
sizes_spell Two sizes are =
    then_spells (number_read w16 count_rule) (list_read size_read) (field_16 (length sizes)) (flat_map size_field sizes) (length sizes) sizes
    (spells_16 count_rule (length sizes) (length sizes) (omega (arith, are.sizes_are.few)) (λ at. count_ok (length sizes) at are.sizes_are.some are.sizes_are.few))
    (list_of_sizes sizes are.sizes_are.axes)

version_ok : (versions : ℕ) (version : Version) (at : ℕ) → IsVersion versions version → version_rule versions at (version_number version) ≡ Ok version
version_ok versions version at taken =
    let low : nat_lt versions (version_number version) ≡ false = lt-leb (suc versions) (version_number version) (omega arith) in
    rw low (by version)
  where
    by : (version : Version) → (if nat_eq (version_number version) 1 then Ok One else (if nat_eq (version_number version) 2 then Ok Two else Err (Bad (Form at)))) ≡ Ok version
    by One = refl
    by Two = refl

pub start_spells : (magic : List ℕ) (versions kinds kind : ℕ) (version : Version) (output : Size) → length magic ≡ 8 → pointwise nat_eq magic magic ≡ true → IsVersion versions version → IsKind kinds version kind → HasAxes output
    → Spells (start_read magic versions kinds) (start_form magic kind version output) (record { version = version; kind = kind; output = output })
start_spells magic versions kinds kind version output count same taken is axes =
    let start : Start = record { version = version; kind = kind; output = output } in
    let end = λ (v : Version) (k : ℕ) (o : Size). value_alone {A = Start} (record { version = v; kind = k; output = o }) in
    let v = version_number version in
    let size = size_field output in
    let all : magic ++ v ∷ kind ∷ (size ++ []) ≡ magic ++ v ∷ kind ∷ [] ++ size =
    ap (λ t. magic ++ v ∷ kind ∷ t) (append-nil size) ∙ sym (append_assoc magic (v ∷ kind ∷ []) size) in
    subst (λ piece. Spells (start_read magic versions kinds) piece start) all
    (then_spells (field_read 8 (magic_rule magic)) (λ m. chain (number_read w8 (version_rule versions)) (λ v. chain (number_read w8 (kind_rule kinds v)) (λ k. chain size_read (end v k))))
    magic (v ∷ kind ∷ (size ++ [])) tt start (field_spells 8 (magic_rule magic) magic tt count (λ at. rw same refl))
    (then_spells (number_read w8 (version_rule versions)) (λ v. chain (number_read w8 (kind_rule kinds v)) (λ k. chain size_read (end v k)))
    (v ∷ []) (kind ∷ (size ++ [])) version start (spells_8 (version_rule versions) v version (λ at. version_ok versions version at taken))
    (then_spells (number_read w8 (kind_rule kinds version)) (λ k. chain size_read (end version k))
    (kind ∷ []) (size ++ []) kind start (spells_8 (kind_rule kinds version) kind kind (λ at. rw is refl))
    (then_spells size_read (end version kind) size [] output start (size_spells output axes) (alone_spells start)))))
