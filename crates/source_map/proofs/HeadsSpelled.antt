-- A head that was read is spelled there.
use Rattle.std.proofs.Common.{◌≡◌, true, false, ℕ, List, [], ◌∷◌, ◌++◌, refl, sym, ap, ◌∙◌, subst}
use Rattle.std.proofs.lemmas.Bool.{eqb-true}
use Rattle.std.specs.Bool.{nat_eq}
use Rattle.std.specs.Cmp.Lexicographic.{pointwise}
use Rattle.std.specs.Int.{from_be_bytes, w8, w16, w32}
use Rattle.std.specs.List.{flat_map}
use Rattle.std.specs.Prelude.{◌||◌, Bool, Result, Ok, Err, nat_lt, nat_le, if◌then◌else◌}
use Rattle.limits.specs.declared.bounds.TheConstants.{GREATEST_AXIS}
use lib.Pointwise.{bytes_decides}
use Rattle.shelf_traits.specs.declared.fault.FormFault.TheVariants.{Form}
use Rattle.shelf_traits.specs.declared.fault.ReadError.{ReadError}
use Rattle.shelf_traits.specs.declared.fault.ReadError.TheVariants.{Bad, Limit}
use Rattle.shelf_traits.specs.declared.fault.What.TheVariants.{Axis}
use Rattle.cells.specs.declared.place.Size.{Size}
use Rattle.file_bytes.specs.Fields.{field_16, field_32}
use Rattle.source_map.specs.declared.head.Head.{Head}
use Rattle.source_map.specs.declared.head.Version.{Version}
use Rattle.source_map.specs.declared.head.Version.TheVariants.{One, Two}
use Rattle.source_map.specs.declared.head_reading.Start.{Start}
use Rattle.source_map.specs.Heads.{IsKind, axis_rule, count_rule, head_form, head_read, is_kind, kind_rule, magic_rule, size_field, size_read, sizes_field, sizes_read, start_form, start_read, version_number, version_rule}
use Rattle.source_map.specs.Readings.{◌>>=◌, field_read, list_read, number_read, piece_read}
use Rattle.source_map.proofs.Spelled.{Spelled, Stood, both_stood, ended, field_stood, list_count, list_stood, number_16_stood, number_32_stood, number_8_stood, otherwise, passed, peel, same_first, same_value}

axis_code : (at n x : ℕ) → axis_rule at n ≡ Ok x → n ≡ x
axis_code at n x is =
    let some = otherwise (nat_eq n 0) (if nat_le n GREATEST_AXIS then Ok n else Err (Limit Axis n GREATEST_AXIS)) x (Bad (Form at)) is in
    (passed (nat_le n GREATEST_AXIS) n x (Limit Axis n GREATEST_AXIS) some.1).1

pub axis_stood : Spelled (number_read w32 axis_rule) (λ n. field_32 n)
axis_stood = number_32_stood axis_rule (λ n. n) axis_code

pub size_stood : Spelled size_read size_field
size_stood at bytes size end small le is =
    let axis : ℕ → List ℕ → Result (ℕ × ℕ) ReadError = number_read w32 axis_rule in
    let a = peel {A = ℕ × ℕ} {C = Size × ℕ} (axis at bytes) (λ w. axis w.1 bytes >>= λ h. axis h.1 bytes >>= λ f. Ok (record { w = w.0; h = h.0; f = f.0 }, f.1)) (size, end) is in
    let b = peel {A = ℕ × ℕ} {C = Size × ℕ} (axis a.x.1 bytes) (λ h. axis h.1 bytes >>= λ f. Ok (record { w = a.x.0; h = h.0; f = f.0 }, f.1)) (size, end) a.two in
    let c = peel {A = ℕ × ℕ} {C = Size × ℕ} (axis b.x.1 bytes) (λ f. Ok (record { w = a.x.0; h = b.x.0; f = f.0 }, f.1)) (size, end) b.two in
    let w = axis_stood at bytes a.x.0 a.x.1 small le a.one in
    let h = axis_stood a.x.1 bytes b.x.0 b.x.1 small w.within b.one in
    let f = axis_stood b.x.1 bytes c.x.0 c.x.1 small h.within c.one in
    ended size_field (record { w = a.x.0; h = b.x.0; f = c.x.0 }) size at c.x.1 end bytes c.two
    (both_stood at b.x.1 c.x.1 (field_32 a.x.0 ++ field_32 b.x.0) (field_32 c.x.0) bytes (both_stood at a.x.1 b.x.1 (field_32 a.x.0) (field_32 b.x.0) bytes w h) f)

count_code : (at n x : ℕ) → count_rule at n ≡ Ok x → n ≡ x
count_code at n x is = same_value n x (otherwise (nat_eq n 0 || nat_lt 16 n) (Ok n) x (Bad (Form at)) is).1

pub sizes_stood : (version : Version) → Spelled (sizes_read version) (sizes_field version)
sizes_stood One at bytes sizes end small le is = list_stood size_read size_field size_stood 1 at bytes sizes end small le is
sizes_stood Two at bytes sizes end small le is =
    let count : ℕ → List ℕ → Result (ℕ × ℕ) ReadError = number_read w16 count_rule in
    let a = peel {A = ℕ × ℕ} {C = List Size × ℕ} (count at bytes) (λ n. list_read size_read n.0 n.1 bytes) (sizes, end) is in
    let n = number_16_stood count_rule (λ n. n) count_code at bytes a.x.0 a.x.1 small le a.one in
    let all = list_stood size_read size_field size_stood a.x.0 a.x.1 bytes sizes end small n.within a.two in
    subst (λ k. Stood at end (field_16 k ++ flat_map size_field sizes) bytes) (sym (list_count size_read a.x.0 a.x.1 bytes sizes end a.two))
    (both_stood at a.x.1 end (field_16 a.x.0) (flat_map size_field sizes) bytes n all)

version_code : (versions at n : ℕ) (x : Version) → version_rule versions at n ≡ Ok x → n ≡ version_number x
version_code versions at n x is = by (nat_eq n 1) refl (otherwise (nat_lt versions n) (if nat_eq n 1 then Ok One else (if nat_eq n 2 then Ok Two else Err (Bad (Form at)))) x (Bad (Form at)) is).1
  where
    two : (if nat_eq n 2 then Ok Two else Err (Bad (Form at))) ≡ Ok x → n ≡ version_number x
    two so = let p = passed (nat_eq n 2) Two x (Bad (Form at)) so in eqb-true n 2 p.0 ∙ ap version_number p.1

    by : (b : Bool) → nat_eq n 1 ≡ b → (if b then Ok One else (if nat_eq n 2 then Ok Two else Err (Bad (Form at)))) ≡ Ok x → n ≡ version_number x
    by true e so = eqb-true n 1 e ∙ ap version_number (same_value One x so)
    by false e so = two so

kind_code : (kinds : ℕ) (version : Version) (at n x : ℕ) → kind_rule kinds version at n ≡ Ok x → n ≡ x
kind_code kinds version at n x is = (passed (is_kind kinds version n) n x (Bad (Form at)) is).1

pub start_stood : (magic : List ℕ) (versions kinds : ℕ) → Spelled (start_read magic versions kinds) (λ start. start_form magic start.kind start.version start.output)
start_stood magic versions kinds at bytes start end small le is =
    let ver : ℕ → List ℕ → Result (Version × ℕ) ReadError = number_read w8 (version_rule versions) in
    let kin : Version → ℕ → List ℕ → Result (ℕ × ℕ) ReadError = λ v. number_read w8 (kind_rule kinds v) in
    let a = peel {A = Unit {0} × ℕ} {C = Start × ℕ} (field_read 8 (magic_rule magic) at bytes)
    (λ m. ver m.1 bytes >>= λ v. kin v.0 v.1 bytes >>= λ k. size_read k.1 bytes >>= λ o. Ok (record { version = v.0; kind = k.0; output = o.0 }, o.1)) (start, end) is in
    let b = peel {A = Version × ℕ} {C = Start × ℕ} (ver a.x.1 bytes) (λ v. kin v.0 v.1 bytes >>= λ k. size_read k.1 bytes >>= λ o. Ok (record { version = v.0; kind = k.0; output = o.0 }, o.1)) (start, end) a.two in
    let c = peel {A = ℕ × ℕ} {C = Start × ℕ} (kin b.x.0 b.x.1 bytes) (λ k. size_read k.1 bytes >>= λ o. Ok (record { version = b.x.0; kind = k.0; output = o.0 }, o.1)) (start, end) b.two in
    let d = peel {A = Size × ℕ} {C = Start × ℕ} (size_read c.x.1 bytes) (λ o. Ok (record { version = b.x.0; kind = c.x.0; output = o.0 }, o.1)) (start, end) c.two in
    let m = field_stood 8 (magic_rule magic) at bytes a.x.0 a.x.1 small a.one in
    let same : m.piece ≡ magic = (bytes_decides m.piece magic).0 (passed (pointwise nat_eq m.piece magic) tt a.x.0 (Bad (Form at)) m.ruled).0 in
    let first = subst (λ p. Stood at a.x.1 p bytes) same m.stood in
    let version = number_8_stood (version_rule versions) version_number (version_code versions) a.x.1 bytes b.x.0 b.x.1 small first.within b.one in
    let kind = number_8_stood (kind_rule kinds b.x.0) (λ n. n) (kind_code kinds b.x.0) b.x.1 bytes c.x.0 c.x.1 small version.within c.one in
    let size = size_stood c.x.1 bytes d.x.0 d.x.1 small kind.within d.one in
    let v = version_number b.x.0 ∷ [] in
    let k = c.x.0 ∷ [] in
    ended (λ start. start_form magic start.kind start.version start.output) (record { version = b.x.0; kind = c.x.0; output = d.x.0 }) start at d.x.1 end bytes d.two
    (both_stood at c.x.1 d.x.1 (magic ++ (v ++ k)) (size_field d.x.0) bytes
    (both_stood at a.x.1 c.x.1 magic (v ++ k) bytes first (both_stood a.x.1 b.x.1 c.x.1 v k bytes version kind)) size)

pub head_stood : (magic : List ℕ) (versions kinds : ℕ) → Spelled (head_read magic versions kinds) (λ h. head_form magic h.1 h.0)
head_stood magic versions kinds at bytes h end small le is =
    let a = peel {A = Start × ℕ} {C = (Head × ℕ) × ℕ} (start_read magic versions kinds at bytes)
    (λ s. sizes_read s.0.version s.1 bytes >>= λ samples. Ok ((record { output = s.0.output; samples = samples.0; version = s.0.version }, s.0.kind), samples.1)) (h, end) is in
    let b = peel {A = List Size × ℕ} {C = (Head × ℕ) × ℕ} (sizes_read a.x.0.version a.x.1 bytes)
    (λ samples. Ok ((record { output = a.x.0.output; samples = samples.0; version = a.x.0.version }, a.x.0.kind), samples.1)) (h, end) a.two in
    let start = start_stood magic versions kinds at bytes a.x.0 a.x.1 small le a.one in
    let sizes = sizes_stood a.x.0.version a.x.1 bytes b.x.0 b.x.1 small start.within b.one in
    ended {A = Head × ℕ} (λ h. head_form magic h.1 h.0) (record { output = a.x.0.output; samples = b.x.0; version = a.x.0.version }, a.x.0.kind) h at b.x.1 end bytes b.two
    (both_stood at a.x.1 b.x.1 (start_form magic a.x.0.kind a.x.0.version a.x.0.output) (sizes_field a.x.0.version b.x.0) bytes start sizes)

-- the kind is one that the version has
pub start_kind : (magic : List ℕ) (versions kinds at : ℕ) (bytes : List ℕ) (start : Start) (end : ℕ) → start_read magic versions kinds at bytes ≡ Ok (start, end) → IsKind kinds start.version start.kind
start_kind magic versions kinds at bytes start end is =
    let ver : ℕ → List ℕ → Result (Version × ℕ) ReadError = number_read w8 (version_rule versions) in
    let kin : Version → ℕ → List ℕ → Result (ℕ × ℕ) ReadError = λ v. number_read w8 (kind_rule kinds v) in
    let a = peel {A = Unit {0} × ℕ} {C = Start × ℕ} (field_read 8 (magic_rule magic) at bytes)
    (λ m. ver m.1 bytes >>= λ v. kin v.0 v.1 bytes >>= λ k. size_read k.1 bytes >>= λ o. Ok (record { version = v.0; kind = k.0; output = o.0 }, o.1)) (start, end) is in
    let b = peel {A = Version × ℕ} {C = Start × ℕ} (ver a.x.1 bytes) (λ v. kin v.0 v.1 bytes >>= λ k. size_read k.1 bytes >>= λ o. Ok (record { version = v.0; kind = k.0; output = o.0 }, o.1)) (start, end) a.two in
    let c = peel {A = ℕ × ℕ} {C = Start × ℕ} (kin b.x.0 b.x.1 bytes) (λ k. size_read k.1 bytes >>= λ o. Ok (record { version = b.x.0; kind = k.0; output = o.0 }, o.1)) (start, end) b.two in
    let d = peel {A = Size × ℕ} {C = Start × ℕ} (size_read c.x.1 bytes) (λ o. Ok (record { version = b.x.0; kind = c.x.0; output = o.0 }, o.1)) (start, end) c.two in
    subst (λ (s : Start). IsKind kinds s.version s.kind) (same_first {A = Start} (record { version = b.x.0; kind = c.x.0; output = d.x.0 }) start d.x.1 end d.two)
    (kind_of b.x.0 b.x.1 c.x.0 c.x.1 c.one)
  where
    kind_of : (version : Version) (at kind end : ℕ) → number_read w8 (kind_rule kinds version) at bytes ≡ Ok (kind, end) → IsKind kinds version kind
    kind_of version at kind end is =
        let number = peel {A = List ℕ × ℕ} {C = ℕ × ℕ} (piece_read 1 at bytes) (λ p. kind_rule kinds version at (from_be_bytes w8 p.0) >>= λ x. Ok (x, p.1)) (kind, end) is in
        let n = from_be_bytes w8 number.x.0 in
        let ruled = peel {A = ℕ} {C = ℕ × ℕ} (kind_rule kinds version at n) (λ x. Ok (x, number.x.1)) (kind, end) number.two in
        let test = passed (is_kind kinds version n) n ruled.x (Bad (Form at)) ruled.one in
        let same : n ≡ kind = test.1 ∙ same_first ruled.x kind number.x.1 end ruled.two in
        subst (IsKind kinds version) same test.0

pub head_kind : (magic : List ℕ) (versions kinds at : ℕ) (bytes : List ℕ) (h : Head × ℕ) (end : ℕ) → head_read magic versions kinds at bytes ≡ Ok (h, end) → IsKind kinds h.0.version h.1
head_kind magic versions kinds at bytes h end is =
    let s = peel {A = Start × ℕ} {C = (Head × ℕ) × ℕ} (start_read magic versions kinds at bytes)
    (λ s. sizes_read s.0.version s.1 bytes >>= λ samples. Ok ((record { output = s.0.output; samples = samples.0; version = s.0.version }, s.0.kind), samples.1)) (h, end) is in
    let t = peel {A = List Size × ℕ} {C = (Head × ℕ) × ℕ} (sizes_read s.x.0.version s.x.1 bytes)
    (λ samples. Ok ((record { output = s.x.0.output; samples = samples.0; version = s.x.0.version }, s.x.0.kind), samples.1)) (h, end) s.two in
    let head_is = same_first {A = Head × ℕ} (record { output = s.x.0.output; samples = t.x.0; version = s.x.0.version }, s.x.0.kind) h t.x.1 end t.two in
    subst (λ (h : Head × ℕ). IsKind kinds h.0.version h.1) head_is (start_kind magic versions kinds at bytes s.x.0 s.x.1 s.one)
