-- A reader of fewer versions and kinds reads nothing else than one of more.
use Rattle.std.proofs.Common.{◌≡◌, ℕ, suc, ◌≤◌, ◌<◌, List, refl, sym, ap, ◌∙◌, arith, Bool, true, false, eqb-true}
use Rattle.std.proofs.lemmas.Bool.{le-leb, lt-leb, ltb-true, ltb-false}
use Rattle.std.specs.Int.{from_be_bytes, w8}
use Rattle.std.specs.Prelude.{Result, Ok, Err, nat_eq, nat_lt, if◌then◌else◌}
use Rattle.shelf_traits.specs.declared.fault.FormFault.TheVariants.{Form}
use Rattle.shelf_traits.specs.declared.fault.ReadError.{ReadError}
use Rattle.shelf_traits.specs.declared.fault.ReadError.TheVariants.{Bad}
use Rattle.cells.specs.declared.place.Size.{Size}
use Rattle.source_map.specs.declared.head.Head.{Head}
use Rattle.source_map.specs.declared.head.Version.{Version}
use Rattle.source_map.specs.declared.head.Version.TheVariants.{One, Two}
use Rattle.source_map.specs.declared.head_reading.Start.{Start}
use Rattle.source_map.specs.Heads.{IsKind, head_read, is_kind, kind_rule, magic_rule, size_read, sizes_read, start_read, version_number, version_rule}
use Rattle.source_map.specs.Readings.{◌>>=◌, field_read, number_read, number_rule, piece_read}
use Rattle.source_map.proofs.Spelled.{otherwise, passed, peel, same_first}
use Rattle.source_map.proofs.HeadsSpelled.{head_kind, start_kind}

-- one reading after another, each of which reads what another does
pub both_more : {A B : Type 0} (first first' : Result A ReadError) (second second' : A → Result B ReadError) → ((x : A) → first ≡ Ok x → first' ≡ Ok x) → ((x : A) (y : B) → first ≡ Ok x → second x ≡ Ok y → second' x ≡ Ok y)
    → (y : B) → (first >>= second) ≡ Ok y → (first' >>= second') ≡ Ok y
both_more first first' second second' one two y is =
    let a = peel first second y is in
    ap (λ r. r >>= second') (one a.x a.one) ∙ two a.x y a.one a.two

field_more : {A : Type 0} (n : ℕ) (rule rule' : ℕ → List ℕ → Result A ReadError) → ((at : ℕ) (piece : List ℕ) (x : A) → rule at piece ≡ Ok x → rule' at piece ≡ Ok x)
    → (at : ℕ) (bytes : List ℕ) (x : A × ℕ) → field_read n rule at bytes ≡ Ok x → field_read n rule' at bytes ≡ Ok x
field_more {A = A} n rule rule' more at bytes x is =
    both_more {A = List ℕ × ℕ} {B = A × ℕ} (piece_read n at bytes) (piece_read n at bytes) (λ p. rule at p.0 >>= λ y. Ok (y, p.1)) (λ p. rule' at p.0 >>= λ y. Ok (y, p.1))
    (λ p same. same)
    (λ p y one two. both_more {A = A} {B = A × ℕ} (rule at p.0) (rule' at p.0) (λ z. Ok (z, p.1)) (λ z. Ok (z, p.1)) (more at p.0) (λ z w same so. so) y two)
    x is

version_more : (few many : ℕ) → few ≤ many → (at n : ℕ) (x : Version) → version_rule few at n ≡ Ok x → version_rule many at n ≡ Ok x
version_more few many le at n x is =
    let rest = otherwise (nat_lt few n) (if nat_eq n 1 then Ok One else (if nat_eq n 2 then Ok Two else Err (Bad (Form at)))) x (Bad (Form at)) is in
    let low : nat_lt many n ≡ false = lt-leb (suc many) n (omega (arith, ltb-false few n rest.0)) in
    rw low rest.1

is_kind_more : (few many : ℕ) → few ≤ many → (version : Version) (n : ℕ) → is_kind few version n ≡ true → is_kind many version n ≡ true
is_kind_more few many le One n is = le-leb (suc n) many (omega (arith, ltb-true n few is))
is_kind_more few many le Two n is = is

kind_more : (few many : ℕ) → few ≤ many → (version : Version) (at n x : ℕ) → kind_rule few version at n ≡ Ok x → kind_rule many version at n ≡ Ok x
kind_more few many le version at n x is =
    let test = passed (is_kind few version n) n x (Bad (Form at)) is in
    rw (is_kind_more few many le version n test.0) (ap (λ k. Ok k) test.1)

module _ (magic : List ℕ) (versions versions' kinds kinds' : ℕ) (more : versions ≤ versions') (also : kinds ≤ kinds') where
  abbrev made : Version → ℕ → Size → Start
  made version kind output = record { version = version; kind = kind; output = output }

  pub start_more : (at : ℕ) (bytes : List ℕ) (x : Start × ℕ) → start_read magic versions kinds at bytes ≡ Ok x → start_read magic versions' kinds' at bytes ≡ Ok x
  start_more at bytes x is =
      both_more {A = Unit {0} × ℕ} {B = Start × ℕ} (field_read 8 (magic_rule magic) at bytes) (field_read 8 (magic_rule magic) at bytes)
      (λ m. number_read w8 (version_rule versions) m.1 bytes >>= λ v. number_read w8 (kind_rule kinds v.0) v.1 bytes >>= λ k. size_read k.1 bytes >>= λ o. Ok (made v.0 k.0 o.0, o.1))
      (λ m. number_read w8 (version_rule versions') m.1 bytes >>= λ v. number_read w8 (kind_rule kinds' v.0) v.1 bytes >>= λ k. size_read k.1 bytes >>= λ o. Ok (made v.0 k.0 o.0, o.1))
      (λ m same. same)
      (λ m y one two. both_more {A = Version × ℕ} {B = Start × ℕ} (number_read w8 (version_rule versions) m.1 bytes) (number_read w8 (version_rule versions') m.1 bytes)
      (λ v. number_read w8 (kind_rule kinds v.0) v.1 bytes >>= λ k. size_read k.1 bytes >>= λ o. Ok (made v.0 k.0 o.0, o.1))
      (λ v. number_read w8 (kind_rule kinds' v.0) v.1 bytes >>= λ k. size_read k.1 bytes >>= λ o. Ok (made v.0 k.0 o.0, o.1))
      (λ v. field_more 1 (number_rule w8 (version_rule versions)) (number_rule w8 (version_rule versions')) (λ at piece. version_more versions versions' more at (from_be_bytes w8 piece)) m.1 bytes v)
      (λ v z first rest. both_more {A = ℕ × ℕ} {B = Start × ℕ} (number_read w8 (kind_rule kinds v.0) v.1 bytes) (number_read w8 (kind_rule kinds' v.0) v.1 bytes)
      (λ k. size_read k.1 bytes >>= λ o. Ok (made v.0 k.0 o.0, o.1)) (λ k. size_read k.1 bytes >>= λ o. Ok (made v.0 k.0 o.0, o.1))
      (λ k. field_more 1 (number_rule w8 (kind_rule kinds v.0)) (number_rule w8 (kind_rule kinds' v.0)) (λ at piece. kind_more kinds kinds' also v.0 at (from_be_bytes w8 piece)) v.1 bytes k)
      (λ k w same so. so) z rest) y two) x is

  pub head_more : (at : ℕ) (bytes : List ℕ) (x : (Head × ℕ) × ℕ) → head_read magic versions kinds at bytes ≡ Ok x → head_read magic versions' kinds' at bytes ≡ Ok x
  head_more at bytes x is =
      both_more {A = Start × ℕ} {B = (Head × ℕ) × ℕ} (start_read magic versions kinds at bytes) (start_read magic versions' kinds' at bytes)
      (λ s. sizes_read s.0.version s.1 bytes >>= λ samples. Ok ((record { output = s.0.output; samples = samples.0; version = s.0.version }, s.0.kind), samples.1))
      (λ s. sizes_read s.0.version s.1 bytes >>= λ samples. Ok ((record { output = s.0.output; samples = samples.0; version = s.0.version }, s.0.kind), samples.1))
      (λ s. start_more at bytes s) (λ s y same so. so) x is

-- where one version alone is taken it is the first
version_one : (at n : ℕ) (x : Version) → version_rule 1 at n ≡ Ok x → x ≡ One
version_one at n x is =
    let rest = otherwise (nat_lt 1 n) (if nat_eq n 1 then Ok One else (if nat_eq n 2 then Ok Two else Err (Bad (Form at)))) x (Bad (Form at)) is in
    by (nat_eq n 1) (nat_eq n 2) refl refl (ltb-false 1 n rest.0) rest.1
  where
    by : (one two : Bool) → nat_eq n 1 ≡ one → nat_eq n 2 ≡ two → n ≤ 1 → (if one then Ok One else (if two then Ok Two else Err (Bad (Form at)))) ≡ Ok x → x ≡ One
    by true two is_one is_two le so = let same : One ≡ x = cc in sym same
    by false true is_one is_two le so = let n_is = eqb-true n 2 is_two in absurd (omega (arith, n_is, le))
    by false false is_one is_two le so = absurd (cc)

pub version_alone : (version : Version) → version_number version ≤ 1 → version ≡ One
version_alone One le = refl
version_alone Two le = absurd (omega (arith, le))

pub start_version : (magic : List ℕ) (kinds at : ℕ) (bytes : List ℕ) (s : Start) (end : ℕ) → start_read magic 1 kinds at bytes ≡ Ok (s, end) → s.version ≡ One
start_version magic kinds at bytes s end is =
    let ver : ℕ → List ℕ → Result (Version × ℕ) ReadError = number_read w8 (version_rule 1) in
    let kin : Version → ℕ → List ℕ → Result (ℕ × ℕ) ReadError = λ v. number_read w8 (kind_rule kinds v) in
    let a = peel {A = Unit {0} × ℕ} {C = Start × ℕ} (field_read 8 (magic_rule magic) at bytes)
    (λ m. ver m.1 bytes >>= λ v. kin v.0 v.1 bytes >>= λ k. size_read k.1 bytes >>= λ o. Ok (record { version = v.0; kind = k.0; output = o.0 }, o.1)) (s, end) is in
    let b = peel {A = Version × ℕ} {C = Start × ℕ} (ver a.x.1 bytes) (λ v. kin v.0 v.1 bytes >>= λ k. size_read k.1 bytes >>= λ o. Ok (record { version = v.0; kind = k.0; output = o.0 }, o.1)) (s, end) a.two in
    let c = peel {A = ℕ × ℕ} {C = Start × ℕ} (kin b.x.0 b.x.1 bytes) (λ k. size_read k.1 bytes >>= λ o. Ok (record { version = b.x.0; kind = k.0; output = o.0 }, o.1)) (s, end) b.two in
    let d = peel {A = Size × ℕ} {C = Start × ℕ} (size_read c.x.1 bytes) (λ o. Ok (record { version = b.x.0; kind = c.x.0; output = o.0 }, o.1)) (s, end) c.two in
    let same = same_first {A = Start} (record { version = b.x.0; kind = c.x.0; output = d.x.0 }) s d.x.1 end d.two in
    let number = peel {A = List ℕ × ℕ} {C = Version × ℕ} (piece_read 1 a.x.1 bytes) (λ p. version_rule 1 a.x.1 (from_be_bytes w8 p.0) >>= λ x. Ok (x, p.1)) b.x b.one in
    let ruled = peel {A = Version} {C = Version × ℕ} (version_rule 1 a.x.1 (from_be_bytes w8 number.x.0)) (λ x. Ok (x, number.x.1)) b.x number.two in
    let its : ruled.x ≡ b.x.0 = same_first ruled.x b.x.0 number.x.1 b.x.1 ruled.two in
    sym (ap (λ (s : Start). s.version) same) ∙ sym its ∙ version_one a.x.1 (from_be_bytes w8 number.x.0) ruled.x ruled.one

pub zero_alone : (version : Version) (kind : ℕ) → IsKind 1 version kind → kind ≡ 0
zero_alone One kind is = by kind (ltb-true kind 1 is)
  where
    by : (kind : ℕ) → kind < 1 → kind ≡ 0
    by kind lt = omega arith
zero_alone Two kind is = eqb-true kind 0 is

pub start_zero : (magic : List ℕ) (versions at : ℕ) (bytes : List ℕ) (s : Start) (end : ℕ) → start_read magic versions 1 at bytes ≡ Ok (s, end) → s.kind ≡ 0
start_zero magic versions at bytes s end is = zero_alone s.version s.kind (start_kind magic versions 1 at bytes s end is)

-- the same of a whole head
pub head_version : (magic : List ℕ) (kinds at : ℕ) (bytes : List ℕ) (h : Head × ℕ) (end : ℕ) → head_read magic 1 kinds at bytes ≡ Ok (h, end) → h.0.version ≡ One
head_version magic kinds at bytes h end is =
    let s = peel {A = Start × ℕ} {C = (Head × ℕ) × ℕ} (start_read magic 1 kinds at bytes)
    (λ s. sizes_read s.0.version s.1 bytes >>= λ samples. Ok ((record { output = s.0.output; samples = samples.0; version = s.0.version }, s.0.kind), samples.1)) (h, end) is in
    let t = peel {A = List Size × ℕ} {C = (Head × ℕ) × ℕ} (sizes_read s.x.0.version s.x.1 bytes)
    (λ samples. Ok ((record { output = s.x.0.output; samples = samples.0; version = s.x.0.version }, s.x.0.kind), samples.1)) (h, end) s.two in
    let head_is = same_first {A = Head × ℕ} (record { output = s.x.0.output; samples = t.x.0; version = s.x.0.version }, s.x.0.kind) h t.x.1 end t.two in
    sym (ap (λ (h : Head × ℕ). h.0.version) head_is) ∙ start_version magic kinds at bytes s.x.0 s.x.1 s.one

pub head_zero : (magic : List ℕ) (versions at : ℕ) (bytes : List ℕ) (h : Head × ℕ) (end : ℕ) → head_read magic versions 1 at bytes ≡ Ok (h, end) → h.1 ≡ 0
head_zero magic versions at bytes h end is = zero_alone h.0.version h.1 (head_kind magic versions 1 at bytes h end is)
