-- What was read is spelled there.
use Rattle.std.proofs.Common.{◌≡◌, true, false, Bool, ℕ, zero, suc, ◌+◌, ◌≤◌, ◌<◌, List, [], ◌∷◌, ◌++◌, length, take, take-add, drop, get_or, refl, sym, ap, ◌∙◌, subst, arith}
use Rattle.std.proofs.lemmas.Bool.{leb-true, ltb-false, ltb-true}
use Rattle.std.proofs.lemmas.List.{append-nil, drop-drop, get_or_past, length-append, length-drop, length-take-le}
use Rattle.std.proofs.lemmas.List.Concat.{flat_map-append}
use Rattle.std.proofs.lemmas.List.Elements.{All-drop, All-take}
use Rattle.std.proofs.lemmas.Nat.{be_bytes_2, be_bytes_4}
use Rattle.std.specs.Int.{w8, w16, w32, from_be_bytes}
use Rattle.std.specs.List.{flat_map}
use Rattle.std.specs.Prelude.{Result, Ok, Err, nat_le, nat_lt, if◌then◌else◌}
use Rattle.shelf_traits.specs.declared.fault.FormFault.TheVariants.{Form}
use Rattle.shelf_traits.specs.declared.fault.ReadError.{ReadError}
use Rattle.shelf_traits.specs.declared.fault.ReadError.TheVariants.{Bad}
use Rattle.file_bytes.specs.Fields.{field_16, field_32}
use Rattle.source_map.specs.Readings.{◌>>=◌, AreBytes, field_read, list_read, number_read, number_rule, piece_read}

-- from one place to another there is the piece
pub record Stood (at end : ℕ) (piece bytes : List ℕ) : Type 0 where
  pub is : piece ≡ take (length piece) (drop at bytes)
  pub end_is : end ≡ at + length piece
  pub within : end ≤ length bytes

-- whatever is read of bytes is spelled there by its field
abbrev pub Spelled : {A : Type 0} → (ℕ → List ℕ → Result (A × ℕ) ReadError) → (A → List ℕ) → Type 0
Spelled {A = A} read field = (at : ℕ) (bytes : List ℕ) (x : A) (end : ℕ) → AreBytes bytes → at ≤ length bytes → read at bytes ≡ Ok (x, end) → Stood at end (field x) bytes

abbrev out : {A : Type 0} → A → Result A ReadError → A
out d (Ok x) = x
out d (Err e) = d

abbrev pub as_read : {A : Type 0} → A → Result A ReadError
as_read x = Ok x

pub same_value : {A : Type 0} (x y : A) → as_read x ≡ as_read y → x ≡ y
same_value x y is = ap (out x) is

pub same_first : {A B : Type 0} (x y : A) (a b : B) → as_read {A = A × B} (x, a) ≡ as_read (y, b) → x ≡ y
same_first {A = A} {B = B} x y a b is = ap (λ (p : A × B). p.0) (same_value {A = A × B} (x, a) (y, b) is)

pub same_second : {A B : Type 0} (x y : A) (a b : B) → as_read {A = A × B} (x, a) ≡ as_read (y, b) → a ≡ b
same_second {A = A} {B = B} x y a b is = ap (λ (p : A × B). p.1) (same_value {A = A × B} (x, a) (y, b) is)

pub never : {A P : Type 0} (e : ReadError) (x : A) → Err e ≡ Ok x → P
never e x is = absurd (cc)

-- what was read first, and what then
pub record Peeled {A C : Type 0} (first : Result A ReadError) (second : A → Result C ReadError) (y : C) : Type 0 where
  pub x : A
  pub one : first ≡ Ok x
  pub two : second x ≡ Ok y

pub peel : {A C : Type 0} (first : Result A ReadError) (second : A → Result C ReadError) (y : C) → (first >>= second) ≡ Ok y → Peeled first second y
peel (Ok x) second y is = record { x = x; one = refl; two = is }
peel (Err e) second y is = never e y is

-- nothing, and one piece after another
pub none_stood : (at : ℕ) (bytes : List ℕ) → at ≤ length bytes → Stood at at [] bytes
none_stood at bytes le = record { is = refl; end_is = omega arith; within = le }

pub both_stood : (at mid end : ℕ) (p q bytes : List ℕ) → Stood at mid p bytes → Stood mid end q bytes → Stood at end (p ++ q) bytes
both_stood at mid end p q bytes one two =
    let there : drop mid bytes ≡ drop (length p) (drop at bytes) = ap (λ k. drop k bytes) (one.end_is) ∙ sym (drop-drop (length p) at bytes) in
    record {
      is = (λ k. one.is k ++ (two.is ∙ ap (take (length q)) there) k) ∙ sym (take-add (length p) (length q) (drop at bytes)) ∙ ap (λ n. take n (drop at bytes)) (sym (length-append p q));
      end_is = omega (arith, one.end_is, two.end_is, length-append p q);
      within = two.within;
    }

-- a field that was read, with its bytes
pub record FieldStood {A : Type 0} (n : ℕ) (rule : ℕ → List ℕ → Result A ReadError) (at : ℕ) (bytes : List ℕ) (x : A) (end : ℕ) : Type 0 where
  pub piece : List ℕ
  pub long : length piece ≡ n
  pub small : (i : ℕ) → get_or piece i 0 < 256
  pub ruled : rule at piece ≡ Ok x
  pub stood : Stood at end piece bytes

record PieceStood (n at : ℕ) (bytes : List ℕ) (p : List ℕ × ℕ) : Type 0 where
  fits : at + n ≤ length bytes
  is : p.0 ≡ take n (drop at bytes)
  end_is : p.1 ≡ at + n

piece_stood : (n at : ℕ) (bytes : List ℕ) (p : List ℕ × ℕ) → piece_read n at bytes ≡ Ok p → PieceStood n at bytes p
unfolding piece_read
piece_stood n at bytes p is = by (nat_le (at + n) (length bytes)) refl is
  where
    by : (b : Bool) → nat_le (at + n) (length bytes) ≡ b → (if b then Ok (take n (drop at bytes), at + n) else Err (Bad (Form (length bytes)))) ≡ Ok p → PieceStood n at bytes p
    by true e so = record {
      fits = leb-true (at + n) (length bytes) e;
      is = sym (same_first (take n (drop at bytes)) p.0 (at + n) p.1 so);
      end_is = sym (same_second (take n (drop at bytes)) p.0 (at + n) p.1 so);
    }
    by false e so = never (Bad (Form (length bytes))) p so

small_at : (xs : List ℕ) → AreBytes xs → (i : ℕ) → get_or xs i 0 < 256
small_at xs all i = by (nat_lt i (length xs)) refl
  where
    by : (b : Bool) → nat_lt i (length xs) ≡ b → get_or xs i 0 < 256
    by true e = all i 0 (ltb-true i (length xs) e)
    by false e = let past = get_or_past xs i 0 (ltb-false i (length xs) e) in omega (arith, past)

pub field_stood : {A : Type 0} (n : ℕ) (rule : ℕ → List ℕ → Result A ReadError) (at : ℕ) (bytes : List ℕ) (x : A) (end : ℕ) → AreBytes bytes → field_read n rule at bytes ≡ Ok (x, end) → FieldStood n rule at bytes x end
field_stood {A = A} n rule at bytes x end small is =
    let a = peel {A = List ℕ × ℕ} {C = A × ℕ} (piece_read n at bytes) (λ p. rule at p.0 >>= λ y. Ok (y, p.1)) (x, end) is in
    let b = peel {A = A} {C = A × ℕ} (rule at a.x.0) (λ y. Ok (y, a.x.1)) (x, end) a.two in
    let p = piece_stood n at bytes a.x a.one in
    let value : b.x ≡ x = same_first b.x x a.x.1 end b.two in
    let ends : end ≡ at + n = sym (same_second b.x x a.x.1 end b.two) ∙ p.end_is in
    let long : length a.x.0 ≡ n = ap length p.is ∙ length-take-le n (drop at bytes) (omega (arith, length-drop at bytes, p.fits)) in
    record {
      piece = a.x.0;
      long = long;
      small = small_at a.x.0 (subst AreBytes (sym p.is) (All-take (λ c. c < 256) n (drop at bytes) (All-drop (λ c. c < 256) at bytes small)));
      ruled = b.one ∙ ap (λ y. Ok y) value;
      stood = record {
        is = p.is ∙ ap (λ k. take k (drop at bytes)) (sym long);
        end_is = ends ∙ ap (λ k. at + k) (sym long);
        within = omega (arith, ends, p.fits);
      };
    }

-- numbers of each width, each with the one number that its rule takes for a value
pub number_8_stood : {A : Type 0} (rule : ℕ → ℕ → Result A ReadError) (code : A → ℕ) → ((at n : ℕ) (x : A) → rule at n ≡ Ok x → n ≡ code x) → Spelled (number_read w8 rule) (λ x. code x ∷ [])
number_8_stood rule code codes at bytes x end small le is =
    let f = field_stood 1 (number_rule w8 rule) at bytes x end small is in
    let same : f.piece ≡ from_be_bytes w8 f.piece ∷ [] = one f.piece f.long in
    subst (λ p. Stood at end p bytes) (same ∙ ap (λ n. n ∷ []) (codes at (from_be_bytes w8 f.piece) x f.ruled)) f.stood
  where
    one : (p : List ℕ) → length p ≡ 1 → p ≡ from_be_bytes w8 p ∷ []
    one [] e = absurd (omega (arith, e))
    one (b ∷ []) e = let same : b ≡ from_be_bytes w8 (b ∷ []) = omega arith in ap (λ n. n ∷ []) same
    one (b ∷ c ∷ p) e = absurd (omega (arith, e))

pub number_16_stood : {A : Type 0} (rule : ℕ → ℕ → Result A ReadError) (code : A → ℕ) → ((at n : ℕ) (x : A) → rule at n ≡ Ok x → n ≡ code x) → Spelled (number_read w16 rule) (λ x. field_16 (code x))
number_16_stood rule code codes at bytes x end small le is =
    let f = field_stood 2 (number_rule w16 rule) at bytes x end small is in
    subst (λ p. Stood at end p bytes) (sym (be_bytes_2 f.piece (code x) f.long f.small (sym (codes at (from_be_bytes w16 f.piece) x f.ruled)))) f.stood

pub number_32_stood : {A : Type 0} (rule : ℕ → ℕ → Result A ReadError) (code : A → ℕ) → ((at n : ℕ) (x : A) → rule at n ≡ Ok x → n ≡ code x) → Spelled (number_read w32 rule) (λ x. field_32 (code x))
number_32_stood rule code codes at bytes x end small le is =
    let f = field_stood 4 (number_rule w32 rule) at bytes x end small is in
    subst (λ p. Stood at end p bytes) (sym (be_bytes_4 f.piece (code x) f.long f.small (sym (codes at (from_be_bytes w32 f.piece) x f.ruled)))) f.stood

-- a test that was passed
pub passed : {A : Type 0} (b : Bool) (x y : A) (e : ReadError) → (if b then Ok x else Err e) ≡ Ok y → (b ≡ true) × (x ≡ y)
passed true x y e is = (refl, same_value x y is)
passed false x y e is = never e y is

pub otherwise : {A : Type 0} (b : Bool) (r : Result A ReadError) (y : A) (e : ReadError) → (if b then Err e else r) ≡ Ok y → (b ≡ false) × (r ≡ Ok y)
otherwise true r y e is = never e y is
otherwise false r y e is = (refl, is)

-- a value that is made of what was read
pub ended : {A : Type 0} (field : A → List ℕ) (x y : A) (at mid end : ℕ) (bytes : List ℕ) → as_read {A = A × ℕ} (x, mid) ≡ as_read (y, end) → Stood at mid (field x) bytes → Stood at end (field y) bytes
ended field x y at mid end bytes is stood =
    subst (λ k. Stood at k (field y) bytes) (same_second x y mid end is) (subst (λ z. Stood at mid (field z) bytes) (same_first x y mid end is) stood)

-- a list, of whose items each is spelled
pub list_stood : {A : Type 0} (read : ℕ → List ℕ → Result (A × ℕ) ReadError) (field : A → List ℕ) → Spelled read field → (n : ℕ) → Spelled (list_read read n) (flat_map field)
list_stood {A = A} read field one zero at bytes xs end small le is =
    let nothing : xs ≡ [] = sym (same_first {A = List A} [] xs at end is) in
    let here : end ≡ at = sym (same_second {A = List A} [] xs at end is) in
    subst (λ ys. Stood at end (flat_map field ys) bytes) (sym nothing) (subst (λ k. Stood at k [] bytes) (sym here) (none_stood at bytes le))
list_stood {A = A} read field one (suc n) at bytes xs end small le is =
    let a = peel {A = List A × ℕ} {C = List A × ℕ} (list_read read n at bytes) (λ f. read f.1 bytes >>= λ l. Ok (f.0 ++ l.0 ∷ [], l.1)) (xs, end) is in
    let b = peel {A = A × ℕ} {C = List A × ℕ} (read a.x.1 bytes) (λ l. Ok (a.x.0 ++ l.0 ∷ [], l.1)) (xs, end) a.two in
    let front = list_stood read field one n at bytes a.x.0 a.x.1 small le a.one in
    let last = one a.x.1 bytes b.x.0 b.x.1 small front.within b.one in
    let all : flat_map field a.x.0 ++ field b.x.0 ≡ flat_map field xs =
    ap (λ l. flat_map field a.x.0 ++ l) (sym (append-nil (field b.x.0))) ∙ sym (flat_map-append field a.x.0 (b.x.0 ∷ []))
    ∙ ap (flat_map field) (same_first {A = List A} (a.x.0 ++ b.x.0 ∷ []) xs b.x.1 end b.two) in
    let ends : b.x.1 ≡ end = same_second {A = List A} (a.x.0 ++ b.x.0 ∷ []) xs b.x.1 end b.two in
    subst (λ p. Stood at end p bytes) all (subst (λ k. Stood at k (flat_map field a.x.0 ++ field b.x.0) bytes) ends (both_stood at a.x.1 b.x.1 (flat_map field a.x.0) (field b.x.0) bytes front last))

pub list_count : {A : Type 0} (read : ℕ → List ℕ → Result (A × ℕ) ReadError) (n at : ℕ) (bytes : List ℕ) (xs : List A) (end : ℕ) → list_read read n at bytes ≡ Ok (xs, end) → length xs ≡ n
list_count {A = A} read zero at bytes xs end is = ap length (sym (same_first {A = List A} [] xs at end is))
list_count {A = A} read (suc n) at bytes xs end is =
    let a = peel {A = List A × ℕ} {C = List A × ℕ} (list_read read n at bytes) (λ f. read f.1 bytes >>= λ l. Ok (f.0 ++ l.0 ∷ [], l.1)) (xs, end) is in
    let b = peel {A = A × ℕ} {C = List A × ℕ} (read a.x.1 bytes) (λ l. Ok (a.x.0 ++ l.0 ∷ [], l.1)) (xs, end) a.two in
    let front = list_count read n at bytes a.x.0 a.x.1 a.one in
    let all = ap length (same_first {A = List A} (a.x.0 ++ b.x.0 ∷ []) xs b.x.1 end b.two) in
    omega (arith, front, all, length-append a.x.0 (b.x.0 ∷ []))
