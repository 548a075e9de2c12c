-- What is spelled is read again.
use Rattle.std.proofs.Common.{◌≡◌, false, ℕ, zero, suc, ◌+◌, ◌≤◌, ◌<◌, ◌^◌, List, [], ◌∷◌, ◌++◌, length, take, drop, get_or, inl, inr, refl, sym, ap, ◌∙◌, subst, arith}
use Rattle.std.proofs.Math.Numerals.{add-one}
use Rattle.std.proofs.lemmas.Bool.Decides.{eqb_tells}
use Rattle.std.proofs.lemmas.List.{drop-take, drop-drop, drop_at, length-append, take-take, take_at, take_all, take_more, append-nil}
use Rattle.std.proofs.lemmas.Nat.{from_be_bytes-to_be_bytes_2, from_be_bytes-to_be_bytes_4}
use Rattle.std.specs.Int.{w8, w16, w32, from_be_bytes}
use Rattle.std.specs.List.{flat_map}
use Rattle.std.specs.Prelude.{All, Result, Ok, nat_eq}
use Rattle.shelf_traits.specs.declared.fault.ReadError.{ReadError}
use Rattle.file_bytes.specs.Fields.{field_16, field_32}
use Rattle.file_bytes.specs.Reading.{StandsAt}
use Rattle.file_bytes.proofs.WritingLaws.{fields_next}
use Rattle.source_map.specs.Readings.{◌>>=◌, field_read, list_read, number_read, number_rule}
use Rattle.source_map.proofs.FieldLaws.{behind, chain, field_whole, value_alone}

-- wherever the piece is, the value is read, and the place after it
abbrev pub Spells : {A : Type 0} → (ℕ → List ℕ → Result (A × ℕ) ReadError) → List ℕ → A → Type 0
Spells read piece x = (at : ℕ) (bytes : List ℕ) → StandsAt at piece bytes → read at bytes ≡ Ok (x, at + length piece)

pub stands_split : (at : ℕ) (p q bytes : List ℕ) → StandsAt at (p ++ q) bytes → StandsAt at p bytes × StandsAt (at + length p) q bytes
stands_split at p q bytes stands =
    let both = length-append p q in
    let whole : p ++ q ≡ take (length p + length q) (drop at bytes) = stands.is ∙ ap (λ n. take n (drop at bytes)) both in
    let le : length p ≤ length p + length q = omega arith in (
      record {
        is = sym (take_at p q (length p) refl) ∙ ap (take (length p)) whole ∙ take-take (length p) (length p + length q) (drop at bytes) le;
        within = omega (arith, stands.within, both);
      },
      record {
        is = sym (drop_at p q (length p) refl) ∙ ap (drop (length p)) whole ∙ drop-take (length p) (length q) (drop at bytes) ∙ ap (take (length q)) (drop-drop (length p) at bytes);
        within = omega (arith, stands.within, both);
      },
    )

pub then_spells : {A B : Type 0} (first : ℕ → List ℕ → Result (A × ℕ) ReadError) (second : A → ℕ → List ℕ → Result (B × ℕ) ReadError) (p q : List ℕ) (x : A) (y : B)
    → Spells first p x → Spells (second x) q y → Spells (chain first second) (p ++ q) y
then_spells first second p q x y one two at bytes stands =
    let parts = stands_split at p q bytes stands in
    let end : at + length p + length q ≡ at + length (p ++ q) = omega (arith, length-append p q) in
    ap (λ r. r >>= λ z. second z.0 z.1 bytes) (one at bytes parts.0) ∙ two (at + length p) bytes parts.1 ∙ ap (λ (k : ℕ). Ok (y, k)) end

pub alone_spells : {A : Type 0} (x : A) → Spells (value_alone x) [] x
alone_spells x at bytes stands =
    let end : at ≡ at + 0 = omega arith in
    ap (λ (k : ℕ). Ok (x, k)) end

pub field_spells : {A : Type 0} (n : ℕ) (rule : ℕ → List ℕ → Result A ReadError) (piece : List ℕ) (x : A) → length piece ≡ n → ((at : ℕ) → rule at piece ≡ Ok x) → Spells (field_read n rule) piece x
field_spells n rule piece x count is at bytes stands =
    field_whole n at rule piece bytes (Ok x) count stands (sym (is at)) ∙ ap (λ (k : ℕ). Ok (x, at + k)) (sym count)

pub spells_8 : {A : Type 0} (rule : ℕ → ℕ → Result A ReadError) (n : ℕ) (x : A) → ((at : ℕ) → rule at n ≡ Ok x) → Spells (number_read w8 rule) (n ∷ []) x
spells_8 rule n x is =
    let same : from_be_bytes w8 (n ∷ []) ≡ n = omega arith in
    field_spells 1 (number_rule w8 rule) (n ∷ []) x refl (λ at. ap (rule at) same ∙ is at)

pub spells_16 : {A : Type 0} (rule : ℕ → ℕ → Result A ReadError) (n : ℕ) (x : A) → n < 2 ^ 16 → ((at : ℕ) → rule at n ≡ Ok x) → Spells (number_read w16 rule) (field_16 n) x
spells_16 rule n x small is = field_spells 2 (number_rule w16 rule) (field_16 n) x refl (λ at. ap (rule at) (from_be_bytes-to_be_bytes_2 n small) ∙ is at)

pub spells_32 : {A : Type 0} (rule : ℕ → ℕ → Result A ReadError) (n : ℕ) (x : A) → n < 2 ^ 32 → ((at : ℕ) → rule at n ≡ Ok x) → Spells (number_read w32 rule) (field_32 n) x
spells_32 rule n x small is = field_spells 4 (number_rule w32 rule) (field_32 n) x refl (λ at. ap (rule at) (from_be_bytes-to_be_bytes_4 n small) ∙ is at)

-- a list, each of whose items is spelled
pub list_spells : {A : Type 0} (read : ℕ → List ℕ → Result (A × ℕ) ReadError) (field : A → List ℕ) (xs : List A) → All (λ x. Spells read (field x) x) xs
    → Spells (list_read read (length xs)) (flat_map field xs) xs
list_spells {A = A} read field [] all = alone_spells []
list_spells {A = A} read field (x0 ∷ xs') all =
    subst (λ ys. Spells (list_read read (length xs)) (flat_map field ys) ys) (take_all (length xs) xs (omega arith)) (front (length xs) (omega arith))
  where
    xs : List A
    xs = x0 ∷ xs'

    front : (i : ℕ) → i ≤ length xs → Spells (list_read read i) (flat_map field (take i xs)) (take i xs)
    front zero le = alone_spells []
    front (suc i) le =
        let lt : i < length xs = omega arith in
        let x = get_or xs i x0 in
        let one = all i x0 lt in
        let more = then_spells (list_read read i) (λ ys. chain read (behind ys)) (flat_map field (take i xs)) (field x ++ []) (take i xs) (take i xs ++ x ∷ [])
        (front i (omega arith)) (then_spells read (behind (take i xs)) (field x) [] x (take i xs ++ x ∷ []) one (alone_spells (take i xs ++ x ∷ []))) in
        let next : take (suc i) xs ≡ take i xs ++ x ∷ [] = ap (λ n. take n xs) (sym (add-one i)) ∙ take_more xs i x0 lt in
        let spelled : flat_map field (take i xs) ++ (field x ++ []) ≡ flat_map field (take (suc i) xs) =
        ap (λ p. flat_map field (take i xs) ++ p) (append-nil (field x)) ∙ sym (fields_next field xs i x0 lt) ∙ ap (λ n. flat_map field (take n xs)) (add-one i) in
        subst (λ piece. Spells (list_read read (suc i)) piece (take (suc i) xs)) spelled
        (subst (λ ys. Spells (list_read read (suc i)) (flat_map field (take i xs) ++ (field x ++ [])) ys) (sym next) more)

-- tests of numbers
pub not_equal : (a b : ℕ) → (a ≡ b → ⊥) → nat_eq a b ≡ false
not_equal a b differ = elim (eqb_tells a b) as (λ _. nat_eq a b ≡ false) [ inl same ↦ absurd (differ same.1) | inr other ↦ other.0 ]
