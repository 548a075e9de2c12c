-- What is put after a head.
use Rattle.std.proofs.Common.{◌≡◌, ◌<◌, ◌+◌, ◌++◌, ◌∷◌, ◌∙◌, [], ℕ, List, length, take, get_or, sym, ap, subst, append_assoc}
use Rattle.std.specs.List.{flat_map}
use Rattle.shelf_traits.specs.Files.{ShelfState}
use Rattle.cells.specs.declared.place.Taps.{Taps}
use Rattle.file_bytes.specs.Fields.{field_16, field_32, fields_16, fields_64}
use Rattle.file_bytes.specs.Writing.{HasPut, Pending, Puts}
use Rattle.file_bytes.proofs.WritingLaws.{fields_next, put_next}
use Rattle.cert_file.specs.WalkForms.{taps_number, walk_form}

-- one record more
pub one_more_put : {X : Type 0} (name head : List ℕ) (field : X → List ℕ) (items : List X) (i : ℕ) (d : X) (was a b : ShelfState) (w w' : Pending)
    → i < length items → HasPut name (head ++ flat_map field (take i items)) was a w → Puts name (field (get_or items i d)) a b w w'
    → HasPut name (head ++ flat_map field (take (i + 1) items)) was b w'
one_more_put name head field items i d was a b w w' lt so puts =
    subst (λ text. HasPut name text was b w')
    (append_assoc head (flat_map field (take i items)) (field (get_or items i d)) ∙ ap (λ text. head ++ text) (sym (fields_next field items i d lt)))
    (puts was (head ++ flat_map field (take i items)) so)

-- a walk record, field by field
pub walk_put : (name : List ℕ) (taps : Taps) (n gap : ℕ) (walk tables : List ℕ) {a b d e f g : ShelfState} {w0 w1 w2 w3 w4 w5 : Pending} → n ≡ taps_number taps
    → Puts name (field_32 (length walk)) a b w0 w1 → Puts name (n ∷ []) b d w1 w2 → Puts name (field_16 gap) d e w2 w3
    → Puts name (fields_16 walk) e f w3 w4 → Puts name (fields_64 tables) f g w4 w5 → Puts name (walk_form taps gap walk tables) a g w0 w5
unfolding walk_form
walk_put name taps n gap walk tables {a = a} {b = b} {d = d} {e = e} {f = f} {g = g} {w0 = w0} {w1 = w1} {w2 = w2} {w3 = w3} {w4 = w4} {w5 = w5} is one two three four five =
    let len = field_32 (length walk) in
    subst (λ n. Puts name (len ++ n ∷ [] ++ field_16 gap ++ fields_16 walk ++ fields_64 tables) a g w0 w5) is
    (put_next name (len ++ n ∷ [] ++ field_16 gap ++ fields_16 walk) (fields_64 tables) f g w4 w5 w0 a
    (put_next name (len ++ n ∷ [] ++ field_16 gap) (fields_16 walk) e f w3 w4 w0 a
    (put_next name (len ++ n ∷ []) (field_16 gap) d e w2 w3 w0 a (put_next name len (n ∷ []) b d w1 w2 w0 a one two) three) four) five)
