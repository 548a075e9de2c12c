-- Texts: equal ones, those with the same stem, and the position of one in a list.
use Rattle.std.proofs.Common.{◌≡◌, ◌≢◌, ℕ, ◌+◌, List, [], ◌∷◌, ◌++◌, length, refl, sym, ap, ◌∙◌, arith, Bool, true, false, cond, not, ◌&&◌, eqb-true}
use Rattle.std.specs.Prelude.{Some, None, map, position, nat_eq, nat_lt}
use Rattle.std.specs.List.{prefix_len, position_or_len}
use Rattle.std.proofs.lemmas.Bool.{eq-eqb}
use Rattle.std.proofs.lemmas.List.{length-map}
use Rattle.job_words.specs.Texts.{same_text}

pub same_exact : (a b : List ℕ) → same_text a b ≡ true → a ≡ b
same_exact [] [] e = refl
same_exact [] (y ∷ ys) e = absurd (cc)
same_exact (x ∷ xs) [] e = absurd (cc)
same_exact (x ∷ xs) (y ∷ ys) e =
    let first : nat_eq x y ≡ true = grind arith in
    let rest : same_text xs ys ≡ true = grind arith in
    ap (λ n. n ∷ xs) (eqb-true x y first) ∙ ap (λ zs. y ∷ zs) (same_exact xs ys rest)

pub same_itself : (a : List ℕ) → same_text a a ≡ true
same_itself [] = refl
same_itself (x ∷ xs) = grind (arith, eq-eqb x x refl, same_itself xs)

either : (b : Bool) → (b ≡ true → ⊥) → b ≡ false
either true h = absurd (h refl)
either false h = refl

-- texts that differ aren't the same
pub same_not : (a b : List ℕ) → a ≢ b → same_text a b ≡ false
same_not a b apart = either (same_text a b) (λ e. apart (same_exact a b e))

pub equal_tests : (a b : Bool) → (a ≡ true → b ≡ true) → (b ≡ true → a ≡ true) → a ≡ b
equal_tests true b there back = sym (there refl)
equal_tests false true there back = back refl
equal_tests false false there back = refl

same_other : (a b : List ℕ) → same_text a b ≡ true → same_text b a ≡ true
same_other a b e = ap (λ x. same_text b x) (same_exact a b e) ∙ same_itself b

pub same_turned : (a b : List ℕ) → same_text a b ≡ same_text b a
same_turned a b = equal_tests (same_text a b) (same_text b a) (same_other a b) (same_other b a)

-- after the same stem the rests decide
pub same_after : (stem a b : List ℕ) → same_text (stem ++ a) (stem ++ b) ≡ same_text a b
same_after [] a b = refl
same_after (x ∷ stem) a b =
    ap (λ t. t && same_text (stem ++ a) (stem ++ b)) (eq-eqb x x refl) ∙ same_after stem a b

prefix_len-map : {A B : Type 0} (f : A → B) (p : B → Bool) (xs : List A) → prefix_len p (map f xs) ≡ prefix_len (λ x. p (f x)) xs
prefix_len-map f p [] = refl
prefix_len-map f p (x ∷ xs) = ap (λ n. cond (p (f x)) (1 + n) 0) (prefix_len-map f p xs)

-- the position of the first item that passes, among the images of items
pub position-map : {A B : Type 0} (f : A → B) (p : B → Bool) (xs : List A) → position p (map f xs) ≡ position (λ x. p (f x)) xs
position-map f p xs =
    let same : position_or_len p (map f xs) ≡ position_or_len (λ x. p (f x)) xs = prefix_len-map f (λ y. not (p y)) xs in
    ap (λ n. cond (nat_lt n (length (map f xs))) (Some n) None) same
    ∙ ap (λ n. cond (nat_lt (position_or_len (λ x. p (f x)) xs) n) (Some (position_or_len (λ x. p (f x)) xs)) None) (length-map xs f)
