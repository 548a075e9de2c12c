-- Lists that are read in step.
use Rattle.std.proofs.Common.{◌≡◌, ℕ, ◌+◌, ◌%◌, ◌<◌, zero, suc, List, [], ◌∷◌, ◌++◌, length, get_or, take, drop, map, refl, subst, arith}
use Rattle.std.specs.List.{AllZip}
use Rattle.cyclic_products.specs.Residues.{AreCongruent, zip_with}
use Rattle.cyclic_products.proofs.SameNumbers.{same_refl}

pub length-zip_with : (op : ℕ → ℕ → ℕ) (xs ys : List ℕ) → length xs ≡ length ys → length (zip_with op xs ys) ≡ length xs
unfolding zip_with
length-zip_with op [] ys e = refl
length-zip_with op (x ∷ xs) [] e = omega (arith, e)
length-zip_with op (x ∷ xs) (y ∷ ys) e =
    let rest : length (zip_with op xs ys) ≡ length xs = length-zip_with op xs ys (omega (arith, e)) in
    omega (arith, rest)

pub get_or-zip_with : (op : ℕ → ℕ → ℕ) (xs ys : List ℕ) (i : ℕ) → length ys ≡ length xs → i < length xs → get_or (zip_with op xs ys) i 0 ≡ op (get_or xs i 0) (get_or ys i 0)
unfolding zip_with
get_or-zip_with op [] ys i e less = absurd (omega (arith, less))
get_or-zip_with op (x ∷ xs) [] i e less = absurd (omega (arith, e))
get_or-zip_with op (x ∷ xs) (y ∷ ys) zero e less = refl
get_or-zip_with op (x ∷ xs) (y ∷ ys) (suc i) e less = get_or-zip_with op xs ys i (omega (arith, e)) (omega (arith, less))

-- a list that has at each index what is in a relation to what the operation makes of two others
pub all_zip_by_index : (R : ℕ → ℕ → Type 0) (op : ℕ → ℕ → ℕ) (xs ys zs : List ℕ) → length ys ≡ length xs → length zs ≡ length xs → ((k : ℕ) → k < length xs → R (get_or zs k 0) (op (get_or xs k 0) (get_or ys k 0))) → AllZip R zs (zip_with op xs ys)
unfolding zip_with
all_zip_by_index R op [] ys [] e f each = tt
all_zip_by_index R op [] ys (z ∷ zs) e f each = absurd (omega (arith, f))
all_zip_by_index R op (x ∷ xs) [] zs e f each = absurd (omega (arith, e))
all_zip_by_index R op (x ∷ xs) (y ∷ ys) [] e f each = absurd (omega (arith, f))
all_zip_by_index R op (x ∷ xs) (y ∷ ys) (z ∷ zs) e f each =
    (each 0 (omega arith), all_zip_by_index R op xs ys zs (omega (arith, e)) (omega (arith, f)) (λ k below. each (suc k) (omega (arith, below))))

-- a list that has at each index what a function makes of another
pub map_by_index : (h : ℕ → ℕ) (xs zs : List ℕ) → length zs ≡ length xs → ((k : ℕ) → k < length xs → get_or zs k 0 ≡ h (get_or xs k 0)) → zs ≡ map h xs
map_by_index h [] [] e each = refl
map_by_index h [] (z ∷ zs) e each = absurd (omega (arith, e))
map_by_index h (x ∷ xs) [] e each = absurd (omega (arith, e))
map_by_index h (x ∷ xs) (z ∷ zs) e each =
    let head : z ≡ h x = each 0 (omega arith) in
    let tail : zs ≡ map h xs = map_by_index h xs zs (omega (arith, e)) (λ k below. each (suc k) (omega (arith, below))) in
    cc

pub all_zip_append : (R : ℕ → ℕ → Type 0) (us vs xs ys : List ℕ) → AllZip R us xs → AllZip R vs ys → AllZip R (us ++ vs) (xs ++ ys)
all_zip_append R [] vs [] ys p r = r
all_zip_append R [] vs (x ∷ xs) ys p r = absurd p
all_zip_append R (a ∷ us) vs [] ys p r = absurd p
all_zip_append R (a ∷ us) vs (x ∷ xs) ys p r = (p.0, all_zip_append R us vs xs ys p.1 r)

pub all_zip_weaker : (R S : ℕ → ℕ → Type 0) (us xs : List ℕ) → ((a x : ℕ) → R a x → S a x) → AllZip R us xs → AllZip S us xs
all_zip_weaker R S [] [] w p = p
all_zip_weaker R S [] (x ∷ xs) w p = absurd p
all_zip_weaker R S (a ∷ us) [] w p = absurd p
all_zip_weaker R S (a ∷ us) (x ∷ xs) w p = (w a x p.0, all_zip_weaker R S us xs w p.1)

-- of three lists, by the one in the middle
pub all_zip_compose : (R S T : ℕ → ℕ → Type 0) (us vs xs : List ℕ) → ((a b x : ℕ) → R a b → S b x → T a x) → AllZip R us vs → AllZip S vs xs → AllZip T us xs
all_zip_compose R S T [] [] [] w p r = r
all_zip_compose R S T [] [] (x ∷ xs) w p r = absurd r
all_zip_compose R S T [] (b ∷ vs) xs w p r = absurd p
all_zip_compose R S T (a ∷ us) [] xs w p r = absurd p
all_zip_compose R S T (a ∷ us) (b ∷ vs) [] w p r = absurd r
all_zip_compose R S T (a ∷ us) (b ∷ vs) (x ∷ xs) w p r = (w a b x p.0 r.0, all_zip_compose R S T us vs xs w p.1 r.1)

-- two lists of one thing each
pub all_zip_both : (R S T : ℕ → ℕ → Type 0) (op : ℕ → ℕ → ℕ) (us vs xs : List ℕ) → ((a b x : ℕ) → R a x → S b x → T (op a b) x) → AllZip R us xs → AllZip S vs xs → AllZip T (zip_with op us vs) xs
unfolding zip_with
all_zip_both R S T op [] vs [] w p r = p
all_zip_both R S T op [] vs (x ∷ xs) w p r = absurd p
all_zip_both R S T op (a ∷ us) vs [] w p r = absurd p
all_zip_both R S T op (a ∷ us) [] (x ∷ xs) w p r = absurd r
all_zip_both R S T op (a ∷ us) (b ∷ vs) (x ∷ xs) w p r = (w a b x p.0 r.0, all_zip_both R S T op us vs xs w p.1 r.1)

-- what an operation makes of two lists, compared with one that the two are compared with
pub all_zip_of_both : (R S T : ℕ → ℕ → Type 0) (op to₁ to₂ : ℕ → ℕ → ℕ) (us vs xs ys : List ℕ) → ((a b x y : ℕ) → R a (to₁ x y) → S b (to₂ x y) → T (op a b) x) → length xs ≡ length ys → AllZip R us (zip_with to₁ xs ys) → AllZip S vs (zip_with to₂ xs ys) → AllZip T (zip_with op us vs) xs
unfolding zip_with
all_zip_of_both R S T op to₁ to₂ [] vs [] ys w e p r = p
all_zip_of_both R S T op to₁ to₂ (a ∷ us) vs [] ys w e p r = absurd p
all_zip_of_both R S T op to₁ to₂ us vs (x ∷ xs) [] w e p r = absurd (omega (arith, e))
all_zip_of_both R S T op to₁ to₂ [] vs (x ∷ xs) (y ∷ ys) w e p r = absurd p
all_zip_of_both R S T op to₁ to₂ (a ∷ us) [] (x ∷ xs) (y ∷ ys) w e p r = absurd r
all_zip_of_both R S T op to₁ to₂ (a ∷ us) (b ∷ vs) (x ∷ xs) (y ∷ ys) w e p r =
    (w a b x y p.0 r.0, all_zip_of_both R S T op to₁ to₂ us vs xs ys w (omega (arith, e)) p.1 r.1)

-- the same, of the second list
pub all_zip_of_second : (R S T : ℕ → ℕ → Type 0) (op to₁ to₂ : ℕ → ℕ → ℕ) (us vs xs ys : List ℕ) → ((a b x y : ℕ) → R a (to₁ x y) → S b (to₂ x y) → T (op a b) y) → length xs ≡ length ys → AllZip R us (zip_with to₁ xs ys) → AllZip S vs (zip_with to₂ xs ys) → AllZip T (zip_with op us vs) ys
unfolding zip_with
all_zip_of_second R S T op to₁ to₂ us vs [] (y ∷ ys) w e p r = absurd (omega (arith, e))
all_zip_of_second R S T op to₁ to₂ us vs (x ∷ xs) [] w e p r = absurd (omega (arith, e))
all_zip_of_second R S T op to₁ to₂ [] vs [] [] w e p r = p
all_zip_of_second R S T op to₁ to₂ (a ∷ us) vs [] [] w e p r = absurd p
all_zip_of_second R S T op to₁ to₂ [] vs (x ∷ xs) (y ∷ ys) w e p r = absurd p
all_zip_of_second R S T op to₁ to₂ (a ∷ us) [] (x ∷ xs) (y ∷ ys) w e p r = absurd r
all_zip_of_second R S T op to₁ to₂ (a ∷ us) (b ∷ vs) (x ∷ xs) (y ∷ ys) w e p r =
    (w a b x y p.0 r.0, all_zip_of_second R S T op to₁ to₂ us vs xs ys w (omega (arith, e)) p.1 r.1)

-- the two parts of a list that is compared with a whole
pub all_zip_parts : (R : ℕ → ℕ → Type 0) (n : ℕ) (us xs ys : List ℕ) → length xs ≡ n → AllZip R us (xs ++ ys) → AllZip R (take n us) xs × AllZip R (drop n us) ys
all_zip_parts R zero us [] ys e p = (tt, p)
all_zip_parts R zero us (x ∷ xs) ys e p = absurd (omega (arith, e))
all_zip_parts R (suc n) us [] ys e p = absurd (omega (arith, e))
all_zip_parts R (suc n) [] (x ∷ xs) ys e p = absurd p
all_zip_parts R (suc n) (a ∷ us) (x ∷ xs) ys e p =
    let rest = all_zip_parts R n us xs ys (omega (arith, e)) p.1 in
    ((p.0, rest.0), rest.1)

-- two lists that are the same modulo q + 1 have one list of residues
pub residues_equal : (q : ℕ) (xs ys : List ℕ) → AreCongruent q xs ys → map (λ x. x % (q + 1)) xs ≡ map (λ x. x % (q + 1)) ys
residues_equal q [] [] p = refl
residues_equal q [] (y ∷ ys) p = absurd p
residues_equal q (x ∷ xs) [] p = absurd p
residues_equal q (x ∷ xs) (y ∷ ys) p =
    let head : x % (q + 1) ≡ y % (q + 1) = p.0.same in
    let tail = residues_equal q xs ys p.1 in
    cc

-- two lists that are compared with one
pub all_zip_meet : (R S T : ℕ → ℕ → Type 0) (us vs xs : List ℕ) → ((a b x : ℕ) → R a x → S b x → T a b) → AllZip R us xs → AllZip S vs xs → AllZip T us vs
all_zip_meet R S T [] [] [] w p r = tt
all_zip_meet R S T [] (v ∷ vs) [] w p r = absurd r
all_zip_meet R S T [] vs (x ∷ xs) w p r = absurd p
all_zip_meet R S T (u ∷ us) vs [] w p r = absurd p
all_zip_meet R S T (u ∷ us) [] (x ∷ xs) w p r = absurd r
all_zip_meet R S T (u ∷ us) (v ∷ vs) (x ∷ xs) w p r = (w u v x p.0 r.0, all_zip_meet R S T us vs xs w p.1 r.1)

pub are_same : (q : ℕ) (xs ys : List ℕ) → xs ≡ ys → AreCongruent q xs ys
are_same q xs ys e = subst (λ zs. AreCongruent q xs zs) e (itself xs)
  where
    itself : (zs : List ℕ) → AreCongruent q zs zs
    itself [] = tt
    itself (z ∷ zs) = (same_refl q z, itself zs)
