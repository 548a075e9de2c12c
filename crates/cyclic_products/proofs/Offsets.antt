-- The cyclic product of a list from its end with another has the sums of products at each offset.
use Rattle.std.proofs.Common.{◌≡◌, ℕ, ◌+◌, ◌-◌, ◌*◌, ◌<◌, zero, suc, List, length, get_or, reverse, refl, sym, ◌∙◌, ap, arith}
use Rattle.std.proofs.lemmas.Bool.Decides.{nat_tests}
use Rattle.std.proofs.lemmas.List.{get_or-reverse, length-reverse}
use Rattle.boxes.specs.Sums.{sum_to}
use Rattle.boxes.proofs.Additions.{counts}
use Rattle.boxes.proofs.Axes.{sum_equal, sum_first}
use Rattle.cyclic_products.specs.Products.{cyclic_at, index_after, index_to, offset_at}

-- a sum from its last term
pub sum_reversed : (n : ℕ) (g : ℕ → ℕ) → sum_to n g ≡ sum_to n (λ i. g (n - suc i))
sum_reversed zero g = refl
sum_reversed (suc n) g =
    let front : sum_to (suc n) (λ i. g (suc n - suc i)) ≡ g (suc n - suc 0) + sum_to n (λ i. g (suc n - suc (suc i))) = sum_first counts n (λ i. g (suc n - suc i)) in
    let last : g (suc n - suc 0) ≡ g n = ap g (omega arith) in
    let rest : sum_to n (λ i. g (suc n - suc (suc i))) ≡ sum_to n (λ i. g (n - suc i)) = sum_equal counts n _ _ (λ i less. ap g (omega arith)) in
    let again : sum_to n g ≡ sum_to n (λ i. g (n - suc i)) = sum_reversed n g in
    let whole : sum_to n g + g n ≡ sum_to (suc n) (λ i. g (suc n - suc i)) = omega (arith, front, last, rest, again) in
    whole

-- where the sum of an offset comes to
abbrev pub index_of_offset : ℕ → ℕ → ℕ
index_of_offset n d = index_after n (n - 1) d

beside : (n d i : ℕ) → d < n → i < n → index_to n (index_of_offset n d) (n - suc i) ≡ index_after n d i
beside n d i below less = grind (arith, nat_tests)

pub reversed_product : (f g : List ℕ) (d : ℕ) → length f ≡ length g → d < length g → cyclic_at (reverse f) g (index_of_offset (length g) d) ≡ offset_at f g d
reversed_product f g d equal below =
    let n = length g in
    let k = index_of_offset n d in
    let term = λ (i : ℕ). get_or (reverse f) i 0 * get_or g (index_to n k i) 0 in
    let size : length (reverse f) ≡ n = length-reverse f ∙ equal in
    let each : (i : ℕ) → i < n → term (n - suc i) ≡ get_or f i 0 * get_or g (index_after n d i) 0 =
    λ i less.
    let back : get_or (reverse f) (n - suc i) 0 ≡ get_or f i 0 = get_or-reverse f (n - suc i) 0 (omega (arith, equal, less)) ∙ ap (λ j. get_or f j 0) (omega (arith, equal, less)) in
    ap (λ x. x * get_or g (index_to n k (n - suc i)) 0) back ∙ ap (λ j. get_or f i 0 * get_or g j 0) (beside n d i below less)
    in
    ap (λ m. sum_to m term) size ∙ sum_reversed n term ∙ sum_equal counts n _ (λ i. get_or f i 0 * get_or g (index_after n d i) 0) each
    ∙ ap (λ m. sum_to m (λ i. get_or f i 0 * get_or g (index_after n d i) 0)) (sym equal)
