-- The value of a cyclic product at a root of one is the product of the values.
use Rattle.std.proofs.Common.{◌≡◌, ℕ, ◌+◌, ◌-◌, ◌*◌, ◌^◌, ◌≤◌, ◌<◌, suc, List, [], ◌∷◌, ◌++◌, length, get_or, take, inl, inr, refl, sym, ◌∙◌, ap, arith}
use Rattle.std.proofs.Math.Nat.{pow-suc}
use Rattle.std.proofs.lemmas.List.{length-take-le, get_or-take, take_more}
use Rattle.std.proofs.Math.Seq.{take-length}
use Rattle.std.proofs.lemmas.Bool.{cases_order}
use Rattle.std.proofs.lemmas.Bool.Decides.{nat_tests}
use Rattle.std.proofs.lemmas.List.FromFn.{get_or-map-range_with_len, length-map-range_with_len}
use Rattle.boxes.specs.Sums.{sum_to}
use Rattle.boxes.proofs.Additions.{counts}
use Rattle.boxes.proofs.Axes.{sum_equal, sum_first}
use Rattle.cyclic_products.specs.Residues.{IsCongruent}
use Rattle.cyclic_products.specs.Products.{cyclic, cyclic_at, index_to}
use Rattle.cyclic_products.proofs.SameNumbers.{same_equal, same_plus, same_refl, same_sym, same_times, same_trans}
use Rattle.cyclic_products.proofs.Values.{value, value-append}

-- a list turned by one: the last number comes first
abbrev turned : List ℕ → List ℕ
turned g = get_or g (length g - 1) 0 ∷ take (length g - 1) g

length-turned : (g : List ℕ) → 1 ≤ length g → length (turned g) ≡ length g
length-turned g some = omega (arith, length-take-le (length g - 1) g (omega arith), some)

get_or-take_below : (xs : List ℕ) (n k : ℕ) → k < n → get_or (take n xs) k 0 ≡ get_or xs k 0
get_or-take_below xs n k below = get_or-take n xs k 0 below

-- what is beside an index of a turned list
turned_beside : (g : List ℕ) (k i : ℕ) → k < length g → i < length g → get_or (turned g) (index_to (length g) k i) 0 ≡ get_or g (index_to (length g) k (suc i)) 0
turned_beside g k i below less = elim (cases_order k i) [ inl e ↦ same e | inr apart ↦ elim apart [ inl lt ↦ before lt | inr lt ↦ after lt ] ]
  where
    n : ℕ
    n = length g

    same : k ≡ i → get_or (turned g) (index_to n k i) 0 ≡ get_or g (index_to n k (suc i)) 0
    same e =
        let here : index_to n k i ≡ 0 = grind (arith, nat_tests) in
        let last : index_to n k (suc i) ≡ n - 1 = grind (arith, nat_tests) in
        ap (λ m. get_or (turned g) m 0) here ∙ sym (ap (λ m. get_or g m 0) last)

    further : (m : ℕ) → index_to n k i ≡ suc m → index_to n k (suc i) ≡ m → m < n - 1 → get_or (turned g) (index_to n k i) 0 ≡ get_or g (index_to n k (suc i)) 0
    further m here there small =
        ap (λ j. get_or (turned g) j 0) here ∙ get_or-take_below g (n - 1) m small ∙ sym (ap (λ j. get_or g j 0) there)

    before : k < i → get_or (turned g) (index_to n k i) 0 ≡ get_or g (index_to n k (suc i)) 0
    before lt =
        let here : index_to n k i ≡ suc (k + n - suc i) = grind (arith, nat_tests) in
        let there : index_to n k (suc i) ≡ k + n - suc i = grind (arith, nat_tests) in
        further (k + n - suc i) here there (omega arith)

    after : i < k → get_or (turned g) (index_to n k i) 0 ≡ get_or g (index_to n k (suc i)) 0
    after lt =
        let here : index_to n k i ≡ suc (k - suc i) = grind (arith, nat_tests) in
        let there : index_to n k (suc i) ≡ k - suc i = grind (arith, nat_tests) in
        further (k - suc i) here there (omega arith)

-- the product by a list with one more number at its front
cyclic_more : (a : ℕ) (f g : List ℕ) (k : ℕ) → k < length g → suc (length f) ≤ length g → cyclic_at (a ∷ f) g k ≡ a * get_or g k 0 + cyclic_at f (turned g) k
cyclic_more a f g k below fits =
    let n = length g in
    let term = λ (i : ℕ). get_or (a ∷ f) i 0 * get_or g (index_to n k i) 0 in
    let here : index_to n k 0 ≡ k = grind (arith, nat_tests) in
    let front : term 0 ≡ a * get_or g k 0 = ap (λ m. a * get_or g m 0) here in
    let size : length (turned g) ≡ n = length-turned g (omega arith) in
    let rest : sum_to (length f) (λ i. term (suc i)) ≡ cyclic_at f (turned g) k =
    sum_equal counts (length f) (λ i. term (suc i)) (λ i. get_or f i 0 * get_or (turned g) (index_to (length (turned g)) k i) 0)
    (λ i lt. ap (λ x. get_or f i 0 * x) (sym (turned_beside g k i below (omega arith)) ∙ ap (λ m. get_or (turned g) (index_to m k i) 0) (sym size))) in
    let whole : cyclic_at (a ∷ f) g k ≡ term 0 + sum_to (length f) (λ i. term (suc i)) = sum_first counts (length f) term in
    omega (arith, whole, front, rest)

value-zero : (r : ℕ) (zs : List ℕ) → ((k : ℕ) → k < length zs → get_or zs k 0 ≡ 0) → value r zs ≡ 0
value-zero r [] none = refl
value-zero r (z ∷ zs) none =
    let rest : value r zs ≡ 0 = value-zero r zs (λ k lt. none (suc k) (omega (arith, lt))) in
    let head : z ≡ 0 = none 0 (omega arith) in
    let product : r * value r zs ≡ r * 0 = ap (λ n. r * n) rest in
    omega (arith, head, product)

-- a list of a * x + y for each x and y of two others
value-plus : (a r : ℕ) (xs ys zs : List ℕ) → length ys ≡ length xs → length zs ≡ length xs → ((k : ℕ) → k < length xs → get_or zs k 0 ≡ a * get_or xs k 0 + get_or ys k 0) → value r zs ≡ a * value r xs + value r ys
value-plus a r [] [] [] e f each = omega arith
value-plus a r [] (y ∷ ys) zs e f each = absurd (omega (arith, e))
value-plus a r [] [] (z ∷ zs) e f each = absurd (omega (arith, f))
value-plus a r (x ∷ xs) [] zs e f each = absurd (omega (arith, e))
value-plus a r (x ∷ xs) (y ∷ ys) [] e f each = absurd (omega (arith, f))
value-plus a r (x ∷ xs) (y ∷ ys) (z ∷ zs) e f each =
    let rest : value r zs ≡ a * value r xs + value r ys = value-plus a r xs ys zs (omega (arith, e)) (omega (arith, f)) (λ k lt. each (suc k) (omega (arith, lt))) in
    let head : z ≡ a * x + y = each 0 (omega arith) in
    let product : r * value r zs ≡ r * (a * value r xs + value r ys) = ap (λ n. r * n) rest in
    omega (arith, head, product)

-- turned by one, a list has its value times r
value-turned : (q r : ℕ) (g : List ℕ) → 1 ≤ length g → IsCongruent q (r ^ length g) 1 → IsCongruent q (value r (turned g)) (r * value r g)
value-turned q r g some root =
    let m = length g - 1 in
    let init = take m g in
    let last = get_or g m 0 in
    let size : length init ≡ m = length-take-le m g (omega arith) in
    let m_more : m + 1 ≡ length g = omega (arith, some) in
    let split : g ≡ init ++ (last ∷ []) = sym (ap (λ n. take n g) m_more ∙ take-length g) ∙ take_more g m 0 (omega (arith, some)) in
    let parts : value r g ≡ value r init + r ^ m * (last + r * 0) =
    ap (λ h. value r h) split ∙ value-append r init (last ∷ []) ∙ ap (λ n. value r init + r ^ n * (last + r * 0)) size in
    let times_r : r * value r g ≡ r * (value r init + r ^ m * (last + r * 0)) = ap (λ n. r * n) parts in
    let power : r ^ length g ≡ r ^ m * r = ap (λ n. r ^ n) (omega (arith, some)) ∙ pow-suc r m in
    let product : r ^ length g * last ≡ (r ^ m * r) * last = ap (λ n. n * last) power in
    let whole : r * value r g ≡ r * value r init + r ^ length g * last = omega (arith, times_r, product) in
    let one : IsCongruent q (r ^ length g * last) (1 * last) = same_times q _ _ last last root (same_refl q last) in
    let back : IsCongruent q (r * value r init + r ^ length g * last) (r * value r init + 1 * last) = same_plus q _ _ _ _ (same_refl q (r * value r init)) one in
    same_sym q _ _ (same_trans q _ _ _ (same_equal q _ _ whole) (same_trans q _ _ _ back (same_equal q _ _ (omega arith))))

pub length-cyclic : (f g : List ℕ) → length (cyclic f g) ≡ length g
unfolding cyclic
length-cyclic f g = length-map-range_with_len (cyclic_at f g) 0 (length g)

cyclic_entry : (f g : List ℕ) (k : ℕ) → k < length g → get_or (cyclic f g) k 0 ≡ cyclic_at f g k
unfolding cyclic
cyclic_entry f g k below = get_or-map-range_with_len (cyclic_at f g) 0 (length g) k k 0 below (omega arith)

pub value-cyclic : (q r : ℕ) (f g : List ℕ) → 1 ≤ length g → length f ≤ length g → IsCongruent q (r ^ length g) 1 → IsCongruent q (value r (cyclic f g)) (value r f * value r g)
value-cyclic q r [] g some fits root =
    let none : value r (cyclic [] g) ≡ 0 = value-zero r (cyclic [] g) (λ k lt. cyclic_entry [] g k (omega (arith, length-cyclic [] g, lt))) in
    same_equal q _ _ (omega (arith, none))
value-cyclic q r (a ∷ f) g some fits root =
    let h = turned g in
    let size : length h ≡ length g = length-turned g some in
    let sum : value r (cyclic (a ∷ f) g) ≡ a * value r g + value r (cyclic f h) =
    value-plus a r g (cyclic f h) (cyclic (a ∷ f) g) (length-cyclic f h ∙ size) (length-cyclic (a ∷ f) g)
    (λ k lt. cyclic_entry (a ∷ f) g k lt ∙ cyclic_more a f g k lt (omega (arith, fits)) ∙ ap (λ n. a * get_or g k 0 + n) (sym (cyclic_entry f h k (omega (arith, size, lt))))) in
    let again : IsCongruent q (r ^ length h) 1 = same_trans q _ _ _ (same_equal q _ _ (ap (λ n. r ^ n) size)) root in
    let rest : IsCongruent q (value r (cyclic f h)) (value r f * value r h) = value-cyclic q r f h (omega (arith, size, some)) (omega (arith, size, fits)) again in
    let by_turn : IsCongruent q (value r f * value r h) (value r f * (r * value r g)) = same_times q _ _ _ _ (same_refl q (value r f)) (value-turned q r g some root) in
    let both : IsCongruent q (a * value r g + value r (cyclic f h)) (a * value r g + value r f * (r * value r g)) =
    same_plus q _ _ _ _ (same_refl q (a * value r g)) (same_trans q _ _ _ rest by_turn) in
    same_trans q _ _ _ (same_equal q _ _ sum) (same_trans q _ _ _ both (same_equal q _ _ (omega arith)))
