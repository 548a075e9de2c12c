-- The least of numbers, one number more at a time, and a row written into a table.
use Rattle.std.proofs.Common.{◌≡◌, ℕ, ◌+◌, ◌-◌, ◌*◌, ◌<◌, ◌≤◌, List, ◌++◌, length, get_or, set, take, drop, refl, ap, sym, ◌∙◌, subst, arith, below_more, ⊎_elim, inl, inr, get_or-take, get_or-drop}
use Rattle.std.specs.Prelude.{min}
use Rattle.std.proofs.Math.Nat.{mul-le-mul_right}
use Rattle.std.proofs.lemmas.Bool.{cases_eq, cases_lt}
use Rattle.std.proofs.lemmas.Nat.{mul-add-lt}
use Rattle.std.proofs.lemmas.List.{get_or_append_left, get_or-append-add, get_or-set_other, get_or-set_same, length-set, length-take-le}
use borrow.Rule.Slice.PartMut.{put_mid, post_of}
use Rattle.loop_walk.specs.declared.product.TheConstants.{FAR, GREATEST_NUMBER}
use Rattle.loop_walk.specs.Products.{AreBroughtNear, AreRestored, AreSmall, IsLeastNumber, IsLeastOf, IsNearProduct, IsNoneOrAtMost, IsProduct, IsRestored, brought_near, near_row_sum, near_sum_through, stopped_sum}

pub least-same : (none n x y : ℕ) (f g : ℕ → ℕ) → x ≡ y → ((v : ℕ) → v < n → f v ≡ g v) → IsLeastOf none n x f → IsLeastOf none n y g
least-same none n x y f g same sums least = record {
  below = λ v lt. let le = least.below v lt in let e = sums v lt in omega arith;
  reached = ⊎_elim (λ is. inl (omega arith)) (λ at. inr (at.0, at.1, sym same ∙ at.2 ∙ sums at.0 at.1)) least.reached;
}

pub least-more : (none v x y : ℕ) (f : ℕ → ℕ) → IsLeastOf none v x f → y ≡ min x (f v) → IsLeastOf none (v + 1) y f
least-more none v x y f least is = record {
  below = λ u lt. ⊎_elim
      (λ before. let le = least.below u before in omega arith)
      (λ from. let here : f u ≡ f v = ap f (let e : u ≡ v = omega arith in e) in omega arith)
      (cases_lt u v);
  reached = ⊎_elim
      (λ lower. inr (v, omega arith, omega arith))
      (λ keeps. let same : y ≡ x = omega arith in ⊎_elim (λ top. inl (omega arith)) (λ at. inr (at.0, omega (arith, at.1), same ∙ at.2)) least.reached)
      (cases_lt (f v) x);
}

-- two numbers more, or the last one twice
pub least-more_two : (none n h x y : ℕ) (f : ℕ → ℕ) → 2 * h < n → IsLeastOf none (min (2 * h) n) x f
    → y ≡ min x (min (f (2 * h)) (f (min (2 * h + 1) (n - 1)))) → IsLeastOf none (min (2 * (h + 1)) n) y f
least-more_two none n h x y f lt least is = ⊎_elim
    (λ more. subst (λ k. IsLeastOf none k y f) (let e : 2 * h + 1 + 1 ≡ min (2 * (h + 1)) n = omega arith in e)
    (least-more none (2 * h + 1) (min x (f (2 * h))) y f one
    (let there : f (min (2 * h + 1) (n - 1)) ≡ f (2 * h + 1) = ap f (let e : min (2 * h + 1) (n - 1) ≡ 2 * h + 1 = omega arith in e) in omega arith)))
    (λ last. subst (λ k. IsLeastOf none k y f) (let e : 2 * h + 1 ≡ min (2 * (h + 1)) n = omega arith in e)
    (least-same none (2 * h + 1) (min x (f (2 * h))) y f f
    (let there : f (min (2 * h + 1) (n - 1)) ≡ f (2 * h) = ap f (let e : min (2 * h + 1) (n - 1) ≡ 2 * h = omega arith in e) in omega arith)
    (λ v below. refl) one))
    (cases_lt (2 * h + 1) n)
  where
    begun : IsLeastOf none (2 * h) x f
    begun = subst (λ k. IsLeastOf none k x f) (let e : min (2 * h) n ≡ 2 * h = omega arith in e) least

    one : IsLeastOf none (2 * h + 1) (min x (f (2 * h))) f
    one = least-more none (2 * h) x (min x (f (2 * h))) f begun refl

-- an entry before the row, and one of the row
pub get_or-put_before : (made sums : List ℕ) (a k q : ℕ) → q < a → a ≤ length made → get_or (put_mid a k made sums) q 0 ≡ get_or made q 0
get_or-put_before made sums a k q lt fits =
    get_or_append_left (take a made) (sums ++ post_of a k made) 0 q (omega (arith, length-take-le a made fits)) ∙ get_or-take a made q 0 lt

pub get_or-put_inside : (made sums : List ℕ) (a k q : ℕ) → q < length sums → a ≤ length made → get_or (put_mid a k made sums) (a + q) 0 ≡ get_or sums q 0
get_or-put_inside made sums a k q lt fits =
    subst (λ p. get_or (put_mid a k made sums) (p + q) 0 ≡ get_or (sums ++ post_of a k made) q 0) (length-take-le a made fits) (get_or-append-add (take a made) (sums ++ post_of a k made) q 0)
    ∙ get_or_append_left sums (post_of a k made) 0 q lt

-- one more row of a product
pub product_row_more : (n i : ℕ) (left nears made sums : List ℕ) → i < n → length made ≡ n * n → length sums ≡ n
    → ((row j : ℕ) → row < i → j < n → IsLeastOf FAR n (get_or made (row * n + j) 0) (near_sum_through n left nears row j))
    → ((j : ℕ) → j < n → IsLeastOf FAR n (get_or sums j 0) (near_row_sum n (take (i * n + n - i * n) (drop (i * n) left)) nears j))
    → (row j : ℕ) → row < i + 1 → j < n → IsLeastOf FAR n (get_or (put_mid (i * n) (i * n + n - i * n) made sums) (row * n + j) 0) (near_sum_through n left nears row j)
product_row_more n i left nears made sums lt whole long rows here row j below column = ⊎_elim
    (λ before.
    let place : row * n + j < i * n = omega (arith, mul-le-mul_right n (let le : row + 1 ≤ i = omega arith in le)) in
    least-same FAR n (get_or made (row * n + j) 0) (get_or written (row * n + j) 0) (near_sum_through n left nears row j) (near_sum_through n left nears row j)
    (sym (get_or-put_before made sums (i * n) (i * n + n - i * n) (row * n + j) place (omega (arith, room))))
    (λ v lt. refl) (rows row j before column))
    (λ from.
    let same : row ≡ i = omega arith in
    least-same FAR n (get_or sums j 0) (get_or written (row * n + j) 0) (near_row_sum n (take (i * n + n - i * n) (drop (i * n) left)) nears j) (near_sum_through n left nears row j)
    (sym (ap (λ k. get_or written (k * n + j) 0) same ∙ get_or-put_inside made sums (i * n) (i * n + n - i * n) j (omega arith) (omega (arith, room))))
    (λ v lt.
    let within : v < i * n + n - i * n = omega arith in
    ap (λ first. brought_near first + get_or nears (v * n + j) 0)
    (get_or-take (i * n + n - i * n) (drop (i * n) left) v 0 within ∙ get_or-drop (i * n) left v 0 ∙ ap (λ k. get_or left (k * n + v) 0) (sym same)))
    (here j column))
    (cases_lt row i)
  where
    written : List ℕ
    written = put_mid (i * n) (i * n + n - i * n) made sums

    room : i * n + n ≤ n * n
    room = omega (arith, mul-le-mul_right n (let le : i + 1 ≤ n = omega arith in le))

-- the least sum with none brought near, restored, is the least sum
pub least-restored : (n x y : ℕ) (a b : ℕ → ℕ)
    → ((v : ℕ) → v < n → IsNoneOrAtMost GREATEST_NUMBER (a v)) → ((v : ℕ) → v < n → IsNoneOrAtMost GREATEST_NUMBER (b v))
    → IsLeastOf FAR n x (λ v. brought_near (a v) + brought_near (b v)) → IsRestored x y
    → IsLeastNumber n y (λ v. stopped_sum (a v) (b v))
least-restored n x y a b sa sb least = ⊎_elim
    (λ there. record {
      below = λ v lt. let le = least.below v lt in let small_a = sa v lt in let small_b = sb v lt in ⊎_elim (λ none_a. omega arith) (λ few_a. ⊎_elim (λ none_b. omega arith) (λ few_b. omega arith) small_b) small_a;
      reached = ⊎_elim (λ far. absurd (omega arith))
          (λ at. inr (
            at.0,
            at.1,
            let is = at.2 in ⊎_elim (λ none_a. absurd (omega arith)) (λ few_a. ⊎_elim (λ none_b. absurd (omega arith)) (λ few_b. omega arith) (sb at.0 at.1)) (sa at.0 at.1),
          ))
          least.reached;
    })
    (λ far. record {
      below = λ v lt. let le = least.below v lt in let small_a = sa v lt in let small_b = sb v lt in ⊎_elim (λ none_a. omega arith) (λ few_a. ⊎_elim (λ none_b. omega arith) (λ few_b. omega arith) small_b) small_a;
      reached = inl far.1;
    })

-- so it is for a whole product
pub product_restored : (n : ℕ) (left right nears made restored : List ℕ)
    → length left ≡ n * n → length right ≡ n * n → length made ≡ n * n
    → AreSmall GREATEST_NUMBER left → AreSmall GREATEST_NUMBER right
    → AreBroughtNear right nears → IsNearProduct n left nears made → AreRestored made restored
    → IsProduct n left right restored
product_restored n left right nears made restored whole_left whole_right whole small_left small_right brought product is i j row column =
    least-restored n (get_or made (i * n + j) 0) (get_or restored (i * n + j) 0) (λ v. get_or left (i * n + v) 0) (λ v. get_or right (v * n + j) 0)
    (λ v lt. small_left (i * n + v) (omega (arith, mul-add-lt i n v n row lt)))
    (λ v lt. small_right (v * n + j) (omega (arith, mul-add-lt v n j n lt column)))
    (least-same FAR n (get_or made (i * n + j) 0) (get_or made (i * n + j) 0) (near_sum_through n left nears i j) (λ v. brought_near (get_or left (i * n + v) 0) + brought_near (get_or right (v * n + j) 0)) refl
    (λ v lt. ap (λ second. brought_near (get_or left (i * n + v) 0) + second) (brought (v * n + j) (omega (arith, mul-add-lt v n j n lt column))))
    (product i j row column))
    (is (i * n + j) (omega (arith, mul-add-lt i n j n row column)))

-- what holds of each number of a list so far, and of one that is put in
pub set_more : (P : ℕ → ℕ → Type 0) (xs : List ℕ) (j x : ℕ) → j < length xs → ((k : ℕ) → k < j → P k (get_or xs k 0)) → P j x → (k : ℕ) → k < j + 1 → P k (get_or (set xs j x) k 0)
set_more P xs j x inside before here = below_more (λ k. P k (get_or (set xs j x) k 0)) j
    (λ k lt. subst (P k) (sym (get_or-set_other xs j k x 0 (apart k lt))) (before k lt))
    (subst (P j) (sym (get_or-set_same xs j x 0 inside)) here)
  where
    apart : (k : ℕ) → k < j → k ≡ j → ⊥
    apart k lt is = omega arith

-- numbers that are lowered one by one
pub lowered_more : (start sums : List ℕ) (j x : ℕ) (low : ℕ → ℕ) → j < length sums → ((k : ℕ) → k < j → get_or sums k 0 ≡ min (get_or start k 0) (low k)) → ((k : ℕ) → j ≤ k → get_or sums k 0 ≡ get_or start k 0)
    → x ≡ min (get_or sums j 0) (low j) → (k : ℕ) → k < j + 1 → get_or (set sums j x) k 0 ≡ min (get_or start k 0) (low k)
lowered_more start sums j x low inside before same is =
    set_more (λ k y. y ≡ min (get_or start k 0) (low k)) sums j x inside before (is ∙ ap (λ y. min y (low j)) (same j (at_least j)))
  where
    at_least : (k : ℕ) → k ≤ k
    at_least k = omega arith

pub same_after : (start sums : List ℕ) (j x : ℕ) → ((k : ℕ) → j ≤ k → get_or sums k 0 ≡ get_or start k 0) → (k : ℕ) → j + 1 ≤ k → get_or (set sums j x) k 0 ≡ get_or start k 0
same_after start sums j x same k le = get_or-set_other sums j k x 0 (apart k le) ∙ same k (omega arith)
  where
    apart : (k : ℕ) → j + 1 ≤ k → k ≡ j → ⊥
    apart k le is = omega arith

pub bounded_more : (bound : ℕ) (xs : List ℕ) (j x : ℕ) → j < length xs → x ≤ bound → ((k : ℕ) → k < length xs → get_or xs k 0 ≤ bound) → (k : ℕ) → k < length (set xs j x) → get_or (set xs j x) k 0 ≤ bound
bounded_more bound xs j x inside le all k lt = ⊎_elim
    (λ (here : k ≡ j). subst (λ i. get_or (set xs j x) i 0 ≤ bound) (sym here) (subst (λ y. y ≤ bound) (sym (get_or-set_same xs j x 0 inside)) le))
    (λ other. subst (λ y. y ≤ bound) (sym (get_or-set_other xs j k x 0 other)) (all k (omega (arith, length-set xs j x))))
    (cases_eq k j)
