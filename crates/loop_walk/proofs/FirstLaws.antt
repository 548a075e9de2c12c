-- The order of walks by their middles: which positions it compares, and that one walk is the first.
use Rattle.std.proofs.Common.{◌≡◌, ℕ, zero, suc, ◌+◌, ◌-◌, ◌<◌, ◌≤◌, List, [], ◌∷◌, ◌++◌, map, length, get_or, refl, ap, sym, ◌∙◌, subst, arith, ⊎_elim, inl, inr}
use Rattle.std.specs.Prelude.{All, if◌then◌else◌}
use Rattle.std.proofs.lemmas.Bool.{lt-leb, le-leb, cases_lt}
use Rattle.std.proofs.lemmas.List.{ext_get_or}
use Rattle.std.proofs.lemmas.List.Elements.{All-append, All-cons, All-head, All-map, All-nil, All-tail, All-weaker}
use Rattle.frame_distance.specs.Steps.{Steps}
use Rattle.loop_walk.specs.Walks.{IsLeastWalk}
use Rattle.loop_walk.specs.Tables.{length_before}
use Rattle.loop_walk.specs.FirstWalks.{ComesFirst, IsFirstWalk, middles, middles_within}
use Rattle.loop_walk.proofs.Lengths.{is_before}

-- Elements of joined and mapped lists.

all_front : (P : ℕ → Type 0) (xs ys : List ℕ) → All P (xs ++ ys) → All P xs
all_front P [] ys all = All-nil P
all_front P (x ∷ xs) ys all = All-cons P x xs (All-head P x (xs ++ ys) all) (all_front P xs ys (All-tail P x (xs ++ ys) all))

all_back : (P : ℕ → Type 0) (xs ys : List ℕ) → All P (xs ++ ys) → All P ys
all_back P [] ys all = all
all_back P (x ∷ xs) ys all = all_back P xs ys (All-tail P x (xs ++ ys) all)

all_mapped : (P : ℕ → Type 0) (f : ℕ → ℕ) (ys : List ℕ) → All P (map f ys) → All (λ y. P (f y)) ys
all_mapped P f [] all = All-nil (λ y. P (f y))
all_mapped P f (y ∷ ys) all =
    All-cons (λ k. P (f k)) y ys (All-head P (f y) (map f ys) all) (all_mapped P f ys (All-tail P (f y) (map f ys) all))

-- The middles of a part.

abbrev pub of_halves : ℕ → List ℕ → List ℕ → List ℕ
of_halves b first second = b ∷ (first ++ map (λ place. b + place) second)

none_within : (bound m : ℕ) → m ≤ 1 → middles_within bound m ≡ []
none_within zero m one = refl
none_within (suc bound) m one =
    ap (λ b. if b then [] else of_halves (length_before m) (middles_within bound (length_before m)) (middles_within bound (m - length_before m))) (le-leb m 1 one)

more_within : (bound m : ℕ) → 2 ≤ m
    → middles_within (suc bound) m ≡ of_halves (length_before m) (middles_within bound (length_before m)) (middles_within bound (m - length_before m))
more_within bound m two =
    ap (λ b. if b then [] else of_halves (length_before m) (middles_within bound (length_before m)) (middles_within bound (m - length_before m))) (lt-leb m 1 (omega arith))

-- enough room gives the same middles
same_within : (a b m : ℕ) → m ≤ a → m ≤ b → middles_within a m ≡ middles_within b m
same_within zero b m la lb = sym (none_within b m (omega arith))
same_within (suc a) zero m la lb = none_within (suc a) m (omega arith)
same_within (suc a) (suc b) m la lb = ⊎_elim
    (λ one. none_within (suc a) m (omega arith) ∙ sym (none_within (suc b) m (omega arith)))
    (λ two.
    let before = is_before m two in
    let first = same_within a b (length_before m) (omega (arith, before.less)) (omega (arith, before.less)) in
    let second = same_within a b (m - length_before m) (omega (arith, before.some)) (omega (arith, before.some)) in
    more_within a m two ∙ (λ k. of_halves (length_before m) (first k) (second k)) ∙ sym (more_within b m two))
    (cases_lt m 2)

pub middles-one : middles 1 ≡ []
middles-one = none_within 1 1 (omega arith)

pub middles-more : (m : ℕ) → 2 ≤ m → middles m ≡ of_halves (length_before m) (middles (length_before m)) (middles (m - length_before m))
middles-more zero two = absurd (omega arith)
middles-more (suc m) two =
    let before = is_before (suc m) two in
    let b = length_before (suc m) in
    let first = same_within m b b (omega (arith, before.less)) (omega arith) in
    let second = same_within m (suc m - b) (suc m - b) (omega (arith, before.some)) (omega arith) in
    more_within m (suc m) two ∙ (λ k. of_halves b (first k) (second k))

-- each is within the part
within_below : (bound m : ℕ) → m ≤ bound → All (λ p. p < m) (middles_within bound m)
within_below zero m le = All-nil (λ p. p < m)
within_below (suc bound) m le = ⊎_elim
    (λ one. subst (All (λ p. p < m)) (sym (none_within (suc bound) m (omega arith))) (All-nil (λ p. p < m)))
    (λ two.
    let before = is_before m two in
    let b = length_before m in
    let less : b < m = before.less in
    let first = middles_within bound b in
    let second = middles_within bound (m - b) in
    subst (All (λ p. p < m)) (sym (more_within bound m two))
    (All-cons (λ p. p < m) b (first ++ map (λ p. b + p) second) less
    (All-append (λ p. p < m) first (map (λ p. b + p) second)
    (All-weaker (λ p. p < b) (λ p. p < m) (λ p lt. let e : p < m = omega (arith, lt, less) in e) first (within_below bound b (omega (arith, less))))
    (All-map (λ p. p < m) (λ p. b + p) second
    (All-weaker (λ p. p < m - b) (λ p. b + p < m) (λ p lt. let e : b + p < m = omega (arith, lt, less) in e) second (within_below bound (m - b) (omega (arith, before.some))))))))
    (cases_lt m 2)

pub middles_below : (m : ℕ) → All (λ p. p < m) (middles m)
middles_below m = within_below m m (omega arith)

-- and each position within it is one
within_all : (bound m : ℕ) (P : ℕ → Type 0) → m ≤ bound → All P (middles_within bound m) → (p : ℕ) → 1 ≤ p → p < m → P p
within_all zero m P le all p some lt = absurd (omega arith)
within_all (suc bound) m P le all p some lt =
    let two : 2 ≤ m = omega arith in
    let before = is_before m two in
    let b = length_before m in
    let first = middles_within bound b in
    let second = middles_within bound (m - b) in
    let own = subst (All P) (more_within bound m two) all in
    let rest = All-tail P b (first ++ map (λ k. b + k) second) own in
    ⊎_elim
    (λ low. within_all bound b P (omega (arith, before.less)) (all_front P first (map (λ k. b + k) second) rest) p some low)
    (λ from. ⊎_elim
    (λ high.
    let at = within_all bound (m - b) (λ k. P (b + k)) (omega (arith, before.some)) (all_mapped P (λ k. b + k) second (all_back P first (map (λ k. b + k) second) rest)) (p - b) (omega arith) (omega arith) in
    subst P (let e : b + (p - b) ≡ p = omega arith in e) at)
    (λ same. subst P (let e : b ≡ p = omega arith in e) (All-head P b (first ++ map (λ k. b + k) second) own))
    (cases_lt b p))
    (cases_lt p b)

-- The order.

pub first_at_both : (ps qs walk other : List ℕ) → ComesFirst ps walk other → ComesFirst qs walk other → ComesFirst (ps ++ qs) walk other
first_at_both [] qs walk other one two = two
first_at_both (p ∷ ps) qs walk other (inl less) two = inl less
first_at_both (p ∷ ps) qs walk other (inr same) two = inr (same.0, first_at_both ps qs walk other same.1 two)

-- at the front of longer walks
pub first_at_front : (n : ℕ) (ps walk other long long' : List ℕ) → All (λ p. p < n) ps
    → ((p : ℕ) → p < n → get_or walk p 0 ≡ get_or long p 0) → ((p : ℕ) → p < n → get_or other p 0 ≡ get_or long' p 0)
    → ComesFirst ps walk other → ComesFirst ps long long'
first_at_front n [] walk other long long' below is is' first = tt
first_at_front n (p ∷ ps) walk other long long' below is is' (inl less) =
    let lt = All-head (λ k. k < n) p ps below in inl (omega (arith, less, is p lt, is' p lt))
first_at_front n (p ∷ ps) walk other long long' below is is' (inr same) =
    let lt = All-head (λ k. k < n) p ps below in
    inr (sym (is p lt) ∙ same.0 ∙ is' p lt, first_at_front n ps walk other long long' (All-tail (λ k. k < n) p ps below) is is' same.1)

-- from a position of longer walks on
pub first_further : (b n : ℕ) (ps walk other long long' : List ℕ) → All (λ p. p < n) ps
    → ((p : ℕ) → p < n → get_or walk p 0 ≡ get_or long (b + p) 0) → ((p : ℕ) → p < n → get_or other p 0 ≡ get_or long' (b + p) 0)
    → ComesFirst ps walk other → ComesFirst (map (λ p. b + p) ps) long long'
first_further b n [] walk other long long' below is is' first = tt
first_further b n (p ∷ ps) walk other long long' below is is' (inl less) =
    let lt = All-head (λ k. k < n) p ps below in inl (omega (arith, less, is p lt, is' p lt))
first_further b n (p ∷ ps) walk other long long' below is is' (inr same) =
    let lt = All-head (λ k. k < n) p ps below in
    inr (sym (is p lt) ∙ same.0 ∙ is' p lt, first_further b n ps walk other long long' (All-tail (λ k. k < n) p ps below) is is' same.1)

-- two walks that each come first are the same at each of the positions
same_at : (ps walk other : List ℕ) → ComesFirst ps walk other → ComesFirst ps other walk → All (λ p. get_or walk p 0 ≡ get_or other p 0) ps
same_at [] walk other one two = All-nil (λ p. get_or walk p 0 ≡ get_or other p 0)
same_at (p ∷ ps) walk other (inl one) (inl two) = absurd (omega (arith, one, two))
same_at (p ∷ ps) walk other (inl one) (inr two) = absurd (omega (arith, one, two.0))
same_at (p ∷ ps) walk other (inr one) (inl two) = absurd (omega (arith, one.0, two))
same_at (p ∷ ps) walk other (inr one) (inr two) =
    All-cons (λ k. get_or walk k 0 ≡ get_or other k 0) p ps one.0 (same_at ps walk other one.1 two.1)

pub one_first : (costs : Steps) (len : ℕ) (walk other : List ℕ) → IsLeastWalk costs len walk → IsFirstWalk costs len walk
    → IsLeastWalk costs len other → IsFirstWalk costs len other → walk ≡ other
one_first costs len walk other least first least' first' =
    let P : ℕ → Type 0 = λ p. get_or walk p 0 ≡ get_or other p 0 in
    let all = same_at (0 ∷ middles len) walk other (first.before other least') (first'.before walk least) in
    ext_get_or 0 walk other (least.frames ∙ sym least'.frames)
    (λ k lt. ⊎_elim
    (λ zeroth. subst P (let e : 0 ≡ k = omega arith in e) (All-head P 0 (middles len) all))
    (λ some. within_all len len P (omega arith) (All-tail P 0 (middles len) all) k some (omega (arith, lt, least.frames)))
    (cases_lt k 1))
