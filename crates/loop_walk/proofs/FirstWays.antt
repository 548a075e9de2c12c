-- The first way is that of the first ways of its halves, which meet at the smallest frame that serves.
use Rattle.std.proofs.Common.{◌≡◌, ℕ, zero, suc, ◌+◌, ◌-◌, ◌<◌, ◌≤◌, List, [], ◌∷◌, ◌++◌, length, get_or, refl, ap, sym, ◌∙◌, subst, arith, ⊎_elim, inl, inr, length-append}
use Rattle.std.specs.Prelude.{Option, Some}
use Rattle.std.proofs.lemmas.Bool.{cases_lt}
use Rattle.std.proofs.lemmas.List.{get_or_at, get_or_append_left, get_or-append-add}
use Rattle.frame_distance.specs.Steps.{Steps}
use Rattle.loop_walk.specs.Walks.{sum_if_both, steps_along, steps_cost}
use Rattle.loop_walk.specs.Tables.{length_before}
use Rattle.loop_walk.specs.FirstWalks.{ComesFirst, middles}
use Rattle.loop_walk.specs.Products.{IsFirstWay}
use Rattle.loop_walk.proofs.Lengths.{is_before}
use Rattle.loop_walk.proofs.WayLaws.{Way, cost_of-append, from_list, plus_some, steps_along-append}
use Rattle.loop_walk.proofs.FirstLaws.{first_at_both, first_at_front, first_further, middles-more, middles_below, of_halves}

-- a list at a place: what is before it, what is there, and what is after it
parted : (k : ℕ) (xs : List ℕ) → k < length xs → (front : List ℕ) × (x : ℕ) × (back : List ℕ) × (xs ≡ front ++ x ∷ back) × (length front ≡ k)
parted k [] lt = absurd (omega arith)
parted zero (x ∷ xs) lt = ([], x, xs, refl, refl)
parted (suc k) (x ∷ xs) lt =
    let r = parted k xs (omega arith) in
    (x ∷ r.0, r.1, r.2, ap (λ l. x ∷ l) r.3, ap suc r.4)

parted_length : (front : List ℕ) (x : ℕ) (back xs : List ℕ) → xs ≡ front ++ x ∷ back → length xs ≡ suc (length front + length back)
parted_length front x back xs is = ap length is ∙ length-append front (x ∷ back) ∙ (let e : length front + suc (length back) ≡ suc (length front + length back) = omega arith in e)

-- what the halves of a way cost
cost_of_halves : (costs : Steps) (i u j : ℕ) (front back other : List ℕ) (cost : Option ℕ) → other ≡ front ++ u ∷ back
    → steps_cost costs (steps_along i other j) ≡ cost → sum_if_both (steps_cost costs (steps_along i front u)) (steps_cost costs (steps_along u back j)) ≡ cost
cost_of_halves costs i u j front back other cost is whole =
    sym (cost_of-append costs (steps_along i front u) (steps_along u back j))
    ∙ ap (steps_cost costs) (sym (steps_along-append i u j front back) ∙ ap (λ l. steps_along i l j) (sym is)) ∙ whole

-- what a list with a frame in its midst has before it, there, and from it on
module _ (b i v : ℕ) (xs ys : List ℕ) (long : suc (length xs) ≡ b) where
  there : get_or (i ∷ (xs ++ v ∷ ys)) b 0 ≡ v
  there = get_or_at (i ∷ xs) v ys 0 b long

  before : (p : ℕ) → p < b → get_or (i ∷ xs) p 0 ≡ get_or (i ∷ (xs ++ v ∷ ys)) p 0
  before p lt = sym (get_or_append_left (i ∷ xs) (v ∷ ys) 0 p (omega (arith, long, lt)))

  after : (p : ℕ) → get_or (v ∷ ys) p 0 ≡ get_or (i ∷ (xs ++ v ∷ ys)) (b + p) 0
  after p = sym (get_or-append-add (i ∷ xs) (v ∷ ys) p 0) ∙ ap (λ n. get_or (i ∷ (xs ++ v ∷ ys)) (n + p) 0) long

module _ (costs : Steps) (m b : ℕ) (two : 2 ≤ m) (is_b : b ≡ length_before m) (i v j x y : ℕ) where
  module _ (xs ys : List ℕ) (long : suc (length xs) ≡ b)
      (first : IsFirstWay costs b i v (Some x) xs) (second : IsFirstWay costs (m - b) v j (Some y) ys)
      (low : (p : ℕ) → Way costs b i v p → x ≤ p) (low' : (q : ℕ) → Way costs (m - b) v j q → y ≤ q)
      (serves : (u p q : ℕ) → Way costs b i u p → Way costs (m - b) u j q → p + q ≡ x + y → v ≤ u) where
    -- two halves that meet at frame u
    through : (u p q : ℕ) (xs' ys' : List ℕ) → suc (length xs') ≡ b → suc (length ys') ≡ m - b → p + q ≡ x + y
        → steps_cost costs (steps_along i xs' u) ≡ Some p → steps_cost costs (steps_along u ys' j) ≡ Some q
        → ComesFirst (of_halves b (middles b) (middles (m - b))) (i ∷ (xs ++ v ∷ ys)) (i ∷ (xs' ++ u ∷ ys'))
    through u p q xs' ys' long' rest' sum p_is q_is =
        let way : Way costs b i u p = subst (λ l. Way costs l i u p) long' (from_list costs i xs' u p p_is) in
        let way' : Way costs (m - b) u j q = subst (λ l. Way costs l u j q) rest' (from_list costs u ys' j q q_is) in
        let le : v ≤ u = serves u p q way way' sum in
        let walk = i ∷ (xs ++ v ∷ ys) in
        let other = i ∷ (xs' ++ u ∷ ys') in
        ⊎_elim
        (λ less. inl (omega (arith, less, there b i v xs ys long, there b i u xs' ys' long')))
        (λ from.
        let same : v ≡ u = omega (arith, le, from) in
        let p_low : x ≤ p = low p (subst (λ f. Way costs b i f p) (sym same) way) in
        let q_low : y ≤ q = low' q (subst (λ f. Way costs (m - b) f j q) (sym same) way') in
        let p_same : p ≡ x = omega (arith, sum, p_low, q_low) in
        let q_same : q ≡ y = omega (arith, sum, p_low, q_low) in
        let one = first xs' long' (ap (λ f. steps_cost costs (steps_along i xs' f)) same ∙ p_is ∙ ap Some p_same) in
        let two' = second ys' rest' (ap (λ f. steps_cost costs (steps_along f ys' j)) same ∙ q_is ∙ ap Some q_same) in
        inr (
          there b i v xs ys long ∙ same ∙ sym (there b i u xs' ys' long'),
          first_at_both (middles b) _ walk other
              (first_at_front b (middles b) (i ∷ xs) (i ∷ xs') walk other (middles_below b) (before b i v xs ys long) (before b i u xs' ys' long') one)
              (first_further b (m - b) (middles (m - b)) (v ∷ ys) (v ∷ ys') walk other (middles_below (m - b)) (λ k lt. after b i v xs ys long k)
              (λ k lt. ap (λ f. get_or (f ∷ ys') k 0) same ∙ after b i u xs' ys' long' k) two'),
        ))
        (cases_lt v u)

    pub joined_first : IsFirstWay costs m i j (Some (x + y)) (xs ++ v ∷ ys)
    joined_first other long' is =
        let before' = is_before m two in
        let some : 1 ≤ b = omega (arith, before'.some, is_b) in
        let less : b < m = omega (arith, before'.less, is_b) in
        let parts = parted (b - 1) other (omega (arith, some, less, long')) in
        let u = parts.1 in
        let front = parts.0 in
        let back = parts.2 in
        let sum = plus_some (steps_cost costs (steps_along i front u)) (steps_cost costs (steps_along u back j)) (x + y) (cost_of_halves costs i u j front back other (Some (x + y)) parts.3 is) in
        let long_front : suc (length front) ≡ b = omega (arith, parts.4, some) in
        let long_back : suc (length back) ≡ m - b = omega (arith, parted_length front u back other parts.3, long_front, long', less) in
        subst (λ l. ComesFirst (middles m) (i ∷ (xs ++ v ∷ ys)) (i ∷ l)) (sym parts.3)
        (subst (λ ps. ComesFirst ps (i ∷ (xs ++ v ∷ ys)) (i ∷ (front ++ u ∷ back))) (sym (middles-more m two))
        (subst (λ c. ComesFirst (of_halves c (middles c) (middles (m - c))) (i ∷ (xs ++ v ∷ ys)) (i ∷ (front ++ u ∷ back))) is_b
        (through u sum.0 sum.1 front back long_front long_back (sym sum.4) sum.2 sum.3)))
