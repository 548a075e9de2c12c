-- Rests of the rows of a table, and that a sum of two that fit is exact.
use Rattle.std.proofs.Common.{◌≡◌, ℕ, ◌+◌, ◌-◌, ◌*◌, ◌/◌, ◌%◌, ◌<◌, ◌≤◌, List, length, get_or, take, drop, ap, sym, ◌∙◌, subst, arith, ⊎_elim, inl, inr, get_or-take, get_or-drop}
use Rattle.std.specs.Prelude.{min}
use Rattle.std.proofs.Math.Nat.{mul-le-mul_right}
use Rattle.std.proofs.lemmas.Bool.{cases_lt}
use Rattle.frame_distance.proofs.EntryLaws.{row_below, column_below}
use borrow.Rule.Slice.PartMut.{put_mid}
use Rattle.loop_walk.specs.declared.product.TheConstants.{FAR}
use Rattle.loop_walk.specs.declared.rests.TheConstants.{GREATEST_REST}
use Rattle.loop_walk.specs.Products.{IsLeastOf, brought_near}
use Rattle.loop_walk.specs.Rests.{AreRaised, AreRests, AreRestsOfRow, AreSmallRests, IsBase, IsExactBelow, rest_of, rest_sum}
use Rattle.loop_walk.proofs.ProductLaws.{get_or-put_before, get_or-put_inside}

-- a number of a row of a table
pub get_or-row : (table : List ℕ) (a n k : ℕ) → k < n → get_or (take (a + n - a) (drop a table)) k 0 ≡ get_or table (a + k) 0
get_or-row table a n k lt = get_or-take (a + n - a) (drop a table) k 0 (omega arith) ∙ get_or-drop a table k 0

-- a row of a table ends within it
pub row_within : (n v : ℕ) → v < n → v * n + n ≤ n * n
row_within n v lt = omega (arith, mul-le-mul_right n (let le : v + 1 ≤ n = omega arith in le))

-- the rests of one more row of a table
pub rests_row_more : (n v : ℕ) (nears bases rests row : List ℕ) → v < n → length rests ≡ n * n → length row ≡ n
    → ((u j : ℕ) → u < v → j < n → get_or rests (u * n + j) 0 ≡ rest_of (get_or bases u 0) (get_or nears (u * n + j) 0))
    → ((j : ℕ) → j < n → get_or row j 0 ≡ rest_of (get_or bases v 0) (get_or nears (v * n + j) 0))
    → (u j : ℕ) → u < v + 1 → j < n → get_or (put_mid (v * n) (v * n + n - v * n) rests row) (u * n + j) 0 ≡ rest_of (get_or bases u 0) (get_or nears (u * n + j) 0)
rests_row_more n v nears bases rests row lt whole long rows here u j below column = ⊎_elim
    (λ before.
    let place : u * n + j < v * n = omega (arith, mul-le-mul_right n (let le : u + 1 ≤ v = omega arith in le)) in
    get_or-put_before rests row (v * n) (v * n + n - v * n) (u * n + j) place (omega (arith, room)) ∙ rows u j before column)
    (λ from.
    let same : u ≡ v = omega arith in
    ap (λ k. get_or (put_mid (v * n) (v * n + n - v * n) rests row) (k * n + j) 0) same
    ∙ get_or-put_inside rests row (v * n) (v * n + n - v * n) j (omega arith) (omega (arith, room)) ∙ here j column
    ∙ ap (λ k. rest_of (get_or bases k 0) (get_or nears (k * n + j) 0)) (sym same))
    (cases_lt u v)
  where
    room : v * n + n ≤ n * n
    room = omega (arith, mul-le-mul_right n (let le : v + 1 ≤ n = omega arith in le))

-- a table of rests has no number above the greatest
pub small_rests : (n : ℕ) (nears bases rests : List ℕ) → length rests ≡ n * n
    → ((u j : ℕ) → u < n → j < n → get_or rests (u * n + j) 0 ≡ rest_of (get_or bases u 0) (get_or nears (u * n + j) 0))
    → AreSmallRests rests
small_rests n nears bases rests whole rows k lt =
    let i = k / n in
    let j = k % n in
    let below : k < n * n = omega arith in
    let at : i * n + j ≡ k = omega arith in
    subst (λ p. get_or rests p 0 ≤ GREATEST_REST) at
    (let is = rows i j (row_below n k below) (column_below n k below) in omega arith)

-- a base and a rest that fits make the least sum
module _ (n j : ℕ) (firsts nears bases rests raised halves : List ℕ) (base rest : ℕ)
    (many : length firsts ≡ n) (few : length raised ≡ n) (column : j < n) (left : AreRests n nears bases rests) (up : AreRaised firsts bases raised)
    (below : IsBase raised base) (halved : AreRestsOfRow base raised halves)
    (least : IsLeastOf GREATEST_REST n rest (rest_sum n halves rests j)) where
  -- both rests of a sum, by what they are rests of
  first : (v : ℕ) → v < n → get_or halves v 0 ≡ min (brought_near (get_or firsts v 0) + get_or bases v 0 - base) GREATEST_REST
  first v lt = halved v (omega (arith, few)) ∙ ap (λ k. min (k - base) GREATEST_REST) (up v (omega (arith, many)))

  over : (v : ℕ) → v < n → base ≤ brought_near (get_or firsts v 0) + get_or bases v 0
  over v lt = let le = below v (omega (arith, few)) in let is = up v (omega (arith, many)) in omega arith

  pub exact_below : IsExactBelow n firsts nears base j rest
  exact_below fits = record {
    below = λ v lt.
        let le = least.below v lt in let one = first v lt in let other = left.left v j lt column in let from = over v lt in let to = left.taken.below v j lt column in omega arith;
    reached = ⊎_elim (λ is. absurd (omega arith))
        (λ at.
        let v = at.0 in
        let is = at.2 in let one = first v at.1 in let other = left.left v j at.1 column in let from = over v at.1 in let to = left.taken.below v j at.1 column in
        ⊎_elim (λ far. inl (omega arith)) (λ near. inr (v, at.1, omega arith)) (cases_lt FAR (base + rest)))
        least.reached;
  }
