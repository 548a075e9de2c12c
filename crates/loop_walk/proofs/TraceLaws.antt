-- A way of least cost through the frame at which its halves meet.
use Rattle.std.proofs.Common.{◌≡◌, ℕ, suc, ◌+◌, ◌-◌, ◌*◌, ◌^◌, ◌%◌, ◌<◌, ◌≤◌, List, [], ◌∷◌, ◌++◌, length, get_or, refl, ap, sym, ◌∙◌, subst, arith, ⊎_elim, append_assoc, length-append}
use Rattle.std.specs.Prelude.{Option, Some, None, IfSome, IsSome, Result, OnOk, Ok, Err}
use Rattle.std.proofs.Math.Nat.{mul-le-mul_right}
use Rattle.std.proofs.lemmas.Bool.{cases_eq, cases_lt, false≢true}
use Rattle.std.proofs.lemmas.Nat.{mul-add-lt}
use Rattle.std.proofs.lemmas.List.{append-nil}
use Rattle.limits.specs.declared.bounds.TheConstants.{LONGEST_LOOP}
use Rattle.frame_distance.specs.Steps.{Steps, step_at}
use Rattle.loop_walk.specs.Walks.{sum_if_both, AtMost, steps_cost, steps_along, walk_cost}
use Rattle.loop_walk.specs.Tables.{length_before, table_lengths, table_count, entry_at, table_entry, second_table, sum_at, IsLeastSum}
use Rattle.loop_walk.specs.FirstWalks.{ComesFirst, middles}
use Rattle.loop_walk.specs.Products.{AddsWay, AreFilled, GoesRound, HoldsTables, IsFirstWay, IsStepTable, sum_through, table_in}
use Rattle.loop_walk.proofs.Lengths.{IsBefore, is_before, last_length, second_is, table_count-more, table_count-one}
use Rattle.loop_walk.proofs.Numbers.{entry_is, entry_not, entry_of-none, entry_of-some, entry_of-stopped_sum, small-more}
use Rattle.loop_walk.proofs.TableLaws.{holds_from_tight, second_le, table_in-entry, table_in-small, tight-before}
use Rattle.loop_walk.proofs.WayLaws.{Way, below_ways, cost_of-append, has_some, plus_at_most, steps_along-append, way_frames}
use Rattle.loop_walk.proofs.FirstLaws.{middles-one}
use Rattle.loop_walk.proofs.FirstWays.{joined_first}

pub on_ok : {A E : Type 0} (r : Result A E) (P Q : Type 0) → (P → Q) → OnOk r P → OnOk r Q
on_ok (Ok x) P Q f p = f p
on_ok (Err e) P Q f p = p

pub both_some : (a b o : Option ℕ) → sum_if_both a b ≡ o → IsSome o → IsSome a × IsSome b
both_some None b o is some = absurd (false≢true (subst IsSome (sym is) some))
both_some (Some a) None o is some = absurd (false≢true (subst IsSome (sym is) some))
both_some (Some a) (Some b) o is some = (refl, refl)

-- a number that is an entry at most another
number_below : (x y : ℕ) → AtMost (table_entry x) (Some y) → x ≤ y
number_below x y at = ⊎_elim
    (λ none. absurd (subst (λ o. AtMost o (Some y)) (entry_of-none x none) at))
    (λ apart. subst (λ o. AtMost o (Some y)) (entry_of-some x apart) at)
    (cases_eq x 18446744073709551615)

plus-zero : (o : Option ℕ) → sum_if_both o (Some 0) ≡ o
plus-zero None = refl
plus-zero (Some a) = ap Some (let e : a + 0 ≡ a = omega arith in e)

-- a way of one step has no frame between
pub one_way : (costs : Steps) (i j : ℕ) (walk : List ℕ) → AddsWay costs 1 i j (step_at costs i j) walk walk
one_way costs i j walk = record {
  between = [];
  added = sym (append-nil walk);
  steps = refl;
  costs_so_much = plus-zero (step_at costs i j);
  first = λ other long is. subst (λ places. ComesFirst places (i ∷ []) (i ∷ other)) (sym middles-one) tt;
}

-- two ways that meet at v are a way
pub ways_joined : (costs : Steps) (m b rest i v j : ℕ) (first second cost : Option ℕ) (old middle pushed new : List ℕ) → b + rest ≡ m → sum_if_both first second ≡ cost
    → ((xs ys : List ℕ) → suc (length xs) ≡ b → IsFirstWay costs b i v first xs → IsFirstWay costs rest v j second ys → IsFirstWay costs m i j cost (xs ++ v ∷ ys))
    → AddsWay costs b i v first old middle → pushed ≡ middle ++ v ∷ [] → AddsWay costs rest v j second pushed new → AddsWay costs m i j cost old new
ways_joined costs m b rest i v j first second cost old middle pushed new lengths sum joins way push way' = record {
  between = way.between ++ v ∷ way'.between;
  added =
      way'.added ∙ ap (λ l. l ++ way'.between) (push ∙ ap (λ l. l ++ v ∷ []) way.added)
      ∙ append_assoc (old ++ way.between) (v ∷ []) way'.between ∙ append_assoc old way.between (v ∷ way'.between);
  steps = omega (arith, length-append way.between (v ∷ way'.between), way.steps, way'.steps);
  costs_so_much =
      ap (steps_cost costs) (steps_along-append i v j way.between way'.between)
      ∙ cost_of-append costs (steps_along i way.between v) (steps_along v way'.between j)
      ∙ (λ k. sum_if_both (way.costs_so_much k) (way'.costs_so_much k)) ∙ sum;
  first = joins way.between way'.between way.steps way.first way'.first;
}

-- of walks that go round from one frame the first way back to it comes first
before_others : (costs : Steps) (m first : ℕ) (cost : Option ℕ) (between : List ℕ) → suc (length between) ≡ m → IsFirstWay costs m first first cost between
    → (other : List ℕ) → length other ≡ m → get_or other 0 0 ≡ first → walk_cost costs other ≡ cost → ComesFirst (middles m) (first ∷ between) other
before_others costs m first cost between long is [] long' begins is' = absurd (omega (arith, long, long'))
before_others costs m first cost between long is (f ∷ rest) long' begins is' =
    subst (λ k. ComesFirst (middles m) (first ∷ between) (k ∷ rest)) (sym begins)
    (is rest long' (ap (λ k. steps_cost costs (steps_along k rest k)) (sym begins) ∙ is'))

-- a way from a frame back to it goes round
pub goes_round : (costs : Steps) (m : ℕ) (tables : List ℕ) (first : ℕ) (old new : List ℕ) → old ≡ first ∷ []
    → AddsWay costs m first first (entry_at costs tables (table_count m) first first) old new → GoesRound costs m tables first new
goes_round costs m tables first old new began way =
    let is : new ≡ first ∷ way.between = way.added ∙ ap (λ l. l ++ way.between) began in
    record {
      frames = ap length is ∙ way.steps;
      begins = ap (λ l. get_or l 0 0) is;
      cost = ap (walk_cost costs) is ∙ way.costs_so_much;
      before = λ other long begins is'.
          subst (λ walk. ComesFirst (middles m) walk other) (sym is)
          (before_others costs m first (entry_at costs tables (table_count m) first first) way.between way.steps way.first other long begins is');
    }

pub holds_from_filled : (costs : Steps) (m : ℕ) (tables : List ℕ) → m ≤ LONGEST_LOOP → AreFilled costs m tables → HoldsTables costs m tables
holds_from_filled costs m tables few filled = record {
  enough = omega (arith, filled.made.whole);
  tight = filled.made.tight;
  small = λ k lt. small-more (m * 2 ^ 46) (2 ^ 58) (get_or tables k 0) (omega arith) (filled.small k lt);
}

module _ (costs : Steps) (m b t : ℕ) (two : 2 ≤ m) (is_b : b ≡ length_before m) (is_t : t ≡ table_count b)
    (steps : List ℕ) (is : IsStepTable costs steps) (tables : List ℕ) (holds : HoldsTables costs m tables) where
  lengths : IsBefore m b
  lengths = subst (IsBefore m) (sym is_b) (is_before m two)

  count_is : table_count m ≡ suc t
  count_is = let more : table_count m ≡ table_count b + 1 = table_count-more m two ∙ ap (λ k. table_count k + 1) (sym is_b) in omega (arith, is_t)

  pub fits : t * (costs.frames * costs.frames) ≤ length tables
  fits = omega (arith, holds.enough, ap (λ c. c * (costs.frames * costs.frames)) count_is)

  pub fits_second : second_table m t * (costs.frames * costs.frames) ≤ length tables
  fits_second = omega (arith, fits, mul-le-mul_right (costs.frames * costs.frames) (second_le costs m t))

  pub second_count : second_table m t ≡ table_count (m - b)
  second_count = ap (second_table m) (is_t ∙ ap table_count is_b) ∙ second_is m two ∙ ap (λ k. table_count (m - k)) (sym is_b)

  pub holds_before : HoldsTables costs b tables
  holds_before = record {
    enough = omega (arith, fits, ap (λ c. c * (costs.frames * costs.frames)) is_t);
    tight = subst (λ k. (s i j : ℕ) → s < table_count k → i < costs.frames → j < costs.frames → IsLeastSum costs.frames (entry_at costs tables (suc s) i j) (sum_at costs tables (get_or (table_lengths k) s 0) s i j)) (sym is_b) (tight-before costs m tables two holds.tight);
    small = holds.small;
  }

  pub holds_rest : HoldsTables costs (m - b) tables
  holds_rest = ⊎_elim
      (λ odd.
      let none : table_count (m - b) ≡ 0 = table_count-one (m - b) (omega (arith, lengths.odd odd)) in
      record {
        enough = omega (arith, ap (λ c. c * (costs.frames * costs.frames)) none);
        tight = λ s i j lt row column. absurd (omega (arith, none));
        small = holds.small;
      })
      (λ even. subst (λ k. HoldsTables costs k tables) (let e : b ≡ m - b = omega (arith, lengths.even even) in e) holds_before)
      (cases_eq (m % 2) 1)

  -- the sum through a frame, as a number and as an entry
  sum_is : (i j v : ℕ) → i < costs.frames → j < costs.frames → v < costs.frames
      → table_entry (sum_through costs.frames (table_in steps tables t) (table_in steps tables (second_table m t)) i j v) ≡ sum_if_both (entry_at costs tables t i v) (entry_at costs tables (second_table m t) v j)
  sum_is i j v row column lt =
      let n = costs.frames in
      entry_of-stopped_sum (2 ^ 58) (2 ^ 58) (get_or (table_in steps tables t) (i * n + v) 0) (get_or (table_in steps tables (second_table m t)) (v * n + j) 0) (omega arith)
      (table_in-small costs steps is tables (2 ^ 58) t (i * n + v) (omega arith) holds.small fits (mul-add-lt i n v n row lt))
      (table_in-small costs steps is tables (2 ^ 58) (second_table m t) (v * n + j) (omega arith) holds.small fits_second (mul-add-lt v n j n lt column))
      ∙ (λ k. sum_if_both (table_in-entry costs steps is tables t i v fits row lt k) (table_in-entry costs steps is tables (second_table m t) v j fits_second lt column k))

  -- through the frame with the least sum the halves cost what the entry says
  pub halves : (i j v : ℕ) → i < costs.frames → j < costs.frames → v < costs.frames → IsSome (entry_at costs tables (table_count m) i j)
      → ((u : ℕ) → u < costs.frames → sum_through costs.frames (table_in steps tables t) (table_in steps tables (second_table m t)) i j v ≤ sum_through costs.frames (table_in steps tables t) (table_in steps tables (second_table m t)) i j u)
      → sum_if_both (entry_at costs tables t i v) (entry_at costs tables (second_table m t) v j) ≡ entry_at costs tables (table_count m) i j
  halves i j v row column lt some least = by (entry_at costs tables (suc t) i j) refl (subst (λ c. IsSome (entry_at costs tables c i j)) count_is some)
    where
      tight : IsLeastSum costs.frames (entry_at costs tables (suc t) i j) (sum_at costs tables m t i j)
      tight = subst (λ l. IsLeastSum costs.frames (entry_at costs tables (suc t) i j) (sum_at costs tables l t i j))
          (ap (λ c. get_or (table_lengths m) c 0) (is_t ∙ ap table_count is_b) ∙ last_length m 0 two) (holds.tight t i j (omega (arith, count_is)) row column)

      by : (o : Option ℕ) → entry_at costs tables (suc t) i j ≡ o → IsSome o → sum_if_both (entry_at costs tables t i v) (entry_at costs tables (second_table m t) v j) ≡ entry_at costs tables (table_count m) i j
      by None at some = absurd (false≢true some)
      by (Some e) at some =
          let n = costs.frames in
          let sum_v = sum_through n (table_in steps tables t) (table_in steps tables (second_table m t)) i j v in
          let found = subst (λ o. IfSome o (λ cost. (u : ℕ) × (u < n) × (sum_at costs tables m t i j u ≡ Some cost))) at tight.reached in
          let sum_u = sum_through n (table_in steps tables t) (table_in steps tables (second_table m t)) i j found.0 in
          let is_u : sum_u ≡ e = entry_is sum_u e (sum_is i j found.0 row column found.1 ∙ found.2) in
          let le : sum_v ≤ sum_u = least found.0 found.1 in
          let there : e ≡ 18446744073709551615 → ⊥ = entry_apart e sum_u (sum_is i j found.0 row column found.1 ∙ found.2) in
          let top : sum_v ≤ 18446744073709551615 = omega arith in
          let top_u : sum_u ≤ 18446744073709551615 = omega arith in
          let here : table_entry sum_v ≡ Some sum_v = entry_of-some sum_v (λ x. absurd (there (omega arith))) in
          let low : AtMost (Some e) (Some sum_v) =
          subst (λ o. AtMost o (Some sum_v)) at (subst (AtMost (entry_at costs tables (suc t) i j)) (sym (sum_is i j v row column lt) ∙ here) (tight.below v lt)) in
          sym (sum_is i j v row column lt) ∙ here ∙ ap Some (let same : sum_v ≡ e = omega arith in same) ∙ sym at ∙ ap (λ c. entry_at costs tables c i j) (sym count_is)
        where
          entry_apart : (e x : ℕ) → table_entry x ≡ Some e → e ≡ 18446744073709551615 → ⊥
          entry_apart e x is top = entry_not x e is (entry_is x e is ∙ top)

  -- a way through a frame costs at least what the halves through it do
  sum_below : (i j v p q : ℕ) → i < costs.frames → j < costs.frames → Way costs b i v p → Way costs (m - b) v j q
      → sum_through costs.frames (table_in steps tables t) (table_in steps tables (second_table m t)) i j v ≤ p + q
  sum_below i j v p q row column way way' =
      let lt : v < costs.frames = (way_frames costs b i v p lengths.some way).1 in
      let first : AtMost (entry_at costs tables t i v) (Some p) =
      subst (λ c. AtMost (entry_at costs tables c i v) (Some p)) (sym is_t)
      (below_ways costs tables b lengths.some (holds_from_tight costs b tables holds_before.tight) i v p way) in
      let second : AtMost (entry_at costs tables (second_table m t) v j) (Some q) =
      subst (λ c. AtMost (entry_at costs tables c v j) (Some q)) (sym second_count)
      (below_ways costs tables (m - b) (omega (arith, lengths.less)) (holds_from_tight costs (m - b) tables holds_rest.tight) v j q way') in
      number_below (sum_through costs.frames (table_in steps tables t) (table_in steps tables (second_table m t)) i j v) (p + q)
      (subst (λ o. AtMost o (Some (p + q))) (sym (sum_is i j v row column lt))
      (plus_at_most (entry_at costs tables t i v) (entry_at costs tables (second_table m t) v j) p q first second))

  -- the first ways of the halves that meet at the smallest frame with the least sum are the first way
  pub joins_first : (i j v : ℕ) → i < costs.frames → j < costs.frames → v < costs.frames → IsSome (entry_at costs tables (table_count m) i j)
      → ((u : ℕ) → u < costs.frames → sum_through costs.frames (table_in steps tables t) (table_in steps tables (second_table m t)) i j v ≤ sum_through costs.frames (table_in steps tables t) (table_in steps tables (second_table m t)) i j u)
      → ((u : ℕ) → u < v → sum_through costs.frames (table_in steps tables t) (table_in steps tables (second_table m t)) i j v < sum_through costs.frames (table_in steps tables t) (table_in steps tables (second_table m t)) i j u)
      → (xs ys : List ℕ) → suc (length xs) ≡ b → IsFirstWay costs b i v (entry_at costs tables (table_count b) i v) xs
      → IsFirstWay costs (m - b) v j (entry_at costs tables (table_count (m - b)) v j) ys
      → IsFirstWay costs m i j (entry_at costs tables (table_count m) i j) (xs ++ v ∷ ys)
  joins_first i j v row column lt some least smallest xs ys long first second =
      let sum : ℕ → ℕ = λ u. sum_through costs.frames (table_in steps tables t) (table_in steps tables (second_table m t)) i j u in
      let whole = halves i j v row column lt some least in
      let both = both_some (entry_at costs tables t i v) (entry_at costs tables (second_table m t) v j) (entry_at costs tables (table_count m) i j) whole some in
      let one = has_some (entry_at costs tables t i v) both.0 in
      let two' = has_some (entry_at costs tables (second_table m t) v j) both.1 in
      let x = one.0 in
      let y = two'.0 in
      let parts : sum_if_both (entry_at costs tables t i v) (entry_at costs tables (second_table m t) v j) ≡ Some (x + y) = λ k. sum_if_both (one.1 k) (two'.1 k) in
      let cost : entry_at costs tables (table_count m) i j ≡ Some (x + y) = sym whole ∙ parts in
      let number : sum v ≡ x + y = entry_is (sum v) (x + y) (sum_is i j v row column lt ∙ parts) in
      let at_first : entry_at costs tables (table_count b) i v ≡ Some x = ap (λ c. entry_at costs tables c i v) (sym is_t) ∙ one.1 in
      let at_second : entry_at costs tables (table_count (m - b)) v j ≡ Some y = ap (λ c. entry_at costs tables c v j) (sym second_count) ∙ two'.1 in
      subst (λ o. IsFirstWay costs m i j o (xs ++ v ∷ ys)) (sym cost)
      (joined_first costs m b two is_b i v j x y xs ys long
      (subst (λ o. IsFirstWay costs b i v o xs) at_first first) (subst (λ o. IsFirstWay costs (m - b) v j o ys) at_second second)
      (λ p way. subst (λ o. AtMost o (Some p)) at_first (below_ways costs tables b lengths.some (holds_from_tight costs b tables holds_before.tight) i v p way))
      (λ q way. subst (λ o. AtMost o (Some q)) at_second (below_ways costs tables (m - b) (omega (arith, lengths.less)) (holds_from_tight costs (m - b) tables holds_rest.tight) v j q way))
      (λ u p q way way' same.
      let below : sum u ≤ p + q = sum_below i j u p q row column way way' in
      ⊎_elim (λ less. let higher : sum v < sum u = smallest u less in absurd (omega (arith, number, below, same, higher))) (λ from. from) (cases_lt u v)))
