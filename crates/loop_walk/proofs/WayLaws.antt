-- Ways from frame to frame, and what the tables say of them: an entry is at most the cost of each way
-- of its length.
use Rattle.std.proofs.Common.{◌≡◌, ℕ, zero, suc, ◌+◌, ◌-◌, ◌*◌, ◌%◌, ◌<◌, ◌≤◌, List, [], ◌∷◌, ◌++◌, length, get_or, refl, ap, sym, ◌∙◌, subst, arith, ⊎_elim}
use Rattle.std.specs.Prelude.{Option, Some, None, IsSome, is_some, All, ◌&&◌, nat_lt, if◌then◌else◌, slice_index_or}
use Rattle.std.proofs.lemmas.Option.{same_Some}
use Rattle.std.proofs.lemmas.Bool.{cases_eq, cases_lt, cases_Bool, and_parts, ltb-true, false≢true}
use Rattle.std.proofs.lemmas.List.Elements.{All-head, All-tail, All-cons, All-nil}
use Rattle.frame_distance.specs.Steps.{Steps, step_at}
use Rattle.loop_walk.specs.Walks.{sum_if_both, AtMost, HasStep, HasNoWalk, IsLeastWalk, BeginsFirst, steps_cost, steps_along, steps_round, walk_cost}
use Rattle.loop_walk.specs.Tables.{length_before, table_count, entry_at, second_table, sum_at, EntriesHold}
use Rattle.loop_walk.proofs.Lengths.{by_length, is_before, last_length, second-even, second-odd, table_count-more}
use Rattle.loop_walk.proofs.TableLaws.{holds-before}

pub plus_some : (a b : Option ℕ) (x : ℕ) → sum_if_both a b ≡ Some x → (y : ℕ) × (z : ℕ) × (a ≡ Some y) × (b ≡ Some z) × (x ≡ y + z)
plus_some None b x is = absurd cc
plus_some (Some a) None x is = absurd cc
plus_some (Some a) (Some b) x is = (a, b, refl, refl, sym (same_Some (a + b) x is))

pub plus_at_most : (a b : Option ℕ) (y z : ℕ) → AtMost a (Some y) → AtMost b (Some z) → AtMost (sum_if_both a b) (Some (y + z))
plus_at_most None b y z la lb = absurd la
plus_at_most (Some a) None y z la lb = absurd lb
plus_at_most (Some a) (Some b) y z la lb = omega arith

pub at_most_trans : (a b : Option ℕ) (x : ℕ) → AtMost a b → AtMost b (Some x) → AtMost a (Some x)
at_most_trans a None x la lb = absurd lb
at_most_trans None (Some b) x la lb = absurd la
at_most_trans (Some a) (Some b) x la lb = omega arith

pub has_some : (o : Option ℕ) → IsSome o → (x : ℕ) × (o ≡ Some x)
has_some None some = absurd (false≢true some)
has_some (Some x) some = (x, refl)

pub some_is : (o : Option ℕ) (x : ℕ) → o ≡ Some x → IsSome o
some_is o x is = ap is_some is

zero-plus : (o : Option ℕ) → sum_if_both (Some 0) o ≡ o
zero-plus None = refl
zero-plus (Some a) = ap Some (let e : 0 + a ≡ a = omega arith in e)

plus-assoc : (a b c : Option ℕ) → sum_if_both a (sum_if_both b c) ≡ sum_if_both (sum_if_both a b) c
plus-assoc None b c = refl
plus-assoc (Some a) None c = refl
plus-assoc (Some a) (Some b) None = refl
plus-assoc (Some a) (Some b) (Some c) = ap Some (let e : a + (b + c) ≡ a + b + c = omega arith in e)

pub cost_of-append : (costs : Steps) (xs ys : List (ℕ × ℕ)) → steps_cost costs (xs ++ ys) ≡ sum_if_both (steps_cost costs xs) (steps_cost costs ys)
cost_of-append costs [] ys = sym (zero-plus (steps_cost costs ys))
cost_of-append costs (x ∷ xs) ys =
    ap (sum_if_both (step_at costs x.0 x.1)) (cost_of-append costs xs ys) ∙ plus-assoc (step_at costs x.0 x.1) (steps_cost costs xs) (steps_cost costs ys)

pub steps_along-append : (i v j : ℕ) (xs ys : List ℕ) → steps_along i (xs ++ v ∷ ys) j ≡ steps_along i xs v ++ steps_along v ys j
steps_along-append i v j [] ys = refl
steps_along-append i v j (x ∷ xs) ys = ap (λ l. (i, x) ∷ l) (steps_along-append x v j xs ys)

module _ (costs : Steps) where
  -- a way of so many steps, and its cost
  abbrev pub Way : ℕ → ℕ → ℕ → ℕ → Type 0
  Way zero i j x = (i ≡ j) × (x ≡ 0)
  Way (suc m) i j x = (v : ℕ) × (y : ℕ) × (z : ℕ) × (step_at costs i v ≡ Some y) × Way m v j z × (x ≡ y + z)

  pub join : (m k n i v j x y z : ℕ) → n ≡ m + k → z ≡ x + y → Way m i v x → Way k v j y → Way n i j z
  join zero k n i v j x y z steps cost first second =
      let e : k ≡ n = omega arith in
      let same : y ≡ z = omega (arith, first.1) in
      subst (λ l. Way l i j z) e (subst (Way k i j) same (subst (λ a. Way k a j y) (sym first.0) second))
  join (suc m) k zero i v j x y z steps cost first second = absurd (omega arith)
  join (suc m) k (suc n) i v j x y z steps cost first second =
      (first.0, first.1, first.2 + y, first.3, join m k n first.0 v j first.2 y (first.2 + y) (omega arith) refl first.4 second, omega (arith, first.5))

  pub split : (m k n i j z : ℕ) → n ≡ m + k → Way n i j z → (v : ℕ) × (x : ℕ) × (y : ℕ) × Way m i v x × Way k v j y × (z ≡ x + y)
  split zero k n i j z steps way = (i, 0, z, (refl, refl), subst (λ l. Way l i j z) (let e : n ≡ k = omega arith in e) way, omega arith)
  split (suc m) k zero i j z steps way = absurd (omega arith)
  split (suc m) k (suc n) i j z steps way =
      let r = split m k n way.0 j way.2 (omega arith) way.4 in
      (r.0, way.1 + r.1, r.2, (way.0, way.1, r.1, way.3, r.3, refl), r.4, omega (arith, way.5, r.5))

  pub step_frames : (i j y : ℕ) → step_at costs i j ≡ Some y → (i < costs.frames) × (j < costs.frames)
  step_frames i j y is = ⊎_elim
      (λ yes. let parts = and_parts (nat_lt i costs.frames) (nat_lt j costs.frames) yes in (ltb-true i costs.frames parts.0, ltb-true j costs.frames parts.1))
      (λ off. let e : None ≡ Some y = sym (ap (λ b. if b then slice_index_or costs.costs (i * costs.frames + j) None else None) off) ∙ is in absurd cc)
      (cases_Bool (nat_lt i costs.frames && nat_lt j costs.frames))

  pub way_frames : (m i j x : ℕ) → 1 ≤ m → Way m i j x → (i < costs.frames) × (j < costs.frames)
  way_frames zero i j x some way = absurd (omega arith)
  way_frames (suc zero) i j x some way =
      let at = step_frames i way.0 way.1 way.3 in (at.0, subst (λ k. k < costs.frames) way.4.0 at.1)
  way_frames (suc (suc m)) i j x some way =
      ((step_frames i way.0 way.1 way.3).0, (way_frames (suc m) way.0 j way.2 (omega arith) way.4).1)

  one_step : (tables : List ℕ) (i j x : ℕ) → Way 1 i j x → AtMost (step_at costs i j) (Some x)
  one_step tables i j x way =
      let step : step_at costs i j ≡ Some way.1 = ap (step_at costs i) (sym way.4.0) ∙ way.3 in
      subst (λ o. AtMost o (Some x)) (sym step) (omega (arith, way.5))

  -- an entry is at most the cost of each way of its length
  pub below_ways : (tables : List ℕ) (m : ℕ) → 1 ≤ m → EntriesHold costs m tables → (i j x : ℕ) → Way m i j x → AtMost (entry_at costs tables (table_count m) i j) (Some x)
  below_ways tables = by_length (λ m. EntriesHold costs m tables → (i j x : ℕ) → Way m i j x → AtMost (entry_at costs tables (table_count m) i j) (Some x))
      (λ holds i j x way. one_step tables i j x way)
      (λ m two shorter holds i j x way.
      let b = length_before m in
      let t = table_count b in
      let lengths = is_before m two in
      let parts = split b (m - b) m i j x (omega (arith, lengths.less)) way in
      let v = parts.0 in
      let frames = way_frames m i j x (omega arith) way in
      let middle = (way_frames b i v parts.1 lengths.some parts.3).1 in
      let earlier = holds-before costs m tables two holds in
      let first = shorter earlier i v parts.1 parts.3 in
      let second : AtMost (entry_at costs tables (second_table m t) v j) (Some parts.2) = ⊎_elim
      (λ odd. subst (λ s. AtMost (entry_at costs tables s v j) (Some parts.2)) (sym (second-odd m t odd))
      (one_step tables v j parts.2 (subst (λ k. Way k v j parts.2) (let e : m - b ≡ 1 = omega (arith, lengths.odd odd) in e) parts.4)))
      (λ even. subst (λ s. AtMost (entry_at costs tables s v j) (Some parts.2)) (sym (second-even m t even))
      (shorter earlier v j parts.2 (subst (λ k. Way k v j parts.2) (let e : m - b ≡ b = omega (arith, lengths.even even) in e) parts.4)))
      (cases_eq (m % 2) 1) in
      let sum : AtMost (sum_at costs tables m t i j v) (Some x) =
      subst (λ c. AtMost (sum_at costs tables m t i j v) (Some c)) (sym parts.5)
      (plus_at_most (entry_at costs tables t i v) (entry_at costs tables (second_table m t) v j) parts.1 parts.2 first second) in
      let count : suc t ≡ table_count m = omega (arith, table_count-more m two) in
      let entry : AtMost (entry_at costs tables (suc t) i j) (sum_at costs tables m t i j v) =
      subst (λ l. AtMost (entry_at costs tables (suc t) i j) (sum_at costs tables l t i j v)) (last_length m 0 two)
      (holds t i j (omega (arith, table_count-more m two)) frames.0 frames.1 v middle) in
      subst (λ c. AtMost (entry_at costs tables c i j) (Some x)) count
      (at_most_trans (entry_at costs tables (suc t) i j) (sum_at costs tables m t i j v) x entry sum))

  -- a list of frames as a way
  pub from_list : (from : ℕ) (rest : List ℕ) (to x : ℕ) → steps_cost costs (steps_along from rest to) ≡ Some x → Way (suc (length rest)) from to x
  from_list from [] to x is =
      let parts = plus_some (step_at costs from to) (Some 0) x is in
      (to, parts.0, 0, parts.2, (refl, refl), omega (arith, parts.4, same_Some 0 parts.1 parts.3))
  from_list from (next ∷ rest) to x is =
      let parts = plus_some (step_at costs from next) (steps_cost costs (steps_along next rest to)) x is in
      (next, parts.0, parts.1, parts.2, from_list next rest to parts.1 parts.3, parts.4)

  -- the parts of such a way before and after a frame that it visits
  visited : (from : ℕ) (rest : List ℕ) (to x p d : ℕ) → steps_cost costs (steps_along from rest to) ≡ Some x → p < suc (length rest)
      → (k : ℕ) × (y : ℕ) × (z : ℕ) × Way p from (get_or (from ∷ rest) p d) y × Way k (get_or (from ∷ rest) p d) to z × (p + k ≡ suc (length rest)) × (x ≡ y + z)
  visited from rest to x zero d is lt = (suc (length rest), 0, x, (refl, refl), from_list from rest to x is, omega arith, omega arith)
  visited from [] to x (suc p) d is lt = absurd (omega arith)
  visited from (next ∷ rest) to x (suc p) d is lt =
      let parts = plus_some (step_at costs from next) (steps_cost costs (steps_along next rest to)) x is in
      let r = visited next rest to parts.1 p d parts.3 (omega arith) in
      (r.0, parts.0 + r.1, r.2, (next, parts.0, r.1, parts.2, r.3, refl), r.4, omega (arith, r.5), omega (arith, parts.4, r.6))

  -- a closed walk goes round from each of its frames
  pub round_from : (walk : List ℕ) (x p d : ℕ) → walk_cost costs walk ≡ Some x → p < length walk → Way (length walk) (get_or walk p d) (get_or walk p d) x
  round_from [] x p d is lt = absurd (omega arith)
  round_from (first ∷ rest) x p d is lt =
      let r = visited first rest first x p d is lt in
      join r.0 p (suc (length rest)) (get_or (first ∷ rest) p d) first (get_or (first ∷ rest) p d) r.2 r.1 x (omega (arith, r.5)) (omega (arith, r.6)) r.4 r.3

  pub closed_cost : (steps : List (ℕ × ℕ)) → All (HasStep costs) steps → (x : ℕ) × (steps_cost costs steps ≡ Some x)
  closed_cost [] all = (0, refl)
  closed_cost (step ∷ steps) all =
      let first = has_some (step_at costs step.0 step.1) (All-head (HasStep costs) step steps all) in
      let rest = closed_cost steps (All-tail (HasStep costs) step steps all) in
      (first.0 + rest.0, (λ i. sum_if_both (first.1 i) (rest.1 i)))

  pub cost_closed : (steps : List (ℕ × ℕ)) (x : ℕ) → steps_cost costs steps ≡ Some x → All (HasStep costs) steps
  cost_closed [] x is = All-nil (HasStep costs)
  cost_closed (step ∷ steps) x is =
      let parts = plus_some (step_at costs step.0 step.1) (steps_cost costs steps) x is in
      All-cons (HasStep costs) step steps (some_is (step_at costs step.0 step.1) parts.0 parts.2) (cost_closed steps parts.1 parts.3)

  module _ (tables : List ℕ) (n : ℕ) (some : 1 ≤ n) (holds : EntriesHold costs n tables) where
    -- the diagonal entry at each frame of a closed walk is at most its cost
    pub diagonal_below : (walk : List ℕ) (x p d : ℕ) → length walk ≡ n → walk_cost costs walk ≡ Some x → p < n
        → (get_or walk p d < costs.frames) × AtMost (entry_at costs tables (table_count n) (get_or walk p d) (get_or walk p d)) (Some x)
    diagonal_below walk x p d long is lt =
        let f = get_or walk p d in
        let way = subst (λ l. Way l f f x) long (round_from walk x p d is (omega arith)) in
        ((way_frames n f f x some way).0, below_ways tables n some holds f f x way)

    pub least_from : (walk : List ℕ) (cost : ℕ) → length walk ≡ n → walk_cost costs walk ≡ Some cost
        → ((i : ℕ) → i < costs.frames → AtMost (Some cost) (entry_at costs tables (table_count n) i i)) → IsLeastWalk costs n walk
    least_from walk cost long is diagonals = record {
      frames = long;
      closed = cost_closed (steps_round walk) cost is;
      least = λ other same closed.
          let its = closed_cost (steps_round other) closed in
          let at = diagonal_below other its.0 0 0 same its.1 (omega arith) in
          let f = get_or other 0 0 in
          subst (λ o. AtMost o (walk_cost costs other)) (sym is)
          (subst (AtMost (Some cost)) (sym its.1)
          (at_most_trans (Some cost) (entry_at costs tables (table_count n) f f) its.0 (diagonals f at.0) at.1));
    }

    pub none_from : ((i : ℕ) → i < costs.frames → entry_at costs tables (table_count n) i i ≡ None) → HasNoWalk costs n
    none_from empty walk long closed =
        let its = closed_cost (steps_round walk) closed in
        let at = diagonal_below walk its.0 0 0 long its.1 (omega arith) in
        subst (λ o. AtMost o (Some its.0)) (empty (get_or walk 0 0) at.0) at.1

    -- where each smaller frame's entry is above the cost, no least walk visits it
    pub first_from : (walk : List ℕ) (cost : ℕ) → IsLeastWalk costs n walk → walk_cost costs walk ≡ Some cost
        → ((i : ℕ) → i < get_or walk 0 0 → AtMost (Some (suc cost)) (entry_at costs tables (table_count n) i i)) → BeginsFirst costs n walk
    first_from walk cost least is above other also k d lt =
        let its = closed_cost (steps_round other) also.closed in
        let f = get_or other k d in
        let at = diagonal_below other its.0 k d also.frames its.1 (omega (arith, also.frames)) in
        let low : AtMost (Some its.0) (Some cost) = subst (λ o. AtMost o (Some cost)) its.1 (subst (AtMost (walk_cost costs other)) is (also.least walk least.frames least.closed)) in
        ⊎_elim
        (λ smaller. let high : AtMost (Some (suc cost)) (Some its.0) = at_most_trans (Some (suc cost)) (entry_at costs tables (table_count n) f f) its.0 (above f smaller) at.1 in absurd (omega arith))
        (λ from. from)
        (cases_lt f (get_or walk 0 0))
