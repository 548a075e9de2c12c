-- Steps round a walk by their positions, and entries by their places.
use Rattle.std.proofs.Common.{◌≡◌, ℕ, zero, suc, ◌+◌, ◌*◌, ◌/◌, ◌%◌, ◌<◌, ◌≤◌, List, [], ◌∷◌, ◌++◌, length, get_or, take, refl, ap, sym, ◌∙◌, subst, arith, ⊎_elim}
use Rattle.std.specs.Prelude.{◌⊎◌, Some, None, nat_lt, if◌then◌else◌, slice_index_or}
use Rattle.std.proofs.lemmas.Bool.{le-ltb, and_left, and_right}
use Rattle.std.proofs.lemmas.Nat.{mul-add-lt, div-mul-add, mod-mul-add, div_below}
use Rattle.std.proofs.lemmas.List.{get_or_append_left, get_or_push, take_more}
use Rattle.std.proofs.Math.Nat.{mul-le-mul_right}
use Rattle.frame_distance.specs.Steps.{Steps, step_at}
use Rattle.loop_walk.specs.Walks.{steps_cost, sum_if_both, steps_along, steps_round}
use Rattle.loop_walk.specs.Tables.{EntriesHold, EntryHolds, IsBelowSums, entry_at, length_before, second_table, sum_at, table_count, table_lengths}
use Rattle.loop_walk.specs.Records.{IsFirstPlace, PlaceHolds}
use Rattle.loop_walk.specs.Products.{IsBelowProducts}
use Rattle.loop_walk.proofs.Lengths.{earlier_length}
use Rattle.loop_walk.proofs.WayLaws.{cost_of-append}

steps_along-at : (from : ℕ) (rest : List ℕ) (to p : ℕ) → p < suc (length rest) → get_or (steps_along from rest to) p (0, 0) ≡ (get_or (from ∷ rest) p 0, get_or (rest ++ to ∷ []) p 0)
steps_along-at from [] to zero lt = refl
steps_along-at from [] to (suc p) lt = absurd (omega arith)
steps_along-at from (next ∷ rest) to zero lt = refl
steps_along-at from (next ∷ rest) to (suc p) lt = steps_along-at next rest to p (omega arith)

length-steps_along : (from : ℕ) (rest : List ℕ) (to : ℕ) → length (steps_along from rest to) ≡ suc (length rest)
length-steps_along from [] to = refl
length-steps_along from (next ∷ rest) to = ap suc (length-steps_along next rest to)

pub length-steps_round : (walk : List ℕ) → length (steps_round walk) ≡ length walk
length-steps_round [] = refl
length-steps_round (first ∷ rest) = length-steps_along first rest first

pub step_from : (walk : List ℕ) (p : ℕ) → p < length walk → (get_or (steps_round walk) p (0, 0)).0 ≡ get_or walk p 0
step_from [] p lt = absurd (omega arith)
step_from (first ∷ rest) p lt = ap (λ (s : ℕ × ℕ). s.0) (steps_along-at first rest first p lt)

pub step_inside : (walk : List ℕ) (p : ℕ) → p + 1 < length walk → (get_or (steps_round walk) p (0, 0)).1 ≡ get_or walk (p + 1) 0
step_inside [] p lt = absurd (omega arith)
step_inside (first ∷ rest) p lt =
    ap (λ (s : ℕ × ℕ). s.1) (steps_along-at first rest first p (omega arith))
    ∙ get_or_append_left rest (first ∷ []) 0 p (omega arith) ∙ ap (λ k. get_or (first ∷ rest) k 0) (let e : suc p ≡ p + 1 = omega arith in e)

pub step_last : (walk : List ℕ) (p : ℕ) → p < length walk → length walk ≤ p + 1 → (get_or (steps_round walk) p (0, 0)).1 ≡ get_or walk 0 0
step_last [] p lt le = absurd (omega arith)
step_last (first ∷ rest) p lt le = ap (λ (s : ℕ × ℕ). s.1) (steps_along-at first rest first p lt) ∙ get_or_push rest first 0 p (omega arith)

-- there is no step from or to what isn't a frame
pub no_step : (costs : Steps) (i j : ℕ) → ((costs.frames ≤ i) ⊎ (costs.frames ≤ j)) → step_at costs i j ≡ None
no_step costs i j out =
    ap (λ b. if b then slice_index_or costs.costs (i * costs.frames + j) None else None)
    (⊎_elim (λ le. and_left (nat_lt i costs.frames) (nat_lt j costs.frames) (le-ltb i costs.frames le)) (λ le. and_right (nat_lt i costs.frames) (nat_lt j costs.frames) (le-ltb j costs.frames le)) out)

-- one more step
pub cost_more : (costs : Steps) (steps : List (ℕ × ℕ)) (p cost step : ℕ) → p < length steps → steps_cost costs (take p steps) ≡ Some cost
    → Some step ≡ step_at costs (get_or steps p (0, 0)).0 (get_or steps p (0, 0)).1 → steps_cost costs (take (p + 1) steps) ≡ Some (cost + step)
cost_more costs steps p cost step lt so_far is =
    ap (steps_cost costs) (take_more steps p (0, 0) lt) ∙ cost_of-append costs (take p steps) (get_or steps p (0, 0) ∷ [])
    ∙ (λ k. sum_if_both (so_far k) (sum_if_both (sym is k) (Some 0))) ∙ ap Some (let e : cost + (step + 0) ≡ cost + step = omega arith in e)

module _ (costs : Steps) (len : ℕ) (tables : List ℕ) (t q : ℕ) (lt : q < costs.frames * costs.frames) where
  -- the place of an entry of table t + 1
  pub holds_at_place : EntryHolds costs len tables t (q / costs.frames) (q % costs.frames) → PlaceHolds costs len tables (t * (costs.frames * costs.frames) + q)
  holds_at_place holds =
      let area = costs.frames * costs.frames in
      let place = t * area + q in
      subst (λ d. EntryHolds costs len tables d (place % area / costs.frames) (place % area % costs.frames)) (sym (div-mul-add t area q lt))
      (subst (λ r. EntryHolds costs len tables t (r / costs.frames) (r % costs.frames)) (sym (mod-mul-add t area q lt)) holds)

  pub holds_from_place : PlaceHolds costs len tables (t * (costs.frames * costs.frames) + q) → EntryHolds costs len tables t (q / costs.frames) (q % costs.frames)
  holds_from_place holds =
      let area = costs.frames * costs.frames in
      let place = t * area + q in
      subst (λ r. EntryHolds costs len tables t (r / costs.frames) (r % costs.frames)) (mod-mul-add t area q lt)
      (subst (λ d. EntryHolds costs len tables d (place % area / costs.frames) (place % area % costs.frames)) (div-mul-add t area q lt) holds)

  module _ (last : get_or (table_lengths len) t 0 ≡ len) where
    pub below_at_place : IsBelowProducts costs tables t (second_table len t) (q / costs.frames) (q % costs.frames) → PlaceHolds costs len tables (t * (costs.frames * costs.frames) + q)
    below_at_place below = holds_at_place
        (subst (λ l. IsBelowSums costs.frames (entry_at costs tables (suc t) (q / costs.frames) (q % costs.frames)) (sum_at costs tables l t (q / costs.frames) (q % costs.frames))) (sym last) below)

    pub below_from_place : PlaceHolds costs len tables (t * (costs.frames * costs.frames) + q) → IsBelowProducts costs tables t (second_table len t) (q / costs.frames) (q % costs.frames)
    below_from_place holds =
        subst (λ l. IsBelowSums costs.frames (entry_at costs tables (suc t) (q / costs.frames) (q % costs.frames)) (sum_at costs tables l t (q / costs.frames) (q % costs.frames))) last (holds_from_place holds)

-- places of the tables for the length before
module _ (costs : Steps) (m : ℕ) (two : 2 ≤ m) (tables : List ℕ) (place : ℕ) (lt : place < table_count (length_before m) * (costs.frames * costs.frames)) where
  same_length : get_or (table_lengths m) (place / (costs.frames * costs.frames)) 0 ≡ get_or (table_lengths (length_before m)) (place / (costs.frames * costs.frames)) 0
  same_length = earlier_length m (place / (costs.frames * costs.frames)) 0 two
      (div_below place (costs.frames * costs.frames) (table_count (length_before m)) (some_area (table_count (length_before m)) (costs.frames * costs.frames) place lt) lt)
    where
      some_area : (c area place : ℕ) → place < c * area → 0 < area
      some_area c zero place lt = absurd (omega arith)
      some_area c (suc area) place lt = omega arith

  pub place_holds-more : PlaceHolds costs (length_before m) tables place → PlaceHolds costs m tables place
  place_holds-more holds =
      let area = costs.frames * costs.frames in
      let i = place % area / costs.frames in
      let j = place % area % costs.frames in
      subst (λ l. IsBelowSums costs.frames (entry_at costs tables (suc (place / area)) i j) (sum_at costs tables l (place / area) i j)) (sym same_length) holds

  pub place_holds-fewer : PlaceHolds costs m tables place → PlaceHolds costs (length_before m) tables place
  place_holds-fewer holds =
      let area = costs.frames * costs.frames in
      let i = place % area / costs.frames in
      let j = place % area % costs.frames in
      subst (λ l. IsBelowSums costs.frames (entry_at costs tables (suc (place / area)) i j) (sum_at costs tables l (place / area) i j)) same_length holds

-- all places are all entries
pub entries_from_places : (costs : Steps) (len : ℕ) (tables : List ℕ) → ((place : ℕ) → place < table_count len * (costs.frames * costs.frames) → PlaceHolds costs len tables place) → EntriesHold costs len tables
entries_from_places costs len tables places t i j lt row column =
    let n = costs.frames in
    let q = i * n + j in
    let inside : q < n * n = mul-add-lt i n j n row column in
    let below : t * (n * n) + q < table_count len * (n * n) = omega (arith, mul-le-mul_right (n * n) lt) in
    subst (λ r. EntryHolds costs len tables t r j) (div-mul-add i n j column)
    (subst (λ r. EntryHolds costs len tables t (q / n) r) (mod-mul-add i n j column) (holds_from_place costs len tables t q inside (places (t * (n * n) + q) below)))

pub first_broken-same : (n n' : ℕ) (P Q : ℕ → Type 0) (place : ℕ) → n ≤ n' → ((p : ℕ) → p < n → P p → Q p) → ((p : ℕ) → p < n → Q p → P p) → IsFirstPlace n P place → IsFirstPlace n' Q place
first_broken-same n n' P Q place le to from first = record {
  below = omega (arith, first.below);
  before = λ earlier lt. to earlier (omega (arith, first.below)) (first.before earlier lt);
  broken = λ holds. first.broken (from place first.below holds);
}
