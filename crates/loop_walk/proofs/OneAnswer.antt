-- What follows from the definitions: a closed walk visits frames of the clip, tight tables are one, and
-- a record that stands breaks no rule.
use Rattle.std.proofs.Common.{◌≡◌, ℕ, zero, suc, ◌+◌, ◌*◌, ◌/◌, ◌%◌, ◌<◌, ◌≤◌, List, [], ◌∷◌, length, get_or, refl, ap, sym, ◌∙◌, subst, arith, ⊎_elim, inl, inr}
use Rattle.std.specs.Prelude.{Option, Some, None, All}
use Rattle.std.proofs.lemmas.Bool.{cases_eq}
use Rattle.std.proofs.lemmas.Nat.{div_below, mod_below, div-add-mod'}
use Rattle.std.proofs.lemmas.List.{ext_get_or}
use Rattle.std.proofs.lemmas.List.Elements.{All-head, All-tail, All-cons, All-nil}
use Rattle.frame_distance.specs.Steps.{Steps, step_at}
use Rattle.frame_distance.proofs.EntryLaws.{row_below, column_below}
use Rattle.loop_walk.specs.declared.fault.LoopFault.{LoopFault}
use Rattle.loop_walk.specs.Walks.{AtMost, HasStep, IsClosedWalk, sum_if_both, steps_along}
use Rattle.loop_walk.specs.Tables.{AreTightTables, IsLeastSum, entry_at, table_entry, second_table, sum_at, table_count, table_lengths}
use Rattle.loop_walk.specs.Records.{IsFirstLoopFault, WalkStands}
use Rattle.loop_walk.proofs.Numbers.{entry_is, entry_of-none, entry_of-some}
use Rattle.loop_walk.proofs.Lengths.{second-odd, second-even}
use Rattle.loop_walk.proofs.WayLaws.{has_some, step_frames}
use Rattle.loop_walk.proofs.CheckLaws.{length-steps_round}

module _ (costs : Steps) where
  list_frames : (from : ℕ) (rest : List ℕ) (to : ℕ) → All (HasStep costs) (steps_along from rest to) → All (λ f. f < costs.frames) (from ∷ rest)
  list_frames from [] to all =
      let step = has_some (step_at costs from to) (All-head (HasStep costs) (from, to) [] all) in
      All-cons (λ f. f < costs.frames) from [] (step_frames costs from to step.0 step.1).0 (All-nil (λ f. f < costs.frames))
  list_frames from (next ∷ rest) to all =
      let step = has_some (step_at costs from next) (All-head (HasStep costs) (from, next) (steps_along next rest to) all) in
      All-cons (λ f. f < costs.frames) from (next ∷ rest) (step_frames costs from next step.0 step.1).0
      (list_frames next rest to (All-tail (HasStep costs) (from, next) (steps_along next rest to) all))

  pub walk_frames : (walk : List ℕ) → IsClosedWalk costs walk → All (λ f. f < costs.frames) walk
  walk_frames [] all = All-nil (λ f. f < costs.frames)
  walk_frames (first ∷ rest) all = list_frames first rest first all

-- the least of the same sums
least_one : (n : ℕ) (e e' : Option ℕ) (s s' : ℕ → Option ℕ) → ((v : ℕ) → v < n → s v ≡ s' v) → IsLeastSum n e s → IsLeastSum n e' s' → e ≡ e'
least_one n None None s s' same one two = refl
least_one n None (Some y) s s' same one two =
    absurd (subst (AtMost None) (same two.reached.0 two.reached.1 ∙ two.reached.2) (one.below two.reached.0 two.reached.1))
least_one n (Some x) None s s' same one two =
    absurd (subst (AtMost None) (sym (same one.reached.0 one.reached.1) ∙ one.reached.2) (two.below one.reached.0 one.reached.1))
least_one n (Some x) (Some y) s s' same one two =
    let up : x ≤ y = subst (AtMost (Some x)) (same two.reached.0 two.reached.1 ∙ two.reached.2) (one.below two.reached.0 two.reached.1) in
    let down : y ≤ x = subst (AtMost (Some y)) (sym (same one.reached.0 one.reached.1) ∙ one.reached.2) (two.below one.reached.0 one.reached.1) in
    ap Some (let e : x ≡ y = omega arith in e)

-- a number is that of its entry
number_is : (x y : ℕ) → table_entry x ≡ table_entry y → x ≡ y
number_is x y same = ⊎_elim
    (λ none. ⊎_elim
    (λ none'. none ∙ sym none')
    (λ some'. let e : None ≡ Some y = sym (entry_of-none x none) ∙ same ∙ entry_of-some y some' in absurd cc)
    (cases_eq y 18446744073709551615))
    (λ some. sym (entry_is y x (sym same ∙ entry_of-some x some)))
    (cases_eq x 18446744073709551615)

module _ (costs : Steps) (len : ℕ) (tables other : List ℕ) (tight : AreTightTables costs len tables) (too : AreTightTables costs len other) where
  abbrev n : ℕ
  n = costs.frames

  same_entries : (t : ℕ) → t ≤ table_count len → (i j : ℕ) → i < n → j < n → entry_at costs tables t i j ≡ entry_at costs other t i j
  same_entries zero le i j row column = refl
  same_entries (suc t) le i j row column =
      let m = get_or (table_lengths len) t 0 in
      least_one n (entry_at costs tables (suc t) i j) (entry_at costs other (suc t) i j) (sum_at costs tables m t i j) (sum_at costs other m t i j)
      (λ v lt.
      let first = same_entries t (omega arith) i v row lt in
      let second : entry_at costs tables (second_table m t) v j ≡ entry_at costs other (second_table m t) v j = ⊎_elim
      (λ odd. subst (λ s. entry_at costs tables s v j ≡ entry_at costs other s v j) (sym (second-odd m t odd)) refl)
      (λ even. subst (λ s. entry_at costs tables s v j ≡ entry_at costs other s v j) (sym (second-even m t even)) (same_entries t (omega arith) v j lt column))
      (cases_eq (m % 2) 1) in
      λ k. sum_if_both (first k) (second k))
      (tight.tight t i j (omega arith) row column) (too.tight t i j (omega arith) row column)

  some_area : (c area place : ℕ) → place < c * area → 0 < area
  some_area c zero place lt = absurd (omega arith)
  some_area c (suc area) place lt = omega arith

  same_number : (place : ℕ) → place < table_count len * (n * n) → get_or tables place 0 ≡ get_or other place 0
  same_number place lt =
      let area = n * n in
      let some = some_area (table_count len) area place lt in
      let t = place / area in
      let q = place % area in
      let inside : q < area = mod_below place area some in
      let entry = same_entries (suc t) (div_below place area (table_count len) some lt) (q / n) (q % n) (row_below n q inside) (column_below n q inside) in
      let at : t * area + (q / n * n + q % n) ≡ place = ap (λ x. t * area + x) (div-add-mod' q n) ∙ div-add-mod' place area in
      subst (λ k. get_or tables k 0 ≡ get_or other k 0) at
      (number_is (get_or tables (t * area + (q / n * n + q % n)) 0) (get_or other (t * area + (q / n * n + q % n)) 0) entry)

  pub one_tight : tables ≡ other
  one_tight = ext_get_or 0 tables other (tight.whole ∙ sym too.whole) (λ k lt. same_number k (omega (arith, tight.whole)))

pub no_fault : (costs : Steps) (walk tables : List ℕ) (fault : LoopFault) → length tables ≡ table_count (length walk) * (costs.frames * costs.frames)
    → WalkStands costs walk tables → IsFirstLoopFault costs walk tables fault → ⊥
no_fault costs walk tables fault whole stands (inl broken) =
    broken.place.broken (stands.closed fault.place (0, 0) (omega (arith, broken.place.below, length-steps_round walk)))
no_fault costs walk tables fault whole stands (inr (inl broken)) =
    let area = costs.frames * costs.frames in
    let lt : fault.place < table_count (length walk) * area = omega (arith, whole, broken.place.below) in
    let some = area_is (table_count (length walk)) area fault.place lt in
    let inside : fault.place % area < area = mod_below fault.place area some in
    broken.place.broken (stands.entries (fault.place / area) (fault.place % area / costs.frames) (fault.place % area % costs.frames)
    (div_below fault.place area (table_count (length walk)) some lt) (row_below costs.frames (fault.place % area) inside) (column_below costs.frames (fault.place % area) inside))
  where
    area_is : (c area place : ℕ) → place < c * area → 0 < area
    area_is c zero place lt = absurd (omega arith)
    area_is c (suc area) place lt = omega arith
no_fault costs walk tables fault whole stands (inr (inr broken)) = broken.place.broken (stands.diagonals fault.place broken.place.below)
