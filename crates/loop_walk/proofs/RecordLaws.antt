-- The least closed walk out of filled tables.
use Rattle.std.proofs.Common.{◌≡◌, ℕ, suc, ◌+◌, ◌*◌, ◌^◌, ◌<◌, ◌≤◌, List, get_or, ap, sym, ◌∙◌, subst, arith, ⊎_elim, inl, inr}
use Rattle.std.specs.Prelude.{Some, IsSome}
use Rattle.std.proofs.lemmas.Bool.{cases_eq, cases_lt}
use Rattle.std.proofs.lemmas.Nat.{mul-add-lt}
use Rattle.limits.specs.declared.bounds.TheConstants.{LONGEST_LOOP}
use Rattle.frame_distance.specs.Steps.{Steps}
use Rattle.loop_walk.specs.Walks.{AtMost, BeginsFirst, HasNoWalk, IsLeastWalk, steps_round, walk_cost}
use Rattle.loop_walk.specs.Tables.{EntriesHold, entry_at, table_entry, table_count}
use Rattle.loop_walk.specs.Records.{WalkStands}
use Rattle.loop_walk.specs.Products.{AllowsCost, AreFilled, FindsLeast, GoesRound, IsNoneOrAtMost, IsStepTable, table_in}
use Rattle.loop_walk.proofs.Numbers.{at_most, entry_of-none, entry_of-some}
use Rattle.loop_walk.proofs.TableLaws.{holds_from_tight, table_in-entry, table_in-small}
use Rattle.loop_walk.proofs.WayLaws.{closed_cost, first_from, least_from, none_from, some_is}

-- another least walk costs as much
same_cost : (costs : Steps) (m : ℕ) (walk other : List ℕ) → IsLeastWalk costs m walk → IsLeastWalk costs m other → (cost : ℕ) → walk_cost costs walk ≡ Some cost → walk_cost costs other ≡ Some cost
same_cost costs m walk other least also cost is =
    let its = closed_cost costs (steps_round other) also.closed in
    let below : AtMost (Some cost) (Some its.0) = subst (λ o. AtMost o (Some its.0)) is (subst (AtMost (walk_cost costs walk)) its.1 (least.least other also.frames also.closed)) in
    let above : AtMost (Some its.0) (Some cost) = subst (λ o. AtMost o (Some cost)) its.1 (subst (AtMost (walk_cost costs other)) is (also.least walk least.frames least.closed)) in
    its.1 ∙ ap Some (let e : its.0 ≡ cost = omega (arith, below, above) in e)

-- a least walk stands over tables that hold and allow its cost
least_stands : (costs : Steps) (m : ℕ) (tables walk : List ℕ) (cost : ℕ) → EntriesHold costs m tables → IsLeastWalk costs m walk → walk_cost costs walk ≡ Some cost
    → ((i : ℕ) → i < costs.frames → AllowsCost costs m tables cost i) → WalkStands costs walk tables
least_stands costs m tables walk cost holds least is allows = record {
  closed = least.closed;
  entries = subst (λ n. EntriesHold costs n tables) (sym least.frames) holds;
  diagonals = λ i lt.
      subst (λ n. AtMost (walk_cost costs walk) (entry_at costs tables (table_count n) i i)) (sym least.frames)
      (subst (λ c. AtMost c (entry_at costs tables (table_count m) i i)) (sym is) (allows i lt));
}

module _ (costs : Steps) (m : ℕ) (some : 1 ≤ m) (few : m ≤ LONGEST_LOOP) (steps : List ℕ) (is : IsStepTable costs steps) (tables : List ℕ) (filled : AreFilled costs m tables)
    (last : List ℕ) (is_last : last ≡ table_in steps tables (table_count m))
    (first : ℕ) (below : first < costs.frames)
    (least : (i : ℕ) → i < costs.frames → get_or last (first * costs.frames + first) 0 ≤ get_or last (i * costs.frames + i) 0)
    (firsts : (i : ℕ) → i < first → get_or last (first * costs.frames + first) 0 < get_or last (i * costs.frames + i) 0) where
  diagonal : (i : ℕ) → i < costs.frames → table_entry (get_or last (i * costs.frames + i) 0) ≡ entry_at costs tables (table_count m) i i
  diagonal i lt =
      ap (λ xs. table_entry (get_or xs (i * costs.frames + i) 0)) is_last
      ∙ table_in-entry costs steps is tables (table_count m) i i (omega (arith, filled.made.whole)) lt lt

  top : (i : ℕ) → i < costs.frames → get_or last (i * costs.frames + i) 0 ≤ 18446744073709551615
  top i lt = ⊎_elim (λ none. omega arith) (λ small. omega arith)
      (subst (λ xs. IsNoneOrAtMost (m * 2 ^ 46) (get_or xs (i * costs.frames + i) 0)) (sym is_last)
      (table_in-small costs steps is tables (m * 2 ^ 46) (table_count m) (i * costs.frames + i) (omega arith) filled.small (omega (arith, filled.made.whole)) (mul-add-lt i costs.frames i costs.frames lt lt)))

  holds : EntriesHold costs m tables
  holds = holds_from_tight costs m tables filled.made.tight

  pub no_walk : get_or last (first * costs.frames + first) 0 ≡ 18446744073709551615 → HasNoWalk costs m
  no_walk none = none_from costs tables m some holds
      (λ i lt. sym (diagonal i lt) ∙ entry_of-none (get_or last (i * costs.frames + i) 0) (omega (arith, least i lt, top i lt)))

  module _ (there : get_or last (first * costs.frames + first) 0 ≡ 18446744073709551615 → ⊥) where
    entry_is_cost : entry_at costs tables (table_count m) first first ≡ Some (get_or last (first * costs.frames + first) 0)
    entry_is_cost = sym (diagonal first below) ∙ entry_of-some (get_or last (first * costs.frames + first) 0) there

    pub there_is : IsSome (entry_at costs tables (table_count m) first first)
    there_is = some_is (entry_at costs tables (table_count m) first first) (get_or last (first * costs.frames + first) 0) entry_is_cost

    allows : (i : ℕ) → i < costs.frames → AllowsCost costs m tables (get_or last (first * costs.frames + first) 0) i
    allows i lt =
        let cost = get_or last (first * costs.frames + first) 0 in
        let x = get_or last (i * costs.frames + i) 0 in
        subst (AtMost (Some cost)) (diagonal i lt) (subst (λ o. AtMost o (table_entry x)) (entry_of-some cost there) (at_most cost x (least i lt) (top i lt)))

    above : (i : ℕ) → i < first → AtMost (Some (suc (get_or last (first * costs.frames + first) 0))) (entry_at costs tables (table_count m) i i)
    above i lt =
        let cost = get_or last (first * costs.frames + first) 0 in
        let x = get_or last (i * costs.frames + i) 0 in
        let higher = firsts i lt in
        subst (AtMost (Some (suc cost))) (diagonal i (omega (arith, below)))
        (⊎_elim (λ none. subst (AtMost (Some (suc cost))) (sym (entry_of-none x none)) tt)
        (λ apart. subst (AtMost (Some (suc cost))) (sym (entry_of-some x apart)) (let le : suc cost ≤ x = omega arith in le))
        (cases_eq x 18446744073709551615))

    pub finds_least : (walk : List ℕ) → GoesRound costs m tables first walk → FindsLeast costs m tables walk (get_or last (first * costs.frames + first) 0)
    finds_least walk goes =
        let cost = get_or last (first * costs.frames + first) 0 in
        let cost_is : walk_cost costs walk ≡ Some cost = goes.cost ∙ entry_is_cost in
        let it = least_from costs tables m some holds walk cost goes.frames cost_is allows in
        let begins : BeginsFirst costs m walk = first_from costs tables m some holds walk cost it cost_is (λ i lt. above i (subst (λ f. i < f) goes.begins lt)) in
        record {
          least = it;
          first = begins;
          one = record {
            before = λ other also.
                let same : walk_cost costs other ≡ Some cost = same_cost costs m walk other it also cost cost_is in
                let before : get_or walk 0 0 ≤ get_or other 0 0 = begins other also 0 0 (omega (arith, some, also.frames)) in
                ⊎_elim (λ less. inl less)
                (λ from.
                let begins_same : get_or other 0 0 ≡ get_or walk 0 0 = omega (arith, before, from) in
                inr (sym begins_same, goes.before other also.frames (begins_same ∙ goes.begins) (same ∙ sym entry_is_cost)))
                (cases_lt (get_or walk 0 0) (get_or other 0 0));
          };
          cost_is = cost_is;
          stands = least_stands costs m tables walk cost holds it cost_is allows;
        }
