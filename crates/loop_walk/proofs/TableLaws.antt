-- The tables for a length: one more table, and the tables for the length before.
use Rattle.std.proofs.Common.{◌≡◌, ℕ, zero, suc, ◌+◌, ◌-◌, ◌*◌, ◌^◌, ◌/◌, ◌<◌, ◌≤◌, List, ◌++◌, length, get_or, drop, refl, ap, sym, ◌∙◌, subst, arith, ⊎_elim, inl, get_or-take, get_or-drop, length-append, length-drop, ◌%◌}
use Rattle.std.specs.Prelude.{◌⊎◌, Option, Some, None, IfSome}
use Rattle.std.proofs.Math.Nat.{mul-le-mul_right}
use Rattle.std.proofs.lemmas.Bool.{cases_eq, cases_lt}
use Rattle.std.proofs.lemmas.Nat.{mul-add-lt, div-add-mod', div_below, mod_below}
use Rattle.std.proofs.lemmas.List.{get_or_append_left, get_or-append_right, length-take-le}
use Rattle.limits.specs.declared.bounds.TheConstants.{LONGEST_LOOP}
use Rattle.frame_distance.specs.Steps.{Steps}
use Rattle.loop_walk.specs.Walks.{sum_if_both, AtMost}
use Rattle.loop_walk.specs.Tables.{length_before, table_lengths, table_count, table_entry, entry_at, second_table, sum_at, IsBelowSums, IsLeastSum, EntryIsTight, EntriesAreTight, EntriesHold}
use Rattle.loop_walk.specs.Products.{AreFilled, AreSmall, IsLeastNumber, IsProduct, IsNoneOrAtMost, IsStepTable, stopped_sum, table_in}
use Rattle.loop_walk.proofs.Lengths.{IsBefore, is_before, last_length, earlier_length, table_count-more, second-odd, second-even}
use Rattle.loop_walk.proofs.Numbers.{at_most, entry_of-none, entry_of-some, entry_of-stopped_sum, small-more, small-stopped_sum}

pub least_sum-same : (n : ℕ) (e e' : Option ℕ) (s s' : ℕ → Option ℕ) → e ≡ e' → ((v : ℕ) → v < n → s v ≡ s' v) → IsLeastSum n e s → IsLeastSum n e' s'
least_sum-same n e e' s s' same sums least = record {
  below = λ v lt. subst (λ o. AtMost o (s' v)) same (subst (AtMost e) (sums v lt) (least.below v lt));
  reached = subst (λ o. IfSome o (λ cost. (v : ℕ) × (v < n) × (s' v ≡ Some cost))) same (moved e least.reached);
}
  where
    moved : (o : Option ℕ) → IfSome o (λ cost. (v : ℕ) × (v < n) × (s v ≡ Some cost)) → IfSome o (λ cost. (v : ℕ) × (v < n) × (s' v ≡ Some cost))
    moved None at = tt
    moved (Some cost) at = (at.0, at.1, sym (sums at.0 at.1) ∙ at.2)

-- the least of numbers is the least of entries
module _ (n bound bound' x : ℕ) (a b : ℕ → ℕ) (room : bound + bound' < 18446744073709551615) (sa : (v : ℕ) → v < n → IsNoneOrAtMost bound (a v)) (sb : (v : ℕ) → v < n → IsNoneOrAtMost bound' (b v)) (least : IsLeastNumber n x (λ v. stopped_sum (a v) (b v))) where
  sum_is : (v : ℕ) → v < n → table_entry (stopped_sum (a v) (b v)) ≡ sum_if_both (table_entry (a v)) (table_entry (b v))
  sum_is v lt = entry_of-stopped_sum bound bound' (a v) (b v) room (sa v lt) (sb v lt)

  reached_at : ((x ≡ 18446744073709551615) ⊎ ((x ≡ 18446744073709551615) → ⊥)) → IfSome (table_entry x) (λ cost. (v : ℕ) × (v < n) × (sum_if_both (table_entry (a v)) (table_entry (b v)) ≡ Some cost))
  reached_at which = ⊎_elim
      (λ top. subst (λ o. IfSome o (λ cost. (v : ℕ) × (v < n) × (sum_if_both (table_entry (a v)) (table_entry (b v)) ≡ Some cost))) (sym (entry_of-none x top)) tt)
      (λ apart. subst (λ o. IfSome o (λ cost. (v : ℕ) × (v < n) × (sum_if_both (table_entry (a v)) (table_entry (b v)) ≡ Some cost))) (sym (entry_of-some x apart))
      (⊎_elim (λ top. absurd (apart top)) (λ at. (at.0, at.1, sym (sum_is at.0 at.1) ∙ ap table_entry (sym at.2) ∙ entry_of-some x apart)) least.reached))
      which

  pub least_sum_from : IsLeastSum n (table_entry x) (λ v. sum_if_both (table_entry (a v)) (table_entry (b v)))
  least_sum_from = record {
    below = λ v lt. subst (AtMost (table_entry x)) (sum_is v lt) (at_most x (stopped_sum (a v) (b v)) (least.below v lt) (omega arith));
    reached = reached_at (cases_eq x 18446744073709551615);
  }

  pub small_from : IsNoneOrAtMost (bound + bound') x
  small_from = ⊎_elim (λ top. inl top)
      (λ at. subst (IsNoneOrAtMost (bound + bound')) (sym at.2) (small-stopped_sum bound bound' (a at.0) (b at.0) room (sa at.0 at.1) (sb at.0 at.1))) least.reached

module _ (costs : Steps) where
  -- an entry of the tables at the front, and of the one after them
  pub entry_at-front : (xs ys : List ℕ) (t i j : ℕ) → t * (costs.frames * costs.frames) ≤ length xs → i < costs.frames → j < costs.frames → entry_at costs (xs ++ ys) t i j ≡ entry_at costs xs t i j
  entry_at-front xs ys zero i j fits row column = refl
  entry_at-front xs ys (suc t) i j fits row column =
      let n = costs.frames in
      ap table_entry (get_or_append_left xs ys 0 (t * (n * n) + (i * n + j)) (omega (arith, mul-add-lt i n j n row column)))

  pub entry_at-back : (xs ys : List ℕ) (t i j : ℕ) → length xs ≡ t * (costs.frames * costs.frames) → entry_at costs (xs ++ ys) (suc t) i j ≡ table_entry (get_or ys (i * costs.frames + j) 0)
  entry_at-back xs ys t i j long =
      let n = costs.frames in
      let rest : t * (n * n) + (i * n + j) - t * (n * n) ≡ i * n + j = omega arith in
      ap table_entry (get_or-append_right xs ys (t * (n * n)) (t * (n * n) + (i * n + j)) 0 long (omega arith) ∙ ap (λ k. get_or ys k 0) rest)

  -- a table by its number
  module _ (steps : List ℕ) (is : IsStepTable costs steps) (tables : List ℕ) where
    pub table_in-entry : (t i j : ℕ) → t * (costs.frames * costs.frames) ≤ length tables → i < costs.frames → j < costs.frames
        → table_entry (get_or (table_in steps tables t) (i * costs.frames + j) 0) ≡ entry_at costs tables t i j
    table_in-entry zero i j fits row column = is.entries i j row column
    table_in-entry (suc t) i j fits row column =
        let n = costs.frames in
        ap table_entry
        (get_or-take (length steps) (drop (t * length steps) tables) (i * n + j) 0 (omega (arith, is.whole, mul-add-lt i n j n row column))
        ∙ get_or-drop (t * length steps) tables (i * n + j) 0
        ∙ ap (λ area. get_or tables (t * area + (i * n + j)) 0) is.whole)

    pub table_in-small : (bound t k : ℕ) → 2 ^ 46 ≤ bound → AreSmall bound tables → t * (costs.frames * costs.frames) ≤ length tables → k < costs.frames * costs.frames → IsNoneOrAtMost bound (get_or (table_in steps tables t) k 0)
    table_in-small bound zero k more small fits lt = small-more (2 ^ 46) bound (get_or steps k 0) more (is.small k (omega (arith, is.whole)))
    table_in-small bound (suc t) k more small fits lt =
        subst (IsNoneOrAtMost bound)
        (sym (get_or-take (length steps) (drop (t * length steps) tables) k 0 (omega (arith, is.whole))
        ∙ get_or-drop (t * length steps) tables k 0 ∙ ap (λ area. get_or tables (t * area + k) 0) is.whole))
        (small (t * (costs.frames * costs.frames) + k) (omega arith))

    pub length-table_in : (t : ℕ) → t * (costs.frames * costs.frames) ≤ length tables → length (table_in steps tables t) ≡ costs.frames * costs.frames
    length-table_in zero fits = is.whole
    length-table_in (suc t) fits =
        let long : t * length steps + length steps ≤ length tables = subst (λ area. t * area + area ≤ length tables) (sym is.whole) (omega arith) in
        length-take-le (length steps) (drop (t * length steps) tables) (omega (arith, length-drop (t * length steps) tables)) ∙ is.whole

    -- each number of a table is small where those of all tables are
    pub small_table_in : (bound bound' t : ℕ) → 2 ^ 46 ≤ bound' → bound ≤ bound' → AreSmall bound tables → t * (costs.frames * costs.frames) ≤ length tables → AreSmall bound' (table_in steps tables t)
    small_table_in bound bound' t more wider small fits k lt =
        table_in-small bound' t k more (λ j below. small-more bound bound' (get_or tables j 0) wider (small j below)) fits (omega (arith, length-table_in t fits))

  pub second_le : (m t : ℕ) → second_table m t ≤ t
  second_le m t = ⊎_elim (λ odd. omega (arith, second-odd m t odd)) (λ even. omega (arith, second-even m t even)) (cases_eq (m % 2) 1)

  -- the tables for the length before are among those for the length
  pub tight-before : (m : ℕ) (tables : List ℕ) → 2 ≤ m → EntriesAreTight costs m tables → EntriesAreTight costs (length_before m) tables
  tight-before m tables two all t i j lt row column =
      subst (λ l. IsLeastSum costs.frames (entry_at costs tables (suc t) i j) (sum_at costs tables l t i j)) (earlier_length m t 0 two lt)
      (all t i j (omega (arith, table_count-more m two)) row column)

  pub holds-before : (m : ℕ) (tables : List ℕ) → 2 ≤ m → EntriesHold costs m tables → EntriesHold costs (length_before m) tables
  holds-before m tables two all t i j lt row column =
      subst (λ l. IsBelowSums costs.frames (entry_at costs tables (suc t) i j) (sum_at costs tables l t i j)) (earlier_length m t 0 two lt)
      (all t i j (omega (arith, table_count-more m two)) row column)

  pub holds_from_tight : (m : ℕ) (tables : List ℕ) → EntriesAreTight costs m tables → EntriesHold costs m tables
  holds_from_tight m tables all t i j lt row column = (all t i j lt row column).below

-- one more table
module _ (costs : Steps) (m b t : ℕ) (two : 2 ≤ m) (few : m ≤ LONGEST_LOOP) (is_b : b ≡ length_before m) (is_t : t ≡ table_count b)
    (steps : List ℕ) (is : IsStepTable costs steps) (before last : List ℕ) (filled : AreFilled costs b before) (long : length last ≡ costs.frames * costs.frames)
    (made : IsProduct costs.frames (table_in steps before t) (table_in steps before (second_table m t)) last) where
  lengths : IsBefore m b
  lengths = subst (IsBefore m) (sym is_b) (is_before m two)

  whole : length before ≡ t * (costs.frames * costs.frames)
  whole = filled.made.whole ∙ ap (λ c. c * (costs.frames * costs.frames)) (sym is_t)

  fits : t * (costs.frames * costs.frames) ≤ length before
  fits = omega (arith, whole)

  fits_second : second_table m t * (costs.frames * costs.frames) ≤ length before
  fits_second = omega (arith, whole, mul-le-mul_right (costs.frames * costs.frames) (second_le costs m t))

  first_small : (k : ℕ) → k < costs.frames * costs.frames → IsNoneOrAtMost (b * 2 ^ 46) (get_or (table_in steps before t) k 0)
  first_small k lt = table_in-small costs steps is before (b * 2 ^ 46) t k (omega (arith, lengths.some)) filled.small fits lt

  second_small : (k : ℕ) → k < costs.frames * costs.frames → IsNoneOrAtMost ((m - b) * 2 ^ 46) (get_or (table_in steps before (second_table m t)) k 0)
  second_small k lt = ⊎_elim
      (λ odd.
      subst (λ s. IsNoneOrAtMost ((m - b) * 2 ^ 46) (get_or (table_in steps before s) k 0)) (sym (second-odd m t odd))
      (small-more (2 ^ 46) ((m - b) * 2 ^ 46) (get_or steps k 0) (omega (arith, lengths.odd odd)) (is.small k (omega (arith, is.whole)))))
      (λ even.
      subst (λ s. IsNoneOrAtMost ((m - b) * 2 ^ 46) (get_or (table_in steps before s) k 0)) (sym (second-even m t even))
      (small-more (b * 2 ^ 46) ((m - b) * 2 ^ 46) (get_or (table_in steps before t) k 0) (omega (arith, lengths.even even)) (first_small k lt)))
      (cases_eq (m % 2) 1)

  room : b * 2 ^ 46 + (m - b) * 2 ^ 46 < 18446744073709551615
  room = omega (arith, lengths.less)

  abbrev firsts : ℕ → ℕ → ℕ
  firsts i v = get_or (table_in steps before t) (i * costs.frames + v) 0

  abbrev seconds : ℕ → ℕ → ℕ
  seconds j v = get_or (table_in steps before (second_table m t)) (v * costs.frames + j) 0

  last_tight : (i j : ℕ) → i < costs.frames → j < costs.frames → EntryIsTight costs m (before ++ last) t i j
  last_tight i j row column =
      let n = costs.frames in
      least_sum-same n (table_entry (get_or last (i * n + j) 0)) (entry_at costs (before ++ last) (suc t) i j)
      (λ v. sum_if_both (table_entry (firsts i v)) (table_entry (seconds j v))) (sum_at costs (before ++ last) (get_or (table_lengths m) t 0) t i j)
      (sym (entry_at-back costs before last t i j whole))
      (λ v lt.
      let first = table_in-entry costs steps is before t i v fits row lt ∙ sym (entry_at-front costs before last t i v fits row lt) in
      let second =
      table_in-entry costs steps is before (second_table m t) v j fits_second lt column ∙ sym (entry_at-front costs before last (second_table m t) v j fits_second lt column)
      ∙ ap (λ l. entry_at costs (before ++ last) (second_table l t) v j) (sym (ap (λ c. get_or (table_lengths m) c 0) (is_t ∙ ap table_count is_b) ∙ last_length m 0 two)) in
      (λ k. sum_if_both (first k) (second k)))
      (least_sum_from n (b * 2 ^ 46) ((m - b) * 2 ^ 46) (get_or last (i * n + j) 0) (firsts i) (seconds j) room
      (λ v lt. first_small (i * n + v) (mul-add-lt i n v n row lt)) (λ v lt. second_small (v * n + j) (mul-add-lt v n j n lt column)) (made i j row column))

  last_small : (q : ℕ) → q < costs.frames * costs.frames → IsNoneOrAtMost (m * 2 ^ 46) (get_or last q 0)
  last_small q lt =
      let n = costs.frames in
      let some : 0 < n = some_frames n q lt in
      let row : q / n < n = div_below q n n some lt in
      let column : q % n < n = mod_below q n some in
      let sum : b * 2 ^ 46 + (m - b) * 2 ^ 46 ≤ m * 2 ^ 46 = omega (arith, lengths.less) in
      subst (λ k. IsNoneOrAtMost (m * 2 ^ 46) (get_or last k 0)) (div-add-mod' q n)
      (small-more (b * 2 ^ 46 + (m - b) * 2 ^ 46) (m * 2 ^ 46) (get_or last (q / n * n + q % n) 0) sum
      (small_from n (b * 2 ^ 46) ((m - b) * 2 ^ 46) (get_or last (q / n * n + q % n) 0) (firsts (q / n)) (seconds (q % n)) room
      (λ v lt. first_small (q / n * n + v) (mul-add-lt (q / n) n v n row lt)) (λ v lt. second_small (v * n + q % n) (mul-add-lt v n (q % n) n lt column)) (made (q / n) (q % n) row column)))
    where
      some_frames : (n q : ℕ) → q < n * n → 0 < n
      some_frames zero q lt = absurd (omega arith)
      some_frames (suc n) q lt = omega arith

  earlier_tight : (s i j : ℕ) → s < t → i < costs.frames → j < costs.frames → EntryIsTight costs m (before ++ last) s i j
  earlier_tight s i j lt row column =
      let n = costs.frames in
      let within : suc s * (n * n) ≤ length before = omega (arith, whole, mul-le-mul_right (n * n) lt) in
      let within_first : s * (n * n) ≤ length before = omega arith in
      let l = get_or (table_lengths b) s 0 in
      let within_second : second_table l s * (n * n) ≤ length before = omega (arith, mul-le-mul_right (n * n) (second_le costs l s)) in
      let same : l ≡ get_or (table_lengths m) s 0 = ap (λ k. get_or (table_lengths k) s 0) is_b ∙ sym (earlier_length m s 0 two (subst (λ c. s < c) (is_t ∙ ap table_count is_b) lt)) in
      least_sum-same n (entry_at costs before (suc s) i j) (entry_at costs (before ++ last) (suc s) i j) (sum_at costs before l s i j) (sum_at costs (before ++ last) (get_or (table_lengths m) s 0) s i j)
      (sym (entry_at-front costs before last (suc s) i j within row column))
      (λ v below.
      let first = sym (entry_at-front costs before last s i v within_first row below) in
      let second = sym (entry_at-front costs before last (second_table l s) v j within_second below column) ∙ ap (λ k. entry_at costs (before ++ last) (second_table k s) v j) same in
      (λ k. sum_if_both (first k) (second k)))
      (filled.made.tight s i j (subst (λ c. s < c) is_t lt) row column)

  count_is : table_count m ≡ t + 1
  count_is = table_count-more m two ∙ ap (λ k. table_count k + 1) (sym is_b) ∙ ap (λ c. c + 1) (sym is_t)

  pub filled-more : AreFilled costs m (before ++ last)
  filled-more = record {
    made = record {
      whole = length-append before last ∙ omega (arith, whole, long, ap (λ c. c * (costs.frames * costs.frames)) count_is);
      tight = λ s i j lt row column. ⊎_elim (λ earlier. earlier_tight s i j earlier row column)
          (λ from. let here : t ≡ s = omega (arith, count_is) in subst (λ k. EntryIsTight costs m (before ++ last) k i j) here (last_tight i j row column)) (cases_lt s t);
    };
    small = λ k lt. ⊎_elim
        (λ earlier.
        subst (IsNoneOrAtMost (m * 2 ^ 46)) (sym (get_or_append_left before last 0 k earlier))
        (small-more (b * 2 ^ 46) (m * 2 ^ 46) (get_or before k 0) (omega (arith, lengths.less)) (filled.small k earlier)))
        (λ from.
        subst (IsNoneOrAtMost (m * 2 ^ 46)) (sym (get_or-append_right before last (length before) k 0 refl from))
        (last_small (k - length before) (omega (arith, long, length-append before last))))
        (cases_lt k (length before));
  }

-- for length 1 there is no table
pub filled-one : (costs : Steps) (tables : List ℕ) → length tables ≡ 0 → AreFilled costs 1 tables
filled-one costs tables none = record {
  made = record { whole = omega (arith, none); tight = λ t i j lt row column. absurd (omega arith) };
  small = λ k lt. absurd (omega arith);
}
