-- Entries that are made sums of the entries from them on, run by run.
use Rattle.std.proofs.Common.{◌≡◌, ℕ, ◌+◌, ◌-◌, ◌*◌, ◌^◌, ◌<◌, ◌≤◌, List, length, get_or, take, drop, refl, ap, sym, ◌∙◌, subst, arith, ⊎_elim}
use Rattle.std.proofs.Math.Nat.{mul-le-mul_left}
use Rattle.std.proofs.lemmas.Bool.{cases_lt}
use Rattle.std.proofs.lemmas.List.{get_or-drop, get_or-take}
use Rattle.boxes.proofs.Additions.{counts}
use Rattle.boxes.proofs.Axes.{sum_equal, sum_more}
use Rattle.boxes.proofs.Bounds.{sum_bound, sum_of_more}
use Rattle.search_squares.specs.declared.sums.TheConstants.{LANES}
use Rattle.search_squares.specs.Sums.{AreAdded, AreAddedTo, stepped_sum}

pub none_added : (step n end : ℕ) (was : List ℕ) → end ≡ 0 → AreAddedTo step n end was was
none_added step n end was none = record {
  long = refl;
  sums = λ i lt. absurd (omega (arith, none, lt));
  rest = λ i le. refl;
}

-- a sum is at most what so many of the greatest entry make
pub stepped_bound : (step n most i : ℕ) (entries : List ℕ) → ((j : ℕ) → get_or entries j 0 ≤ most) → stepped_sum entries step n i ≤ n * most
stepped_bound step n most i entries bound = sum_bound n most (λ j. get_or entries (i + step * j) 0) (λ j lt. bound (i + step * j))

module _ (step n end : ℕ) (was now : List ℕ) (added : AreAddedTo step n end was now) where
  -- from the end on the sums are those of before
  pub same_sums : (i : ℕ) → end ≤ i → stepped_sum now step n i ≡ stepped_sum was step n i
  same_sums i le = sum_equal counts n (λ j. get_or now (i + step * j) 0) (λ j. get_or was (i + step * j) 0) (λ j lt. added.rest (i + step * j) (omega (arith, le)))

  -- one run more
  pub run_added : (new : List ℕ) (after : ℕ) → after ≡ end + LANES → length new ≡ length now
      → ((i : ℕ) → i < LANES → get_or new (end + i) 0 ≡ stepped_sum now step n (end + i))
      → ((i : ℕ) → i < end → get_or new i 0 ≡ get_or now i 0)
      → ((i : ℕ) → end + LANES ≤ i → get_or new i 0 ≡ get_or now i 0)
      → AreAddedTo step n after was new
  run_added new after is long here before behind = record {
    long = long ∙ added.long;
    sums = λ i lt.
        ⊎_elim (λ less. before i less ∙ added.sums i less)
        (λ le.
        let at : end + (i - end) ≡ i = omega (arith, le) in
        let in_run : i - end < LANES = omega (arith, le, lt, is) in
        subst (λ m. get_or new m 0 ≡ stepped_sum was step n m) at (here (i - end) in_run ∙ same_sums (end + (i - end)) (omega arith)))
        (cases_lt i end);
    rest = λ i le. behind i (omega (arith, le, is)) ∙ added.rest i (omega (arith, le, is));
  }

  -- the last run
  pub all_added : 1 ≤ n → ((i last : ℕ) → last + 1 ≡ n → i + step * last + LANES ≤ length was → i < end) → AreAdded step n was now
  all_added some before = record {
    long = added.long;
    sums = λ i last is le. added.sums i (before i last is le);
    small = λ most bound i.
        ⊎_elim (λ lt. subst (λ entry. entry ≤ n * most) (sym (added.sums i lt)) (stepped_bound step n most i was bound))
        (λ le. omega (arith, added.rest i le, bound i, mul-le-mul_left most some))
        (cases_lt i end);
  }

-- a run of entries more, in a lane: the first of them come from each place so many steps on
module _ (step j first i : ℕ) (entries sums run : List ℕ) (lt : i < LANES) (sum_is : get_or sums i 0 ≡ stepped_sum entries step j (first + i)) (run_is : run ≡ take LANES (drop (first + step * j) entries)) where
  there : get_or run i 0 ≡ get_or entries ((first + i) + step * j) 0
  there =
      ap (λ (xs : List ℕ). get_or xs i 0) run_is
      ∙ get_or-take LANES (drop (first + step * j) entries) i 0 lt
      ∙ get_or-drop (first + step * j) entries i 0
      ∙ ap (λ m. get_or entries m 0) (let e : (first + step * j) + i ≡ (first + i) + step * j = omega arith in e)

  pub lane_more : get_or sums i 0 + get_or run i 0 ≡ stepped_sum entries step (j + 1) (first + i)
  lane_more = (λ k. sum_is k + there k) ∙ sym (sum_more counts j (λ j. get_or entries ((first + i) + step * j) 0))

  pub lane_fits : (n : ℕ) → j < n → stepped_sum entries step n (first + i) < 2 ^ 16 → get_or sums i 0 + get_or run i 0 < 2 ^ 16
  lane_fits n below fits = omega (arith, lane_more, fits, sum_of_more (j + 1) n (λ j. get_or entries ((first + i) + step * j) 0) (omega (arith, below)))
