-- Shortlists: the table that one is made from, and one more candidate.
use Rattle.std.proofs.Common.{◌≡◌, ℕ, zero, suc, ◌+◌, ◌*◌, ◌^◌, ◌<◌, ◌≤◌, Bool, true, false, cond, List, [], ◌∷◌, ◌++◌, length, take, sym, subst, ap, ◌∙◌, inl, inr, refl, arith, length-append}
use Rattle.std.proofs.Math.Seq.{take-append_seam}
use Rattle.std.proofs.lemmas.Bool.{lt-leb, lt-ltb}
use Rattle.std.proofs.lemmas.List.{take-append-le}
use Rattle.std.proofs.lemmas.List.Elements.{All-head, All-push, All-tail, Contains-append_left, Contains-append_right, Contains-push_cases, length_all_zip}
use Rattle.std.proofs.lemmas.List.Sums.{count_by_more_yes, sum_by-append, sum_by-cons, sum_by-take-le}
use Rattle.std.proofs.lemmas.Option.{get_or_from_slice_get, none-some, same_Some, slice_get_within}
use Rattle.std.specs.Prelude.{◌⊎◌, ◌&&◌, nat_lt, All, IfSome, Option, Some, None, slice_get}
use Rattle.std.specs.List.{count_by}
use Rattle.match_error.specs.declared.error.Error.{Error}
use Rattle.match_error.specs.Errors.{is_within}
use Rattle.patch_place.specs.declared.eligible.Entry.{Entry}
use Rattle.patch_place.specs.declared.shortlist.Shortlist.{Shortlist}
use Rattle.patch_picks.specs.Draws.{DrawState, draw}
use Rattle.patch_picks.specs.Picks.{IsBest, is_eligible}
use Rattle.patch_place.specs.BoxErrors.{IsLow}
use Rattle.patch_place.specs.Tables.{AreErrorsAmong, AreKept, FailsUnfilled, IsBeaten, IsBestOf, IsFilledLow, IsLimit, IsLimitOf, IsMore, IsNear, IsNth, IsPast, IsShortOf, IsShortlist, IsSumLimit, IsUnfilled, StandsForError, entry_error, is_near, rivals}
use Rattle.patch_picks.proofs.Bests.{within_itself}
use Rattle.patch_picks.proofs.Counting.{Contains-slice_get, slice_get-Contains}
use Rattle.patch_place.proofs.Limits.{table_more, unfilled_stand}
use Rattle.patch_picks.proofs.PartLists.{slice_get_left}
use Rattle.patch_place.proofs.Picking.{unfilled_is_not}

-- the last entry of a list, and the others
slice_get_last : {X : Type 0} (xs : List X) (x : X) → slice_get (xs ++ x ∷ []) (length xs) ≡ Some x
slice_get_last [] x = refl
slice_get_last (y ∷ xs) x = slice_get_last xs x

slice_get_push : {X : Type 0} (xs : List X) (x : X) (j : ℕ) (y : X) → slice_get (xs ++ x ∷ []) j ≡ Some y → (slice_get xs j ≡ Some y) ⊎ ((j ≡ length xs) × (y ≡ x))
slice_get_push [] x zero y at = inr (refl, sym (same_Some x y at))
slice_get_push [] x (suc j) y at = absurd (none-some y at)
slice_get_push (z ∷ xs) x zero y at = inl at
slice_get_push (z ∷ xs) x (suc j) y at =
    elim (slice_get_push xs x j y at) [
      | inl old ↦ inl old
      | inr last ↦ inr (ap (λ n. suc n) last.0, last.1)
    ]

count_push : {X : Type 0} (p : X → Bool) (xs : List X) (x : X) → count_by p (xs ++ x ∷ []) ≡ count_by p xs + cond (p x) 1 0
count_push {X} p xs x =
    let f : X → ℕ = λ y. cond (p y) 1 0 in
    omega (arith, sum_by-append f xs (x ∷ []), sum_by-cons f x [])

count_push_no : {X : Type 0} (p : X → Bool) (xs : List X) (x : X) → p x ≡ false → count_by p (xs ++ x ∷ []) ≡ count_by p xs
count_push_no p xs x fails =
    let none : cond {A = ℕ} (p x) 1 0 ≡ 0 = ap (λ b. cond {A = ℕ} b 1 0) fails in
    omega (arith, count_push p xs x, none)

-- the entries kept, where nothing is kept of a table without filled cells
none_counted : (test : Error → Bool) → FailsUnfilled test → (table : List Error) → All IsUnfilled table → count_by test table ≡ 0
none_counted test fails [] all = refl
none_counted test fails (error ∷ table) all =
    let none : cond {A = ℕ} (test error) 1 0 ≡ 0 = ap (λ b. cond {A = ℕ} b 1 0) (fails error (All-head IsUnfilled error table all)) in
    omega (arith, sum_by-cons (λ y. cond (test y) 1 0) error table, none, none_counted test fails table (All-tail IsUnfilled error table all))

none_kept : (table : List Error) → All IsUnfilled table → AreKept [] table
none_kept table all = record {
  at = λ j entry at. absurd (none-some entry at);
  before = λ test fails j entry at. absurd (none-some entry at);
  all = λ test fails. none_counted test fails table all;
}

-- one more entry of the table, without a filled cell
kept_skip : (kept : List Entry) (table : List Error) (last : Error) → IsUnfilled last → AreKept kept table → AreKept kept (table ++ last ∷ [])
kept_skip kept table last none is = record {
  at = λ j entry at. slice_get_left table (last ∷ []) entry.index (slice_get_within table entry.index (entry_error entry) (is.at j entry at)) ∙ is.at j entry at;
  before = λ test fails j entry at.
      let lt : entry.index < length table = slice_get_within table entry.index (entry_error entry) (is.at j entry at) in
      ap (count_by test) (take-append-le entry.index table (last ∷ []) (omega arith)) ∙ is.before test fails j entry at;
  all = λ test fails. count_push_no test table last (fails last none) ∙ is.all test fails;
}

-- one that is kept
kept_more : (kept : List Entry) (table : List Error) (entry : Entry) (error : Error) → entry_error entry ≡ error → entry.index ≡ length table → AreKept kept table → AreKept (kept ++ entry ∷ []) (table ++ error ∷ [])
kept_more kept table last error same index is = record {
  at = λ j entry at.
      elim (slice_get_push kept last j entry at) [
        | inl old ↦ slice_get_left table (error ∷ []) entry.index (slice_get_within table entry.index (entry_error entry) (is.at j entry old)) ∙ is.at j entry old
        | inr end ↦ subst (λ (e : Entry). slice_get (table ++ error ∷ []) e.index ≡ Some (entry_error e)) (sym end.1) here
      ];
  before = λ test fails j entry at.
      elim (slice_get_push kept last j entry at) [
        | inl old ↦ early test fails j entry old
        | inr end ↦
            subst (λ (e : Entry). count_by test (take e.index (table ++ error ∷ [])) ≡ count_by (λ e. test (entry_error e)) (take j (kept ++ last ∷ []))) (sym end.1)
            (ap (λ i. count_by test (take i (table ++ error ∷ []))) index ∙ ap (count_by test) (take-append_seam table (error ∷ [])) ∙ is.all test fails
            ∙ ap (count_by (λ e. test (entry_error e))) (sym (ap (λ i. take i (kept ++ last ∷ [])) end.0 ∙ take-append_seam kept (last ∷ []))))
      ];
  all = λ test fails.
      omega (
        arith,
        is.all test fails,
        count_push test table error,
        count_push (λ (e : Entry). test (entry_error e)) kept last,
        ap (λ (e : Error). cond {A = ℕ} (test e) 1 0) same,
      );
}
  where
    here : slice_get (table ++ error ∷ []) last.index ≡ Some (entry_error last)
    here = ap (slice_get (table ++ error ∷ [])) index ∙ slice_get_last table error ∙ ap Some (sym same)

    early : (test : Error → Bool) → FailsUnfilled test → (j : ℕ) (entry : Entry) → slice_get kept j ≡ Some entry → count_by test (take entry.index (table ++ error ∷ [])) ≡ count_by (λ e. test (entry_error e)) (take j (kept ++ last ∷ []))
    early test fails j entry old =
        let lt : entry.index < length table = slice_get_within table entry.index (entry_error entry) (is.at j entry old) in
        let lj : j < length kept = slice_get_within kept j entry old in
        ap (count_by test) (take-append-le entry.index table (error ∷ []) (omega arith)) ∙ is.before test fails j entry old
        ∙ ap (count_by (λ e. test (entry_error e))) (sym (take-append-le j kept (last ∷ []) (omega arith)))

-- the best stays beside an error without a filled cell
best_stays : (table : List Error) (last : Error) (best : Option Error) → IsUnfilled last → IsBestOf table best → IsBestOf (table ++ last ∷ []) best
best_stays table last None none all = All-push IsUnfilled table last all none
best_stays table last (Some best) none is = record {
  listed = Contains-append_left table (last ∷ []) best is.listed;
  filled = is.filled;
  least = λ other has filled.
      elim (Contains-push_cases table last other has) [
        | inl old ↦ is.least other old filled
        | inr same ↦ absurd (omega (arith, filled, none, ap (λ (e : Error). e.count) same))
      ];
}

-- the rivals with one more entry of the table
rivals_more : (known : Option Error) (table : List Error) (entry : Error) → rivals known (table ++ entry ∷ []) ≡ rivals known table ++ entry ∷ []
rivals_more None table entry = refl
rivals_more (Some error) table entry = refl

stands_on : (was now : Shortlist) (table errors : List Error) (entry error : Error) → now.known ≡ was.known → now.tol ≡ was.tol → AreErrorsAmong was.tol (rivals was.known table ++ entry ∷ []) (table ++ entry ∷ []) (errors ++ error ∷ [])
    → AreErrorsAmong now.tol (rivals now.known (table ++ entry ∷ [])) (table ++ entry ∷ []) (errors ++ error ∷ [])
stands_on was now table errors entry error known tol stands =
    let more = table ++ entry ∷ [] in
    let all = errors ++ error ∷ [] in
    subst (λ t. AreErrorsAmong t (rivals now.known more) more all) (sym tol)
    (subst (λ k. AreErrorsAmong was.tol (rivals k more) more all) (sym known)
    (subst (λ among. AreErrorsAmong was.tol among more all) (sym (rivals_more was.known table entry)) stands))

-- what a table beats is beaten among its rivals
among_rivals : (tol : ℕ) (known : Option Error) (table : List Error) (error : Error) → IsBeaten tol table error → IsBeaten tol (rivals known table) error
among_rivals tol None table error is = is
among_rivals tol (Some known) table error is = record {
  other = is.other;
  listed = Contains-append_right (known ∷ []) table is.other is.listed;
  filled = is.filled;
  far = is.far;
}

-- a shortlist of nothing but errors without filled cells
pub unfilled_short : (list : Shortlist) (errors : List Error) → list.near.items ≡ [] → list.best ≡ None → length errors ≡ list.seen → All IsUnfilled errors → IsShortlist list errors
unfilled_short list errors near best seen all = record {
  table = errors;
  stands = unfilled_stand list.tol (rivals list.known errors) errors;
  short = record {
    best_one = subst (IsBestOf errors) (sym best) all;
    kept = subst (λ kept. AreKept kept errors) (sym near) (none_kept errors all);
    length_is = sym seen;
  };
}

-- one more candidate, which is never eligible
pub short_skip : (was now : Shortlist) (error : Error) → now.near.items ≡ was.near.items → now.best ≡ was.best → now.known ≡ was.known → now.tol ≡ was.tol → now.seen ≡ was.seen + 1 → IsPast was error → IsMore was now error
short_skip was now error near best known tol seen past = λ errors is.
    let none : Error = record { sum = 0; count = 0 } in
    record {
      table = is.table ++ none ∷ [];
      stands =
          stands_on was now is.table errors none error known tol
          (table_more was.tol (rivals was.known is.table) is.table errors none error is.stands (inr (refl, why is.table is.short.best_one)));
      short = record {
        best_one = subst (IsBestOf (is.table ++ none ∷ [])) (sym best) (best_stays is.table none was.best refl is.short.best_one);
        kept = subst (λ kept. AreKept kept (is.table ++ none ∷ [])) (sym near) (kept_skip was.near.items is.table none refl is.short.kept);
        length_is = omega (arith, seen, is.short.length_is, length-append is.table (none ∷ []));
      };
    }
  where
    why : (table : List Error) → IsBestOf table was.best → IsUnfilled error ⊎ IsBeaten was.tol (rivals was.known table) error
    why table is_best =
        elim past [
          | inl unfilled ↦ inl unfilled
          | inr beaten ↦ inr (beaten table is_best)
        ]

-- one more candidate that is kept
pub short_keep : (was now : Shortlist) (entry : Entry) (error : Error) → now.near.items ≡ was.near.items ++ entry ∷ [] → entry_error entry ≡ error → entry.index ≡ was.seen → now.known ≡ was.known → now.tol ≡ was.tol → now.seen ≡ was.seen + 1
    → ((errors : List Error) → IsBestOf errors was.best → IsBestOf (errors ++ error ∷ []) now.best) → IsMore was now error
short_keep was now entry error near same index known tol seen best = λ errors is. record {
  table = is.table ++ error ∷ [];
  stands =
      stands_on was now is.table errors error error known tol
      (table_more was.tol (rivals was.known is.table) is.table errors error error is.stands (inl refl));
  short = record {
    best_one = best is.table is.short.best_one;
    kept =
        subst (λ kept. AreKept kept (is.table ++ error ∷ [])) (sym near)
        (kept_more was.near.items is.table entry error same (index ∙ is.short.length_is) is.short.kept);
    length_is = omega (arith, seen, is.short.length_is, length-append is.table (error ∷ []));
  };
}

-- an error past the limit that another gives is outside the tolerance of it
past_limit : (tol count limit : ℕ) (other error : Error) → IsSumLimit tol count limit other → error.count ≡ count → IsLow error → limit < error.sum → is_within tol other error ≡ false
past_limit tol count limit other error past counted low beyond =
    lt-leb (error.sum * other.count * 100) (other.sum * error.count * (100 + tol))
    (subst (λ n. other.sum * n * (100 + tol) < error.sum * other.count * 100) (sym counted) (past error.sum low beyond))

-- no sum is past a limit that none reaches
none_past : (tol count limit : ℕ) (table : List Error) → 2 ^ 56 ≤ limit → IsLimit tol table count limit
none_past tol count limit table least error counted low beyond = absurd (omega (arith, least, low, beyond))

-- the limits that the best and the known error give
limit_by_best : (tol count limit : ℕ) (best known : Option Error) (table : List Error) → IfSome best (IsSumLimit tol count limit) → (best ≡ None → 2 ^ 56 ≤ limit) → IsBestOf table best → IsLimit tol (rivals known table) count limit
limit_by_best tol count limit None known table past none is = none_past tol count limit (rivals known table) (none refl)
limit_by_best tol count limit (Some best) known table past none is = λ error counted low beyond.
    among_rivals tol known table error (record {
      other = best;
      listed = is.listed;
      filled = is.filled;
      far = past_limit tol count limit best error past counted low beyond;
    })

limit_by_known : (tol count limit : ℕ) (known : Option Error) (table : List Error) → IfSome known IsFilledLow → IfSome known (IsSumLimit tol count limit) → (known ≡ None → 2 ^ 56 ≤ limit) → IsLimit tol (rivals known table) count limit
limit_by_known tol count limit None table filled past none = none_past tol count limit table (none refl)
limit_by_known tol count limit (Some known) table filled past none = λ error counted low beyond. record {
  other = known;
  listed = slice_get-Contains (known ∷ table) known 0 refl;
  filled = filled.0;
  far = past_limit tol count limit known error past counted low beyond;
}

pub best_limit : (list : Shortlist) (count limit : ℕ) → IfSome list.best (IsSumLimit list.tol count limit) → (list.best ≡ None → 2 ^ 56 ≤ limit) → IsLimitOf list count limit
best_limit list count limit past none = λ table is. limit_by_best list.tol count limit list.best list.known table past none is

pub known_limit : (list : Shortlist) (count limit : ℕ) → IfSome list.known IsFilledLow → IfSome list.known (IsSumLimit list.tol count limit) → (list.known ≡ None → 2 ^ 56 ≤ limit) → IsLimitOf list count limit
known_limit list count limit filled past none = λ table is. limit_by_known list.tol count limit list.known table filled past none

-- an error past a limit is past what may be eligible
pub past_for : (list : Shortlist) (count limit : ℕ) (error : Error) → IsLimitOf list count limit → error.count ≡ count → IsLow error → limit < error.sum → IsPast list error
past_for list count limit error limited counted low beyond = inr (λ table is. limited table is error counted low beyond)

-- the best is itself about as good as the best, so some entry is
best_near : (tol : ℕ) (best : Error) → 1 ≤ best.count → is_eligible tol best best ≡ true
best_near tol best filled =
    let some : nat_lt 0 best.count ≡ true = lt-ltb 0 best.count (omega arith) in
    let within : is_within tol best best ≡ true = within_itself tol best in
    λ k. some k && within k

pub some_near : (list : Shortlist) (tol : ℕ) (best : Error) (table : List Error) → list.best ≡ Some best → IsShortOf list table → 0 < count_by (is_near tol best) list.near.items
some_near list tol best table e is =
    let best_one : IsBest table best = subst (IsBestOf table) e is.best_one in
    let has = best_one.listed in
    let at = Contains-slice_get table best has in
    let test : Error → Bool = is_eligible tol best in
    let lt : at.0 < length table = slice_get_within table at.0 best at.1 in
    let one : count_by test (take (at.0 + 1) table) ≡ count_by test (take at.0 table) + 1 =
    count_by_more_yes test table at.0 best lt (ap test (get_or_from_slice_get table at.0 best best at.1) ∙ best_near tol best best_one.filled) in
    omega (arith, one, sum_by-take-le (λ y. cond (test y) 1 0) table (at.0 + 1), is.kept.all test (unfilled_is_not tol best))

-- the entry that is drawn
pub near_pick : (list : Shortlist) (draws : DrawState) (best : Error) (entry : Entry) (n nth : ℕ) (table : List Error) → list.best ≡ Some best → IsShortOf list table → n ≡ count_by (is_near list.tol best) list.near.items → nth ≡ draw draws.seed draws.place n
    → IsNth (is_near list.tol best) list.near.items nth entry → IsNear list.tol table draws entry.index best
near_pick list draws best entry n nth table e is count drawn found =
    let test : Error → Bool = is_eligible list.tol best in
    let all : count_by test table ≡ n = is.kept.all test (unfilled_is_not list.tol best) ∙ sym count in
    record {
      best_one = subst (IsBestOf table) e is.best_one;
      entry = entry_error entry;
      nth = record {
        i = entry.index;
        at = is.kept.at found.i entry found.at;
        passes = found.passes;
        number = is.kept.before test (unfilled_is_not list.tol best) found.i entry found.at ∙ found.number ∙ drawn ∙ ap (λ m. draw draws.seed draws.place m) (sym all);
      };
      index = refl;
    }

-- how many candidates were seen
pub seen_of : (list : Shortlist) (errors : List Error) → IsShortlist list errors → list.seen ≡ length errors
seen_of list errors is = is.short.length_is ∙ length_all_zip (StandsForError list.tol (rivals list.known is.table)) is.table errors is.stands
