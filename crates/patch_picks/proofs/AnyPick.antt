-- There is a pick among candidates, where there are any, whatever rates them.
use Rattle.std.proofs.Common.{◌≡◌, ℕ, ◌<◌, Bool, true, List, get_or, length, map, ap, sym, ◌∙◌, refl, arith, inl, inr}
use Rattle.std.proofs.lemmas.Bool.{lt-ltb}
use Rattle.std.proofs.lemmas.List.Elements.{All-filter}
use Rattle.std.proofs.lemmas.Nat.{mod_below}
use Rattle.std.proofs.lemmas.Option.{none-some, same_Some, slice_get-get_or, slice_get_within}
use Rattle.std.specs.List.{filter}
use Rattle.std.specs.Prelude.{◌&&◌, Some, All, Contains, slice_get}
use Rattle.map_canvas.specs.declared.canvas.Placement.{Placement}
use Rattle.match_error.specs.declared.error.Error.{Error}
use Rattle.patch_picks.specs.Draws.{DrawState, draw, draw_word}
use Rattle.patch_picks.specs.Picks.{AreEligible, IsBest, IsPick, NoneIsFilled, is_eligible, near}
use Rattle.patch_picks.proofs.Bests.{same_eligible, within_itself}
use Rattle.patch_picks.proofs.Counting.{All-slice_get, Contains-slice_get, map_at, passed_at, slice_get-Contains}
use Rattle.patch_picks.proofs.SomeBest.{BestOrNone, best_or_none}

-- a pick, of which holds what holds of all candidates
pub record SomePick (error : Placement → Error) (tol : ℕ) (list : List Placement) (draws : DrawState) (P : Placement → Type 0) : Type 0 where
  pub picked : Placement
  pub is : IsPick error (Some tol) list draws picked
  pub holds : P picked

module _ (error : Placement → Error) (tol : ℕ) (list : List Placement) (draws : DrawState) (P : Placement → Type 0) (each : All P list) where
  drawn : (eligible : List Placement) → AreEligible error (Some tol) list eligible → All P eligible → (some : Placement) (at : ℕ) → slice_get eligible at ≡ Some some → SomePick error tol list draws P
  drawn eligible are all some at is =
      let within : at < length eligible = slice_get_within eligible at some is in
      let number = draw draws.seed draws.place (length eligible) in
      let below : number < length eligible = mod_below (draw_word draws.seed draws.place) (length eligible) (omega (arith, within)) in
      let entry : slice_get eligible number ≡ Some (get_or eligible number some) = slice_get-get_or eligible number some below in
      record {
        picked = get_or eligible number some;
        is = record { eligible = eligible; are = are; drawn = entry };
        holds = All-slice_get P eligible number (get_or eligible number some) all entry;
      }

  no_best : NoneIsFilled error list → (best : Error) → IsBest (map error list) best → ⊥
  no_best none best is =
      let listed = Contains-slice_get (map error list) best is.listed in
      let of = map_at error list listed.0 best listed.1 in
      let count : (error of.0).count ≡ best.count = ap (λ (x : Error). x.count) of.2 in
      omega (arith, is.filled, count, none of.0 (slice_get-Contains list of.0 listed.0 of.1))

  pick_alike : (some : Placement) → slice_get list 0 ≡ Some some → ((one : Error) → Contains (map error list) one → one.count ≡ 0) → SomePick error tol list draws P
  pick_alike some first none =
      drawn list
      (record {
        all_alike = λ e. refl;
        none_filled = λ e. refl;
        near_best = λ t e best is. absurd (omega (arith, is.filled, none best is.listed));
      })
      each some 0 first

  pick_near : (best : Error) → IsBest (map error list) best → SomePick error tol list draws P
  pick_near best is =
      let listed = Contains-slice_get (map error list) best is.listed in
      let of = map_at error list listed.0 best listed.1 in
      let test : Placement → Bool = λ candidate. is_eligible tol best (error candidate) in
      let passes : test of.0 ≡ true = ap (is_eligible tol best) of.2 ∙ (λ i. lt-ltb 0 best.count is.filled i && within_itself tol best i) in
      drawn (near error tol best list)
      (record {
        all_alike = λ e. absurd (none-some tol (sym e));
        none_filled = λ none. absurd (no_best none best is);
        near_best = λ t e other also.
            let same : tol ≡ t = same_Some tol t e in
            (λ i. filter (λ candidate. same_eligible tol (map error list) best other is also (error candidate) i) list) ∙ ap (λ t. near error t other list) same;
      })
      (All-filter test P list each) of.0 _ (passed_at test list listed.0 of.0 of.1 passes)

  pub some_pick : (some : Placement) → slice_get list 0 ≡ Some some → SomePick error tol list draws P
  some_pick some first = by (best_or_none (map error list))
    where
      by : BestOrNone (map error list) → SomePick error tol list draws P
      by (inl none) = pick_alike some first none
      by (inr found) = pick_near found.0 found.1
