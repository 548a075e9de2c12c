-- A pick from a table of errors is a pick from the candidates.
use Rattle.std.proofs.Common.{◌≡◌, ℕ, ◌<◌, Bool, true, false, List, length, map, take, refl, sym, subst, ap, ◌∙◌, inl, inr, arith}
use Rattle.std.proofs.lemmas.Bool.{false≢true, false_from_ne_true}
use Rattle.std.proofs.lemmas.List.{length-map}
use Rattle.std.proofs.lemmas.List.Elements.{All-contains, filter_agree, length_all_zip}
use Rattle.std.proofs.lemmas.List.Sums.{length-filter}
use Rattle.std.proofs.lemmas.Option.{none-some, same_Some, slice_get-map, slice_get_within}
use Rattle.std.specs.Prelude.{◌⊎◌, ◌&&◌, nat_lt, All, Contains, Some, option_map, slice_get}
use Rattle.std.specs.List.{AllZip, count_by, filter}
use Rattle.match_error.specs.declared.error.Error.{Error}
use Rattle.match_error.specs.Errors.{is_within}
use Rattle.map_canvas.specs.declared.canvas.Placement.{Placement}
use Rattle.patch_picks.specs.Draws.{DrawState, draw}
use Rattle.patch_picks.specs.Picks.{AreEligible, IsBest, is_eligible}
use Rattle.patch_place.specs.Tables.{IsBeaten, IsNth, IsPickAt, IsPickOf, AreTableErrors, IsUnfilled, StandsForError, drawn_near}
use Rattle.patch_picks.proofs.Bests.{between, far_is_more, same_eligible, still_within}
use Rattle.patch_picks.proofs.Counting.{AllZip-from_map, AllZip-left, AllZip-right, AllZip-take, Contains-slice_get, kept_alike, map_at, passed_at, slice_get-Contains}

-- where no entry has a filled cell, no candidate has one
unfilled_errors : (t : ℕ) (table errors : List Error) → AreTableErrors t table errors → All IsUnfilled table → (error : Error) → Contains errors error → error.count ≡ 0
unfilled_errors t table errors stands none error has =
    let at = Contains-slice_get errors error has in
    let entry = AllZip-right (StandsForError t table) table errors at.0 error stands at.1 in
    elim entry.2 [
      | inl same ↦ subst IsUnfilled same (All-contains IsUnfilled table entry.0 none (slice_get-Contains table entry.0 at.0 entry.1))
      | inr other ↦ elim other.1 [
        | inl unfilled ↦ unfilled
        | inr beaten ↦ absurd (omega (arith, beaten.filled, All-contains IsUnfilled table beaten.other none beaten.listed))
      ]
    ]

-- the best of the table is the best of the errors
best_of_table : (t : ℕ) (table errors : List Error) (best : Error) → AreTableErrors t table errors → IsBest table best → IsBest errors best
best_of_table t table errors best stands is = record {
  listed =
      let at = Contains-slice_get table best is.listed in
      let error = AllZip-left (StandsForError t table) table errors at.0 best stands at.1 in
      elim error.2 [
        | inl same ↦ subst (Contains errors) (sym same) (slice_get-Contains errors error.0 at.0 error.1)
        | inr other ↦ absurd (omega (arith, is.filled, other.0))
      ];
  filled = is.filled;
  least = λ error has filled.
      let at = Contains-slice_get errors error has in
      let entry = AllZip-right (StandsForError t table) table errors at.0 error stands at.1 in
      elim entry.2 [
        | inl same ↦ is.least error (subst (Contains table) same (slice_get-Contains table entry.0 at.0 entry.1)) filled
        | inr other ↦ elim other.1 [
          | inl unfilled ↦ absurd (omega (arith, filled, unfilled))
          | inr beaten ↦
              let more = far_is_more t beaten.other error beaten.far in
              between best.sum best.count beaten.other.sum beaten.other.count error.sum error.count beaten.filled (is.least beaten.other beaten.listed beaten.filled) (omega (arith, more))
        ]
      ];
}

pub unfilled_is_not : (t : ℕ) (best error : Error) → IsUnfilled error → is_eligible t best error ≡ false
unfilled_is_not t best error none = ap (λ (n : ℕ). nat_lt 0 n && is_within t best error) none

far_is_not : (t : ℕ) (best error : Error) → is_within t best error ≡ false → is_eligible t best error ≡ false
far_is_not t best error far = ap (λ (b : Bool). nat_lt 0 error.count && b) far ∙ neither (nat_lt 0 error.count)
  where
    neither : (b : Bool) → (b && false) ≡ false
    neither true = refl
    neither false = refl

-- an entry is eligible exactly where its error is
same_in_table : (t : ℕ) (table : List Error) (best : Error) → IsBest table best → (entry error : Error) → StandsForError t table entry error → is_eligible t best entry ≡ is_eligible t best error
same_in_table t table best is entry error stands =
    elim stands [
      | inl same ↦ ap (is_eligible t best) same
      | inr other ↦ unfilled_is_not t best entry other.0 ∙ sym (never t table best is error other.1)
    ]
  where
    never : (t : ℕ) (table : List Error) (best : Error) → IsBest table best → (error : Error) → IsUnfilled error ⊎ IsBeaten t table error → is_eligible t best error ≡ false
    never t table best is error why =
        elim why [
          | inl unfilled ↦ unfilled_is_not t best error unfilled
          | inr beaten ↦ far_is_not t best error (false_from_ne_true (is_within t best error) (λ within.
              false≢true (sym beaten.far ∙ still_within t best beaten.other error is.filled (is.least beaten.other beaten.listed beaten.filled) within)))
        ]

unfilled_candidates : (f : Placement → Error) (list : List Placement) → ((error : Error) → Contains (map f list) error → error.count ≡ 0) → (candidate : Placement) → Contains list candidate → (f candidate).count ≡ 0
unfilled_candidates f list none candidate has =
    let at = Contains-slice_get list candidate has in
    none (f candidate) (slice_get-Contains (map f list) (f candidate) at.0 (slice_get-map f list at.0 ∙ ap (option_map f) at.1))

-- where no candidate has a filled cell, all are eligible
all_unfilled : (f : Placement → Error) (t : ℕ) (list : List Placement) → ((error : Error) → Contains (map f list) error → error.count ≡ 0) → AreEligible f (Some t) list list
all_unfilled f t list none = record {
  all_alike = λ e. refl;
  none_filled = λ e. refl;
  near_best = λ u e best is. absurd (omega (arith, is.filled, none best is.listed));
}

-- those near the best are eligible
near_best_are : (f : Placement → Error) (t : ℕ) (list : List Placement) (best : Error) → IsBest (map f list) best → AreEligible f (Some t) list (filter (λ candidate. is_eligible t best (f candidate)) list)
near_best_are f t list best is = record {
  all_alike = λ e. absurd (none-some t (sym e));
  none_filled = λ none.
      let at = Contains-slice_get (map f list) best is.listed in
      let candidate = map_at f list at.0 best at.1 in
      absurd (omega (arith, is.filled, none candidate.0 (slice_get-Contains list candidate.0 at.0 candidate.1), ap (λ (e : Error). e.count) candidate.2));
  near_best = λ u e other also.
      filter_agree (λ candidate. is_eligible t best (f candidate)) (λ candidate. is_eligible u other (f candidate))
      (λ candidate. same_eligible t (map f list) best other is also (f candidate) ∙ ap (λ (n : ℕ). is_eligible n other (f candidate)) (same_Some t u e)) list;
}

pick_unfilled : (f : Placement → Error) (t : ℕ) (list : List Placement) (table : List Error) (draws : DrawState) (i : ℕ) → 0 < length list → AreTableErrors t table (map f list) → All IsUnfilled table → i ≡ draw draws.seed draws.place (length table) → IsPickAt f (Some t) list draws i
pick_unfilled f t list table draws i some stands none e =
    let long : length table ≡ length list = length_all_zip (StandsForError t table) table (map f list) stands ∙ length-map list f in
    let drawn : i ≡ draw draws.seed draws.place (length list) = e ∙ ap (λ n. draw draws.seed draws.place n) long in
    record {
      below = omega (arith, drawn);
      picked = λ placement at. record {
        eligible = list;
        are = all_unfilled f t list (unfilled_errors t table (map f list) stands none);
        drawn = subst (λ n. slice_get list n ≡ Some placement) drawn at;
      };
    }

pick_near : (f : Placement → Error) (t : ℕ) (list : List Placement) (table : List Error) (draws : DrawState) → AreTableErrors t table (map f list) → (best : Error) → IsBest table best → (entry : Error) (nth : IsNth (is_eligible t best) table (drawn_near t table draws best) entry) → IsPickAt f (Some t) list draws nth.i
pick_near f t list table draws stands best is entry nth =
    let i = nth.i in
    let zip : AllZip (λ entry candidate. StandsForError t table entry (f candidate)) table list = AllZip-from_map (StandsForError t table) f table list stands in
    let p : Error → Bool = is_eligible t best in
    let q : Placement → Bool = λ candidate. is_eligible t best (f candidate) in
    let R : Error → Placement → Type 0 = λ entry candidate. StandsForError t table entry (f candidate) in
    let same : (entry : Error) (candidate : Placement) → R entry candidate → p entry ≡ q candidate = λ e candidate. same_in_table t table best is e (f candidate) in
    let partner = AllZip-left R table list i entry zip nth.at in
    let all : count_by p table ≡ length (filter q list) = sym (length-filter p table) ∙ kept_alike R p q same table list zip in
    let front : length (filter q (take i list)) ≡ draw draws.seed draws.place (length (filter q list)) =
    sym (kept_alike R p q same (take i table) (take i list) (AllZip-take R table list i zip)) ∙ length-filter p (take i table) ∙ nth.number ∙ ap (λ n. draw draws.seed draws.place n) all in
    record {
      below = slice_get_within list i partner.0 partner.1;
      picked = λ placement at.
          let here : partner.0 ≡ placement = same_Some partner.0 placement (sym partner.1 ∙ at) in
          let passes : q placement ≡ true = subst (λ candidate. q candidate ≡ true) here (sym (same entry partner.0 partner.2) ∙ nth.passes) in
          record {
            eligible = filter q list;
            are = near_best_are f t list best (best_of_table t table (map f list) best stands is);
            drawn = subst (λ n. slice_get (filter q list) n ≡ Some placement) front (passed_at q list i placement at passes);
          };
    }

pub pick_from_table : (f : Placement → Error) (t : ℕ) (list : List Placement) (table : List Error) (draws : DrawState) (i : ℕ) → 0 < length list → AreTableErrors t table (map f list) → IsPickOf t table draws i → IsPickAt f (Some t) list draws i
pick_from_table f t list table draws i some stands is =
    elim is [
      | inl none ↦ pick_unfilled f t list table draws i some stands none.0 none.1
      | inr near ↦ subst (IsPickAt f (Some t) list draws) (sym near.1.index) (pick_near f t list table draws stands near.0 near.1.best_one near.1.entry near.1.nth)
    ]
