-- An error that is known before its candidate is seen: what it beats, the whole table beats as well.
use Rattle.std.proofs.Common.{◌≡◌, ℕ, zero, suc, ◌≤◌, ◌<◌, ◌^◌, false, List, ◌∷◌, length, map, sym, subst, ◌∙◌, inl, inr, arith}
use Rattle.std.proofs.lemmas.List.Elements.{All-contains}
use Rattle.std.proofs.lemmas.Bool.{false≢true}
use Rattle.std.proofs.lemmas.Option.{same_Some}
use Rattle.std.specs.Prelude.{◌⊎◌, All, Contains, IfSome, Option, Some, None, slice_get}
use Rattle.match_error.specs.declared.error.Error.{Error}
use Rattle.match_error.specs.Errors.{is_within}
use Rattle.cells.specs.declared.place.Box3.{Box3}
use Rattle.cells.specs.Boxes.{HasCells}
use Rattle.cells.specs.Cells.{Cells}
use Rattle.map_canvas.specs.declared.canvas.Placement.{Placement}
use Rattle.patch_place.specs.declared.shortlist.Shortlist.{Shortlist}
use Rattle.patch_place.specs.BoxErrors.{AreCounted, box_list}
use Rattle.patch_picks.specs.Draws.{DrawState}
use Rattle.patch_place.specs.Tables.{AreErrorsAmong, AreTableErrors, IsBeaten, IsFilledLow, IsHeld, IsPickAt, IsPickOf, IsShortOf, IsShortlistOf, IsUnfilled, StandsForError, rivals}
use Rattle.patch_picks.proofs.Bests.{far_from_better, within_itself}
use Rattle.patch_picks.proofs.BoxLists.{Contains-map, each_held}
use Rattle.patch_picks.proofs.Counting.{AllZip-right, AllZip-weaker, Contains-slice_get, slice_get-Contains}
use Rattle.patch_place.proofs.Picking.{pick_from_table}

-- who beats an error: the known one, or an entry of the table
first_or_later : (known : Error) (table : List Error) (i : ℕ) (other : Error) → slice_get (known ∷ table) i ≡ Some other → (other ≡ known) ⊎ Contains table other
first_or_later known table zero other at = inl (sym (same_Some known other at))
first_or_later known table (suc i) other at = inr (slice_get-Contains table other i at)

who_beats : (tol : ℕ) (known : Error) (table : List Error) (error : Error) → IsBeaten tol (known ∷ table) error → (is_within tol known error ≡ false) ⊎ IsBeaten tol table error
who_beats tol known table error is =
    let at = Contains-slice_get (known ∷ table) is.other is.listed in
    elim (first_or_later known table at.0 is.other at.1) [
      | inl first ↦ inl (subst (λ other. is_within tol other error ≡ false) first is.far)
      | inr later ↦ inr (record { other = is.other; listed = later; filled = is.filled; far = is.far })
    ]

-- the known error has its own entry in the table, or is beaten by another
where_known : (tol : ℕ) (known : Error) (table errors : List Error) → 1 ≤ known.count → Contains errors known → AreErrorsAmong tol (known ∷ table) table errors → Contains table known ⊎ IsBeaten tol table known
where_known tol known table errors filled has stands =
    let at = Contains-slice_get errors known has in
    let entry = AllZip-right (StandsForError tol (known ∷ table)) table errors at.0 known stands at.1 in
    elim entry.2 [
      | inl same ↦ inl (subst (Contains table) same (slice_get-Contains table entry.0 at.0 entry.1))
      | inr other ↦ elim other.1 [
        | inl unfilled ↦ absurd (omega (arith, filled, unfilled))
        | inr beaten ↦ inr (by_another beaten)
      ]
    ]
  where
    by_another : IsBeaten tol (known ∷ table) known → IsBeaten tol table known
    by_another beaten =
        elim (who_beats tol known table known beaten) [
          | inl itself ↦ absurd (false≢true (sym itself ∙ within_itself tol known))
          | inr is ↦ is
        ]

beaten_in_table : (tol : ℕ) (known : Error) (table : List Error) (error : Error) → 1 ≤ known.count → Contains table known ⊎ IsBeaten tol table known → IsBeaten tol (known ∷ table) error → IsBeaten tol table error
beaten_in_table tol known table error filled place is =
    elim (who_beats tol known table error is) [
      | inl far ↦ elim place [
        | inl has ↦ record { other = known; listed = has; filled = filled; far = far }
        | inr better ↦ record {
          other = better.other;
          listed = better.listed;
          filled = better.filled;
          far = far_from_better tol better.other known error better.filled better.far far;
        }
      ]
      | inr by_table ↦ by_table
    ]

stands_in_table : (tol : ℕ) (known : Error) (table : List Error) → 1 ≤ known.count → Contains table known ⊎ IsBeaten tol table known → (entry error : Error) → StandsForError tol (known ∷ table) entry error → StandsForError tol table entry error
stands_in_table tol known table filled place entry error stands =
    elim stands [
      | inl same ↦ inl same
      | inr other ↦ inr (other.0, why other.1)
    ]
  where
    why : IsUnfilled error ⊎ IsBeaten tol (known ∷ table) error → IsUnfilled error ⊎ IsBeaten tol table error
    why is =
        elim is [
          | inl unfilled ↦ inl unfilled
          | inr beaten ↦ inr (beaten_in_table tol known table error filled place beaten)
        ]

-- a table that stands for errors with the help of a known one, which is among them, stands for them
-- without it
pub without_known : (tol : ℕ) (known : Option Error) (table errors : List Error) → IfSome known IsFilledLow → IfSome known (Contains errors) → AreErrorsAmong tol (rivals known table) table errors → AreTableErrors tol table errors
without_known tol None table errors filled has stands = stands
without_known tol (Some known) table errors filled has stands =
    AllZip-weaker (StandsForError tol (known ∷ table)) (StandsForError tol table)
    (stands_in_table tol known table filled.0 (where_known tol known table errors filled.0 has stands)) table errors stands

-- a box laid from a place of the sample is one of its candidates, and so its error is one of theirs
pub held_listed : (sample : Cells) (rect : Box3) (placement : Placement) → HasCells rect.size → IsHeld sample rect placement → Contains (box_list rect sample) placement
held_listed sample rect placement some is = subst (Contains (box_list rect sample)) (sym is.box) (each_held sample rect placement.from some is.held)

module _ (error : Placement → Error) (MayAsk : Placement → Type 0) (count : ℕ) (counted : AreCounted error MayAsk count) (sample : Cells) (rect : Box3) (some : HasCells rect.size) (asked : All MayAsk (box_list rect sample)) (placement : Placement) (is : IsHeld sample rect placement) where
  pub held_asked : MayAsk placement
  held_asked = All-contains MayAsk (box_list rect sample) placement asked (held_listed sample rect placement some is)

  module _ (sum : ℕ) (sum_is : sum ≡ (error placement).sum) where
    pub hint_listed : Contains (map error (box_list rect sample)) (record { sum = sum; count = count })
    hint_listed =
        subst (Contains (map error (box_list rect sample))) (λ k. record { sum = sym sum_is k; count = counted.same placement held_asked k })
        (Contains-map error (box_list rect sample) placement (held_listed sample rect placement some is))

    pub hint_low : sum ≤ 2 ^ 56
    hint_low = omega (arith, sum_is, counted.low placement held_asked)

-- the pick that a shortlist of errors gives
pub pick_of_short : (f : Placement → Error) (tol : ℕ) (list : List Placement) (draws : DrawState) (short : Shortlist) (i : ℕ) → 0 < length list → IsShortlistOf tol (map f list) short → ((table : List Error) → IsShortOf short table → IsPickOf short.tol table draws i)
    → IsPickAt f (Some tol) list draws i
pick_of_short f tol list draws short i some is picked =
    pick_from_table f tol list is.short.table draws i some
    (subst (λ t. AreTableErrors t is.short.table (map f list)) is.tolerance
    (without_known short.tol short.known is.short.table (map f list) is.sound.known_low is.known is.short.stands))
    (subst (λ t. IsPickOf t is.short.table draws i) is.tolerance (picked is.short.table is.short.short))
