-- A pick from a box filled from each place where it fits is one from another box of that size, if their
-- errors are the same.
use Rattle.std.proofs.Common.{◌≡◌, ℕ, ◌+◌, ◌++◌, List, [], ◌∷◌, length, map, refl, ap, sym, ◌∙◌, subst, Bool, true, false, cond}
use Rattle.std.proofs.lemmas.List.{length-map, map-append}
use Rattle.std.proofs.lemmas.Option.{none-some, same_Some, slice_get-map}
use Rattle.std.proofs.lemmas.Simd.{map-map}
use Rattle.std.specs.Prelude.{Option, Some, None, Contains, option_map, slice_get}
use Rattle.cells.specs.declared.place.At.{At}
use Rattle.cells.specs.declared.place.Box3.{Box3}
use Rattle.cells.specs.declared.place.Size.{Size}
use Rattle.cells.specs.Cells.{Cells, sizes_of}
use Rattle.cells.specs.Places.{places}
use Rattle.cells.specs.SizeLists.{stock_place}
use Rattle.map_canvas.specs.declared.canvas.Placement.{Placement}
use Rattle.map_canvas.specs.Choices.{laid_from}
use Rattle.match_error.specs.declared.error.Error.{Error}
use Rattle.patch_picks.specs.Draws.{DrawState, draw}
use Rattle.patch_picks.specs.Lists.{fit_list, from_part, lists_from, part_lists, room}
use Rattle.patch_picks.specs.Picks.{IsBest, IsPick, NoneIsFilled, is_eligible, near}
use Rattle.patch_picks.proofs.BoxLists.{Contains-map}
use Rattle.patch_picks.proofs.Counting.{Contains-slice_get, slice_get-Contains}

-- the places of parts from which a box of a size is filled
abbrev froms : List Size → Size → ℕ → List Size → List At
froms sizes inner number [] = []
froms sizes inner number (part ∷ parts) = map (stock_place sizes number) (places (room part inner)) ++ froms sizes inner (number + 1) parts

lists_are : (rect : Box3) (sizes : List Size) (number : ℕ) (parts : List Size) → lists_from (fit_list rect) sizes number parts ≡ map (laid_from rect) (froms sizes rect.size number parts)
lists_are rect sizes number [] = refl
lists_are rect sizes number (part ∷ parts) =
    let its = places (room part rect.size) in
    ap (λ list. list ++ lists_from (fit_list rect) sizes (number + 1) parts)
    (map-map (from_part sizes number) (laid_from rect) its ∙ sym (map-map (laid_from rect) (stock_place sizes number) its))
    ∙ ap (λ list. map (laid_from rect) (map (stock_place sizes number) its) ++ list) (lists_are rect sizes (number + 1) parts)
    ∙ sym (map-append (laid_from rect) (map (stock_place sizes number) its) (froms sizes rect.size (number + 1) parts))

-- an entry of a list of boxes is filled from one of the places
entry_from : (f : At → Placement) (list : List At) (p : Placement) → Contains (map f list) p → (from : At) × (Contains list from × (f from ≡ p))
entry_from f list p has =
    let at = Contains-slice_get (map f list) p has in
    by at.0 (slice_get list at.0) refl (sym (slice_get-map f list at.0) ∙ at.1)
  where
    by : (i : ℕ) (o : Option At) → slice_get list i ≡ o → option_map f o ≡ Some p → (from : At) × (Contains list from × (f from ≡ p))
    by i None e e' = absurd (none-some p e')
    by i (Some from) e e' = (from, (slice_get-Contains list from i e, same_Some (f from) p e'))

-- which is filled from it
pub listed_rect : (rect : Box3) (sample : Cells) (p : Placement) → Contains (part_lists (fit_list rect) sample) p → p.rect ≡ rect
listed_rect rect sample p has =
    let sizes = sizes_of sample in
    ap (λ (p : Placement). p.rect) (sym (entry_from (laid_from rect) (froms sizes rect.size 1 sizes) p (subst (λ list. Contains list p) (lists_are rect sizes 1 sizes) has)).1.1)

module _ (one other : Box3) (error error' : Placement → Error) (same : (from : At) → error (laid_from one from) ≡ error' (laid_from other from)) where
  -- the placement of the other box from the same place
  abbrev carried : Placement → Placement
  carried placement = laid_from other placement.from

  carried_list : (list : List At) → map carried (map (laid_from one) list) ≡ map (laid_from other) list
  carried_list list = map-map carried (laid_from one) list

  same_errors : (list : List At) → map error (map (laid_from one) list) ≡ map error' (map (laid_from other) list)
  same_errors list = map-map error (laid_from one) list ∙ ap (λ f. map f list) (λ i from. same from i) ∙ sym (map-map error' (laid_from other) list)

  near_same : (tol : ℕ) (best : Error) (list : List At) → map carried (near error tol best (map (laid_from one) list)) ≡ near error' tol best (map (laid_from other) list)
  near_same tol best [] = refl
  near_same tol best (from ∷ list) = by (near_same tol best list) (is_eligible tol best (error (laid_from one from))) refl
    where
      rest : List Placement
      rest = near error tol best (map (laid_from one) list)

      rest' : List Placement
      rest' = near error' tol best (map (laid_from other) list)

      by : map carried rest ≡ rest' → (b : Bool) → is_eligible tol best (error (laid_from one from)) ≡ b
          → map carried (near error tol best (map (laid_from one) (from ∷ list))) ≡ near error' tol best (map (laid_from other) (from ∷ list))
      by same_rest true e =
          let e' : is_eligible tol best (error' (laid_from other from)) ≡ true = ap (is_eligible tol best) (sym (same from)) ∙ e in
          ap (λ b. map carried (cond b (laid_from one from ∷ rest) rest)) e
          ∙ ap (λ list. laid_from other from ∷ list) same_rest
          ∙ ap (λ b. cond b (laid_from other from ∷ rest') rest') (sym e')
      by same_rest false e =
          let e' : is_eligible tol best (error' (laid_from other from)) ≡ false = ap (is_eligible tol best) (sym (same from)) ∙ e in
          ap (λ b. map carried (cond b (laid_from one from ∷ rest) rest)) e
          ∙ same_rest
          ∙ ap (λ b. cond b (laid_from other from ∷ rest') rest') (sym e')

  none_same : (list : List At) → NoneIsFilled error' (map (laid_from other) list) → NoneIsFilled error (map (laid_from one) list)
  none_same list none candidate has =
      let from = entry_from (laid_from one) list candidate has in
      ap (λ p. (error p).count) (sym from.1.1) ∙ ap (λ e. e.count) (same from.0) ∙ none (laid_from other from.0) (Contains-map (laid_from other) list from.0 from.1.0)

  carried_pick : (tol : Option ℕ) (list : List At) (draws : DrawState) (picked : Placement) → IsPick error tol (map (laid_from one) list) draws picked → IsPick error' tol (map (laid_from other) list) draws (carried picked)
  carried_pick tol list draws picked pick = record {
    eligible = map carried pick.eligible;
    are = record {
      all_alike = λ e. ap (map carried) (pick.are.all_alike e) ∙ carried_list list;
      none_filled = λ none. ap (map carried) (pick.are.none_filled (none_same list none)) ∙ carried_list list;
      near_best = λ t e best is. ap (map carried) (pick.are.near_best t e best (subst (λ errors. IsBest errors best) (sym (same_errors list)) is)) ∙ near_same t best list;
    };
    drawn = ap (λ n. slice_get (map carried pick.eligible) (draw draws.seed draws.place n)) (length-map pick.eligible carried)
        ∙ slice_get-map carried pick.eligible (draw draws.seed draws.place (length pick.eligible))
        ∙ ap (option_map carried) pick.drawn;
  }

  -- over the lists of all parts
  pub pick_carried : (inner : one.size ≡ other.size) (sample : Cells) (tol : Option ℕ) (draws : DrawState) (picked : Placement) → IsPick error tol (part_lists (fit_list one) sample) draws picked
      → IsPick error' tol (part_lists (fit_list other) sample) draws (carried picked)
  pick_carried inner sample tol draws picked pick =
      let sizes = sizes_of sample in
      subst (λ list. IsPick error' tol list draws (carried picked))
      (ap (λ size. map (laid_from other) (froms sizes size 1 sizes)) inner ∙ sym (lists_are other sizes 1 sizes))
      (carried_pick tol (froms sizes one.size 1 sizes) draws picked (subst (λ list. IsPick error tol list draws picked) (lists_are one sizes 1 sizes) pick))
