-- Choices by what they say of each cell: which of them are admissible, and the union and the intersection of two.
use Rattle.std.proofs.Common.{◌≡◌, ℕ, Bool, true, false, List, [], length, get_or, map, refl, ap, sym, ◌∙◌, arith, ◌⊎◌, inl, inr}
use mathlib.Core.Bool.{false≢true}
use Rattle.std.proofs.lemmas.List.FromFn.{get_or-map-range_with_len, length-map-range_with_len}
use Rattle.std.specs.List.{range_with_len}
use Rattle.std.specs.Prelude.{Option, Some, None, is_none, is_some, not, ◌&&◌, ◌||◌}
use Rattle.cells.specs.declared.place.At.{At}
use Rattle.cells.specs.declared.place.Axis.{Axis}
use Rattle.cells.specs.declared.place.Axis.TheVariants.{X, Y, F}
use Rattle.cells.specs.Boxes.{IsInBox}
use Rattle.cells.specs.Neighbours.{unit_step}
use Rattle.cells.specs.Places.{minus, plus}
use Rattle.boxes.specs.Pairs.{in_box}
use Rattle.map_canvas.specs.declared.canvas.Placement.{Placement}
use Rattle.map_canvas.specs.Canvases.{IsFilledOutside, MeetsAlong, MeetsOutside}
use Rattle.map_canvas.specs.Choices.{box_cell, box_count, box_index, chosen}
use Rattle.map_canvas.specs.Maps.{IsFilled, SourceMap, map_at}
use Rattle.map_canvas.proofs.Keeping.{meets_of, meets_third}
use Rattle.costs.specs.Lawful.{IsLawful, LeavesHeld, is_new}
use Rattle.costs.proofs.Existence.{IsCellAt, cell_at_index, index_of_cell}

or_is : (a b : Bool) → (a || b) ≡ true → (a ≡ true) ⊎ (b ≡ true)
or_is true b e = inl refl
or_is false b e = inr e

or_left : (a b : Bool) → a ≡ true → (a || b) ≡ true
or_left true b e = refl
or_left false b e = absurd (false≢true e)

or_right : (a b : Bool) → b ≡ true → (a || b) ≡ true
or_right true b e = refl
or_right false b e = e

no_not : (b : Bool) → (b ≡ true → ⊥) → not b ≡ true
no_not true never = absurd (never refl)
no_not false never = refl

not_yes : (b : Bool) → not b ≡ true → b ≡ true → ⊥
not_yes true e is = false≢true e
not_yes false e is = false≢true is

both_are : (a b : Bool) → (a && b) ≡ true → (a ≡ true) × (b ≡ true)
both_are true b e = (refl, e)
both_are false b e = absurd (false≢true e)

and_of : (a b : Bool) → a ≡ true → b ≡ true → (a && b) ≡ true
and_of true b ea eb = eb
and_of false b ea eb = absurd (false≢true ea)

-- a choice of cells by their indices in the box
abbrev pub choice_of : Placement → (ℕ → Bool) → List Bool
choice_of placement g = map g (range_with_len 0 (box_count placement))

pub choice_count : (placement : Placement) (g : ℕ → Bool) → length (choice_of placement g) ≡ box_count placement
choice_count placement g = length-map-range_with_len g 0 (box_count placement)

pub choice_says : (placement : Placement) (g : ℕ → Bool) (p : At) (i : ℕ) → IsCellAt placement p i → is_new placement (choice_of placement g) p ≡ g i
choice_says placement g p i at = ap (chosen (choice_of placement g)) at.index ∙ get_or-map-range_with_len g 0 (box_count placement) i i false at.below (omega arith)

-- what holds of each cell of the box by its index, and of no cell, holds of what a choice says
pub by_index : (placement : Placement) (p : At) (P : Option ℕ → Type 0) → P None → ((i : ℕ) → IsCellAt placement p i → P (Some i)) → P (box_index placement p)
by_index placement p P none some = by (box_index placement p) refl
  where
    by : (o : Option ℕ) → box_index placement p ≡ o → P o
    by None e = none
    by (Some i) e = some i (cell_at_index placement p i e)

-- without marks no cell is held
pub none_held : (placement : Placement) (choice : List Bool) → LeavesHeld placement [] choice
none_held placement choice p held = absurd (by (box_index placement p) held)
  where
    by : (o : Option ℕ) → chosen [] o ≡ true → ⊥
    by None e = false≢true e
    by (Some i) e = false≢true e

-- the union and the intersection of the new cells of two choices
abbrev pub union : Placement → List Bool → List Bool → List Bool
union placement one other = choice_of placement (λ i. get_or one i false || get_or other i false)

abbrev pub common : Placement → List Bool → List Bool → List Bool
common placement one other = choice_of placement (λ i. get_or one i false && get_or other i false)

pub union_says : (placement : Placement) (one other : List Bool) (p : At) → is_new placement (union placement one other) p ≡ (is_new placement one p || is_new placement other p)
union_says placement one other p =
    by_index placement p (λ o. chosen (union placement one other) o ≡ (chosen one o || chosen other o)) refl
    (λ i at. sym (ap (chosen (union placement one other)) at.index) ∙ choice_says placement (λ i. get_or one i false || get_or other i false) p i at)

pub common_says : (placement : Placement) (one other : List Bool) (p : At) → is_new placement (common placement one other) p ≡ (is_new placement one p && is_new placement other p)
common_says placement one other p =
    by_index placement p (λ o. chosen (common placement one other) o ≡ (chosen one o && chosen other o)) refl
    (λ i at. sym (ap (chosen (common placement one other)) at.index) ∙ choice_says placement (λ i. get_or one i false && get_or other i false) p i at)

pub union_lawful : (m : SourceMap) (placement : Placement) (one other : List Bool) → IsLawful m placement one → IsLawful m placement other → IsLawful m placement (union placement one other)
union_lawful m placement one other is also = record {
  unfilled = λ p inside e. union_says placement one other p ∙ or_left (is_new placement one p) (is_new placement other p) (is.unfilled p inside e);
  kept = λ p kept. union_says placement one other p ∙ (λ i. is.kept p kept i || also.kept p kept i);
}

pub common_lawful : (m : SourceMap) (placement : Placement) (one other : List Bool) → IsLawful m placement one → IsLawful m placement other → IsLawful m placement (common placement one other)
common_lawful m placement one other is also = record {
  unfilled = λ p inside e. common_says placement one other p ∙ and_of (is_new placement one p) (is_new placement other p) (is.unfilled p inside e) (also.unfilled p inside e);
  kept = λ p kept. common_says placement one other p ∙ (λ i. is.kept p kept i && also.kept p kept i);
}

module _ (m : SourceMap) (placement : Placement) where
  -- whether a place is filled and outside the box
  abbrev out : At → Bool
  out q = is_some (map_at m q) && not (in_box placement.rect q)

  out_is : (q : At) → out q ≡ true → IsFilledOutside m placement.rect q
  out_is q e = let both = both_are (is_some (map_at m q)) (not (in_box placement.rect q)) e in (both.0, λ inside. not_yes (in_box placement.rect q) both.1 inside)

  out_of : (q : At) → IsFilledOutside m placement.rect q → out q ≡ true
  out_of q is = and_of (is_some (map_at m q)) (not (in_box placement.rect q)) is.0 (no_not (in_box placement.rect q) is.1)

  abbrev along : Axis → At → Bool
  along axis p = out (plus p (unit_step axis)) || out (minus p (unit_step axis))

  along_is : (axis : Axis) (p : At) → along axis p ≡ true → MeetsAlong m placement.rect p axis
  along_is axis p e = by (or_is (out (plus p (unit_step axis))) (out (minus p (unit_step axis))) e)
    where
      by : (out (plus p (unit_step axis)) ≡ true) ⊎ (out (minus p (unit_step axis)) ≡ true) → MeetsAlong m placement.rect p axis
      by (inl after) = inl (out_is (plus p (unit_step axis)) after)
      by (inr before) = inr (out_is (minus p (unit_step axis)) before)

  along_of : (axis : Axis) (p : At) → MeetsAlong m placement.rect p axis → along axis p ≡ true
  along_of axis p (inl after) = or_left (out (plus p (unit_step axis))) (out (minus p (unit_step axis))) (out_of (plus p (unit_step axis)) after)
  along_of axis p (inr before) = or_right (out (plus p (unit_step axis))) (out (minus p (unit_step axis))) (out_of (minus p (unit_step axis)) before)

  -- whether a cell has a neighbour that is so
  abbrev meets : At → Bool
  meets p = along X p || (along Y p || along F p)

  meets_is : (p : At) → meets p ≡ true → MeetsOutside m placement.rect p
  meets_is p e = by (or_is (along X p) (along Y p || along F p) e)
    where
      by_two : (along Y p ≡ true) ⊎ (along F p ≡ true) → MeetsOutside m placement.rect p
      by_two (inl y) = meets_of m placement.rect p Y (along_is Y p y)
      by_two (inr f) = meets_of m placement.rect p F (along_is F p f)

      by : (along X p ≡ true) ⊎ ((along Y p || along F p) ≡ true) → MeetsOutside m placement.rect p
      by (inl x) = meets_of m placement.rect p X (along_is X p x)
      by (inr more) = by_two (or_is (along Y p) (along F p) more)

  meets_all : (p : At) → MeetsOutside m placement.rect p → meets p ≡ true
  meets_all p is = by (along X p) (along Y p) (along F p) (along_of X p) (along_of Y p) (along_of F p)
    where
      by : (x y f : Bool) → (MeetsAlong m placement.rect p X → x ≡ true) → (MeetsAlong m placement.rect p Y → y ≡ true) → (MeetsAlong m placement.rect p F → f ≡ true) → (x || (y || f)) ≡ true
      by true y f of_x of_y of_f = refl
      by false true f of_x of_y of_f = refl
      by false false f of_x of_y of_f = meets_third m placement.rect p false false f of_x of_y of_f refl refl is

  -- whether an admissible choice may say so of a cell, and else what it has to say
  abbrev mended : At → Bool → Bool
  mended p new = is_none (map_at m p) || (new && not (meets p))

  -- a choice, made admissible
  abbrev pub fixed : List Bool → List Bool
  fixed choice = choice_of placement (λ i. mended (box_cell placement i) (get_or choice i false))

  pub fixed_count : (choice : List Bool) → length (fixed choice) ≡ box_count placement
  fixed_count choice = choice_count placement (λ i. mended (box_cell placement i) (get_or choice i false))

  fixed_says : (choice : List Bool) (p : At) (i : ℕ) → IsCellAt placement p i → is_new placement (fixed choice) p ≡ mended p (get_or choice i false)
  fixed_says choice p i at =
      choice_says placement (λ i. mended (box_cell placement i) (get_or choice i false)) p i at ∙ ap (λ q. mended q (get_or choice i false)) (sym at.cell)

  none_new : (b : Bool) → (b && false) ≡ false
  none_new true = refl
  none_new false = refl

  all_new : (b : Bool) → (b && true) ≡ b
  all_new true = refl
  all_new false = refl

  kept_old : (p : At) (new : Bool) → IsFilled m p → meets p ≡ true → mended p new ≡ false
  kept_old p new filled outside = (λ i. not (filled i) || (new && not (outside i))) ∙ none_new new

  pub fixed_lawful : (choice : List Bool) → IsLawful m placement (fixed choice)
  fixed_lawful choice = record {
    unfilled = λ p inside e.
        let at = index_of_cell placement p inside in
        fixed_says choice p at.0 at.1 ∙ ap (λ o. is_none o || (get_or choice at.0 false && not (meets p))) e;
    kept = λ p kept.
        let at = index_of_cell placement p kept.inside in
        fixed_says choice p at.0 at.1 ∙ kept_old p (get_or choice at.0 false) kept.filled (meets_all p kept.meets);
  }

  -- an admissible choice says the same as when it is made so
  pub fixed_same : (choice : List Bool) → IsLawful m placement choice → (p : At) → is_new placement (fixed choice) p ≡ is_new placement choice p
  fixed_same choice lawful p = by_index placement p (λ o. chosen (fixed choice) o ≡ chosen choice o) refl (λ i at. sym (ap (chosen (fixed choice)) at.index) ∙ fixed_says choice p i at ∙ here i at (is_some (map_at m p)) refl (meets p) refl)
    where
      here : (i : ℕ) → IsCellAt placement p i → (some : Bool) → is_some (map_at m p) ≡ some → (out : Bool) → meets p ≡ out → mended p (get_or choice i false) ≡ get_or choice i false
      here i at false none out e =
          let inside : IsInBox placement.rect p = ap is_some at.index in
          let new : get_or choice i false ≡ true = sym (ap (chosen choice) at.index) ∙ lawful.unfilled p inside (nothing (map_at m p) none) in
          (λ k. not (none k) || (get_or choice i false && not (meets p))) ∙ sym new
        where
          nothing : (o : Option At) → is_some o ≡ false → o ≡ None
          nothing None e = refl
          nothing (Some q) e = absurd (false≢true (sym e))
      here i at true filled true outside =
          let inside : IsInBox placement.rect p = ap is_some at.index in
          let old : get_or choice i false ≡ false = sym (ap (chosen choice) at.index) ∙ lawful.kept p (record { inside = inside; filled = filled; meets = meets_is p outside }) in
          kept_old p (get_or choice i false) filled outside ∙ sym old
      here i at true filled false outside = (λ k. not (filled k) || (get_or choice i false && not (outside k))) ∙ all_new (get_or choice i false)
