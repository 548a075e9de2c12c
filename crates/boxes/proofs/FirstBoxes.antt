-- Of a number of boxes there is one list of the first ones, so they pass their bound at one number.
use Rattle.std.proofs.Common.{◌≡◌, ℕ, ◌<◌, ◌≤◌, List, [], ◌∷◌, length, refl, ap, sym, ◌∙◌, subst, arith, ⊎_elim}
use Rattle.std.proofs.lemmas.Bool.{cases_lt}
use Rattle.std.proofs.lemmas.Option.{same_Some}
use Rattle.std.specs.Prelude.{Option}
use Rattle.cells.specs.declared.place.At.{At}
use Rattle.cells.specs.declared.place.Box3.{Box3}
use Rattle.cells.specs.declared.place.Size.{Size}
use Rattle.cells.specs.Boxes.{IsInOne}
use Rattle.cells.specs.Firsts.{IsFirstWithout}
use Rattle.cells.specs.Places.{cell_count, place_of}
use Rattle.limits.specs.declared.bounds.TheConstants.{MOST_BOX_CELLS}
use Rattle.boxes.specs.FirstBoxes.{AreFirstBoxes, BoxesPassAt, BoxesStayWithin, IsBoxAfter, cells_of_boxes}

-- there is one first number without a property
pub one_first : (n : ℕ) (Holds : ℕ → Type 0) (p q : ℕ) → IsFirstWithout n Holds p → IsFirstWithout n Holds q → p ≡ q
one_first n Holds p q a b =
    ⊎_elim (λ (lt : p < q). absurd (a.here (b.before p lt)))
    (λ (le : q ≤ p). ⊎_elim (λ (lt : q < p). absurd (b.here (a.before q lt))) (λ (ge : p ≤ q). let e : p ≡ q = omega (arith, le, ge) in e) (cases_lt q p)) (cases_lt p q)

module _ (box : At → Option Box3) (output : Size) where
  one_next : (rects : List Box3) (a b : Box3) → IsBoxAfter box output rects a → IsBoxAfter box output rects b → a ≡ b
  one_next rects a b x y =
      let same : x.index ≡ y.index = one_first (cell_count output) (λ i. IsInOne rects (place_of output i)) x.index y.index x.first y.first in
      same_Some a b (sym x.is ∙ ap (λ i. box (place_of output i)) same ∙ y.is)

  one_list : (xs ys : List Box3) → AreFirstBoxes box output xs → AreFirstBoxes box output ys → length xs ≡ length ys → xs ≡ ys
  one_list [] [] x y e = refl
  one_list [] (b ∷ ys) x y e = absurd (omega (arith, e))
  one_list (a ∷ xs) [] x y e = absurd (omega (arith, e))
  one_list (a ∷ xs) (b ∷ ys) x y e =
      let rest : xs ≡ ys = one_list xs ys x.1 y.1 (omega (arith, e)) in
      let here : a ≡ b = one_next ys a b (subst (λ rects. IsBoxAfter box output rects a) rest x.0) y.0 in
      λ i. here i ∷ rest i

  -- fewer boxes have no more cells
  fewer : (xs ys : List Box3) → AreFirstBoxes box output xs → AreFirstBoxes box output ys → length xs ≤ length ys → cells_of_boxes xs ≤ cells_of_boxes ys
  fewer [] [] x y le = omega arith
  fewer (a ∷ xs) [] x y le = absurd (omega (arith, le))
  fewer xs (b ∷ ys) x y le =
      ⊎_elim (λ (lt : length xs < length (b ∷ ys)). omega (arith, fewer xs ys x y.1 (omega (arith, lt))))
      (λ (ge : length (b ∷ ys) ≤ length xs). subst (λ list. cells_of_boxes xs ≤ cells_of_boxes list) (one_list xs (b ∷ ys) x y (omega (arith, le, ge))) (omega arith)) (cases_lt (length xs) (length (b ∷ ys)))

  -- a list that isn't the longest has a box after it
  next_after : (xs ys : List Box3) → AreFirstBoxes box output xs → AreFirstBoxes box output ys → length ys < length xs → (rect : Box3) × IsBoxAfter box output ys rect
  next_after [] ys x y lt = absurd (omega (arith, lt))
  next_after (a ∷ xs) ys x y lt =
      ⊎_elim (λ (less : length ys < length xs). next_after xs ys x.1 y less)
      (λ (ge : length xs ≤ length ys). (a, subst (λ rects. IsBoxAfter box output rects a) (one_list xs ys x.1 y (omega (arith, lt, ge))) x.0)) (cases_lt (length ys) (length xs))

  -- where all boxes are within the bound, none passes it
  pub whole_within : (rects : List Box3) → AreFirstBoxes box output rects → ((rect : Box3) → IsBoxAfter box output rects rect → ⊥) → cells_of_boxes rects ≤ MOST_BOX_CELLS → BoxesStayWithin box output
  whole_within rects boxes last within number passes =
      ⊎_elim (λ (lt : length rects < length (passes.rect ∷ passes.rects)). let after = next_after (passes.rect ∷ passes.rects) rects (passes.next, passes.before) boxes lt in last after.0 after.1)
      (λ (ge : length (passes.rect ∷ passes.rects) ≤ length rects). omega (arith, fewer (passes.rect ∷ passes.rects) rects (passes.next, passes.before) boxes ge, passes.cells, passes.past, within)) (cases_lt (length rects) (length (passes.rect ∷ passes.rects)))

  -- a list that ends sooner than the one that passes the bound is within it
  not_before : (number : ℕ) (passes : BoxesPassAt box output number) (other : ℕ) (also : BoxesPassAt box output other) → length passes.rects < length also.rects → ⊥
  not_before number passes other also lt =
      omega (arith, fewer (passes.rect ∷ passes.rects) also.rects (passes.next, passes.before) also.before (omega (arith, lt)), passes.cells, passes.past, also.within)

  -- the bound is passed at one number
  pub one_limit : (number other : ℕ) → BoxesPassAt box output number → BoxesPassAt box output other → number ≡ other
  one_limit number other a b =
      let le : length b.rects ≤ length a.rects = ⊎_elim (λ lt. absurd (not_before number a other b lt)) (λ le. le) (cases_lt (length a.rects) (length b.rects)) in
      let ge : length a.rects ≤ length b.rects = ⊎_elim (λ lt. absurd (not_before other b number a lt)) (λ le. le) (cases_lt (length b.rects) (length a.rects)) in
      let same : cells_of_boxes (a.rect ∷ a.rects) ≡ cells_of_boxes (b.rect ∷ b.rects) = ap cells_of_boxes (one_list (a.rect ∷ a.rects) (b.rect ∷ b.rects) (a.next, a.before) (b.next, b.before) (omega (arith, le, ge))) in
      omega (arith, same, a.cells, b.cells)
