-- What leaves the cells that a test selects, all together, is what their pairs give: of each pair what leaves the
-- first cell, where it is selected, less what comes to the second, where that is.
use Rattle.std.proofs.Common.{◌≡◌, ℕ, ◌+◌, refl, ap, sym, ◌∙◌, arith, Bool, true, false, List}
use borrow.Author.Tests.{le-ltb}
use Rattle.std.specs.Prelude.{ℤ, pos, ◌+ℤ◌, ◌-ℤ◌, if◌then◌else◌, slice_index_or}
use Rattle.cells.specs.declared.place.At.{At}
use Rattle.cells.specs.declared.place.Size.{Size}
use Rattle.cells.specs.declared.place.Box3.{Box3}
use Rattle.cells.specs.declared.place.Axis.{Axis}
use Rattle.cells.specs.declared.place.Axis.TheVariants.{X, Y, F}
use Rattle.cells.specs.Places.{plus}
use Rattle.cells.specs.Neighbours.{unit_step}
use Rattle.cells.specs.Boxes.{cell_in}
use Rattle.boxes.specs.Sums.{signed_sum_box}
use Rattle.boxes.proofs.Additions.{integers}
use Rattle.boxes.proofs.Boxes.{box_equal, box_moved_f, box_moved_x, box_moved_y, box_plus}
use Rattle.boxes.proofs.Bounds.{signed_box_minus}
use Rattle.boxes.specs.Pairs.{has_next, pair_number}
use Rattle.cut_check.specs.declared.record.Flow.{Flow}
use Rattle.cut_check.specs.Flows.{pair_flow, flow_into, leaving, leaving_along, no_flow}
use Rattle.boxes.proofs.Cells.{next_suc_f, next_suc_x, next_suc_y}

-- a number where a test holds, and 0 elsewhere
abbrev pub part_if : Bool → ℤ → ℤ
part_if b z = if b then z else pos 0

pub part_none : (b : Bool) → part_if b (pos 0) ≡ pos 0
part_none true = refl
part_none false = refl

part_minus : (b : Bool) (a c : ℤ) → part_if b (a -ℤ c) ≡ part_if b a -ℤ part_if b c
part_minus true a c = refl
part_minus false a c = refl

part_plus : (b : Bool) (a c e : ℤ) → part_if b ((a +ℤ c) +ℤ e) ≡ (part_if b a +ℤ part_if b c) +ℤ part_if b e
part_plus true a c e = refl
part_plus false a c e = refl

-- where there is no pair, nothing flows
pub no_pair : (size : Size) (flows : List Flow) (axis : Axis) (x y f : ℕ) → has_next size axis x y f ≡ false → pair_flow size flows axis x y f ≡ no_flow
no_pair size flows axis x y f e = ap (λ b. if b then slice_index_or flows (pair_number size axis x y f) no_flow else no_flow) e

module _ (selected : At → Bool) (rect : Box3) (flows : List Flow) where
  -- what leaves a cell along an axis, what comes to it from the one before, and what comes to the next one
  abbrev gone : Axis → ℕ → ℕ → ℕ → ℤ
  gone axis x y f = part_if (selected (cell_in rect x y f)) (pair_flow rect.size flows axis x y f).x

  abbrev come : Axis → ℕ → ℕ → ℕ → ℤ
  come axis x y f = part_if (selected (cell_in rect x y f)) (flow_into rect.size flows axis x y f).y

  abbrev passed : Axis → ℕ → ℕ → ℕ → ℤ
  passed axis x y f = part_if (selected (plus (cell_in rect x y f) (unit_step axis))) (pair_flow rect.size flows axis x y f).y

  -- what a pair gives to the selected cells
  abbrev pub given : Axis → ℕ → ℕ → ℕ → ℤ
  given axis x y f = gone axis x y f -ℤ passed axis x y f

  -- what leaves a cell along an axis, where it is selected
  abbrev left_along : Axis → ℕ → ℕ → ℕ → ℤ
  left_along axis x y f = part_if (selected (cell_in rect x y f)) (leaving_along rect.size flows axis x y f)

  none_passed : (axis : Axis) (x y f : ℕ) → has_next rect.size axis x y f ≡ false → passed axis x y f ≡ pos 0
  none_passed axis x y f e =
      ap (λ flow. part_if (selected (plus (cell_in rect x y f) (unit_step axis))) flow.y) (no_pair rect.size flows axis x y f e)
      ∙ part_none (selected (plus (cell_in rect x y f) (unit_step axis)))

  comes_from_before : (axis : Axis) → signed_sum_box rect.size (come axis) ≡ signed_sum_box rect.size (passed axis)
  comes_from_before X =
      box_moved_x integers rect.size (come X) (passed X) (λ y f ly lf. part_none (selected (cell_in rect 0 y f)))
      (λ x y f lx ly lf. ap (λ p. part_if (selected p) (pair_flow rect.size flows X x y f).y) (sym (next_suc_x rect x y f)))
      (λ x y f e ly lf. none_passed X x y f (le-ltb (x + 1) rect.size.w (omega arith)))
  comes_from_before Y =
      box_moved_y integers rect.size (come Y) (passed Y) (λ x f lx lf. part_none (selected (cell_in rect x 0 f)))
      (λ x y f lx ly lf. ap (λ p. part_if (selected p) (pair_flow rect.size flows Y x y f).y) (sym (next_suc_y rect x y f)))
      (λ x y f lx e lf. none_passed Y x y f (le-ltb (y + 1) rect.size.h (omega arith)))
  comes_from_before F =
      box_moved_f integers rect.size (come F) (passed F) (λ x y lx ly. part_none (selected (cell_in rect x y 0)))
      (λ x y f lx ly lf. ap (λ p. part_if (selected p) (pair_flow rect.size flows F x y f).y) (sym (next_suc_f rect x y f)))
      (λ x y f lx ly e. none_passed F x y f (le-ltb (f + 1) rect.size.f (omega arith)))

  given_along : (axis : Axis) → signed_sum_box rect.size (given axis) ≡ signed_sum_box rect.size (left_along axis)
  given_along axis =
      signed_box_minus rect.size (gone axis) (passed axis) ∙ ap (λ z. signed_sum_box rect.size (gone axis) -ℤ z) (sym (comes_from_before axis))
      ∙ sym (signed_box_minus rect.size (gone axis) (come axis))
      ∙ box_equal integers rect.size _ _ (λ x y f lx ly lf. sym (part_minus (selected (cell_in rect x y f)) (pair_flow rect.size flows axis x y f).x (flow_into rect.size flows axis x y f).y))

  three : (g h i : ℕ → ℕ → ℕ → ℤ) → signed_sum_box rect.size (λ x y f. (g x y f +ℤ h x y f) +ℤ i x y f) ≡ (signed_sum_box rect.size g +ℤ signed_sum_box rect.size h) +ℤ signed_sum_box rect.size i
  three g h i = box_plus integers rect.size _ _ ∙ ap (λ z. z +ℤ signed_sum_box rect.size i) (box_plus integers rect.size g h)

  pub given_is_left : signed_sum_box rect.size (λ x y f. (given X x y f +ℤ given Y x y f) +ℤ given F x y f)
      ≡ signed_sum_box rect.size (λ x y f. part_if (selected (cell_in rect x y f)) (leaving rect.size flows x y f))
  given_is_left =
      three (given X) (given Y) (given F) ∙ (λ k. (given_along X k +ℤ given_along Y k) +ℤ given_along F k) ∙ sym (three (left_along X) (left_along Y) (left_along F))
      ∙ box_equal integers rect.size _ _ (λ x y f lx ly lf. sym (part_plus (selected (cell_in rect x y f)) _ _ _))
