-- What leaves the cells that have to stay old is one sum, and there is one for each record.
use Rattle.std.proofs.Common.{◌≡◌, ◌≤◌, ◌+◌, ◌*◌, ℕ, zero, suc, refl, arith, rules, ⊎_elim, ◌⊎◌, inl, inr, Bool, true, false, List, neg_ℤ}
use Rattle.std.proofs.lemmas.Int.{ints}
use Rattle.std.specs.Prelude.{ℤ, pos, negsuc, ◌+ℤ◌, ◌-ℤ◌, ◌≤ℤ◌, FitsSigned}
use Rattle.std.specs.Int.{w64}
use Rattle.limits.specs.declared.bounds.TheConstants.{MOST_CELLS}
use mathlib.Core.Bool.{false≢true}
use Rattle.cells.specs.declared.place.At.{At}
use Rattle.cells.specs.declared.place.Axis.{Axis}
use Rattle.cells.specs.declared.place.Axis.TheVariants.{X, Y, F}
use Rattle.cells.specs.declared.place.Box3.{Box3}
use Rattle.cells.specs.Boxes.{IsInBox, cell_in}
use Rattle.cells.specs.Neighbours.{unit_step}
use Rattle.cells.specs.Places.{minus, plus}
use Rattle.map_canvas.specs.declared.canvas.Placement.{Placement}
use Rattle.map_canvas.specs.Canvases.{IsFilledOutside, IsKept, MeetsAlong, MeetsOutside}
use Rattle.map_canvas.specs.Maps.{SourceMap, IsFilled}
use Rattle.map_canvas.proofs.Keeping.{meets_of, meets_third}
use Rattle.costs.specs.Lawful.{StaysOld, is_held}
use Rattle.cut_check.specs.declared.record.CutRecord.{CutRecord}
use Rattle.cut_check.specs.Flows.{leaving}
use Rattle.cut_check.specs.Records.{IsPartWhere, Setting}
use Rattle.cut_check.specs.Steps.{ArePartsOfValue, most_leaving}

-- a signed number that can't but be 0 is 0
stable : (d : ℤ) → ((d ≡ pos 0 → ⊥) → ⊥) → d ≡ pos 0
stable (pos zero) some = refl
stable (pos (suc n)) some = absurd (some (λ e. absurd (omega (arith, ints, e))))
stable (negsuc n) some = absurd (some (λ e. absurd (omega (arith, ints, e))))

-- a number where something holds, and 0 elsewhere, is one number
pub one_part : (Holds : Type 0) (z a b : ℤ) → IsPartWhere Holds z a → IsPartWhere Holds z b → a ≡ b
one_part Holds z a b first second = omega (
  arith,
  ints,
  stable (a -ℤ b) (λ apart.
      let none : Holds → ⊥ = λ holds. apart (omega (arith, ints, first.here holds, second.here holds)) in
      apart (omega (arith, ints, first.elsewhere none, second.elsewhere none))),
)

-- the sum with one part more is a number of 64 bits
pub sum_fits : (n : ℕ) (sum part : ℤ) → n ≤ MOST_CELLS → neg_ℤ (pos (most_leaving * n)) ≤ℤ sum → sum ≤ℤ pos (most_leaving * n)
    → neg_ℤ (pos most_leaving) ≤ℤ part → part ≤ℤ pos most_leaving → FitsSigned w64 (sum +ℤ part)
sum_fits n sum part few low high part_low part_high = small (sum +ℤ part) (omega (arith, ints, few, low, part_low)) (omega (arith, ints, few, high, part_high))
  where
    small : (z : ℤ) → neg_ℤ (pos 1000000000000000) ≤ℤ z → z ≤ℤ pos 1000000000000000 → FitsSigned w64 z
    small z from to = search rules

-- and the bounds grow with it
pub low_more : (n : ℕ) (sum part : ℤ) → neg_ℤ (pos (most_leaving * n)) ≤ℤ sum → neg_ℤ (pos most_leaving) ≤ℤ part
    → neg_ℤ (pos (most_leaving * (n + 1))) ≤ℤ (sum +ℤ part)
low_more n sum part low part_low = omega (arith, ints, low, part_low)

pub high_more : (n : ℕ) (sum part : ℤ) → sum ≤ℤ pos (most_leaving * n) → part ≤ℤ pos most_leaving → (sum +ℤ part) ≤ℤ pos (most_leaving * (n + 1))
high_more n sum part high part_high = omega (arith, ints, high, part_high)

-- whether a cell has to stay old is decided
abbrev Sure : Type 0 → Type 0
Sure P = P ⊎ (P → ⊥)

sure_true : (b : Bool) → Sure (b ≡ true)
sure_true true = inl refl
sure_true false = inr (λ e. absurd (false≢true e))

sure_either : (P Q : Type 0) → Sure P → Sure Q → Sure (P ⊎ Q)
sure_either P Q (inl p) q = inl (inl p)
sure_either P Q (inr none) (inl q) = inl (inr q)
sure_either P Q (inr none) (inr other) = inr (λ found. ⊎_elim none other found)

sure_both : (P Q : Type 0) → Sure P → Sure Q → Sure (P × Q)
sure_both P Q (inl p) (inl q) = inl (p, q)
sure_both P Q (inl p) (inr none) = inr (λ both. none both.1)
sure_both P Q (inr none) q = inr (λ both. none both.0)

sure_none : (P : Type 0) → Sure P → Sure (P → ⊥)
sure_none P (inl p) = inr (λ none. none p)
sure_none P (inr none) = inl none

sure_outside : (m : SourceMap) (rect : Box3) (p : At) → Sure (IsFilledOutside m rect p)
sure_outside m rect p = sure_both (IsFilled m p) (IsInBox rect p → ⊥) (sure_true _) (sure_none (IsInBox rect p) (sure_true _))

sure_along : (m : SourceMap) (rect : Box3) (p : At) (axis : Axis) → Sure (MeetsAlong m rect p axis)
sure_along m rect p axis = sure_either (IsFilledOutside m rect (plus p (unit_step axis))) (IsFilledOutside m rect (minus p (unit_step axis))) (sure_outside m rect _) (sure_outside m rect _)

sure_meets : (m : SourceMap) (rect : Box3) (p : At) → Sure (MeetsOutside m rect p)
sure_meets m rect p = by (sure_along m rect p X) (sure_along m rect p Y) (sure_along m rect p F)
  where
    by : Sure (MeetsAlong m rect p X) → Sure (MeetsAlong m rect p Y) → Sure (MeetsAlong m rect p F) → Sure (MeetsOutside m rect p)
    by (inl x) y f = inl (meets_of m rect p X x)
    by (inr no_x) (inl y) f = inl (meets_of m rect p Y y)
    by (inr no_x) (inr no_y) (inl f) = inl (meets_of m rect p F f)
    by (inr no_x) (inr no_y) (inr no_f) =
        inr (λ meets. false≢true (meets_third m rect p false false false (λ x. absurd (no_x x)) (λ y. absurd (no_y y)) (λ f. absurd (no_f f)) refl refl meets))

sure_kept : (m : SourceMap) (rect : Box3) (p : At) → Sure (IsKept m rect p)
sure_kept m rect p = by (sure_true _) (sure_true _) (sure_meets m rect p)
  where
    by : Sure (IsInBox rect p) → Sure (IsFilled m p) → Sure (MeetsOutside m rect p) → Sure (IsKept m rect p)
    by (inl inside) (inl filled) (inl meets) = inl (record { inside = inside; filled = filled; meets = meets })
    by (inr none) filled meets = inr (λ kept. none kept.inside)
    by (inl inside) (inr none) meets = inr (λ kept. none kept.filled)
    by (inl inside) (inl filled) (inr none) = inr (λ kept. none kept.meets)

sure_old : (m : SourceMap) (placement : Placement) (held : List Bool) (p : At) → Sure (StaysOld m placement held p)
sure_old m placement held p = sure_either (IsKept m placement.rect p) (is_held placement held p ≡ true) (sure_kept m placement.rect p) (sure_true _)

-- so each record has its parts
part_if : (P : Type 0) → Sure P → ℤ → ℤ
part_if P (inl p) z = z
part_if P (inr none) z = pos 0

part_if_is : (P : Type 0) (sure : Sure P) (z : ℤ) → IsPartWhere P z (part_if P sure z)
unfolding part_if
part_if_is P (inl p) z = record { here = λ _. refl; elsewhere = λ none. absurd (none p) }
part_if_is P (inr none) z = record { here = λ p. absurd (none p); elsewhere = λ _. refl }

pub part_at : Setting → CutRecord → ℕ → ℕ → ℕ → ℤ
part_at s cut x y f =
    part_if (StaysOld s.map cut.placement s.held (cell_in cut.placement.rect x y f)) (sure_old s.map cut.placement s.held (cell_in cut.placement.rect x y f)) (leaving cut.placement.rect.size cut.flows x y f)

pub parts_are : (s : Setting) (cut : CutRecord) → ArePartsOfValue s cut (part_at s cut)
unfolding part_at
parts_are s cut x y f inside =
    part_if_is (StaysOld s.map cut.placement s.held (cell_in cut.placement.rect x y f)) (sure_old s.map cut.placement s.held (cell_in cut.placement.rect x y f)) (leaving cut.placement.rect.size cut.flows x y f)
