-- The bounds of a pair: a flow of 0 is within them, whatever the sources are, and where the sources of its cells
-- follow one another before and after, two of the three costs are one.
use Rattle.std.proofs.Common.{◌≡◌, ℕ, ◌+◌, ◌∙◌, sym, ap, subst, arith}
use Rattle.std.proofs.lemmas.Int.{ints}
use Rattle.std.specs.Prelude.{Bool, IsTrue, ◌↔◌, ℤ, pos, ◌+ℤ◌, ◌-ℤ◌, Option, Some, None}
use Rattle.cells.specs.declared.place.At.{At}
use Rattle.cells.specs.declared.place.Axis.{Axis}
use Rattle.cells.specs.Cells.{Cells}
use Rattle.cells.specs.Distances.{distance}
use Rattle.cells.specs.Neighbours.{unit_step}
use Rattle.cells.specs.Places.{minus, plus}
use Rattle.cells.proofs.DistanceLaws.{distance_symmetric}
use Rattle.map_canvas.specs.declared.canvas.Placement.{Placement}
use Rattle.map_canvas.specs.Choices.{new_source}
use Rattle.costs.specs.Costs.{seam}
use Rattle.cut_check.specs.declared.record.Flow.{Flow}
use Rattle.map_canvas.specs.Maps.{SourceMap, map_at}
use Rattle.cut_check.specs.Flows.{IsBetween, IsBetweenOld, IsBounded, IsBoundedOn, LeavesNone, minus_of}

-- 0 is within a cost
zero_within : (n : ℕ) (z : ℤ) → z ≡ pos 0 → IsBetween (minus_of n) (pos n) z
zero_within n z none = (omega (arith, ints), omega (arith, ints))

zero_up_to : (n : ℕ) (z : ℤ) → z ≡ pos 0 → IsBetween (pos 0) (pos n) z
zero_up_to n z none = (omega (arith, ints), omega (arith, ints))

zero_down_to : (n : ℕ) (z : ℤ) → z ≡ pos 0 → IsBetween (minus_of n) (pos 0) z
zero_down_to n z none = (omega (arith, ints), omega (arith, ints))

pub none_bounded : (d : At → At → ℕ) (axis : Axis) (a b : Option At) (new_a new_b : At) (flow : Flow) → LeavesNone flow → IsBounded d axis a b new_a new_b flow
none_bounded d axis (Some a) (Some b) new_a new_b flow is =
    record { x = zero_within (seam d axis a new_b) flow.x is.x; y = zero_within (seam d axis new_a b) flow.y is.y; seam = (omega (arith, ints, is.x, is.y), omega (arith, ints, is.x, is.y)) }
none_bounded d axis (Some a) None new_a new_b flow is = record { x = zero_up_to (seam d axis a new_b) flow.x is.x; y = is.y }
none_bounded d axis None (Some b) new_a new_b flow is = record { x = is.x; y = zero_down_to (seam d axis new_a b) flow.y is.y }
none_bounded d axis None None new_a new_b flow is = is

-- a step on and back
pub step_back : (p step : At) → minus (plus p step) step ≡ p
step_back p step = λ k. record { x = back p.x step.x k; y = back p.y step.y k; f = back p.f step.f k }
  where
    back : (a b : ℤ) → (a +ℤ b) -ℤ b ≡ a
    back a b = omega (arith, ints)

-- the new source of the next cell is next to that of a cell
pub new_next : (placement : Placement) (p step : At) → new_source placement (plus p step) ≡ plus (new_source placement p) step
new_next placement p step =
    λ k. record { x = moved placement.from.x p.x step.x placement.rect.corner.x k; y = moved placement.from.y p.y step.y placement.rect.corner.y k; f = moved placement.from.f p.f step.f placement.rect.corner.f k }
  where
    moved : (from z step corner : ℤ) → from +ℤ ((z +ℤ step) -ℤ corner) ≡ (from +ℤ (z -ℤ corner)) +ℤ step
    moved from z step corner = omega (arith, ints)

-- the costs of old and new and of new and old
pub same_cost : (v : Cells) (axis : Axis) (a b new_a new_b : At) → plus a (unit_step axis) ≡ b → new_b ≡ plus new_a (unit_step axis)
    → seam (distance v) axis a new_b ≡ seam (distance v) axis new_a b
same_cost v axis a b new_a new_b old new =
    let back : minus b (unit_step axis) ≡ a = ap (λ p. minus p (unit_step axis)) (sym old) ∙ step_back a (unit_step axis) in
    let new_back : minus new_b (unit_step axis) ≡ new_a = ap (λ p. minus p (unit_step axis)) new ∙ step_back new_a (unit_step axis) in
    let first : seam (distance v) axis a new_b ≡ distance v a new_a + distance v b new_b = (λ k. distance v a (new_back k) + distance v (old k) new_b) in
    let second : seam (distance v) axis new_a b ≡ distance v new_a a + distance v new_b b = (λ k. distance v new_a (back k) + distance v (sym new k) b) in
    first ∙ (λ k. distance_symmetric v a new_a k + distance_symmetric v b new_b k) ∙ sym second

-- so one bound is enough for a flow that all comes to the second cell
pub passes_between : (v : Cells) (axis : Axis) (a b new_a new_b : At) (flow : Flow) → plus a (unit_step axis) ≡ b → new_b ≡ plus new_a (unit_step axis) → flow.x ≡ flow.y
    → IsBetween (minus_of (seam (distance v) axis a new_b)) (pos (seam (distance v) axis a new_b)) flow.x
    → IsBetweenOld (seam (distance v) axis a new_b) (seam (distance v) axis new_a b) (seam (distance v) axis a b) flow
passes_between v axis a b new_a new_b flow old new same within = record {
  x = within;
  y = subst (λ z. IsBetween (minus_of (seam (distance v) axis new_a b)) (pos (seam (distance v) axis new_a b)) z) same
      (subst (λ n. IsBetween (minus_of n) (pos n) flow.x) (same_cost v axis a b new_a new_b old new) within);
  seam = nothing (seam (distance v) axis a b) flow.x flow.y same;
}
  where
    nothing : (n : ℕ) (x y : ℤ) → x ≡ y → IsBetween (pos 0) (pos n) (x -ℤ y)
    nothing n x y same = (omega (arith, ints), omega (arith, ints))

-- a test of the bounds by what two cells have is one of the pair of the cells
pub bounded_on : (d : At → At → ℕ) (m : SourceMap) (placement : Placement) (axis : Axis) (s t : At) (flow : Flow) (a b : Option At) (new_a new_b : At) (answer : Bool)
    → a ≡ map_at m s → b ≡ map_at m t → new_a ≡ new_source placement s → new_b ≡ new_source placement t
    → (IsTrue answer ↔ IsBounded d axis a b new_a new_b flow) → (IsTrue answer ↔ IsBoundedOn d m placement axis s t flow)
bounded_on d m placement axis s t flow a b new_a new_b answer old next new new_next is =
    subst (λ p. IsTrue answer ↔ IsBounded d axis p (map_at m t) (new_source placement s) (new_source placement t) flow) old
    (subst (λ p. IsTrue answer ↔ IsBounded d axis a p (new_source placement s) (new_source placement t) flow) next
    (subst (λ p. IsTrue answer ↔ IsBounded d axis a b p (new_source placement t) flow) new
    (subst (λ p. IsTrue answer ↔ IsBounded d axis a b new_a p flow) new_next is)))
