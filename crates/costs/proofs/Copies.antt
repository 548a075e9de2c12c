-- Neighbours whose sources are neighbours in the sample, one after the other along the same axis.
use Rattle.std.proofs.Common.{◌≡◌, ◌+◌, ◌&&◌, true, sym, ap, ◌∙◌, arith, int_eq}
use Rattle.std.proofs.lemmas.Int.{ints}
use Rattle.std.proofs.lemmas.Bool.Decides.{Decides-and, Decides-int_eq}
use Rattle.std.specs.Prelude.{ℤ, ◌+ℤ◌, ◌-ℤ◌}
use Rattle.cells.specs.declared.place.At.{At}
use Rattle.cells.specs.declared.place.Axis.{Axis}
use Rattle.cells.specs.Cells.{Cells}
use Rattle.cells.specs.Distances.{distance}
use Rattle.cells.specs.Neighbours.{unit_step}
use Rattle.cells.specs.Places.{minus, plus}
use Rattle.cells.proofs.DistanceLaws.{distance_same, distance_symmetric}
use Rattle.map_canvas.specs.declared.canvas.Placement.{Placement}
use Rattle.map_canvas.specs.Choices.{new_source}
use Rattle.costs.specs.Costs.{seam}

-- a step on and back
pub plus_back : (p q : At) → minus (plus p q) q ≡ p
plus_back p q = λ k. record { x = back p.x q.x k; y = back p.y q.y k; f = back p.f q.f k }
  where
    back : (a b : ℤ) → (a +ℤ b) -ℤ b ≡ a
    back a b = omega (arith, ints)

pub seam_of_copies : (v : Cells) (axis : Axis) (a b : At) → plus a (unit_step axis) ≡ b → seam (distance v) axis a b ≡ 0
seam_of_copies v axis a b e =
    let before : distance v a (minus b (unit_step axis)) ≡ 0 = ap (distance v a) (ap (λ q. minus q (unit_step axis)) (sym e) ∙ plus_back a (unit_step axis)) ∙ distance_same v a in
    let after : distance v (plus a (unit_step axis)) b ≡ 0 = ap (distance v (plus a (unit_step axis))) (sym e) ∙ distance_same v (plus a (unit_step axis)) in
    omega (arith, before, after)

-- the new source of the next cell is next to that of a cell
pub new_next : (placement : Placement) (p step : At) → new_source placement (plus p step) ≡ plus (new_source placement p) step
new_next placement p step =
    λ k. record { x = moved placement.from.x p.x step.x placement.rect.corner.x k; y = moved placement.from.y p.y step.y placement.rect.corner.y k; f = moved placement.from.f p.f step.f placement.rect.corner.f k }
  where
    moved : (from z step corner : ℤ) → from +ℤ ((z +ℤ step) -ℤ corner) ≡ (from +ℤ (z -ℤ corner)) +ℤ step
    moved from z step corner = omega (arith, ints)

-- where both the old sources and the new ones are such neighbours, the cost of old and new is that of new and old
pub same_cost : (v : Cells) (axis : Axis) (a b new_a new_b : At) → plus a (unit_step axis) ≡ b → new_b ≡ plus new_a (unit_step axis)
    → seam (distance v) axis a new_b ≡ seam (distance v) axis new_a b
same_cost v axis a b new_a new_b old new =
    let back : minus b (unit_step axis) ≡ a = ap (λ p. minus p (unit_step axis)) (sym old) ∙ plus_back a (unit_step axis) in
    let new_back : minus new_b (unit_step axis) ≡ new_a = ap (λ p. minus p (unit_step axis)) new ∙ plus_back new_a (unit_step axis) in
    let first : seam (distance v) axis a new_b ≡ distance v a new_a + distance v b new_b = (λ k. distance v a (new_back k) + distance v (old k) new_b) in
    let second : seam (distance v) axis new_a b ≡ distance v new_a a + distance v new_b b = (λ k. distance v new_a (back k) + distance v (sym new k) b) in
    first ∙ (λ k. distance_symmetric v a new_a k + distance_symmetric v b new_b k) ∙ sym second

-- what `==` answers at two places
pub same_place : (p q : At) → (int_eq p.x q.x && (int_eq p.y q.y && int_eq p.f q.f)) ≡ true → p ≡ q
same_place p q e =
    let each = (Decides-and _ _ (Decides-int_eq p.x q.x) (Decides-and _ _ (Decides-int_eq p.y q.y) (Decides-int_eq p.f q.f))).0 e in
    λ k. record { x = each.0 k; y = each.1.0 k; f = each.1.1 k }
