use Rattle.std.proofs.lemmas.Grind.{common_steps}
use Rattle.std.proofs.Common.{◌≡◌, ◌∙◌, ap, arith, refl, sym, rules, subst, w16, ℕ}
use Rattle.std.proofs.lemmas.Int.{ints, to_z-of_z}
use Rattle.std.specs.Prelude.{pos, ◌-ℤ◌}
use mathlib.Core.Bool.{false≢true}
use Rattle.cells.specs.Distances.{distance}
use Rattle.cells.specs.Places.{SumFits, plus}
use Rattle.costs.specs.Costs.{seam}
use Rattle.costs.proofs.Copies.{same_place}
use Rattle.costs.proofs.Near.{step_fits}
use Rattle.cut_check.specs.Flows.{IsBetween, minus_of}
use Rattle.cut_check.proofs.Held.{held_difference}
use Rattle.cut_check.proofs.PairBounds.{passes_between}
use mir.Val.{SFits}
use Rattle.cut_check.proofs.bounds.is_between_old.Goals as goal

pub plus-requires : goal.plus-requires
plus-requires c =
    let fits = step_fits c.args.a c.args.axis c.requires.a in
    subst (SumFits c.args.a) (sym c.unit.ensures) fits.ahead

pub returns-then-eq : goal.returns-then-eq
returns-then-eq c =
    let v = c.args.sample.now in
    let cost = seam (distance v) c.args.axis c.args.a c.args.new_b in
    let within = c.is_within_seam.ensures.0 c.if-not-is_within_seam.false in
    let fits : SFits w16 c.args.flow.x = search rules in
    let between = subst (IsBetween (minus_of cost) (pos cost)) (to_z-of_z w16 c.args.flow.x fits) within in
    let all : c.args.flow.x ≡ c.args.flow.y = omega (arith, ints, c.if-flow.true) in
    let there = sym (c.plus.ensures ∙ ap (plus c.args.a) c.unit.ensures) ∙ same_place c.plus.result c.args.b (sym c.eq.ensures ∙ c.if-eq.true) in (
      λ _. passes_between v c.args.axis c.args.a c.args.b c.args.new_a c.args.new_b c.args.flow there c.requires.next all between,
      λ _. refl,
    )

pub returns-then-is_within_seam : goal.returns-then-is_within_seam
returns-then-is_within_seam c =
    let v = c.args.sample.now in
    let flow = c.args.flow in
    let x_fits : SFits w16 flow.x = search rules in
    let y_fits : SFits w16 flow.y = search rules in
    let x = to_z-of_z w16 flow.x x_fits in
    let y = to_z-of_z w16 flow.y y_fits in
    let seam_x = seam (distance v) c.args.axis c.args.a c.args.new_b in
    let seam_y = seam (distance v) c.args.axis c.args.new_a c.args.b in
    let cost : c.seam_of-old_old.result ≡ seam (distance v) c.args.axis c.args.a c.args.b = c.seam_of-old_old.ensures.cost in
    let UpTo : ℕ → Type 0 = λ n. IsBetween (pos 0) (pos n) (flow.x -ℤ flow.y) in
    let held = held_difference flow.x flow.y c.from.result c.from-then-is_within_seam.result x_fits y_fits c.from.ensures c.from-then-is_within_seam.ensures in (
      λ is. record {
        x = subst (IsBetween (minus_of seam_x) (pos seam_x)) x (c.is_within_seam.ensures.0 c.if-not-is_within_seam.false);
        y = subst (IsBetween (minus_of seam_y) (pos seam_y)) y (c.is_within_seam-2.ensures.0 c.if-is_within_seam.true);
        seam = subst UpTo cost (subst (IsBetween (pos 0) (pos c.seam_of-old_old.result)) held (c.is_up_to.ensures.0 is));
      },
      λ old. c.is_up_to.ensures.1 (subst (IsBetween (pos 0) (pos c.seam_of-old_old.result)) (sym held) (subst UpTo (sym cost) old.seam)),
    )

pub returns-else-is_within_seam : goal.returns-else-is_within_seam
returns-else-is_within_seam c = (
  λ is. absurd (false≢true (sym c.if-is_within_seam.false ∙ is)),
  λ old.
      let flow = c.args.flow in
      let fits : SFits w16 flow.y = search rules in
      let cost = seam (distance c.args.sample.now) c.args.axis c.args.new_a c.args.b in
      c.is_within_seam-2.ensures.1 (subst (IsBetween (minus_of cost) (pos cost)) (sym (to_z-of_z w16 flow.y fits)) old.y),
)

pub overflow_sub-from : goal.overflow_sub-from
overflow_sub-from c = grind (arith, common_steps)

pub returns-then-not-is_within_seam : goal.returns-then-not-is_within_seam
returns-then-not-is_within_seam c = grind (arith, common_steps)

pub is_within_seam-requires-2-clause-b : goal.is_within_seam-requires-2-clause-b
is_within_seam-requires-2-clause-b c = grind (arith, common_steps)

pub is_within_seam-requires-2-clause-a : goal.is_within_seam-requires-2-clause-a
is_within_seam-requires-2-clause-a c = grind (arith, common_steps)

pub seam_of-old_old-requires-clause-b : goal.seam_of-old_old-requires-clause-b
seam_of-old_old-requires-clause-b c = grind (arith, common_steps)

pub seam_of-old_old-requires-clause-a : goal.seam_of-old_old-requires-clause-a
seam_of-old_old-requires-clause-a c = grind (arith, common_steps)

pub is_up_to-requires : goal.is_up_to-requires
is_up_to-requires c = grind (arith, common_steps)

pub is_within_seam-requires-clause-b : goal.is_within_seam-requires-clause-b
is_within_seam-requires-clause-b c = grind (arith, common_steps)

pub is_within_seam-requires-clause-a : goal.is_within_seam-requires-clause-a
is_within_seam-requires-clause-a c = grind (arith, common_steps)
