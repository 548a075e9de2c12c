use Rattle.std.proofs.lemmas.Grind.{common_steps}
use Rattle.std.proofs.Common.{◌≡◌, ◌∙◌, refl, sym, subst, ap, arith, ℕ, ◌+◌, w16, to_z, of_z}
use Rattle.std.proofs.lemmas.Int.{ints, to_z-of_z}
use Rattle.std.specs.Prelude.{ℤ, pos}
use Rattle.cells.specs.Distances.{distance}
use Rattle.cells.specs.Neighbours.{unit_step}
use Rattle.cells.specs.Places.{DifferenceFits, SumFits, minus, plus}
use Rattle.costs.proofs.Near.{step_fits}
use Rattle.costs.specs.Costs.{seam}
use Rattle.cut_check.specs.Flows.{IsBetween, minus_of}
use Rattle.cut_check.proofs.bounds.is_within_seam.Goals as goal

pub minus-requires : goal.minus-requires
minus-requires c =
    let fits = step_fits c.args.b c.args.axis c.requires.b in
    subst (DifferenceFits c.args.b) (sym c.unit-step.ensures) fits.back

pub is_within-requires : goal.is_within-requires
is_within-requires c = omega (arith, c.cell_distance-near.ensures.bound, c.cell_distance-near.ensures.volume.samples.1)

pub plus-requires : goal.plus-requires
plus-requires c =
    let fits = step_fits c.args.a c.args.axis c.requires.a in
    subst (SumFits c.args.a) (sym c.unit-step.ensures) fits.ahead

pub returns-then-is_within : goal.returns-then-is_within
returns-then-is_within c =
    let v = c.args.sample.now in
    let near : c.cell_distance-near.result ≡ distance v c.args.a (minus c.args.b (unit_step c.args.axis)) =
    c.cell_distance-near.ensures.distance ∙ ap (distance v c.args.a) (c.minus.ensures ∙ ap (minus c.args.b) c.unit-step.ensures) in (
      λ _. let within = c.is_within.ensures.0 c.if-is_within.true in (omega (arith, ints, within.0, near), omega (arith, ints, within.1, near)),
      λ _. refl,
    )

pub overflow_add-near : goal.overflow_add-near
overflow_add-near c = omega (arith, c.cell_distance-near.ensures.bound, c.cell_distance.ensures.bound, c.cell_distance.ensures.volume.samples.1)

pub is_within-requires-2 : goal.is_within-requires-2
is_within-requires-2 c = omega (arith, c.cell_distance-near.ensures.bound, c.cell_distance.ensures.bound, c.cell_distance.ensures.volume.samples.1)

pub returns : goal.returns
returns c =
    let v = c.args.sample.now in
    let z = c.args.z in
    let cost = seam (distance v) c.args.axis c.args.a c.args.b in
    let near : c.cell_distance-near.result ≡ distance v c.args.a (minus c.args.b (unit_step c.args.axis)) =
    c.cell_distance-near.ensures.distance ∙ ap (distance v c.args.a) (c.minus.ensures ∙ ap (minus c.args.b) c.unit-step.ensures) in
    let far : c.cell_distance.result ≡ distance v (plus c.args.a (unit_step c.args.axis)) c.args.b =
    c.cell_distance.ensures.distance ∙ ap (λ p. distance v p c.args.b) (c.plus.ensures ∙ ap (plus c.args.a) c.unit-step.ensures) in
    let both : c.cell_distance-near.result + c.cell_distance.result ≡ cost = λ k. near k + far k in
    let held = to_z-of_z w16 z c.ranges.z in
    let Within : ℕ → ℤ → Type 0 = λ n. IsBetween (minus_of n) (pos n) in (
      λ is. subst (Within cost) held (subst (λ n. Within n (to_z w16 (of_z w16 z))) both (c.is_within-2.ensures.0 is)),
      λ between. c.is_within-2.ensures.1 (subst (λ n. Within n (to_z w16 (of_z w16 z))) (sym both) (subst (Within cost) (sym held) between)),
    )

pub returns-then-z-eq0 : goal.returns-then-z-eq0
returns-then-z-eq0 c = grind (arith, common_steps)
