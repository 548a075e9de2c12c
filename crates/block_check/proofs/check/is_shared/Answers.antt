use Rattle.std.proofs.Common.{◌<◌, ◌⊎◌, ap, true, false, inl, inr, refl, sym, ◌∙◌, subst, arith, ⊎_elim}
use Rattle.std.specs.Prelude.{Bool, IsTrue, ◌↔◌}
use Rattle.std.proofs.lemmas.Bool.{lt-ltb, ltb-true}
use mathlib.Core.Bool.{beq, false≢true}
use Rattle.cells.specs.declared.place.At.{At}
use Rattle.cells.specs.Places.{SumFits, plus, spot}
use Rattle.map_canvas.proofs.Filling.{fits_small}
use Rattle.map_canvas.specs.Maps.{IsFilled}
use Rattle.block_check.proofs.check.is_shared.Goals.{then-x-left, else-x-left}
use Rattle.block_check.proofs.BlockRows.{row_sum}
use Rattle.block_check.proofs.check.is_shared.Goals as goal

-- two tests agree where what they tell does
agree : (a b : Bool) (A B : Type 0) → IsTrue a ↔ A → IsTrue b ↔ B → IsTrue (beq a b) ↔ (A ↔ B)
agree true true A B first second = (λ _. (λ _. second.0 refl, λ _. first.0 refl), λ _. refl)
agree true false A B first second = (λ e. absurd (false≢true e), λ both. absurd (false≢true (second.1 (both.0 (first.0 refl)))))
agree false true A B first second = (λ e. absurd (false≢true e), λ both. absurd (false≢true (first.1 (both.1 (second.0 refl)))))
agree false false A B first second = (λ _. (λ a. absurd (false≢true (first.1 a)), λ b. absurd (false≢true (second.1 b))), λ _. refl)

pub returns : goal.returns
returns c =
    let m = c.args.canvas.now.map in
    let p = plus c.args.placement.now.rect.corner (spot c.args.x c.args.y 0) in
    let filled : IsTrue c.is_filled-filled.result ↔ IsFilled m p = subst (λ (p : At). IsTrue c.is_filled-filled.result ↔ IsFilled m p) (c.plus.ensures ∙ ap (plus c.args.placement.now.rect.corner) c.step_to.ensures) c.is_filled-filled.ensures in
    let in_strip : IsTrue c.if-x-left.in_strip ↔ ((c.args.x < c.args.left) ⊎ (c.args.y < c.args.top)) = elim c.if-x-left.branch [
      | then-x-left w ↦ (λ _. inl w.if-x-left.true, λ _. w.in_strip-is ∙ lt-ltb c.args.x c.args.left w.if-x-left.true)
      | else-x-left w ↦ (
        λ e. inr (ltb-true c.args.y c.args.top (sym w.in_strip-is ∙ e)),
        λ either. w.in_strip-is ∙ lt-ltb c.args.y c.args.top (⊎_elim (λ lt. let none : ⊥ = omega (arith, w.if-x-left.false, lt) in absurd none) (λ lt. lt) either),
      )
    ] in
    agree c.is_filled-filled.result c.if-x-left.in_strip (IsFilled m p) ((c.args.x < c.args.left) ⊎ (c.args.y < c.args.top)) filled in_strip

pub step_to-requires : goal.step_to-requires
step_to-requires c =
    let axes = (fits_small c.args.canvas.now.map.size c.args.sample.now c.args.placement.now c.requires.fits c.map-map.ensures.canvas.map.small).axes in
    (omega (arith, c.requires.column, axes.w), omega (arith, c.requires.row, axes.h))

pub plus-requires : goal.plus-requires
plus-requires c =
    subst (SumFits c.args.placement.now.rect.corner) (sym c.step_to.ensures)
    (row_sum c.args.canvas.now.map.size c.args.sample.now c.args.placement.now c.requires.fits c.map-map.ensures.canvas.map.small.axes c.args.x c.args.y c.requires.column c.requires.row)
