use Rattle.std.proofs.lemmas.Grind.{common_steps}
use Rattle.std.proofs.Common.{map, ℕ, ◌≡◌, ◌+◌, ◌-◌, ◌++◌, ◌∷◌, List, [], sym, ◌∙◌, subst, arith}
use Rattle.std.specs.Prelude.{reverse}
use Rattle.std.specs.List.{range_with_len}
use Rattle.boxes.specs.Pairs.{at_index}
use Rattle.boxes.specs.Walks.{IsAtIndex}
use Rattle.boxes.proofs.Indices.{at_index_is}
use Rattle.offset_errors.specs.Numbers.{box_number}
use Rattle.offset_errors.specs.Padded.{in_box}
use Rattle.offset_errors.proofs.Walks.{one_before}
use Rattle.offset_errors.proofs.lists.box_values.Goals as goal

pub cells-preserved : goal.cells-preserved
cells-preserved c =
    let n = c.args.n in
    let i = c.cells.i in
    let was = c.cells.at in
    let at = c.before-at.result in
    let g = in_box c.args.rect.now.size (box_number c.args.map.now c.args.sample.now c.args.rect.now c.args.j) in
    let one : n - i ≡ n - (i + 1) + 1 = omega (arith, c.cells-test.true) in
    let here : IsAtIndex c.args.pad (n - (i + 1)) at.x at.y at.f =
    c.before-at.ensures (n - (i + 1)) (subst (λ m. IsAtIndex c.args.pad m was.x was.y was.f) one c.cells.invariant.1) in
    let entry = c.box_entry.ensures ∙ sym (at_index_is c.args.pad g (n - (i + 1)) at.x at.y at.f here) in (
      ◌∙◌ {A = List ℕ} c.in_ok-push.ensures.items (◌∙◌ {A = List ℕ} (λ k. c.cells.invariant.0 k ++ entry k ∷ [])
          (sym (one_before (at_index c.args.pad g) n i c.cells-test.true))),
      here,
    )

pub returns : goal.returns
returns c =
    let g = in_box c.args.rect.now.size (box_number c.args.map.now c.args.sample.now c.args.rect.now c.args.j) in
    let whole : c.cells.i ≡ c.args.n = omega (arith, c.cells-test.false, c.cells.auto.i-end) in
    let low : c.args.n - c.cells.i ≡ 0 = omega (arith, whole) in
    c.cells.invariant.0 ∙ (λ t. reverse (map (at_index c.args.pad g) (range_with_len (low t) (whole t))))

pub before-at-requires-clause-later : goal.before-at-requires-clause-later
before-at-requires-clause-later c = omega arith

pub box_entry-requires-clause-below : goal.box_entry-requires-clause-below
box_entry-requires-clause-below c = c.requires.below

pub box_entry-requires-clause-over : goal.box_entry-requires-clause-over
box_entry-requires-clause-over c = c.requires.over

pub box_entry-requires-clause-inside : goal.box_entry-requires-clause-inside
box_entry-requires-clause-inside c = c.requires.inside

pub before-at-requires-clause-size : goal.before-at-requires-clause-size
before-at-requires-clause-size c = omega arith

pub cells-init : goal.cells-init
cells-init c = grind (arith, common_steps)
