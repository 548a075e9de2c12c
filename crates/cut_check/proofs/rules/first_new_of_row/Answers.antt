use Rattle.std.proofs.lemmas.Grind.{common_steps}
use Rattle.std.proofs.Common.{◌≡◌, ◌∙◌, List, Bool, sym, subst, arith, below_more}
use Rattle.std.specs.Prelude.{true, false, slice_index_or}
use mathlib.Core.Bool.{false≢true}
use Rattle.cells.specs.declared.place.At.{At}
use Rattle.map_canvas.specs.Choices.{box_cell}
use Rattle.costs.specs.Lawful.{StaysOld}
use Rattle.cut_check.proofs.RowCells.{row_ends}
use Rattle.cut_check.specs.Steps.{LiesIn}
use Rattle.cut_check.proofs.rules.first_new_of_row.Goals as goal
use Rattle.cut_check.proofs.rules.first_new_of_row.Goals.{else-is_marked-via-then-is_marked+else-stays_old, else-is_marked-via-else-is_marked}

pub loop-i-init : goal.loop-i-init
loop-i-init c = record { from = omega arith; before = c.requires.before }

pub cell_of_row-at-requires-clause-from : goal.cell_of_row-at-requires-clause-from
cell_of_row-at-requires-clause-from c = omega (arith, c.loop-i.invariant.from)

pub box_cell-p-requires-clause-below : goal.box_cell-p-requires-clause-below
box_cell-p-requires-clause-below c = omega (arith, row_ends c.args.cut.now.placement.rect.size c.args.row c.requires.row, c.loop-i-test.true)

pub stays_old-requires-clause-below : goal.stays_old-requires-clause-below
stays_old-requires-clause-below c = omega (arith, row_ends c.args.cut.now.placement.rect.size c.args.row c.requires.row, c.loop-i-test.true)

pub stays_old-requires-clause-cell : goal.stays_old-requires-clause-cell
stays_old-requires-clause-cell c = c.box_cell-p.ensures

pub returns-clause-hold : goal.returns-clause-hold
returns-clause-hold c = λ k lt. c.loop-i.invariant.before k (omega (arith, lt, c.loop-i-test.false))

pub box_cell-p-requires-clause-lies : goal.box_cell-p-requires-clause-lies
box_cell-p-requires-clause-lies c =
    subst (λ m. LiesIn m c.args.cut.now.placement) (sym c.map.ensures.map) c.requires.lies

pub returns-then-stays_old-clause-broken : goal.returns-then-stays_old-clause-broken
returns-then-stays_old-clause-broken c = λ sample.
    let m = c.args.canvas.now.map in
    let cut = c.args.cut.now in
    let held = c.args.held.now in
    let i = c.loop-i.i in
    let old = subst (λ (p : At). StaysOld m cut.placement held p) c.box_cell-p.ensures (c.stays_old.ensures.0 c.if-stays_old.true) in
    let marked = subst (λ (choice : List Bool). slice_index_or choice i false ≡ true) c.as_slice-choice.ensures (sym c.is_marked.ensures ∙ c.if-is_marked.true) in
    record {
      below = omega (arith, row_ends cut.placement.rect.size c.args.row c.requires.row, c.loop-i-test.true);
      before = c.loop-i.invariant.before;
      here = λ leaves. false≢true (sym (leaves old) ∙ marked);
    }

pub loop-i-preserved : goal.loop-i-preserved
loop-i-preserved c =
    let m = c.args.canvas.now.map in
    let cut = c.args.cut.now in
    let held = c.args.held.now in
    let i = c.loop-i.i in
    let here : StaysOld m cut.placement held (box_cell cut.placement i) → slice_index_or cut.choice i false ≡ false = λ old.
    elim c.else-is_marked.branch [
      | else-is_marked-via-then-is_marked+else-stays_old w ↦
          absurd (false≢true (sym w.if-stays_old.false ∙ w.stays_old.ensures.1 (subst (λ (p : At). StaysOld m cut.placement held p) (sym c.box_cell-p.ensures) old)))
      | else-is_marked-via-else-is_marked w ↦
          subst (λ (choice : List Bool). slice_index_or choice i false ≡ false) c.as_slice-choice.ensures (sym c.is_marked.ensures ∙ w.if-is_marked.false)
    ] in
    record {
      from = omega (arith, c.loop-i.invariant.from);
      before = below_more (λ k. StaysOld m cut.placement held (box_cell cut.placement k) → slice_index_or cut.choice k false ≡ false) i c.loop-i.invariant.before here;
    }

pub stays_old-requires-clause-lies : goal.stays_old-requires-clause-lies
stays_old-requires-clause-lies c = grind (arith, common_steps)

pub overflow_add-i-end : goal.overflow_add-i-end
overflow_add-i-end c = grind (arith, common_steps)
