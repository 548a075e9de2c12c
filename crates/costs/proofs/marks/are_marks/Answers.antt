use Rattle.std.proofs.lemmas.Grind.{common_steps}
use Rattle.std.proofs.Common.{◌≡◌, ◌∙◌, get_or, sym, subst, arith, below_more, true, false}
use mathlib.Core.Bool.{false≢true}
use Rattle.map_canvas.specs.Choices.{box_cell}
use Rattle.map_canvas.specs.Maps.{IsFilled}
use Rattle.costs.specs.Lawful.{AreMarks}
use Rattle.costs.proofs.MarkLaws.{cell_at, marked_filled, marks_if}
use Rattle.costs.proofs.marks.are_marks.Goals.{else-marks-i-via-then-marks-i+else-not-is_filled_at, else-marks-i-via-else-marks-i}
use Rattle.costs.proofs.marks.are_marks.Goals as goal

pub returns-then-not-is_filled_at : goal.returns-then-not-is_filled_at
returns-then-not-is_filled_at c = (
  λ false'. absurd (false≢true false'),
  λ marks.
      let m = c.args.canvas.now.map in
      let placement = c.args.placement.now in
      let i = c.loop-i.i in
      let at = c.loop-i.at in
      let all : AreMarks m placement c.in-Some.marks.now = rw c.in-Some.is at marks in
      let count = c.has_count.ensures.0 c.if-not-has_count.false in
      absurd (false≢true (sym c.if-not-is_filled_at.true ∙ c.is_filled_at.ensures.1
      (subst (IsFilled m) (cell_at placement i at.x at.y at.f c.loop-i.invariant.at) (marked_filled m placement c.in-Some.marks.now i c.requires (omega arith) all c.if-marks-i.true)))),
)

pub loop-i-preserved : goal.loop-i-preserved
loop-i-preserved c =
    let m = c.args.canvas.now.map in
    let placement = c.args.placement.now in
    let i = c.loop-i.i in
    let at = c.loop-i.at in
    record {
      at = c.next-at.ensures i c.loop-i.invariant.at;
      each = below_more (λ k. get_or c.in-Some.marks.now k false ≡ true → IsFilled m (box_cell placement k)) i c.loop-i.invariant.each
          (λ marked. elim c.else-marks-i.branch [
            | else-marks-i-via-then-marks-i+else-not-is_filled_at w ↦ subst (IsFilled m) (sym (cell_at placement i at.x at.y at.f c.loop-i.invariant.at)) (w.is_filled_at.ensures.0 w.if-not-is_filled_at.false)
            | else-marks-i-via-else-marks-i w ↦ absurd (false≢true (sym w.if-marks-i.false ∙ marked))
          ]);
    }

pub returns : goal.returns
returns c = (
  λ _. let count = c.has_count.ensures.0 c.if-not-has_count.false in
      rw c.in-Some.is (marks_if c.args.canvas.now.map c.args.placement.now c.in-Some.marks.now count (λ k lt. c.loop-i.invariant.each k (omega arith))),
  λ _. λ k. true,
)

pub next-at-requires : goal.next-at-requires
next-at-requires c = grind (arith, common_steps)

pub returns-in_default : goal.returns-in_default
returns-in_default c = grind (arith, common_steps)

pub returns-then-not-has_count : goal.returns-then-not-has_count
returns-then-not-has_count c = grind (arith, common_steps)
