use Rattle.std.proofs.lemmas.Grind.{common_steps}
use Rattle.std.proofs.Common.{◌≡◌, ◌+◌, ap, sym, subst, ◌∙◌, arith}
use Rattle.cells.specs.Places.{plus, spot}
use Rattle.map_canvas.specs.Maps.{IsFilled}
use Rattle.match_error.specs.Rows.{AreMoreRuns, IsFilledAt}
use Rattle.match_error.proofs.RowRuns.{no_more, none_more, run_more}
use Rattle.match_error.proofs.RunLists.{plus_spot}
use Rattle.match_error.proofs.filled_rows.add_row.Goals as goal

pub cells-init : goal.cells-init
cells-init c = record {
  most = omega arith;
  runs = no_more (IsFilledAt c.args.canvas.now.map c.args.rect.now c.args.y c.args.f) c.args.runs.now.items;
}

pub cells-preserved-then-n-gt0 : goal.cells-preserved-then-n-gt0
cells-preserved-then-n-gt0 c =
    let corner = c.args.rect.now.corner in
    let Is = IsFilledAt c.args.canvas.now.map c.args.rect.now c.args.y c.args.f in
    record {
      most = omega (arith, c.filled_from-n.ensures.most, c.cells-test.true);
      runs =
          subst (λ now. AreMoreRuns Is (c.cells.x + c.filled_from-n.result) c.args.runs.now.items now) (sym c.in_ok-push.ensures.items)
          (run_more Is c.cells.x c.filled_from-n.result c.args.runs.now.items c.cells.runs.items c.cells.invariant.runs (omega (arith, c.if-n-gt0.true))
          (λ j lj.
          subst (IsFilled c.args.canvas.now.map)
          (ap (λ p. plus p (spot j 0 0)) (c.plus.ensures ∙ ap (plus corner) c.step_to.ensures) ∙ plus_spot corner c.cells.x j c.args.y c.args.f)
          (c.filled_from-n.ensures.filled j lj)));
    }

pub cells-preserved : goal.cells-preserved
cells-preserved c =
    let corner = c.args.rect.now.corner in
    let none : c.filled_from-n.result ≡ 0 = omega (arith, c.if-n-gt0.false) in
    let here : plus c.plus.result (spot c.filled_from-n.result 0 0) ≡ plus corner (spot c.cells.x c.args.y c.args.f) =
    ap (λ p. plus p (spot c.filled_from-n.result 0 0)) (c.plus.ensures ∙ ap (plus corner) c.step_to.ensures)
    ∙ plus_spot corner c.cells.x c.filled_from-n.result c.args.y c.args.f
    ∙ ap (λ x. plus corner (spot x c.args.y c.args.f)) (let e : c.cells.x + c.filled_from-n.result ≡ c.cells.x = omega arith in e) in
    record {
      most = omega (arith, c.cells-test.true);
      runs =
          none_more (IsFilledAt c.args.canvas.now.map c.args.rect.now c.args.y c.args.f) c.cells.x c.args.runs.now.items c.cells.runs.items c.cells.invariant.runs
          (λ filled. c.filled_from-n.ensures.end (omega (arith, none, c.cells-test.true)) (subst (IsFilled c.args.canvas.now.map) (sym here) filled));
    }

pub returns : goal.returns
returns c =
    let whole : c.cells.x ≡ c.args.rect.now.size.w = omega (arith, c.cells-test.false, c.cells.invariant.most) in
    subst (λ n. AreMoreRuns (IsFilledAt c.args.canvas.now.map c.args.rect.now c.args.y c.args.f) n c.args.runs.now.items c.cells.runs.items) whole c.cells.invariant.runs

pub cells-smaller-then-n-gt0 : goal.cells-smaller-then-n-gt0
cells-smaller-then-n-gt0 c = omega arith

pub overflow_add-x-then-n-gt0 : goal.overflow_add-x-then-n-gt0
overflow_add-x-then-n-gt0 c = omega arith

pub overflow_add-x-else-n-gt0 : goal.overflow_add-x-else-n-gt0
overflow_add-x-else-n-gt0 c = omega arith

pub filled_from-n-requires-clause-fits : goal.filled_from-n-requires-clause-fits
filled_from-n-requires-clause-fits c = grind (arith, common_steps)

pub filled_from-n-requires-clause-few : goal.filled_from-n-requires-clause-few
filled_from-n-requires-clause-few c = grind (arith, common_steps)

pub plus-requires : goal.plus-requires
plus-requires c = grind (arith, common_steps)

pub step_to-requires : goal.step_to-requires
step_to-requires c = grind (arith, common_steps)

pub overflow_add-x : goal.overflow_add-x
overflow_add-x c = grind (arith, common_steps)
