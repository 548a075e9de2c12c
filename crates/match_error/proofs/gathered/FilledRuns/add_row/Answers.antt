use Rattle.std.proofs.lemmas.Grind.{common_steps}
use Rattle.std.proofs.Common.{◌≡◌, ◌+◌, ap, sym, subst, ◌∙◌, arith}
use Rattle.cells.specs.Places.{plus, spot}
use Rattle.map_canvas.specs.Maps.{IsFilled}
use Rattle.match_error.proofs.RunLists.{plus_spot, row_more, row_none}
use Rattle.match_error.proofs.gathered.FilledRuns.add_row.Goals as goal

pub add_run-requires-clause-filled : goal.add_run-requires-clause-filled
add_run-requires-clause-filled c = λ j lj.
    let corner = c.args.rect.now.corner in
    subst (IsFilled c.args.canvas.now.map)
    (ap (λ p. plus p (spot j 0 0)) (c.plus.ensures ∙ ap (plus corner) c.step_to.ensures) ∙ plus_spot corner c.cells.x j c.args.y c.args.f)
    (c.filled_from-n.ensures.filled j lj)

pub cells-preserved-then-n-gt0 : goal.cells-preserved-then-n-gt0
cells-preserved-then-n-gt0 c = record {
  most = omega (arith, c.filled_from-n.ensures.most, c.cells-test.true);
  runs = c.in_ok-add_run.ensures.runs;
  adds = row_more c.args.canvas.now c.args.rect.now c.args.self.now c.cells.self c.add_run.new.self c.cells.x c.args.y c.args.f c.filled_from-n.result c.cells.invariant.adds c.in_ok-add_run.ensures.adds;
}

pub cells-preserved : goal.cells-preserved
cells-preserved c =
    let corner = c.args.rect.now.corner in
    let none : c.filled_from-n.result ≡ 0 = omega (arith, c.if-n-gt0.false) in
    let here : plus c.plus.result (spot c.filled_from-n.result 0 0) ≡ plus corner (spot c.cells.x c.args.y c.args.f) =
    ap (λ p. plus p (spot c.filled_from-n.result 0 0)) (c.plus.ensures ∙ ap (plus corner) c.step_to.ensures)
    ∙ plus_spot corner c.cells.x c.filled_from-n.result c.args.y c.args.f
    ∙ ap (λ x. plus corner (spot x c.args.y c.args.f)) (let e : c.cells.x + c.filled_from-n.result ≡ c.cells.x = omega arith in e) in
    record {
      most = omega (arith, c.cells-test.true);
      runs = c.cells.invariant.runs;
      adds =
          row_none c.args.canvas.now c.args.rect.now c.args.self.now c.cells.self c.cells.x c.args.y c.args.f c.cells.invariant.adds
          (λ filled. c.filled_from-n.ensures.end (omega (arith, none, c.cells-test.true)) (subst (IsFilled c.args.canvas.now.map) (sym here) filled));
    }

pub returns-clause-adds : goal.returns-clause-adds
returns-clause-adds c = grind (arith, common_steps)

pub cells-smaller-then-n-gt0 : goal.cells-smaller-then-n-gt0
cells-smaller-then-n-gt0 c = omega arith

pub add_run-requires-clause-runs : goal.add_run-requires-clause-runs
add_run-requires-clause-runs c = c.cells.invariant.runs

pub overflow_add-x : goal.overflow_add-x
overflow_add-x c = omega arith

pub overflow_add-x-else-n-gt0 : goal.overflow_add-x-else-n-gt0
overflow_add-x-else-n-gt0 c = omega arith

pub filled_from-n-requires-clause-fits : goal.filled_from-n-requires-clause-fits
filled_from-n-requires-clause-fits c = grind (arith, common_steps)

pub plus-requires : goal.plus-requires
plus-requires c = grind (arith, common_steps)

pub filled_from-n-requires-clause-few : goal.filled_from-n-requires-clause-few
filled_from-n-requires-clause-few c = grind (arith, common_steps)

pub step_to-requires : goal.step_to-requires
step_to-requires c = grind (arith, common_steps)
