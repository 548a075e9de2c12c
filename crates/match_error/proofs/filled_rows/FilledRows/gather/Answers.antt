use Rattle.std.proofs.Common.{◌≡◌, ◌+◌, ◌*◌, ◌∷◌, ◌++◌, List, [], ℕ, length, ap, sym, subst, ◌∙◌, arith}
use Rattle.match_error.proofs.Tables.{few_rows, has_rows, row_within}
use Rattle.match_error.specs.declared.filled_rows.RowRun.{RowRun}
use Rattle.match_error.specs.Rows.{AreRunsTo}
use Rattle.match_error.proofs.RowRuns.{no_rows_yet, runs_to_more}
use Rattle.match_error.proofs.filled_rows.FilledRows.gather.Goals as goal

pub loop-row-init : goal.loop-row-init
loop-row-init c =
    let m = c.args.canvas.now.map in
    let rect = c.args.rect.now in
    subst (λ (starts : List ℕ). AreRunsTo m rect 0 starts c.new-runs.result.items) (sym (c.in_ok-push.ensures.items ∙ ap (λ (xs : List ℕ). xs ++ 0 ∷ []) c.new-starts.ensures.items))
    (subst (λ (runs : List RowRun). AreRunsTo m rect 0 (0 ∷ []) runs) (sym c.new-runs.ensures.items) (no_rows_yet m rect))

pub loop-row-preserved : goal.loop-row-preserved
loop-row-preserved c =
    let m = c.args.canvas.now.map in
    let rect = c.args.rect.now in
    let starts = c.loop-row.starts.items in
    let runs = c.add_row.new.runs.items in
    subst (λ (now : List ℕ). AreRunsTo m rect (c.loop-row.row + 1) now runs)
    (sym (c.in_ok-push-2.ensures.items ∙ ap (λ (xs : List RowRun). starts ++ length xs ∷ []) c.as_slice-end.ensures.value))
    (runs_to_more m rect c.loop-row.row starts c.loop-row.runs.items runs c.loop-row.invariant c.in_ok-add_row.ensures)

pub returns : goal.returns
returns c =
    let size = c.args.rect.now.size in
    let whole : c.loop-row.row ≡ size.h * size.f = omega (arith, c.loop-row-test.false, c.loop-row.auto.row-end) in
    record {
      inside = c.requires.inside;
      runs = subst (λ n. AreRunsTo c.args.canvas.now.map c.args.rect.now n c.loop-row.starts.items c.loop-row.runs.items) whole c.loop-row.invariant;
    }

pub add_row-requires-clause-row : goal.add_row-requires-clause-row
add_row-requires-clause-row c = row_within c.args.rect.now c.loop-row.row c.loop-row-test.true

pub nonzero_rem-row : goal.nonzero_rem-row
nonzero_rem-row c = has_rows c.args.rect.now.size.h c.args.rect.now.size.f c.loop-row.row c.loop-row-test.true

pub nonzero_div-row : goal.nonzero_div-row
nonzero_div-row c = has_rows c.args.rect.now.size.h c.args.rect.now.size.f c.loop-row.row c.loop-row-test.true

pub overflow_mul-row-end : goal.overflow_mul-row-end
overflow_mul-row-end c = omega (arith, few_rows c.args.canvas.now.map c.args.rect.now c.map-map.ensures.canvas.map.small c.requires.inside)
