use Rattle.std.proofs.lemmas.Grind.{common_steps}
use Rattle.std.proofs.Common.{◌≤◌, ◌<◌, ◌+◌, ◌*◌, ◌-◌, ◌/◌, ◌%◌, List, ℕ, length, get_or, take, drop, subst, sym, arith}
use Rattle.match_error.specs.declared.filled_rows.RowRun.{RowRun}
use Rattle.match_error.specs.Rows.{AreRunsOf, IsFilledAt}
use Rattle.match_error.proofs.RowRuns.{laid_runs, row_below}
use Rattle.match_error.proofs.Tables.{few_rows}
use Rattle.match_error.proofs.filled_rows.FilledRows.runs_of.Goals as goal

pub overflow_mul-row : goal.overflow_mul-row
overflow_mul-row c =
    let outer = c.args.self.now.rect in
    omega (arith, row_below outer c.args.rect.now c.args.inset c.args.y c.args.f c.requires.inset c.requires.row.0 c.requires.row.1, few_rows c.args.canvas.now.map outer c.map-map.ensures.canvas.map.small c.requires.rows.inside)

pub overflow_add-row-2 : goal.overflow_add-row-2
overflow_add-row-2 c =
    let outer = c.args.self.now.rect in
    omega (arith, row_below outer c.args.rect.now c.args.inset c.args.y c.args.f c.requires.inset c.requires.row.0 c.requires.row.1, few_rows c.args.canvas.now.map outer c.map-map.ensures.canvas.map.small c.requires.rows.inside)

pub overflow_add-row-3 : goal.overflow_add-row-3
overflow_add-row-3 c =
    let outer = c.args.self.now.rect in
    omega (arith, row_below outer c.args.rect.now c.args.inset c.args.y c.args.f c.requires.inset c.requires.row.0 c.requires.row.1, few_rows c.args.canvas.now.map outer c.map-map.ensures.canvas.map.small c.requires.rows.inside)

pub returns : goal.returns
returns c =
    let outer = c.args.self.now.rect in
    let row = (c.args.inset.y + outer.size.h * (c.args.inset.f + c.args.f)) + c.args.y in
    let below : row < outer.size.h * outer.size.f = omega (arith, row_below outer c.args.rect.now c.args.inset c.args.y c.args.f c.requires.inset c.requires.row.0 c.requires.row.1) in
    laid_runs c.args.canvas.now.map outer c.args.rect.now c.args.inset c.args.y c.args.f _ c.requires.inset c.requires.row.0
    (subst (λ (runs : List RowRun). AreRunsOf (IsFilledAt c.args.canvas.now.map outer (row % outer.size.h) (row / outer.size.h)) 0 outer.size.w runs)
    (sym (λ k. take (get_or (c.as_slice-starts.ensures.value k) (row + 1) 0 - get_or (c.as_slice-starts.ensures.value k) row 0) (drop (get_or (c.as_slice-starts.ensures.value k) row 0) (c.as_slice.ensures.value k))))
    (c.requires.rows.runs.each row below).are)

pub bounds-starts-row-2 : goal.bounds-starts-row-2
bounds-starts-row-2 c =
    omega (
      arith,
      row_below c.args.self.now.rect c.args.rect.now c.args.inset c.args.y c.args.f c.requires.inset c.requires.row.0 c.requires.row.1,
      c.as_slice-starts.ensures.len,
      c.requires.rows.runs.long,
    )

pub bounds-starts-row : goal.bounds-starts-row
bounds-starts-row c =
    omega (
      arith,
      row_below c.args.self.now.rect c.args.rect.now c.args.inset c.args.y c.args.f c.requires.inset c.requires.row.0 c.requires.row.1,
      c.as_slice-starts.ensures.len,
      c.requires.rows.runs.long,
    )

pub slice_bounds-result-count : goal.slice_bounds-result-count
slice_bounds-result-count c =
    let outer = c.args.self.now.rect in
    let row = (c.args.inset.y + outer.size.h * (c.args.inset.f + c.args.f)) + c.args.y in
    let below : row < outer.size.h * outer.size.f = omega (arith, row_below outer c.args.rect.now c.args.inset c.args.y c.args.f c.requires.inset c.requires.row.0 c.requires.row.1) in
    subst (λ (starts : List ℕ). get_or starts row 0 ≤ get_or starts (row + 1) 0) (sym c.as_slice-starts.ensures.value)
    (c.requires.rows.runs.each row below).order

pub slice_bounds-result-end : goal.slice_bounds-result-end
slice_bounds-result-end c =
    let outer = c.args.self.now.rect in
    let row = (c.args.inset.y + outer.size.h * (c.args.inset.f + c.args.f)) + c.args.y in
    let below : row < outer.size.h * outer.size.f = omega (arith, row_below outer c.args.rect.now c.args.inset c.args.y c.args.f c.requires.inset c.requires.row.0 c.requires.row.1) in
    let within : get_or c.as_slice-starts.result.now (row + 1) 0 ≤ length c.as_slice.result.now =
    subst (λ (starts : List ℕ). get_or starts (row + 1) 0 ≤ length c.as_slice.result.now) (sym c.as_slice-starts.ensures.value)
    (subst (λ (runs : List RowRun). get_or c.args.self.now.starts.items (row + 1) 0 ≤ length runs) (sym c.as_slice.ensures.value)
    (c.requires.rows.runs.each row below).within) in
    omega (arith, within)

pub slice_bounds-result-start : goal.slice_bounds-result-start
slice_bounds-result-start c = omega (arith, slice_bounds-result-count c, slice_bounds-result-end c)

pub offset_bounds-as_slice-start : goal.offset_bounds-as_slice-start
offset_bounds-as_slice-start c = omega (arith, slice_bounds-result-count c, slice_bounds-result-end c)

pub overflow_add-row : goal.overflow_add-row
overflow_add-row c = grind (arith, common_steps)

pub offset_bounds-starts-row-2 : goal.offset_bounds-starts-row-2
offset_bounds-starts-row-2 c = grind (arith, common_steps)

pub overflow_add-end : goal.overflow_add-end
overflow_add-end c = grind (arith, common_steps)
