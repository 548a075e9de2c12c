use Rattle.std.proofs.Common.{length, arith, ◌≡◌, ◌≤◌, ◌+◌, ◌*◌, List, ℕ, get_or, ap, subst, sym, ◌∙◌}
use Rattle.match_error.proofs.Tables.{few_entries, in_entries, before_small}
use Rattle.limits.specs.declared.bounds.TheConstants.{MOST_CELLS}
use Rattle.match_error.specs.Tables.{filled_before}
use Rattle.match_error.proofs.table.FilledCounts.before.Goals as goal

pub returns-clause-small : goal.returns-clause-small
returns-clause-small c =
    let m = c.args.canvas.now.map in
    let rect = c.args.self.now.rect in
    let i = (rect.size.w + 1) * c.args.row + c.args.x in
    let is : get_or c.as_slice-entries.result.now i 0 ≡ filled_before m rect c.args.x c.args.row =
    ap (λ (xs : List ℕ). get_or xs i 0) c.as_slice-entries.ensures.value ∙ c.requires.counts.entries c.args.x c.args.row c.requires.column c.requires.row in
    subst (λ n. n ≤ MOST_CELLS) (sym is) (before_small m rect c.args.x c.args.row c.map-map.ensures.canvas.map.small c.requires.counts.inside c.requires.column c.requires.row)

pub offset_bounds-entries-across : goal.offset_bounds-entries-across
offset_bounds-entries-across c = omega (arith, few_entries c.args.canvas.now.map c.args.self.now.rect c.args.x c.args.row c.map-map.ensures.canvas.map.small c.requires.counts.inside c.requires.column c.requires.row)

pub returns-clause-count : goal.returns-clause-count
returns-clause-count c =
    ap (λ (xs : List ℕ). get_or xs ((c.args.self.now.rect.size.w + 1) * c.args.row + c.args.x) 0) c.as_slice-entries.ensures.value
    ∙ c.requires.counts.entries c.args.x c.args.row c.requires.column c.requires.row

pub bounds-entries-across : goal.bounds-entries-across
bounds-entries-across c =
    let size = c.args.self.now.rect.size in
    omega (arith, ap length c.as_slice-entries.ensures.value, c.requires.counts.long, in_entries size.w (size.h * size.f) c.args.x c.args.row c.requires.column c.requires.row)

pub overflow_add-result : goal.overflow_add-result
overflow_add-result c = omega (arith, few_entries c.args.canvas.now.map c.args.self.now.rect c.args.x c.args.row c.map-map.ensures.canvas.map.small c.requires.counts.inside c.requires.column c.requires.row)

pub overflow_mul-result : goal.overflow_mul-result
overflow_mul-result c = omega (arith, few_entries c.args.canvas.now.map c.args.self.now.rect c.args.x c.args.row c.map-map.ensures.canvas.map.small c.requires.counts.inside c.requires.column c.requires.row)
