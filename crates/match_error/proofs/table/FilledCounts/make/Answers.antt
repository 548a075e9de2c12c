use Rattle.std.proofs.Common.{◌≡◌, ℕ, ◌+◌, ◌*◌, length, ap, ◌∙◌, ◌≤◌, subst, sym, arith}
use Rattle.std.proofs.Math.ListN.{length-replicate}
use Rattle.std.specs.Prelude.{replicate}
use Rattle.match_error.specs.Tables.{AreEntries}
use Rattle.match_error.proofs.Tables.{few_rows, has_rows, row_within, no_rows, before_small, row_more}
use Rattle.limits.specs.declared.bounds.TheConstants.{MOST_CELLS}
use Rattle.match_error.proofs.table.FilledCounts.make.Goals as goal

pub add_row-requires-clause-small : goal.add_row-requires-clause-small
add_row-requires-clause-small c = λ x lx.
    subst (λ n. n ≤ MOST_CELLS) (sym (c.loop-row.invariant.are x c.loop-row.row lx (omega arith)))
    (before_small c.args.canvas.now.map c.args.rect.now x c.loop-row.row c.map-map.ensures.canvas.map.small c.requires.inside lx (omega (arith, c.loop-row-test.true)))

pub loop-row-preserved : goal.loop-row-preserved
loop-row-preserved c = record {
  long = omega (arith, c.in_ok-add_row.ensures.long, c.loop-row.invariant.long);
  are = row_more c.args.canvas.now.map c.args.rect.now c.loop-row.row c.loop-row.entries.items c.add_row.new.entries.items c.loop-row.invariant.long c.loop-row.invariant.are c.in_ok-add_row.ensures;
}

pub add_row-requires-clause-row : goal.add_row-requires-clause-row
add_row-requires-clause-row c = row_within c.args.rect.now c.loop-row.row c.loop-row-test.true

pub loop-row-init : goal.loop-row-init
loop-row-init c =
    let rect = c.args.rect.now in
    let zeros : c.in_ok-entries.entries.items ≡ replicate (rect.size.w + 1) 0 = c.in_ok-entries.ensures.items_if_clones_equal (λ y e. e) in
    record {
      long = omega (arith, ap length zeros, length-replicate {A = ℕ} (rect.size.w + 1) 0);
      are = subst (AreEntries c.args.canvas.now.map rect 0) (sym zeros) (no_rows c.args.canvas.now.map rect);
    }

pub returns : goal.returns
returns c =
    let rect = c.args.rect.now in
    let whole : c.loop-row.row ≡ rect.size.h * rect.size.f = omega (arith, c.loop-row-test.false, c.loop-row.auto.row-end) in
    record {
      inside = c.requires.inside;
      long = c.loop-row.invariant.long ∙ ap (λ n. (rect.size.w + 1) * (n + 1)) whole;
      entries = subst (λ n. AreEntries c.args.canvas.now.map rect n c.loop-row.entries.items) whole c.loop-row.invariant.are;
    }

pub nonzero_div-row : goal.nonzero_div-row
nonzero_div-row c = has_rows c.args.rect.now.size.h c.args.rect.now.size.f c.loop-row.row c.loop-row-test.true

pub nonzero_rem-row : goal.nonzero_rem-row
nonzero_rem-row c = has_rows c.args.rect.now.size.h c.args.rect.now.size.f c.loop-row.row c.loop-row-test.true

pub overflow_mul-row-end : goal.overflow_mul-row-end
overflow_mul-row-end c = omega (arith, few_rows c.args.canvas.now.map c.args.rect.now c.map-map.ensures.canvas.map.small c.requires.inside)

pub add_row-requires-clause-above : goal.add_row-requires-clause-above
add_row-requires-clause-above c = omega arith

pub overflow_mul-across : goal.overflow_mul-across
overflow_mul-across c = omega arith

pub overflow_cast-row : goal.overflow_cast-row
overflow_cast-row c = omega arith
