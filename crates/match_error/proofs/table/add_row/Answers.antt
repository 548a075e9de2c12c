use Rattle.std.proofs.lemmas.List.{get_or_read}
use Rattle.std.proofs.Common.{refl, ◌≡◌, ◌≤◌, ◌+◌, ℕ, get_or, subst, sym, ◌∙◌, arith}
use Rattle.std.proofs.lemmas.Int.{ints}
use Rattle.match_error.proofs.Entries.{first_put, ArePut, above_kept, one_put}
use Rattle.match_error.proofs.Tables.{few_columns}
use Rattle.limits.specs.declared.bounds.TheConstants.{GREATEST_AXIS, MOST_CELLS}
use Rattle.cells.specs.Boxes.{cell_in}
use Rattle.boxes.specs.Sums.{sum_to}
use Rattle.boxes.proofs.Additions.{counts}
use Rattle.boxes.proofs.Axes.{sum_more}
use Rattle.map_canvas.specs.Maps.{map_at}
use Rattle.match_error.specs.Errors.{one_filled}
use Rattle.match_error.proofs.Filled.{one_at_most}
use Rattle.match_error.proofs.table.add_row.Goals as goal

pub overflow_add-before-in-loop-x-2 : goal.overflow_add-before-in-loop-x-2
overflow_add-before-in-loop-x-2 c =
    let x = c.loop-x.x in
    let same = above_kept c.args.entries.now.items c.loop-x.entries.items c.as_slice.result.now c.args.above c.args.rect.now.size.w x _ c.loop-x.invariant.put c.as_slice.ensures.value c.requires.above c.loop-x-test.true in
    let one : c.one_filled-filled.result ≤ 1 = subst (λ n. n ≤ 1) (sym c.one_filled-filled.ensures) (one_at_most _) in
    let w : c.args.rect.now.size.w ≤ GREATEST_AXIS = omega (arith, ints, c.requires.inside.x.from, c.requires.inside.x.to, c.map-map.ensures.canvas.map.small.axes.w.1) in
    let entry : get_or c.args.entries.now.items (c.args.above + (x + 1)) 0 ≤ MOST_CELLS = c.requires.small (x + 1) (omega (arith, c.loop-x-test.true)) in
    omega (arith, same, one, w, entry, c.loop-x.invariant.few, c.loop-x-test.true)

pub loop-x-preserved : goal.loop-x-preserved
loop-x-preserved c =
    let x = c.loop-x.x in
    let was = c.args.entries.now.items in
    let cell = λ (i : ℕ). one_filled (map_at c.args.canvas.now.map (cell_in c.args.rect.now i c.args.y c.args.f)) in
    let g = λ (n : ℕ). sum_to n cell in
    let same = above_kept was c.loop-x.entries.items c.as_slice.result.now c.args.above c.args.rect.now.size.w x g c.loop-x.invariant.put c.as_slice.ensures.value c.requires.above c.loop-x-test.true in
    let one : c.one_filled-filled.result ≤ 1 = subst (λ n. n ≤ 1) (sym c.one_filled-filled.ensures) (one_at_most _) in
    let filled : c.loop-x.filled + c.one_filled-filled.result ≡ g (x + 1) = (λ t. c.loop-x.invariant.filled t + c.one_filled-filled.ensures t) ∙ sym (sum_more counts x cell) in
    record {
      put =
          subst (λ xs. ArePut was xs c.args.above ((x + 1) + 1) g) (sym c.in_ok-push-2.ensures.items)
          (one_put was c.loop-x.entries.items c.args.above (x + 1) _ g c.loop-x.invariant.put (λ t. same t + filled t));
      filled = filled;
      few = omega (arith, one, c.loop-x.invariant.few);
    }

pub returns : goal.returns
returns c =
    let whole : c.loop-x.x ≡ c.args.rect.now.size.w = omega (arith, c.loop-x-test.false, c.loop-x.auto.x-end) in
    record {
      long = omega (arith, c.loop-x.invariant.put.long, whole);
      kept = c.loop-x.invariant.put.kept;
      more = λ x lx. c.loop-x.invariant.put.more x (omega (arith, whole));
    }

pub overflow_add-filled : goal.overflow_add-filled
overflow_add-filled c =
    let one : c.one_filled-filled.result ≤ 1 = subst (λ n. n ≤ 1) (sym c.one_filled-filled.ensures) (one_at_most _) in
    omega (arith, one, few_columns c.args.canvas.now.map c.args.rect.now c.map-map.ensures.canvas.map.small c.requires.inside, c.loop-x.invariant.few, c.loop-x-test.true)

pub loop-x-init : goal.loop-x-init
loop-x-init c =
    let was = c.args.entries.now.items in
    let cell = λ (i : ℕ). one_filled (map_at c.args.canvas.now.map (cell_in c.args.rect.now i c.args.y c.args.f)) in
    let g = λ (n : ℕ). sum_to n cell in
    record {
      put = subst (λ xs. ArePut was xs c.args.above 1 g) (sym c.in_ok-push.ensures.items) (first_put was c.args.above c.index.result.now g (get_or_read was c.args.above _ (omega (arith, c.requires.above)) c.index.ensures 0) refl);
      filled = refl;
      few = omega arith;
    }

pub bounds-as_slice-above : goal.bounds-as_slice-above
bounds-as_slice-above c = omega arith

pub one_filled-filled-requires-clause-inside : goal.one_filled-filled-requires-clause-inside
one_filled-filled-requires-clause-inside c = c.requires.inside

pub offset_bounds-as_slice-above : goal.offset_bounds-as_slice-above
offset_bounds-as_slice-above c = omega arith

pub overflow_cast-before : goal.overflow_cast-before
overflow_cast-before c = omega arith

pub overflow_add-before-in-loop-x : goal.overflow_add-before-in-loop-x
overflow_add-before-in-loop-x c = omega arith

pub overflow_add-before : goal.overflow_add-before
overflow_add-before c = omega arith

pub one_filled-filled-requires-clause-row : goal.one_filled-filled-requires-clause-row
one_filled-filled-requires-clause-row c = omega arith
